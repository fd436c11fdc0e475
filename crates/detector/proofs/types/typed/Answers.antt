use mir.Val.{Fits, bits}
use mir.Syntax.{Width, w8, w32, w64}
use Rattle.detector.proofs.Validity.{unmapped}
use Rattle.detector.specs.Typed.{Table}
use borrow.Author.Rules.{rules}
use mathlib.Core.Path.{◌≡◌}
use mathlib.Core.List.{List}
use Prim.Native.Nat.{ℕ, ◌≤◌, ◌^◌}
use native.Mathlib.Omega.{arith}
use lib.Dec.{lit≤}
use lib.ListN.{length, get_or}
use Rattle.detector.proofs.types.typed.Goals as goal

-- What is known of an array of numbers of one width makes it a `Table`.
table : (l : List ℕ) (n max : ℕ) (w : Width) → 2 ^ bits w ≤ max → length l ≡ n → ((i : ℕ) → Fits w (get_or l i 0)) → Table l n max
table l n max w h e f = record { long = e; small = λ i. omega (arith, (f i).fits, h) }

pub returns : goal.returns
returns c =
    let d = c.args.d in
    let woken : Fits w32 d.cv_woken = search rules in
    record {
      edges = table _ _ _ w32 (lit≤ tt) (search rules) (λ i. search rules);
      incoming = table _ _ _ w32 (lit≤ tt) (search rules) (λ i. search rules);
      slots = search (rules, unmapped);
      intents = c.intents.ensures;
      waiters = table _ _ _ w32 (lit≤ tt) (search rules) (λ i. search rules);
      holds = table _ _ _ w64 (lit≤ tt) (search rules) (λ i. search rules);
      owners = table _ _ _ w8 (lit≤ tt) (search rules) (λ i. search rules);
      writers = table _ _ _ w8 (lit≤ tt) (search rules) (λ i. search rules);
      woken = woken.fits;
      readers = table _ _ _ w8 (lit≤ tt) (search rules) (λ i. search rules);
      queues = search (rules, unmapped);
      places = c.queues.ensures;
      cv_places = search (rules, unmapped);
      cv_waits = c.cv_waits.ensures;
    }
