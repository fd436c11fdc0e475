use mathlib.Core.Bool.{Bool, false, ◌&&◌}
use lib.Dec.{leb}
use mathlib.Core.List.{List, [], ◌∷◌}
use mathlib.Core.Path.{◌≡◌, refl, ap, ap₂, ◌∙◌}
use Prim.Native.Nat.{ℕ, suc, ◌+◌, ◌<◌}
use native.Mathlib.Omega.{arith}
use lib.ListN.{length, get_or}
use borrow.Author.Rules.{rules}
use borrow.Author.Tests.{tests, lt-ltb, le-ltb}
use Rattle.std.specs.List.{list_all, enumerate_from, range_with_len}
use Rattle.std.proofs.lemmas.Iterator.{YieldsList-from_slice}
use Rattle.std.proofs.lemmas.Iterator.Consumers.{YieldsList-from_enumerate, YieldsList-at}
use Rattle.std.proofs.lemmas.Iterator.Search.{all_from_yields_List}
use Rattle.sets.proofs.Below.{every_range}
use Rattle.detector.specs.State.{place_test, queue_test}
use Rattle.detector.specs.Tables.{no_pair}
use Rattle.detector.specs.declared.state.Pair.{Pair}
use Rattle.detector.proofs.Validity.{unmapped}
use Rattle.detector.proofs.valid.queue_valid.Goals as goal
use Rattle.detector.proofs.valid.queue_valid.Goals.{Start}

-- Testing each pair with its place is testing each place with the pair that stands there.
placed : (f : ℕ → Pair → Bool) (ps : List Pair) (a : ℕ) (g : ℕ → Bool) → ((k : ℕ) → f (a + k) (get_or ps k no_pair) ≡ g (a + k))
    → list_all (λ (e : ℕ × Pair). f e.0 e.1) (enumerate_from a ps) ≡ list_all g (range_with_len a (length ps))
placed f [] a g h = refl
placed f (p ∷ ps) a g h =
    let z : a + 0 ≡ a = omega arith in
    ap₂ (λ (x y : Bool). x && y) (rw z at (h 0)) (placed f ps (a + 1) g (λ k. let e : a + suc k ≡ a + 1 + k = omega arith in rw e at (h (suc k))))

-- A queue has 32 places.
places : (c : Start) → length c.args.q.pairs ≡ 32
places c = search (rules, unmapped)

pub returns-then-n-le-PLACES : goal.returns-then-n-le-PLACES
unfolding queue_test
returns-then-n-le-PLACES c =
    let q = c.args.q in
    let n = places (goal.at.returns-then-n-le-PLACES c).Start in
    let h : q.len < 33 = omega arith in
    let test = λ (k : ℕ). place_test q.len k (get_or q.pairs k no_pair) in
    let all = all_from_yields_List (λ (e : ℕ × Pair). place_test q.len e.0 e.1) _ _ c.all.result c.all.ensures.ran (YieldsList-from_enumerate (YieldsList-at c.enumerate.ensures.source (YieldsList-from_slice q.pairs (cc))) c.enumerate.ensures.count) (λ x b s k. let r : (s ≡ _) × (b ≡ place_test c.from-n.result x.0 x.1.now) = search (rules, tests) in (r.0, rw c.from-n.ensures at r.1)) in
    (rw (lt-ltb _ _ h) (all ∙ placed (place_test q.len) q.pairs 0 test (λ k. let z : 0 + k ≡ k = omega arith in rw z) ∙ ap (λ (m : ℕ). list_all test (range_with_len 0 m)) n ∙ every_range test 32), n)

pub returns-else-n-le-PLACES : goal.returns-else-n-le-PLACES
unfolding queue_test
returns-else-n-le-PLACES c =
    let n = places (goal.at.returns-else-n-le-PLACES c).Start in
    let f : leb c.from-n.result 32 ≡ false = search (rules, tests) in
    (rw (le-ltb c.args.q.len 33 (omega arith)) f, n)
