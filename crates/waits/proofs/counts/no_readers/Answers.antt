use mathlib.Core.Path.{◌≡◌, sym, ap, ◌∙◌}
use mathlib.Core.List.{List}
use Prim.Native.Nat.{ℕ, zero, suc, ◌+◌, ◌*◌, ◌≤◌}
use native.Mathlib.Omega.{arith}
use borrow.Author.Rules.{rules}
use lib.ListN.{replicate, length, set}
use lib.Seq.{paste}
use Rattle.std.proofs.lemmas.List.Edits.{paste_none, fill_from_more}
use Rattle.std.proofs.lemmas.Slice.{put_mid-paste}
use Rattle.sets.specs.Below.{each}
use Rattle.waits.specs.Counts.{no_readers}
use Rattle.waits.proofs.counts.no_readers.Goals as goal

-- Writing zeros at once is writing them one by one.
zeros : (d : List ℕ) (at n : ℕ) → at + n ≤ length d → paste d at (replicate n 0) n ≡ each (λ b t. set b (at + t) 0) d n
unfolding each
zeros d at zero h = sym (paste_none d at (replicate 0 0))
zeros d at (suc n) h =
    let e : suc n ≡ n + 1 = omega arith in
    ap (λ (m : ℕ). paste d at (replicate m 0) m) e ∙ sym (fill_from_more d at n 0 (omega arith)) ∙ ap (λ (b : List ℕ). set b (at + n) 0) (zeros d at n (omega arith))

pub returns : goal.returns
unfolding no_readers
returns c =
    let d = c.args.counts.now in
    let l = c.args.l in
    let e : c.fill.new.self ≡ replicate 32 0 = search rules in
    let first : c.place-first.result ≡ l * 32 = omega (arith, c.place-first.ensures.0) in
    put_mid-paste _ _ d _ (replicate 32 0) 32 e (omega arith) (omega arith) ∙ ap (λ (a : ℕ). paste d a (replicate 32 0) 32) first ∙ zeros d (l * 32) 32 (omega arith)
