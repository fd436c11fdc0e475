use mathlib.Core.Bool.{not}
use Prim.Native.Nat.{ℕ, ◌<◌}
use mathlib.Core.Path.{refl, sym, subst, ◌∙◌}
use borrow.Author.Rules.{rules}
use borrow.Author.Tests.{tests}
use Rattle.std.proofs.lemmas.Iterator.Adapters.{serves_from_places}
use Rattle.std.proofs.lemmas.Iterator.Consumers.{YieldsList-from_first}
use Rattle.std.proofs.lemmas.Iterator.Search.{all_from_yields_List}
use Rattle.sets.specs.Sets.{upward}
use Rattle.sets.specs.declared.upward.Upward.{Upward}
use Rattle.sets.proofs.Walk.{upward_at_lt}
use Rattle.waits.specs.Filter.{nobody_reads}
use Rattle.waits.proofs.Masks.{read_list}
use Rattle.waits.proofs.deadlock_handling.all_read.Goals as goal

pub all-requires-clause-callable : goal.all-requires-clause-callable
all-requires-clause-callable c =
    serves_from_places (YieldsList-from_first (λ x. x) (λ (w : Upward ℕ). upward 64 w.left) (upward 64 c.args.common) (rw c.upward.ensures refl))
    (λ x q k. search (rules, tests)) (λ x k h e. let z : x < 64 = subst (λ (y : ℕ). y < 64) (sym e) (upward_at_lt 64 c.args.common k x h) in search (rules, z))

pub returns : goal.returns
returns c =
    let test = λ (l : ℕ). not (nobody_reads c.args.counts.now l) in
    all_from_yields_List test _ _ c.all.result c.all.ensures.ran
    (YieldsList-from_first (λ x. x) (λ (w : Upward ℕ). upward 64 w.left) (upward 64 c.args.common) (rw c.upward.ensures refl)) (λ x b q k. search (rules, tests))
    ∙ read_list c.args.counts.now (upward 64 c.args.common)
