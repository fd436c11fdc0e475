use Prim.Native.Nat.{ℕ, ◌<◌}
use mathlib.Core.Path.{refl, sym, subst, ◌∙◌}
use borrow.Author.Rules.{rules}
use borrow.Author.Tests.{tests}
use Rattle.std.specs.Prelude.{is_some}
use Rattle.std.proofs.lemmas.Iterator.Adapters.{serves_from_places}
use Rattle.std.proofs.lemmas.Iterator.Consumers.{YieldsList-from_first}
use Rattle.std.proofs.lemmas.Iterator.Search.{any_from_yields_List}
use Rattle.sets.specs.Sets.{upward}
use Rattle.sets.specs.declared.upward.Upward.{Upward}
use Rattle.sets.proofs.Walk.{upward_at_lt}
use Rattle.graph.specs.Search.{row, find_path}
use Rattle.detector.proofs.StuckLaws.{back_list}
use Rattle.detector.proofs.stuck.is_stuck.Goals as goal

pub any-requires-clause-callable : goal.any-requires-clause-callable
any-requires-clause-callable c =
    let m = row c.args.rows.now c.args.t in
    serves_from_places (YieldsList-from_first (λ x. x) (λ (w : Upward ℕ). upward 32 w.left) (upward 32 m) (rw c.upward.ensures refl)) (λ x q k. search (rules, tests)) (λ x k h e. let z : x < 32 = subst (λ (y : ℕ). y < 32) (sym e) (upward_at_lt 32 m k x h) in search (rules, z))

pub returns : goal.returns
returns c =
    let rows = c.args.rows.now in
    let t = c.args.t in
    let test = λ (u : ℕ). is_some (find_path rows u t) in
    any_from_yields_List test _ _ c.any.result c.any.ensures.ran
    (YieldsList-from_first (λ x. x) (λ (w : Upward ℕ). upward 32 w.left) (upward 32 (row rows t)) (rw c.upward.ensures refl)) (λ x b q k. search (rules, tests))
    ∙ back_list rows t (upward 32 (row rows t))
