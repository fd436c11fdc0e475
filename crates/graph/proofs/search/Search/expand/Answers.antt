use mathlib.Core.List.{foldl}
use mathlib.Core.Path.{sym, ap, ◌∙◌}
use native.Mathlib.Omega.{arith}
use Rattle.sets.proofs.Walk.{first_lt}
use Rattle.graph.specs.Search.{visit, expand}
use Rattle.graph.proofs.Trails.{visit_longer}
use Rattle.graph.proofs.search.Search.expand.Goals as goal

pub loop-n-init : goal.loop-n-init
unfolding expand
loop-n-init c = (c.requires, rw (c.into_iter-n-iterator.ensures.into_iter_gives, c.upward-n-items.ensures))

pub visit-requires : goal.visit-requires
visit-requires c = (first_lt _ _ _ _ c.in-Some.ensures.steps, c.loop-n.invariant.0)

pub loop-n-preserved : goal.loop-n-preserved
loop-n-preserved c =
    let l = c.loop-n in (
      rw c.visit.ensures (omega (arith, visit_longer c.args.p l.self c.in-Some.n)),
      rw c.visit.ensures (sym (ap (foldl (visit c.args.p) l.self) c.in-Some.ensures.steps) ∙ l.invariant.1),
    )

pub returns : goal.returns
returns c = rw c.in-None.ensures.steps.0 at c.loop-n.invariant.1
