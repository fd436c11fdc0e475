use mathlib.Core.Path.{refl, ◌∙◌}
use borrow.Author.Rules.{rules}
use borrow.Author.Tests.{tests}
use Rattle.std.proofs.lemmas.Iterator.{YieldsList-from_range}
use Rattle.std.proofs.lemmas.Iterator.Search.{all_from_yields_List}
use Prim.Native.Nat.{ℕ}
use Rattle.sets.specs.Below.{every}
use Rattle.sets.proofs.Below.{every_range}
use Rattle.graph.specs.Graph.{mirror_at, mirror_test}
use Rattle.graph.specs.Search.{row}
use Rattle.graph.proofs.mirror.mirrors.Goals as goal

pub returns : goal.returns
unfolding mirror_test
returns c =
    let test = λ (a : ℕ). every (mirror_at (row c.args.edges.now a) c.args.incoming.now a) 32 in
    all_from_yields_List test _ _ c.all.result c.all.ensures.ran (YieldsList-from_range 0 32 32 refl refl) (λ x b q k. search (rules, tests))
    ∙ every_range test 32
