use mathlib.Core.Bool.{Bool, true, false, beq}
use mathlib.Core.Path.{◌≡◌, refl, ◌∙◌}
use borrow.Author.Rules.{rules}
use borrow.Author.Tests.{tests}
use Rattle.std.proofs.lemmas.Iterator.{YieldsList-from_range}
use Rattle.std.proofs.lemmas.Iterator.Search.{all_from_yields_List}
use Rattle.sets.proofs.Below.{every_range}
use Rattle.sets.specs.Sets.{has}
use Rattle.graph.specs.Graph.{agree, mirror_at}
use Rattle.graph.specs.Search.{row}
use Rattle.graph.proofs.mirror.row_mirrors.Goals as goal

-- The test with `==` says whether the two agree.
same : (x y : Bool) → beq x y ≡ agree x y
same true true = refl
same true false = refl
same false true = refl
same false false = refl

pub returns : goal.returns
returns c =
    let test = mirror_at c.args.row c.args.incoming.now c.args.a in
    all_from_yields_List test _ _ c.all.result c.all.ensures.ran (YieldsList-from_range 0 32 32 refl refl) (λ x b q k. let h : (q ≡ _) × (b ≡ beq (has c.args.row x) (has (row c.args.incoming.now x) c.args.a)) = search (rules, tests) in (h.0, h.1 ∙ same _ _))
    ∙ every_range test 32
