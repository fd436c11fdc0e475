use lib.ListN.{length}
use mathlib.Core.Path.{refl, ap, ◌∙◌}
use borrow.Author.Rules.{rules}
use borrow.Author.Tests.{tests}
use Rattle.std.proofs.lemmas.Iterator.{YieldsList-from_range}
use Rattle.std.proofs.lemmas.Iterator.Consumers.{count_from_yields_List, YieldsList-from_filter}
use Rattle.sets.proofs.Below.{those_range}
use Rattle.detector.specs.Stuck.{stuck_in}
use Rattle.detector.proofs.stuck.count_stuck.Goals as goal

pub returns : goal.returns
returns c =
    let test = stuck_in c.args.rows.now in
    count_from_yields_List c.filter.result _ c.count.ensures.ran (YieldsList-from_filter _ test (YieldsList-from_range 0 32 32 c.filter.ensures.source refl) c.filter.ensures.closure (λ x b q k. search (rules, tests)))
    ∙ ap length (those_range test 32)
