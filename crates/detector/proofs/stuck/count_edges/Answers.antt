use lib.Count.{ones}
use mathlib.Core.Path.{◌∙◌}
use native.Mathlib.Omega.{arith}
use borrow.Author.Rules.{rules}
use borrow.Author.Tests.{tests}
use Rattle.std.proofs.lemmas.Iterator.{YieldsList-from_slice, YieldsList-from_map}
use Rattle.std.proofs.lemmas.Iterator.Adapters.{fits_from_length, at_most_from_yields_List}
use Rattle.std.proofs.lemmas.Iterator.Consumers.{sum_by_from_yields_List, YieldsList-at}
use Rattle.detector.proofs.StuckLaws.{edges_sum}
use Rattle.detector.proofs.stuck.count_edges.Goals as goal

pub sum-requires-clause-fits : goal.sum-requires-clause-fits
sum-requires-clause-fits c =
    fits_from_length _ _ 32 _ (at_most_from_yields_List (YieldsList-at c.map.ensures.source (YieldsList-from_slice c.args.rows.now (cc))) (omega arith)) c.map.ensures.closure (omega arith) (λ x r q k. search (rules, tests))

pub returns : goal.returns
returns c =
    let rows = c.args.rows.now in
    sum_by_from_yields_List ones rows c.map.result _ c.sum.ensures.ran (YieldsList-from_map _ ones (YieldsList-at c.map.ensures.source (YieldsList-from_slice rows (cc))) c.map.ensures.closure (λ x r q k. search (rules, tests)))
    ∙ edges_sum rows c.told-rows
