use lib.Dec.{lit<, lit≤}
use mathlib.Core.List.{[]}
use mathlib.Core.Path.{refl, sym}
use native.Mathlib.Omega.{arith}
use Rattle.sets.proofs.Digits.{with_lt, ones_single}
use Rattle.graph.proofs.Trails.{small_nil, small_cons}
use Rattle.graph.proofs.search.Search.begin.Goals as goal

pub invariant_of-result : goal.invariant_of-result
invariant_of-result c = (
  lit≤ tt,
  refl,
  rw c.with.ensures
      (record {
        counted = sym (ones_single c.args.start);
        paired = refl;
        below = with_lt 32 0 c.args.start (lit< tt) c.requires;
        small = small_cons c.args.start [] c.requires small_nil;
        earlier = λ k z h. absurd (omega arith);
      }),
)

pub returns : goal.returns
returns c = rw c.with.ensures
