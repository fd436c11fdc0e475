use mathlib.Core.Path.{refl, sym, ◌∙◌}
use mathlib.Core.Bool.{false≢true}
use Rattle.guarded.proofs.feed.Goals as goal

pub feed_within-requires : goal.feed_within-requires
feed_within-requires c = c.may_feed.ensures.1 c.if-not-may_feed.false

pub returns-then-not-may_feed : goal.returns-then-not-may_feed
returns-then-not-may_feed c =
    let t = sym c.may_feed.ensures.0 ∙ c.if-not-may_feed.true in
    record { fed = λ e. absurd (false≢true (sym t ∙ e)); refused = λ e. (refl, refl, refl, refl, refl) }

pub returns : goal.returns
returns c =
    let t = sym c.may_feed.ensures.0 ∙ c.if-not-may_feed.false in
    record { fed = λ e. c.feed_within.ensures; refused = λ e. absurd (false≢true (sym e ∙ t)) }
