use mathlib.Core.Bool.{false}
use mathlib.Core.List.{List, []}
use mathlib.Core.Path.{◌≡◌, sym, ap, ◌∙◌}
use Prim.Native.Nat.{ℕ}
use Rattle.std.specs.Prelude.{Option}
use Rattle.std.specs.Option.{unwrap_or}
use Rattle.waits.specs.Waiting.{refresh_locks}
use Rattle.waits.specs.Validate.{valid, awaited_locks}
use Rattle.waits.specs.Code.{linked}
use Rattle.waits.proofs.Judging.{first_reports, second_reports, second_quiet}
use Rattle.waits.proofs.Masks.{awaited_locks_lem, valid_none}
use Rattle.waits.proofs.tables.Waits.validated_deadlock_info.Goals as goal
use Rattle.waits.proofs.tables.Waits.validated_deadlock_info.Goals.{After-refresh_all}

-- After the refreshes the cycle is known to be not valid, and the locks that were refreshed are those that the rule names.
second_look : (c : After-refresh_all)
    → (valid c.args.counts.now c.args.self.now c.args.cycle ≡ false)
    × (linked c.refresh_all.new.self c.refresh_all.result ≡ refresh_locks c.args.counts.now c.args.self.now (awaited_locks c.args.self.now c.args.cycle))
second_look c = (
  sym c.validate_wait_cycle.ensures ∙ c.if-validate_wait_cycle.false,
  c.refresh_all.ensures.0 ∙ rw (c.awaited-locks.ensures, awaited_locks_lem),
)

pub returns-then-validate_wait_cycle : goal.returns-then-validate_wait_cycle
returns-then-validate_wait_cycle c =
    (first_reports _ _ _ (sym c.validate_wait_cycle.ensures ∙ c.if-validate_wait_cycle.true), c.requires)

pub returns-in_err-refreshed : goal.returns-in_err-refreshed
returns-in_err-refreshed c =
    let s = second_look (goal.at.returns-in_err-refreshed c).After-refresh_all in
    let n = ap (λ (o : Option (List ℕ)). valid c.args.counts.now c.refresh_all.new.self (unwrap_or o [])) c.in_err-refreshed.was ∙ sym (valid_none _ _) in
    (rw c.from_residual.ensures (second_quiet _ _ _ s.0 _ _ s.1 n), c.refresh_all.ensures.1)

pub returns-then-validate_wait_cycle-2 : goal.returns-then-validate_wait_cycle-2
returns-then-validate_wait_cycle-2 c =
    let s = second_look (goal.at.returns-then-validate_wait_cycle-2 c).After-refresh_all in
    (second_reports _ _ _ s.0 _ _ s.1 _ c.in_ok-refreshed.was (sym c.validate_wait_cycle-2.ensures ∙ c.if-validate_wait_cycle-2.true), c.refresh_all.ensures.1)

pub returns : goal.returns
returns c =
    let s = second_look (goal.at.returns c).After-refresh_all in
    let f = sym c.validate_wait_cycle-2.ensures ∙ c.if-validate_wait_cycle-2.false in
    let n = ap (λ (o : Option (List ℕ)). valid c.args.counts.now c.refresh_all.new.self (unwrap_or o [])) c.in_ok-refreshed.was ∙ f in
    (second_quiet _ _ _ s.0 _ _ s.1 n, c.refresh_all.ensures.1)
