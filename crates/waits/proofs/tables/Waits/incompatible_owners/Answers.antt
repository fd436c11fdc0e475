use mathlib.Core.Bool.{true, false}
use mathlib.Core.Path.{◌≡◌, sym, ap, ◌∙◌}
use Rattle.std.specs.Prelude.{option_to_list}
use Rattle.sets.specs.Sets.{upward}
use Rattle.sets.proofs.Walk.{upward_zero}
use Rattle.waits.specs.Counts.{readers}
use Rattle.waits.proofs.Masks.{in_mask, named_one, named_some, named_below, last_in, last_out}
use Rattle.waits.proofs.tables.Waits.incompatible_owners.Goals as goal

pub returns-in-Mutex : goal.returns-in-Mutex
returns-in-Mutex c = rw (upward_zero 32 0, c.in-Mutex.is, c.owner.ensures, c.from-l.ensures) (named_one _, named_below _)

pub returns-in-RwRead : goal.returns-in-RwRead
returns-in-RwRead c = rw (upward_zero 32 0, c.in-RwRead.is, c.owner-in-RwRead.ensures, c.from-l.ensures) (named_one _, named_below _)

pub returns-in-Some : goal.returns-in-Some
returns-in-Some c =
    let e : upward 32 c.reader_mask-readers.result ≡ readers c.args.counts.now c.args.i.lock_id = rw (← c.from-l.ensures) c.reader_mask-readers.ensures in
    let n = named_some _ _ (rw c.from-l.ensures at (sym c.owner-in-RwWrite.ensures ∙ c.in-Some.is)) in
    let m = in_mask _ _ _ true n.1 e (sym c.has.ensures ∙ c.if-has.true) in
    (rw (e, c.in-RwWrite.is) (last_in _ _ (rw n.0 m)), tt)

pub returns-in_default : goal.returns-in_default
returns-in_default c =
    let e : upward 32 c.reader_mask-readers.result ≡ readers c.args.counts.now c.args.i.lock_id = rw (← c.from-l.ensures) c.reader_mask-readers.ensures in
    let r = sym c.owner-in-RwWrite.ensures ∙ c.in-Some.is in
    let n = named_some _ _ (rw c.from-l.ensures at r) in
    let m = in_mask _ _ _ false n.1 e (sym c.has.ensures ∙ c.if-has.false) in
    (rw (e, c.in-RwWrite.is, ap option_to_list (sym (rw c.from-l.ensures at r))) (last_out _ _ (rw n.0 m)), n.1)
