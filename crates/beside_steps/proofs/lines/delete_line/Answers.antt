use Rattle.std.proofs.Common.{[], refl}
use Rattle.keeper_core.specs.Keeping.{IsKnownStray}
use Rattle.restore_turns.specs.Entry.{IsStateBeside}
use Rattle.script_laws.proofs.WholeLines.{delete_line}
use Rattle.beside_steps.proofs.Held.{holds_still}
use Rattle.beside_steps.proofs.Answered.{told_of, rise_later, deletes_beside}
use Rattle.beside_steps.proofs.lines.delete_line.Goals as goal

pub returns-in-Ok-clause-steps : goal.returns-in-Ok-clause-steps
returns-in-Ok-clause-steps g c =
    let p = g.P.Places.told c.args.places.now in
    delete_line told_of IsStateBeside IsKnownStray c.args.limits.now c.args.keeper.now c.delete_plain.new.keeper p p p c.args.set c.args.through _ c.in-Ok.answer refl
    (deletes_beside c.args.keeper.now c.delete_plain.new.keeper c.args.set c.args.through _ c.in-Ok.ensures.line)

pub returns-in-Err-clause-steps : goal.returns-in-Err-clause-steps
returns-in-Err-clause-steps g c =
    let p = g.P.Places.told c.args.places.now in
    delete_line told_of IsStateBeside IsKnownStray c.args.limits.now c.args.keeper.now c.delete_plain.new.keeper p p p c.args.set c.args.through _ _ refl
    (deletes_beside c.args.keeper.now c.delete_plain.new.keeper c.args.set c.args.through _ c.in-Err.ensures.line)

pub returns-in-Ok-clause-holds : goal.returns-in-Ok-clause-holds
returns-in-Ok-clause-holds g c es h =
    let files = (g.P.Places.told c.args.places.now).files in
    let e = c.in-Ok.ensures in
    holds_still c.args.keeper.now c.delete_plain.new.keeper files files (rise_later _ _ _ (e.line []).causes.store) (λ some. some) e.follows es h e.same.0 e.same.1

pub returns-in-Err-clause-holds : goal.returns-in-Err-clause-holds
returns-in-Err-clause-holds g c es h =
    let files = (g.P.Places.told c.args.places.now).files in
    let e = c.in-Err.ensures in
    holds_still c.args.keeper.now c.delete_plain.new.keeper files files (rise_later _ _ _ (e.line []).causes.store) (λ some. some) e.follows es h e.same.0 e.same.1
