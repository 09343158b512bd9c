use Rattle.std.proofs.Common.{sym, subst}
use Rattle.vault_types.specs.declared.Line.{Line}
use Rattle.store_model.specs.Room.{NeedsRoom}
use Rattle.store_model.specs.Steps.{StepsLine}
use Rattle.keeper_catalog.specs.View.{View}
use Rattle.keeper_core.specs.Keeping.{IsStateOf, IsKnownStray}
use Rattle.piped_script.proofs.run.one_line.Goals as goal

pub returns-in-Restore-clause-room : goal.returns-in-Restore-clause-room
returns-in-Restore-clause-room g c S other keep told =
    subst (λ (l : Line). NeedsRoom g.P.Places.room S l c.restore_line-answer.result) (sym c.in-Restore.is) (c.restore_line-answer.ensures.room S other keep told)

pub returns-in-Restore-clause-steps : goal.returns-in-Restore-clause-steps
returns-in-Restore-clause-steps g c =
    let p = g.P.Places.told c.args.places.now in
    let q = g.P.Places.told c.restore_line-answer.new.places in
    subst (λ (l : Line). StepsLine (λ (k : View). k.told) IsStateOf IsKnownStray c.args.limits.now (record { keeper = c.args.store; places = p }) l c.restore_line-answer.result (record { keeper = c.restore_line-answer.new.store; places = q })) (sym c.in-Restore.is)
    c.restore_line-answer.ensures.steps

pub returns-in-Delete-clause-steps : goal.returns-in-Delete-clause-steps
returns-in-Delete-clause-steps g c =
    let p = g.P.Places.told c.args.places.now in
    subst (λ (l : Line). StepsLine (λ (k : View). k.told) IsStateOf IsKnownStray c.args.limits.now (record { keeper = c.args.store; places = p }) l c.delete_line-answer.result (record { keeper = c.delete_line-answer.new.store; places = p })) (sym c.in-Delete.is)
    c.delete_line-answer.ensures
