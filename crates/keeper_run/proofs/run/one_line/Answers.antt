use Rattle.std.proofs.Common.{refl, map, arith}
use Rattle.beside_runner.proofs.Served.{under_long}
use Rattle.keeper_core.specs.Keeping.{IsKnownStray}
use Rattle.restore_turns.specs.Entry.{IsStateBeside}
use Rattle.beside_steps.specs.Holding.{past_of}
use Rattle.beside_steps.specs.Kept.{kept_beside}
use Rattle.beside_jobs.specs.Under.{told_of}
use Rattle.beside_jobs.specs.Beside.{Reached}
use Rattle.keeper_run.proofs.Turns.{answered, begun}
use Rattle.keeper_run.proofs.run.one_line.Goals as goal

pub index_mut-requires : goal.index_mut-requires
index_mut-requires g c =
    let u = c.requires.under in
    let long = under_long told_of IsStateBeside IsKnownStray c.args.limits.now c.args.lines.now u.0 kept_beside c.args.at c.args.answers.now.items (map past_of c.args.running.now.items) (record { keeper = c.args.keeper.now; places = g.P.Places.told c.args.places.now }) u.1 in
    omega (arith, long, c.requires.here, c.args.answers.now.ok)

pub index_mut-requires-in-Err : goal.index_mut-requires-in-Err
index_mut-requires-in-Err g c =
    let u = c.requires.under in
    let long = under_long told_of IsStateBeside IsKnownStray c.args.limits.now c.args.lines.now u.0 kept_beside c.args.at c.args.answers.now.items (map past_of c.args.running.now.items) (record { keeper = c.args.keeper.now; places = g.P.Places.told c.args.places.now }) u.1 in
    omega (arith, long, c.requires.here, c.args.answers.now.ok)

pub index_mut-requires-in-Delete : goal.index_mut-requires-in-Delete
index_mut-requires-in-Delete g c =
    let u = c.requires.under in
    let long = under_long told_of IsStateBeside IsKnownStray c.args.limits.now c.args.lines.now u.0 kept_beside c.args.at c.args.answers.now.items (map past_of c.args.running.now.items) (record { keeper = c.args.keeper.now; places = g.P.Places.told c.args.places.now }) u.1 in
    omega (arith, long, c.requires.here, c.args.answers.now.ok)

pub backup_beside-answer-requires-clause-restores : goal.backup_beside-answer-requires-clause-restores
backup_beside-answer-requires-clause-restores g c κs within =
    let u = c.requires.under in
    let r : Reached = record { limits = c.args.limits.now; lines = c.args.lines.now; start = u.0; begun = c.args.at; answers = c.args.answers.now.items; places = g.P.Places.told c.args.places.now } in
    (r, refl, record { holds = c.requires.holds; under = u.1 })

pub returns-in-Backup-clause-under : goal.returns-in-Backup-clause-under
returns-in-Backup-clause-under g c start u =
    let p = g.P.Places.told c.args.places.now in
    let b = c.backup_beside-answer in
    let r : Reached = record { limits = c.args.limits.now; lines = c.args.lines.now; start = start; begun = c.args.at; answers = c.args.answers.now.items; places = p } in
    let a = b.ensures.answers r refl refl (record { holds = c.requires.holds; under = u }) in
    answered c.args.limits.now c.args.lines.now start c.args.at c.args.answers.now.items b.new.running.items a.behind b.new.keeper p (g.P.Places.told b.new.places) c.index-lines-at.result _ c.requires.here c.index-lines-at.is c.in-Backup.is b.result a.steps a.under

pub returns-in-Err-clause-under : goal.returns-in-Err-clause-under
returns-in-Err-clause-under g c start u =
    let p = g.P.Places.told c.args.places.now in
    answered c.args.limits.now c.args.lines.now start c.args.at c.args.answers.now.items c.args.running.now.items c.args.keeper.now c.begin_restore.new.keeper p (g.P.Places.told c.begin_restore.new.places) c.index-lines-at.result _ c.requires.here c.index-lines-at.is c.in-Restore.is c.in-Err.answer c.in-Err.ensures.refused u

pub returns-in-Ok-push-clause-under : goal.returns-in-Ok-push-clause-under
returns-in-Ok-push-clause-under g c start u =
    let p = g.P.Places.told c.args.places.now in
    begun c.args.limits.now c.args.lines.now start c.args.at c.args.answers.now.items c.args.running.now.items c.args.keeper.now c.begin_restore.new.keeper p (g.P.Places.told c.begin_restore.new.places) c.index-lines-at.result _ c.requires.here c.index-lines-at.is c.in-Restore.is c.push.new.self.items c.in-Ok.entry c.in-Ok-push.ensures.items c.in-Ok.ensures.begun u

pub returns-in-Delete-clause-under : goal.returns-in-Delete-clause-under
returns-in-Delete-clause-under g c start u =
    let p = g.P.Places.told c.args.places.now in
    answered c.args.limits.now c.args.lines.now start c.args.at c.args.answers.now.items c.args.running.now.items c.args.keeper.now c.delete_line-answer.new.keeper p p c.index-lines-at.result _ c.requires.here c.index-lines-at.is c.in-Delete.is c.delete_line-answer.result c.delete_line-answer.ensures.steps u
