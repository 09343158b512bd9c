use Rattle.std.proofs.Common.{subst, sym}
use Rattle.vault_types.specs.declared.Answer.{Answer}
use Rattle.vault_types.specs.declared.Line.TheVariants.{Backup}
use Rattle.store_model.specs.Steps.{StepsLine}
use Rattle.script_laws.proofs.WholeLines.{backup_line}
use Rattle.script_runner.proofs.Lines.{around}
use Rattle.script_runner.proofs.run.backup_line.Goals as goal

pub returns-in-Err : goal.returns-in-Err
returns-in-Err g c = c.in-Err.ensures.refused c.args.config.now

pub returns-in-Ok : goal.returns-in-Ok
returns-in-Ok g c =
    let p = g.P.Places.told c.args.places.now in
    let m = g.P.Places.told c.open_backup.new.places in
    let q = g.P.Places.told c.close_backup.new.places in
    let r = g.P.Reader.Source.told c.in-Ok.source in
    let r' = g.P.Reader.Source.told c.back_up-outcome.new.source in
    subst (λ (a : Answer). StepsLine g.K.StateKeeper.shelf g.K.StateKeeper.keeps g.K.StateKeeper.strays c.args.limits.now (record { keeper = c.args.store.now; places = p }) (Backup c.args.set c.args.name.now c.args.config.now) a (record { keeper = c.back_up-outcome.new.self; places = q })) (sym c.close_backup.ensures.answer)
    (backup_line g.K.StateKeeper.shelf g.K.StateKeeper.keeps g.K.StateKeeper.strays c.args.limits.now c.args.store.now c.back_up-outcome.new.self p m q c.args.set c.args.name.now c.args.config.now c.back_up-outcome.result r r'
    (around p m q c.args.name.now r r' c.in-Ok.ensures.opened c.close_backup.ensures.closed) c.back_up-outcome.ensures)
