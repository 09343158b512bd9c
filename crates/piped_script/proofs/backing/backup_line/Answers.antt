use Rattle.std.proofs.Common.{subst, sym}
use Rattle.vault_types.specs.declared.Answer.{Answer}
use Rattle.vault_types.specs.declared.Line.TheVariants.{Backup}
use Rattle.store_model.specs.Steps.{StepsLine}
use Rattle.keeper_catalog.specs.View.{View}
use Rattle.keeper_core.specs.Keeping.{IsStateOf, IsKnownStray}
use Rattle.script_laws.proofs.WholeLines.{backup_line}
use Rattle.script_runner.proofs.Lines.{around}
use Rattle.piped_script.proofs.backing.backup_line.Goals as goal

pub returns-in-Err : goal.returns-in-Err
returns-in-Err g c = c.in-Err.ensures.refused c.args.config.now

pub returns-in-Ok : goal.returns-in-Ok
returns-in-Ok g c =
    let p = g.P.Places.told c.args.places.now in
    let m = g.P.Places.told c.open_backup.new.places in
    let q = g.P.Places.told c.close_backup-answer.new.places in
    let b = c.back_up_piped-store.result in
    let r = g.P.Reader.Source.told c.in-Ok.source in
    let r' = g.P.Reader.Source.told b.1 in
    subst (λ (a : Answer). StepsLine (λ (k : View). k.told) IsStateOf IsKnownStray c.args.limits.now (record { keeper = c.args.store; places = p }) (Backup c.args.set c.args.name.now c.args.config.now) a (record { keeper = b.0; places = q })) (sym c.close_backup-answer.ensures.answer)
    (backup_line (λ (k : View). k.told) IsStateOf IsKnownStray c.args.limits.now c.args.store b.0 p m q c.args.set c.args.name.now c.args.config.now b.2 r r'
    (around p m q c.args.name.now r r' c.in-Ok.ensures.opened c.close_backup-answer.ensures.closed) c.back_up_piped-store.ensures)
