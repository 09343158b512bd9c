use Rattle.std.proofs.Common.{◌∙◌, arith}
use Rattle.backup_jobs.specs.Backup.{BacksUp}
use Rattle.backup_jobs.specs.Going.{Began, began_with}
use Rattle.backup_jobs.proofs.Closes.{err_again}
use Rattle.serial_backup.proofs.Starts.{starts}
use Rattle.serial_backup.proofs.backup_plain.Goals as goal

pub returns-in_err-opened : goal.returns-in_err-opened
returns-in_err-opened g c =
    let from = g.I.Source.told c.args.source.now in
    err_again (BacksUp c.args.set c.args.config.now c.args.limits.now c.args.keeper.now c.open_job.new.keeper from from) c.in_err-opened.field-0.0 (c.in_err-opened.ensures.err from) c.from_residual.result c.from_residual.ensures.1

pub new-pass-requires-clause-low : goal.new-pass-requires-clause-low
new-pass-requires-clause-low g c = (c.in_ok-opened.ensures.ok (g.I.Source.told c.args.source.now)).underway.low

pub new-pass-requires-clause-high : goal.new-pass-requires-clause-high
new-pass-requires-clause-high g c = omega (arith, (c.in_ok-opened.ensures.ok (g.I.Source.told c.args.source.now)).underway.fits)

pub run-index-requires : goal.run-index-requires
run-index-requires g c =
    let from = g.I.Source.told c.args.source.now in
    let b : Began = began_with c.args.set c.args.config.now c.args.limits.now c.args.keeper.now from c.in_ok-opened.opened in
    (b, starts _ _ _ _ _ from _ (c.in_ok-opened.ensures.ok from) c.new-pass.result c.new-pass.ensures.passed c.new-pass.ensures.index _ c.new-lens.ensures.items)

pub close_job-requires : goal.close_job-requires
close_job-requires g c =
    let from = g.I.Source.told c.args.source.now in
    let to = g.I.Source.told c.run-index.new.source in
    let opened = c.in_ok-opened.ensures.ok from in
    let b : Began = began_with c.args.set c.args.config.now c.args.limits.now c.args.keeper.now from c.in_ok-opened.opened in
    let going = starts _ _ _ _ _ from _ opened c.new-pass.result c.new-pass.ensures.passed c.new-pass.ensures.index _ c.new-lens.ensures.items in
    (b, to, opened.job, c.run-index.ensures.index ∙ c.new-pass.ensures.index, rw (c.as_slice.ensures.value) (c.run-index.ensures.over b going))

pub returns : goal.returns
returns g c =
    let from = g.I.Source.told c.args.source.now in
    let to = g.I.Source.told c.run-index.new.source in
    let opened = c.in_ok-opened.ensures.ok from in
    let b : Began = began_with c.args.set c.args.config.now c.args.limits.now c.args.keeper.now from c.in_ok-opened.opened in
    let going = starts _ _ _ _ _ from _ opened c.new-pass.result c.new-pass.ensures.passed c.new-pass.ensures.index _ c.new-lens.ensures.items in
    c.close_job.ensures b to opened.job (c.run-index.ensures.index ∙ c.new-pass.ensures.index) (rw (c.as_slice.ensures.value) (c.run-index.ensures.over b going))
