use Rattle.std.specs.Prelude.{true, false, string_bytes}
use Rattle.std.proofs.Common.{◌∙◌, ap, ℕ, map, Option, Some, None, arith}
use Rattle.vault_types.specs.declared.Command.{Command}
use Rattle.vault_types.specs.declared.Command.TheVariants as command
use Rattle.store_model.specs.World.{World, world}
use Rattle.store_model.specs.Courses.{RunsBackup, RunsRestore}
use Rattle.store_model.specs.Filling.{RunsFill}
use Rattle.word_ranges.proofs.Commands.{of_words}
use Rattle.command_runner.proofs.Runs.{batch, one_line}
use Rattle.threaded_runner.proofs.Unordered.{any_order}
use Rattle.threaded_runner.proofs.run.run_words.Goals as goal

pub run_backup-requires-clause-config : goal.run_backup-requires-clause-config
run_backup-requires-clause-config g c κs within =
    let x = c.in-Backup in
    (of_words (map string_bytes c.args.words.now) (command.Backup x.set x.config x.queue x.lanes x.sample) (c.in-Ok.ensures.ok ∙ ap (λ (d : Command). Some d) x.is)).0

pub run_backup-requires-clause-queue : goal.run_backup-requires-clause-queue
run_backup-requires-clause-queue g c κs within =
    let x = c.in-Backup in
    omega (arith, c.course_of.ensures.queue, (of_words (map string_bytes c.args.words.now) (command.Backup x.set x.config x.queue x.lanes x.sample) (c.in-Ok.ensures.ok ∙ ap (λ (d : Command). Some d) x.is)).1.queue.low)

pub run_backup-requires-clause-lanes : goal.run_backup-requires-clause-lanes
run_backup-requires-clause-lanes g c κs within =
    let x = c.in-Backup in
    (omega (arith, c.course_of.ensures.lanes, (of_words (map string_bytes c.args.words.now) (command.Backup x.set x.config x.queue x.lanes x.sample) (c.in-Ok.ensures.ok ∙ ap (λ (d : Command). Some d) x.is)).1.lanes.low), omega (arith, c.course_of.ensures.lanes, (of_words (map string_bytes c.args.words.now) (command.Backup x.set x.config x.queue x.lanes x.sample) (c.in-Ok.ensures.ok ∙ ap (λ (d : Command). Some d) x.is)).1.lanes.high))

pub run_restore-requires-clause-some : goal.run_restore-requires-clause-some
run_restore-requires-clause-some g c κs within =
    let x = c.in-Restore in
    (of_words (map string_bytes c.args.words.now) (command.Restore x.set x.version x.cache x.area) (c.in-Ok.ensures.ok ∙ ap (λ (d : Command). Some d) x.is)).0

pub run_restore-requires-clause-few : goal.run_restore-requires-clause-few
run_restore-requires-clause-few g c κs within =
    let x = c.in-Restore in
    (of_words (map string_bytes c.args.words.now) (command.Restore x.set x.version x.cache x.area) (c.in-Ok.ensures.ok ∙ ap (λ (d : Command). Some d) x.is)).1

pub run_batch-requires-clause-queue : goal.run_batch-requires-clause-queue
run_batch-requires-clause-queue g c κs within =
    let x = c.in-Batch in
    omega (arith, c.course_of-in-Batch.ensures.queue, (of_words (map string_bytes c.args.words.now) (command.Batch x.queue x.lanes x.workers) (c.in-Ok.ensures.ok ∙ ap (λ (d : Command). Some d) x.is)).queue.low)

pub run_batch-requires-clause-lanes : goal.run_batch-requires-clause-lanes
run_batch-requires-clause-lanes g c κs within =
    let x = c.in-Batch in
    (omega (arith, c.course_of-in-Batch.ensures.lanes, (of_words (map string_bytes c.args.words.now) (command.Batch x.queue x.lanes x.workers) (c.in-Ok.ensures.ok ∙ ap (λ (d : Command). Some d) x.is)).lanes.low), omega (arith, c.course_of-in-Batch.ensures.lanes, (of_words (map string_bytes c.args.words.now) (command.Batch x.queue x.lanes x.workers) (c.in-Ok.ensures.ok ∙ ap (λ (d : Command). Some d) x.is)).lanes.high))

pub run_batch-requires-clause-workers : goal.run_batch-requires-clause-workers
run_batch-requires-clause-workers g c κs within =
    let x = c.in-Batch in
    (of_words (map string_bytes c.args.words.now) (command.Batch x.queue x.lanes x.workers) (c.in-Ok.ensures.ok ∙ ap (λ (d : Command). Some d) x.is)).workers.low

pub run_fill-requires-clause-queue : goal.run_fill-requires-clause-queue
run_fill-requires-clause-queue g c κs within =
    let x = c.in-Fill in
    omega (arith, c.course_of-in-Fill.ensures.queue, (of_words (map string_bytes c.args.words.now) (command.Fill x.seed x.versions x.queue x.lanes x.workers) (c.in-Ok.ensures.ok ∙ ap (λ (d : Command). Some d) x.is)).2.queue.low)

pub run_fill-requires-clause-lanes : goal.run_fill-requires-clause-lanes
run_fill-requires-clause-lanes g c κs within =
    let x = c.in-Fill in
    (omega (arith, c.course_of-in-Fill.ensures.lanes, (of_words (map string_bytes c.args.words.now) (command.Fill x.seed x.versions x.queue x.lanes x.workers) (c.in-Ok.ensures.ok ∙ ap (λ (d : Command). Some d) x.is)).2.lanes.low), omega (arith, c.course_of-in-Fill.ensures.lanes, (of_words (map string_bytes c.args.words.now) (command.Fill x.seed x.versions x.queue x.lanes x.workers) (c.in-Ok.ensures.ok ∙ ap (λ (d : Command). Some d) x.is)).2.lanes.high))

pub run_fill-requires-clause-few : goal.run_fill-requires-clause-few
run_fill-requires-clause-few g c κs within =
    let x = c.in-Fill in
    (of_words (map string_bytes c.args.words.now) (command.Fill x.seed x.versions x.queue x.lanes x.workers) (c.in-Ok.ensures.ok ∙ ap (λ (d : Command). Some d) x.is)).1

pub run_command-requires-clause-read : goal.run_command-requires-clause-read
run_command-requires-clause-read g c κs within = ((map string_bytes c.args.words.now), c.in-Ok.ensures.ok)

pub returns-in_default : goal.returns-in_default
returns-in_default g c =
    let before : World = world (g.S.Shelf.told c.args.shelf) (g.P.Places.told c.args.places.now) (g.I.Source.told c.args.input) (g.O.Sink.told c.args.out) (g.R.Sink.told c.args.report.now) in
    let r = c.run_command.result in
    let now : World = world (g.S.Shelf.told r.shelf) (g.P.Places.told c.run_command.new.places) (g.I.Source.told r.input) (g.O.Sink.told r.out) (g.R.Sink.told c.run_command.new.report) in
    any_order (map string_bytes c.args.words.now) c.args.limits.now before now r.answers.items r.fault r.status (c.run_command.ensures (map string_bytes c.args.words.now) c.in-Ok.ensures.ok)

pub returns-in-None : goal.returns-in-None
returns-in-None g c =
    let x = c.in-Backup in
    let before : World = world (g.S.Shelf.told c.args.shelf) (g.P.Places.told c.args.places.now) (g.I.Source.told c.args.input) (g.O.Sink.told c.args.out) (g.R.Sink.told c.args.report.now) in
    let r = c.run_backup.result in
    let now : World = world (g.S.Shelf.told r.shelf) (g.P.Places.told c.args.places.now) (g.I.Source.told r.input) (g.O.Sink.told r.out) (g.R.Sink.told c.run_backup.new.report) in
    one_line false (map string_bytes c.args.words.now) c.args.limits.now before now r.answers.items (command.Backup x.set x.config x.queue x.lanes None) r.fault r.status (RunsBackup x.set x.config c.args.limits.now)
    (c.in-Ok.ensures.ok ∙ ap (λ (d : Command). Some d) x.is ∙ ap (λ (o : Option (ℕ × ℕ)). Some (command.Backup x.set x.config x.queue x.lanes o)) c.in-None.is) tt (λ ran. ran) (c.run_backup.ensures (g.P.Places.told c.args.places.now))

pub returns-in-None-area : goal.returns-in-None-area
returns-in-None-area g c =
    let x = c.in-Restore in
    let before : World = world (g.S.Shelf.told c.args.shelf) (g.P.Places.told c.args.places.now) (g.I.Source.told c.args.input) (g.O.Sink.told c.args.out) (g.R.Sink.told c.args.report.now) in
    let r = c.run_restore.result in
    let now : World = world (g.S.Shelf.told r.shelf) (g.P.Places.told c.args.places.now) (g.I.Source.told r.input) (g.O.Sink.told r.out) (g.R.Sink.told c.run_restore.new.report) in
    one_line false (map string_bytes c.args.words.now) c.args.limits.now before now r.answers.items (command.Restore x.set x.version x.cache None) r.fault r.status (RunsRestore x.set x.version x.cache c.args.limits.now)
    (c.in-Ok.ensures.ok ∙ ap (λ (d : Command). Some d) x.is ∙ ap (λ (o : Option ℕ). Some (command.Restore x.set x.version x.cache o)) c.in-None-area.is) tt (λ ran. ran) (c.run_restore.ensures c.args.limits.now (g.P.Places.told c.args.places.now))

pub returns-in-Batch : goal.returns-in-Batch
returns-in-Batch g c =
    let x = c.in-Batch in
    let before : World = world (g.S.Shelf.told c.args.shelf) (g.P.Places.told c.args.places.now) (g.I.Source.told c.args.input) (g.O.Sink.told c.args.out) (g.R.Sink.told c.args.report.now) in
    let r = c.run_batch.result in
    let now : World = world (g.S.Shelf.told r.shelf) (g.P.Places.told c.run_batch.new.places) (g.I.Source.told r.input) (g.O.Sink.told r.out) (g.R.Sink.told c.run_batch.new.report) in
    batch false (map string_bytes c.args.words.now) c.args.limits.now before now r.answers.items r.fault r.status x.queue x.lanes x.workers (c.in-Ok.ensures.ok ∙ ap (λ (d : Command). Some d) x.is) c.run_batch.ensures

pub returns-in-Fill : goal.returns-in-Fill
returns-in-Fill g c =
    let x = c.in-Fill in
    let before : World = world (g.S.Shelf.told c.args.shelf) (g.P.Places.told c.args.places.now) (g.I.Source.told c.args.input) (g.O.Sink.told c.args.out) (g.R.Sink.told c.args.report.now) in
    let r = c.run_fill.result in
    let now : World = world (g.S.Shelf.told r.shelf) (g.P.Places.told c.args.places.now) (g.I.Source.told r.input) (g.O.Sink.told r.out) (g.R.Sink.told c.run_fill.new.report) in
    any_order (map string_bytes c.args.words.now) c.args.limits.now before now r.answers.items r.fault r.status
    (one_line true (map string_bytes c.args.words.now) c.args.limits.now before now r.answers.items (command.Fill x.seed x.versions x.queue x.lanes x.workers) r.fault r.status (RunsFill true x.seed x.versions c.args.limits.now)
    (c.in-Ok.ensures.ok ∙ ap (λ (d : Command). Some d) x.is) tt (λ ran. ran) (c.run_fill.ensures (g.P.Places.told c.args.places.now)))
