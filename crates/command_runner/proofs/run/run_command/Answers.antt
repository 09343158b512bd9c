use Rattle.std.specs.Prelude.{true}
use Rattle.std.proofs.Common.{◌∙◌, ap, ℕ, Option, Some, None}
use Rattle.vault_types.specs.declared.Command.{Command}
use Rattle.vault_types.specs.declared.Command.TheVariants as command
use Rattle.store_model.specs.World.{World, world}
use Rattle.store_model.specs.Courses.{RunsBackup, RunsDelete, RunsRestore, RunsShow}
use Rattle.store_model.specs.Filling.{RunsFill}
use Rattle.store_model.specs.Migrating.{RunsMigrate}
use Rattle.word_ranges.proofs.Commands.{of_words}
use Rattle.command_runner.proofs.Runs.{one_line}
use Rattle.command_runner.proofs.run.run_command.Goals as goal

pub run_backup-requires-clause-config : goal.run_backup-requires-clause-config
run_backup-requires-clause-config g c =
    let x = c.in-Backup in
    (of_words c.requires.read.0 (command.Backup x.set x.config x.queue x.lanes x.sample) (c.requires.read.1 ∙ ap (λ (d : Command). Some d) x.is)).0

pub run_restore-requires-clause-some : goal.run_restore-requires-clause-some
run_restore-requires-clause-some g c =
    let x = c.in-Restore in
    (of_words c.requires.read.0 (command.Restore x.set x.version x.cache x.area) (c.requires.read.1 ∙ ap (λ (d : Command). Some d) x.is)).0

pub run_restore-requires-clause-few : goal.run_restore-requires-clause-few
run_restore-requires-clause-few g c =
    let x = c.in-Restore in
    (of_words c.requires.read.0 (command.Restore x.set x.version x.cache x.area) (c.requires.read.1 ∙ ap (λ (d : Command). Some d) x.is)).1

pub run_fill-requires-clause-few : goal.run_fill-requires-clause-few
run_fill-requires-clause-few g c =
    let x = c.in-Fill in
    (of_words c.requires.read.0 (command.Fill x.seed x.versions x.queue x.lanes x.workers) (c.requires.read.1 ∙ ap (λ (d : Command). Some d) x.is)).1

pub returns-in-None : goal.returns-in-None
returns-in-None g c words h =
    let x = c.in-Backup in
    let before : World = world (g.S.Shelf.told c.args.shelf) (g.P.Places.told c.args.places.now) (g.I.Source.told c.args.input) (g.O.Sink.told c.args.out) (g.R.Sink.told c.args.report.now) in
    let r = c.run_backup.result in
    let now : World = world (g.S.Shelf.told r.shelf) (g.P.Places.told c.args.places.now) (g.I.Source.told r.input) (g.O.Sink.told r.out) (g.R.Sink.told c.run_backup.new.report) in
    one_line true words c.args.limits.now before now r.answers.items (command.Backup x.set x.config x.queue x.lanes None) r.fault r.status (RunsBackup x.set x.config c.args.limits.now)
    (h ∙ ap (λ (d : Command). Some d) x.is ∙ ap (λ (o : Option (ℕ × ℕ)). Some (command.Backup x.set x.config x.queue x.lanes o)) c.in-None.is) tt (λ ran. ran) (c.run_backup.ensures (g.P.Places.told c.args.places.now))

pub returns-in-None-area : goal.returns-in-None-area
returns-in-None-area g c words h =
    let x = c.in-Restore in
    let before : World = world (g.S.Shelf.told c.args.shelf) (g.P.Places.told c.args.places.now) (g.I.Source.told c.args.input) (g.O.Sink.told c.args.out) (g.R.Sink.told c.args.report.now) in
    let r = c.run_restore.result in
    let now : World = world (g.S.Shelf.told r.shelf) (g.P.Places.told c.args.places.now) (g.I.Source.told r.input) (g.O.Sink.told r.out) (g.R.Sink.told c.run_restore.new.report) in
    one_line true words c.args.limits.now before now r.answers.items (command.Restore x.set x.version x.cache None) r.fault r.status (RunsRestore x.set x.version x.cache c.args.limits.now)
    (h ∙ ap (λ (d : Command). Some d) x.is ∙ ap (λ (o : Option ℕ). Some (command.Restore x.set x.version x.cache o)) c.in-None-area.is) tt (λ ran. ran) (c.run_restore.ensures c.args.limits.now (g.P.Places.told c.args.places.now))

pub returns-in-Delete : goal.returns-in-Delete
returns-in-Delete g c words h =
    let x = c.in-Delete in
    let before : World = world (g.S.Shelf.told c.args.shelf) (g.P.Places.told c.args.places.now) (g.I.Source.told c.args.input) (g.O.Sink.told c.args.out) (g.R.Sink.told c.args.report.now) in
    let r = c.run_delete.result in
    let now : World = world (g.S.Shelf.told r.shelf) (g.P.Places.told c.args.places.now) (g.I.Source.told r.input) (g.O.Sink.told r.out) (g.R.Sink.told c.run_delete.new.report) in
    one_line true words c.args.limits.now before now r.answers.items (command.Delete x.set x.through) r.fault r.status (RunsDelete x.set x.through c.args.limits.now)
    (h ∙ ap (λ (d : Command). Some d) x.is) tt (λ ran. ran) (c.run_delete.ensures c.args.limits.now (g.P.Places.told c.args.places.now))

pub returns-in-Show : goal.returns-in-Show
returns-in-Show g c words h =
    let x = c.in-Show in
    let before : World = world (g.S.Shelf.told c.args.shelf) (g.P.Places.told c.args.places.now) (g.I.Source.told c.args.input) (g.O.Sink.told c.args.out) (g.R.Sink.told c.args.report.now) in
    let r = c.run_show.result in
    let now : World = world (g.S.Shelf.told r.shelf) (g.P.Places.told c.args.places.now) (g.I.Source.told r.input) (g.O.Sink.told r.out) (g.R.Sink.told c.run_show.new.report) in
    one_line true words c.args.limits.now before now r.answers.items (command.Show x.set x.version) r.fault r.status (RunsShow x.set x.version)
    (h ∙ ap (λ (d : Command). Some d) x.is) tt (λ ran. ran) (c.run_show.ensures (g.P.Places.told c.args.places.now))

pub returns-in-Fill : goal.returns-in-Fill
returns-in-Fill g c words h =
    let x = c.in-Fill in
    let before : World = world (g.S.Shelf.told c.args.shelf) (g.P.Places.told c.args.places.now) (g.I.Source.told c.args.input) (g.O.Sink.told c.args.out) (g.R.Sink.told c.args.report.now) in
    let r = c.run_fill.result in
    let now : World = world (g.S.Shelf.told r.shelf) (g.P.Places.told c.args.places.now) (g.I.Source.told r.input) (g.O.Sink.told r.out) (g.R.Sink.told c.run_fill.new.report) in
    one_line true words c.args.limits.now before now r.answers.items (command.Fill x.seed x.versions x.queue x.lanes x.workers) r.fault r.status (RunsFill true x.seed x.versions c.args.limits.now)
    (h ∙ ap (λ (d : Command). Some d) x.is) tt (λ ran. ran) (c.run_fill.ensures (g.P.Places.told c.args.places.now))

pub returns-in-Migrate : goal.returns-in-Migrate
returns-in-Migrate g c words h =
    let x = c.in-Migrate in
    let before : World = world (g.S.Shelf.told c.args.shelf) (g.P.Places.told c.args.places.now) (g.I.Source.told c.args.input) (g.O.Sink.told c.args.out) (g.R.Sink.told c.args.report.now) in
    let r = c.run_migrate.result in
    let now : World = world (g.S.Shelf.told r.shelf) (g.P.Places.told c.args.places.now) (g.I.Source.told r.input) (g.O.Sink.told r.out) (g.R.Sink.told c.run_migrate.new.report) in
    one_line true words c.args.limits.now before now r.answers.items (command.Migrate) r.fault r.status (RunsMigrate)
    (h ∙ ap (λ (d : Command). Some d) x.is) tt (λ ran. ran) (c.run_migrate.ensures (g.P.Places.told c.args.places.now))
