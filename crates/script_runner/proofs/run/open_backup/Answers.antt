use Rattle.std.proofs.Common.{sym, ◌∙◌, ap}
use Rattle.std.specs.Prelude.{Err}
use Rattle.script_laws.proofs.WholeLines.{full_line, no_source_line, no_memory_line}
use Rattle.script_runner.proofs.run.open_backup.Goals as goal

pub returns-then-full-clause-refused : goal.returns-then-full-clause-refused
returns-then-full-clause-refused g c config =
    let p = g.P.Places.told c.args.places.now in
    full_line g.K.StateKeeper.shelf g.K.StateKeeper.keeps g.K.StateKeeper.strays c.args.limits.now c.args.store.now c.args.store.now p p p c.args.set c.args.name.now config c.latest.result c.next_id.result
    (λ S other keep. sym c.if-full.true ∙ c.full.ensures S other keep) c.latest.ensures c.next_id.ensures

pub returns-in-Err-Failed-clause-refused : goal.returns-in-Err-Failed-clause-refused
returns-in-Err-Failed-clause-refused g c config =
    let p = g.P.Places.told c.args.places.now in
    let q = g.P.Places.told c.open_source.new.self in
    let e = c.open_source.ensures in
    no_source_line g.K.StateKeeper.shelf g.K.StateKeeper.keeps g.K.StateKeeper.strays c.args.limits.now c.args.store.now c.args.store.now p q q c.args.set c.args.name.now config
    (λ S other keep. sym c.if-full.false ∙ c.full.ensures S other keep) e.files e.read_faults e.write_faults c.faults.result c.faults.ensures (e.cause.failed (c.in-Err-Failed.is ∙ ap (λ r. Err r) c.in-Err-Failed.field-0-is))

pub returns-in-Err-Memory-clause-refused : goal.returns-in-Err-Memory-clause-refused
returns-in-Err-Memory-clause-refused g c config =
    let p = g.P.Places.told c.args.places.now in
    let q = g.P.Places.told c.open_source.new.self in
    let e = c.open_source.ensures in
    no_memory_line g.K.StateKeeper.shelf g.K.StateKeeper.keeps g.K.StateKeeper.strays c.args.limits.now c.args.store.now c.args.store.now p q q c.args.set c.args.name.now config
    (λ S other keep. sym c.if-full.false ∙ c.full.ensures S other keep) e.files e.read_faults e.write_faults e.cause.later
