use Rattle.std.specs.Prelude.{option_map}
use Rattle.scrub.specs.Walking.{ReadsNext}
use Rattle.scrub.proofs.Readings.{container_of, reads_one, refused_as, stays_by, table_refused}
use Rattle.scrub.proofs.reading.read_next.Goals as goal

pub table-requires : goal.table-requires
table-requires g c =
    let u = c.args.keeper.now in
    let core = c.keeps_some_core.ensures in
    let of = container_of u u u c.args.above c.in-Some.id c.in-Some.ensures core.0 core.1 in
    (core.0, of.0, core.1, of.1)

pub returns-in_err-table : goal.returns-in_err-table
returns-in_err-table g c =
    let u = c.args.keeper.now in
    let v = c.table.new.self in
    let e = c.in_err-table.field-0.0 in
    let t = c.in_err-table.ensures in
    refused_as (ReadsNext u v c.args.above) c.from_residual.result e c.from_residual.ensures.1 (table_refused u u v c.args.above c.in-Some.id c.in-Some.ensures e (stays_by u v t.same (t.shelf.0, t.shelf.1)) t.shelf.2 t.causes)

pub returns : goal.returns
returns g c =
    let u = c.args.keeper.now in
    let m = c.table.new.self in
    let v = c.fetch.new.self in
    let t = c.in_ok-table.ensures in
    let f = c.in_ok-payload.ensures in
    reads_one u m v c.args.above c.in-Some.id c.in-Some.ensures c.in_ok-table.table (option_map (λ bytes. bytes.items) c.in_ok-payload.payload) t.given c.keeps_some_core.ensures (stays_by u m t.same (t.shelf.0, t.shelf.1)) t.shelf.2 t.causes.later
    (stays_by m v f.same (f.shelf.0, f.shelf.1)) f.shelf.2 f.causes.later f.payload
