use Rattle.std.proofs.lemmas.Result.{err_from_is_err_and}
use Rattle.blob_parts.specs.Reading.{many_at}
use Rattle.blob_parts.proofs.Loop.{goes_on, ends, is_done}
use Rattle.blob_parts.proofs.lists.many_at.Goals as goal

pub returns-in_err-item : goal.returns-in_err-item
returns-in_err-item g c =
    let f = g.F.FieldReader.field c.args.fields.now in
    let p = err_from_is_err_and c.from_residual-in_err-item.result c.from_residual-in_err-item.ensures.1 in
    rw (p.1, p.2) (ends f c.in_err-item.field-0.0 c.items.items.items c.args.count c.items.counter c.items.rest.now (many_at f c.args.count c.args.bytes.now) c.items-test.true c.in_err-item.ensures c.items.invariant)

pub items-preserved : goal.items-preserved
items-preserved g c =
    let f = g.F.FieldReader.field c.args.fields.now in
    rw c.in_ok-push.ensures.items (goes_on f c.items.items.items c.args.count c.items.counter c.items.rest.now c.in_ok-item.item c.in_ok-item.after.now (many_at f c.args.count c.args.bytes.now) c.items-test.true c.in_ok-item.ensures c.items.invariant)

pub returns : goal.returns
returns g c =
    let f = g.F.FieldReader.field c.args.fields.now in
    is_done f c.items.items.items c.args.count c.items.counter c.items.rest.now (many_at f c.args.count c.args.bytes.now) c.items-test.false c.items.invariant
