use Rattle.std.proofs.Common.{refl}
use Rattle.script_laws.proofs.WholeLines.{delete_line}
use Rattle.script_runner.proofs.run.delete_line.Goals as goal

pub returns-in-Ok : goal.returns-in-Ok
returns-in-Ok g c =
    let p = g.P.Places.told c.args.places.now in
    delete_line g.K.StateKeeper.shelf g.K.StateKeeper.keeps g.K.StateKeeper.strays c.args.limits.now c.args.store.now c.delete.new.self p p p c.args.set c.args.through _ c.in-Ok.answer refl c.in-Ok.ensures

pub returns-in-Err : goal.returns-in-Err
returns-in-Err g c =
    let p = g.P.Places.told c.args.places.now in
    delete_line g.K.StateKeeper.shelf g.K.StateKeeper.keeps g.K.StateKeeper.strays c.args.limits.now c.args.store.now c.delete.new.self p p p c.args.set c.args.through _ _ refl c.in-Err.ensures
