use Rattle.command_runner.proofs.Shows.{reader_shown, writing}
use Rattle.command_runner.proofs.showing.show.Goals as goal

pub returns-in-Err-clause-shown : goal.returns-in-Err-clause-shown
returns-in-Err-clause-shown g c T keep = reader_shown T c.args.set c.args.version c.in-Err.fault (g.O.Sink.told c.args.out.now) (c.in-Err.ensures.reads.refused T keep)

pub returns-in-Ok-clause-shown : goal.returns-in-Ok-clause-shown
returns-in-Ok-clause-shown g c T keep =
    (writing c.args.set c.args.version c.in-Ok.recipe (g.K.StateKeeper.shelf c.args.store.now) (g.K.StateKeeper.shelf c.recipe.new.self) (g.O.Sink.told c.args.out.now) (g.O.Sink.told c.write_recipe.new.out) c.write_recipe.result
    c.in-Ok.ensures.reads.same.later c.write_recipe.ensures.later c.write_recipe.ensures.written).shown T (c.in-Ok.ensures.reads.says T keep)
