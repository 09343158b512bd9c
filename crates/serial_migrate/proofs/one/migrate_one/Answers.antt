use Rattle.std.proofs.Common.{sym, ◌∙◌, Option}
use Rattle.vault_types.specs.State.{State}
use Rattle.vault_types.specs.Events.{Change}
use Rattle.vault_types.specs.declared.Fault.{Fault}
use Rattle.keeper_core.specs.Keeping.{IsStateOf}
use Rattle.serial_migrate.specs.Going.{Halted}
use Rattle.serial_migrate.proofs.Ones.{read_shows, read_halted, read_state, read_second, read_put, put_halted, no_whole}
use Rattle.serial_migrate.proofs.Steps.{err_again}
use Rattle.serial_migrate.proofs.one.migrate_one.Goals as goal

pub returns-in_err-recipe-clause-err : goal.returns-in_err-recipe-clause-err
returns-in_err-recipe-clause-err g c =
    err_again (λ (f : Fault). (S : State) (other : Option Change) → IsStateOf c.args.keeper.now S other → Halted c.args.keeper.now c.recipe.new.self S other c.args.set c.args.version f) c.from_residual.result c.in_err-recipe.field-0.0 c.from_residual.ensures.1
    (λ S other here. read_halted c.args.keeper.now c.recipe.new.self c.args.set c.args.version (record { keeps = c.recipe.ensures.keeps; same = c.recipe.ensures.same; shelf = c.recipe.ensures.shelf }) S other here c.in_err-recipe.field-0.0
    (read_shows c.args.keeper.now c.recipe.new.self c.args.set c.args.version c.ranges.set.fits c.requires.kept c.in_err-recipe.field-0.0 c.in_err-recipe.ensures.causes.each S other here))

pub returns-then-is_some-clause-ok : goal.returns-then-is_some-clause-ok
returns-then-is_some-clause-ok g c S other here =
    read_second c.args.keeper.now c.recipe.new.self c.args.set c.args.version (record { keeps = c.recipe.ensures.keeps; same = c.recipe.ensures.same; shelf = c.recipe.ensures.shelf }) S other here c.in_ok-recipe.recipe.whole c.requires.kept (sym c.is_some.ensures ∙ c.if-is_some.true) c.in_ok-recipe.ensures.whole

pub returns-in_err-put_again-clause-err : goal.returns-in_err-put_again-clause-err
returns-in_err-put_again-clause-err g c =
    err_again (λ (f : Fault). (S : State) (other : Option Change) → IsStateOf c.args.keeper.now S other → Halted c.args.keeper.now c.put_again.new.keeper S other c.args.set c.args.version f) c.from_residual-in_err-put_again.result c.in_err-put_again.field-0.0 c.from_residual-in_err-put_again.ensures.1
    (λ S other here. put_halted c.args.keeper.now c.recipe.new.self c.args.set c.args.version (record { keeps = c.recipe.ensures.keeps; same = c.recipe.ensures.same; shelf = c.recipe.ensures.shelf }) S other here c.put_again.new.keeper c.in_ok-recipe.recipe.whole
    (no_whole c.in_ok-recipe.recipe.whole (sym c.is_some.ensures ∙ c.if-is_some.false)) c.in_ok-recipe.ensures.whole c.in_err-put_again.field-0.0
    (c.in_err-put_again.ensures.err S other (read_state c.args.keeper.now c.recipe.new.self c.args.set c.args.version (record { keeps = c.recipe.ensures.keeps; same = c.recipe.ensures.same; shelf = c.recipe.ensures.shelf }) S other here)))

pub returns-clause-ok : goal.returns-clause-ok
returns-clause-ok g c S other here =
    read_put c.args.keeper.now c.recipe.new.self c.args.set c.args.version (record { keeps = c.recipe.ensures.keeps; same = c.recipe.ensures.same; shelf = c.recipe.ensures.shelf }) S other here c.put_again.new.keeper c.in_ok-recipe.recipe.whole c.requires.kept
    (no_whole c.in_ok-recipe.recipe.whole (sym c.is_some.ensures ∙ c.if-is_some.false)) c.in_ok-recipe.ensures.whole
    (c.in_ok-put_again.ensures.ok S other (read_state c.args.keeper.now c.recipe.new.self c.args.set c.args.version (record { keeps = c.recipe.ensures.keeps; same = c.recipe.ensures.same; shelf = c.recipe.ensures.shelf }) S other here))
