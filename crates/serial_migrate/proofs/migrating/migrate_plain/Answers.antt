use Rattle.std.specs.Prelude.{Result}
use Rattle.vault_types.specs.declared.Answer.{Answer}
use Rattle.vault_types.specs.declared.Fault.{Fault}
use Rattle.store_model.specs.Migrating.{MigratesStore}
use Rattle.keeper_core.specs.Keeping.{IsStateOf, IsKnownStray}
use Rattle.serial_restore.proofs.Goings.{gone_as}
use Rattle.serial_migrate.proofs.Stores.{all_done, all_ended}
use Rattle.serial_migrate.proofs.migrating.migrate_plain.Goals as goal

pub returns-in_err-recipes-clause-store : goal.returns-in_err-recipes-clause-store
returns-in_err-recipes-clause-store g c =
    let u = c.args.keeper.now in
    let v = c.migrate_all.new.keeper in
    gone_as (λ (r : Result Answer Fault). MigratesStore (IsStateOf u) (IsStateOf v) (IsKnownStray u) (IsKnownStray v) u.told v.told r) c.from_residual.result c.in_err-recipes.field-0.0 c.from_residual.ensures.1
    (all_ended u v c.in_err-recipes.field-0.0 c.migrate_all.ensures.later c.in_err-recipes.ensures.cause c.in_err-recipes.ensures.err)

pub returns-clause-store : goal.returns-clause-store
returns-clause-store g c = all_done c.args.keeper.now c.migrate_all.new.keeper c.in_ok-recipes.recipes c.migrate_all.ensures.later c.in_ok-recipes.ensures.ok
