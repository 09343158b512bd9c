use Rattle.std.proofs.Common.{◌≡◌, ◌<◌}
use Rattle.vault_types.specs.Delete.{removed}
use Rattle.vault_types.specs.State.{latest_of}
use Rattle.keeper_core.proofs.Following.{delete_follows}
use Rattle.serial_delete.proofs.Deletes.{deletes}
use Rattle.serial_delete.proofs.delete_plain.Goals as goal

pub returns-clause-line : goal.returns-clause-line
returns-clause-line g c = deletes _ _ _ _ _ c.keeps_some_core.ensures c.delete_through.ensures

pub returns-clause-follows : goal.returns-clause-follows
returns-clause-follows g c = λ number. delete_follows c.args.keeper.now c.delete_through.new.self number c.delete_through.ensures.tells (λ K a. c.args.through < latest_of K.state c.args.set) (λ K a. a ≡ removed K.state c.args.set c.args.through)
    c.args.set c.args.through c.delete_through.result c.delete_through.ensures.ok c.delete_through.ensures.err
