use Rattle.std.proofs.Common.{sym, subst}
use Rattle.keeper_catalog.specs.View.{View, Keeps}
use Rattle.keeper_core.proofs.NamedTables.{next_named}
use Rattle.keeper_core.proofs.keeper.Keeper.named_after.Goals as goal

pub returns : goal.returns
returns g c K keeps = next_named _ K (subst (λ (v : View). Keeps v K) (sym c.self.view_is) keeps) c.args.above c.next_marked.result c.next_marked.ensures
