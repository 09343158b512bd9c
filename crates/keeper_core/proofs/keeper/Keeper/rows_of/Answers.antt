use Rattle.std.proofs.Common.{◌≡◌, List, sym, subst, ap, ◌∙◌}
use Rattle.std.specs.Option.{option_copied}
use Rattle.vault_types.specs.declared.Table.{Table}
use Rattle.keeper_catalog.specs.View.{View, Keeps}
use Rattle.commit_laws.proofs.Listing.{some_same, none_some}
use Rattle.keeper_core.proofs.NamedTables.{table_of_named}
use Rattle.keeper_core.proofs.keeper.Keeper.rows_of.Goals as goal

pub unreachable-requires : goal.unreachable-requires
unreachable-requires g c =
    let r = c.requires in
    let there = table_of_named _ r.0 (subst (λ (v : View). Keeps v r.0) (sym c.self.view_is) r.2) c.args.id r.1 r.3 in
    none_some r.1.table (ap option_copied (sym c.in-None.is) ∙ c.get.ensures.value ∙ there)

pub returns : goal.returns
returns g c K d keeps at =
    let there = table_of_named _ K (subst (λ (v : View). Keeps v K) (sym c.self.view_is) keeps) c.args.id d at in
    c.as_slice.ensures ∙ ap (λ (t : Table). t.rows) (some_same c.in-Some.table.now d.table (ap option_copied (sym c.in-Some.is) ∙ c.get.ensures.value ∙ there))
