use Rattle.std.proofs.Common.{sym, subst, ap, ◌∙◌}
use Rattle.std.specs.Option.{option_copied}
use Rattle.vault_types.specs.Tables.{IsTable}
use Rattle.keeper_catalog.specs.View.{View, Keeps}
use Rattle.commit_laws.proofs.Listing.{some_same, none_some}
use Rattle.keeper_core.proofs.NamedTables.{table_of_named, rules_of_named}
use Rattle.keeper_core.proofs.keeper.Keeper.table.Goals as goal

pub unreachable-requires : goal.unreachable-requires
unreachable-requires g c =
    let r = c.requires in
    let there = table_of_named _ r.0 (subst (λ (v : View). Keeps v r.0) (sym c.self.view_is) r.2) c.args.id r.1 r.3 in
    none_some r.1.table (ap option_copied (sym c.in-None.is) ∙ c.get.ensures.value ∙ there)

pub returns-clause-given : goal.returns-clause-given
returns-clause-given g c K d keeps at =
    let there = table_of_named _ K (subst (λ (v : View). Keeps v K) (sym c.self.view_is) keeps) c.args.id d at in
    c.in_ok-copy_of_table-in-Some.ensures ∙ some_same c.in-Some.table.now d.table (ap option_copied (sym c.in-Some.is) ∙ c.get.ensures.value ∙ there)

pub returns-clause-rules : goal.returns-clause-rules
returns-clause-rules g c =
    let r = c.requires in
    subst IsTable (sym (returns-clause-given g c r.0 r.1 r.2 r.3)) (rules_of_named c.args.self.now r.0 r.2 c.args.id r.1 r.3)
