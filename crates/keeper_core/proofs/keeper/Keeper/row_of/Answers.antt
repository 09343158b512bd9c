use Rattle.std.proofs.Common.{◌≡◌, ◌<◌, ◌^◌, length, ℕ, List, Some, IsTrue, sym, subst, ap, ◌∙◌, arith}
use Rattle.std.specs.Prelude.{IsSomeAnd, slice_get}
use Rattle.std.specs.Option.{option_copied}
use Rattle.std.specs.List.{list_any}
use Rattle.vault_types.specs.declared.Table.{Table}
use Rattle.vault_types.specs.declared.TableRow.{TableRow}
use Rattle.vault_types.specs.Names.{same_fp}
use Rattle.vault_types.specs.Tables.{has_fp}
use Rattle.keeper_catalog.specs.View.{View, Keeps}
use Rattle.commit_laws.proofs.Listing.{some_same, none_some}
use Rattle.keeper_core.proofs.Listing.{table_there, table_rules}
use Rattle.keeper_core.proofs.Copyings.{few_rows}
use Rattle.keeper_core.proofs.keeper.Keeper.row_of.Goals as goal

pub place_of-requires-clause-few : goal.place_of-requires-clause-few
place_of-requires-clause-few g c =
    let r = c.requires in
    let there = table_there _ r.0 (subst (λ (v : View). Keeps v r.0) (sym c.self.view_is) r.2) _ c.args.id r.1 r.3 in
    let same : c.in-Some.table.now ≡ r.1.table = some_same c.in-Some.table.now r.1.table (ap option_copied (sym c.in-Some.is) ∙ c.get.ensures.value ∙ there) in
    let few : length r.1.table.rows < 2 ^ 32 = few_rows r.1.table (table_rules c.args.self.now r.0 r.2 _ c.args.id r.1 r.3) in
    subst (λ (rows : List TableRow). length rows < 2 ^ 32) (sym (c.as_slice.ensures ∙ ap (λ (t : Table). t.rows) same)) few

pub place_of-requires-clause-there : goal.place_of-requires-clause-there
place_of-requires-clause-there g c =
    let r = c.requires in
    let there = table_there _ r.0 (subst (λ (v : View). Keeps v r.0) (sym c.self.view_is) r.2) _ c.args.id r.1 r.3 in
    let same : c.in-Some.table.now ≡ r.1.table = some_same c.in-Some.table.now r.1.table (ap option_copied (sym c.in-Some.is) ∙ c.get.ensures.value ∙ there) in
    subst (λ (rows : List TableRow). IsTrue (list_any (λ q. same_fp q.fp c.args.fp.now) rows)) (sym (c.as_slice.ensures ∙ ap (λ (t : Table). t.rows) same)) r.4

pub unreachable-requires : goal.unreachable-requires
unreachable-requires g c =
    let r = c.requires in
    let there = table_there _ r.0 (subst (λ (v : View). Keeps v r.0) (sym c.self.view_is) r.2) _ c.args.id r.1 r.3 in
    none_some r.1.table (ap option_copied (sym c.in-None.is) ∙ c.get.ensures.value ∙ there)

pub returns : goal.returns
returns g c K d keeps lists =
    let there = table_there _ K (subst (λ (v : View). Keeps v K) (sym c.self.view_is) keeps) _ c.args.id d lists in
    let same : c.in-Some.table.now ≡ d.table = some_same c.in-Some.table.now d.table (ap option_copied (sym c.in-Some.is) ∙ c.get.ensures.value ∙ there) in
    subst (λ (rows : List TableRow). IsSomeAnd (slice_get rows c.place_of.result) (λ q. q.fp ≡ c.args.fp.now)) (c.as_slice.ensures ∙ ap (λ (t : Table). t.rows) same) c.place_of.ensures
