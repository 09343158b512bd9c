use Rattle.std.proofs.Common.{◌∙◌, ap, subst, arith, Option, ◌++◌, ◌∷◌, [], List, get_or}
use Rattle.std.specs.Map.{lookup}
use Rattle.vault_types.specs.declared.TableRow.{TableRow}
use Rattle.vault_types.specs.Shelf.{Blobs}
use Rattle.vault_types.specs.BlobDamage.{IsTableDamage}
use Rattle.vault_types.specs.FirstDamage.{ReadsTable}
use Rattle.keeper_open.specs.Reading.{IsFirstTable, same_chunk, has_chunk, left_of}
use Rattle.keeper_open.proofs.Gathering.{causes_again, table_more, table_damage}
use Rattle.keeper_open.proofs.reading.read_tables.Goals as goal

pub returns-in_err-table-clause-causes : goal.returns-in_err-table-clause-causes
returns-in_err-table-clause-causes g c =
    let inv = c.loop-id.invariant in
    let told = (g.S.Shelf.told c.args.shelf.now).blobs in
    let now = (g.S.Shelf.told c.loop-id.shelf).blobs in
    causes_again _ _ _ (IsTableDamage now (get_or c.args.ids.now c.loop-id.id-index 0)) (IsFirstTable told c.args.ids.now) inv.later c.in_err-table.ensures.causes.later
    (table_damage told now c.args.ids.now c.loop-id.id-index 0 c.loop-id.tables.entries c.loop-id.index c.args.places.entries c.loop-id.places.entries inv.read.0 inv.kept.blobs c.requires c.loop-id-test.true inv.read.1)
    c.in_err-table.field-0.0 c.in_err-table.ensures.causes.each c.from_residual-in_err-table.result c.from_residual-in_err-table.ensures.1

pub loop-id-preserved : goal.loop-id-preserved
loop-id-preserved g c =
    let inv = c.loop-id.invariant in
    let told = (g.S.Shelf.told c.args.shelf.now).blobs in
    record {
      kept = record { blobs = c.get_table.ensures.kept.blobs ∙ inv.kept.blobs; history = c.get_table.ensures.kept.history ∙ inv.kept.history };
      gets = c.get_table.ensures.gets ∙ inv.gets;
      later = omega (arith, inv.later, c.get_table.ensures.causes.later);
      read = (
        inv.read.0 ++ c.in_ok-table.table ∷ [],
        table_more told c.args.ids.now c.loop-id.id-index 0 c.loop-id.tables.entries c.insert.new.self.entries c.loop-id.index c.add_container.new.self c.args.places.entries c.loop-id.places.entries c.strike.new.places.entries inv.read.0 c.in_ok-table.table
            c.requires c.loop-id-test.true inv.read.1 (subst (λ (t : Option Blobs). ReadsTable t (get_or c.args.ids.now c.loop-id.id-index 0) c.in_ok-table.table) inv.kept.blobs c.in_ok-table.ensures.found) c.in_ok-insert.ensures.updates.0 (c.in_ok-add_container.ensures.added inv.read.0 inv.read.1.index)
            (λ k. c.strike.ensures k ∙ ap (λ (l : List TableRow). left_of (has_chunk (get_or c.args.ids.now c.loop-id.id-index 0) l k) (lookup (same_chunk k) c.loop-id.places.entries)) c.as_slice.ensures),
      );
    }
