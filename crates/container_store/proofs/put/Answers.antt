use Rattle.std.proofs.Common.{ℕ, List, Some, ap, ◌∙◌}
use Rattle.std.specs.Prelude.{OnOk}
use Rattle.vault_types.specs.declared.Table.{Table}
use Rattle.vault_types.specs.Blobs.{table_bytes}
use Rattle.vault_types.specs.Shelf.{table_name, payload_name}
use Rattle.vault_traits.specs.Writes.{AreWritten, MayBeWrittenInTurn}
use Rattle.container_store.proofs.Along.{along}
use Rattle.container_store.proofs.put.Goals as goal

pub returns-clause-ok : goal.returns-clause-ok
returns-clause-ok g c =
    along
    (λ (n : ℕ) (p t : List ℕ). OnOk c.put_two.result (AreWritten (g.S.Shelf.told c.args.shelf.now).blobs (g.S.Shelf.told c.put_two.new.shelf).blobs (g.S.Shelf.told c.args.shelf.now).history (g.S.Shelf.told c.put_two.new.shelf).history (payload_name n) (Some p) (table_name n) (Some t)))
    (ap (λ (t : Table). t.id) c.table-table.ensures.is) c.payload.ensures.is (c.as_slice.ensures.value ∙ c.in_ok-blob.ensures ∙ ap table_bytes c.table-table.ensures.is) c.put_two.ensures.ok

pub returns-clause-at_most : goal.returns-clause-at_most
returns-clause-at_most g c =
    along
    (λ (n : ℕ) (p t : List ℕ). MayBeWrittenInTurn (g.S.Shelf.told c.args.shelf.now).blobs (g.S.Shelf.told c.put_two.new.shelf).blobs (g.S.Shelf.told c.args.shelf.now).history (g.S.Shelf.told c.put_two.new.shelf).history (payload_name n) (Some p) (table_name n) (Some t))
    (ap (λ (t : Table). t.id) c.table-table.ensures.is) c.payload.ensures.is (c.as_slice.ensures.value ∙ c.in_ok-blob.ensures ∙ ap table_bytes c.table-table.ensures.is) c.put_two.ensures.at_most
