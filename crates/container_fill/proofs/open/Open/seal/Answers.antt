use Rattle.std.proofs.Common.{List, map, ap, ◌∙◌, Some}
use Rattle.vault_types.specs.declared.TableRow.{TableRow}
use Rattle.vault_types.specs.declared.Fp.{Fp}
use Rattle.vault_types.specs.Names.{fp, named_chunk}
use Rattle.vault_types.specs.Tables.{Container}
use Rattle.vault_types.specs.Fill.{new_container}
use Rattle.container_fill.proofs.OpenLemmas.{sealed-table, sealed-is}
use Rattle.container_fill.proofs.open.Open.seal.Goals as goal

pub new-requires-clause-table : goal.new-requires-clause-table
new-requires-clause-table c =
    rw (c.from_vec.ensures, c.sum-payload_sum.ensures, c.as_slice.ensures.value)
    (sealed-table c.args.id c.self.inside.rows.items c.self.inside.payload.items c.requires c.ranges.id.fits c.self.invariant)

pub returns : goal.returns
returns c =
    let parts : List TableRow → Fp → Container = λ r s. record { table = record { id = c.args.id; rows = r; payload_sum = s }; payload = Some c.self.inside.payload.items } in
    c.new.ensures
    ∙ ap (λ r. parts r c.sum-payload_sum.result) c.from_vec.ensures
    ∙ ap (λ s. parts c.self.inside.rows.items s) (c.sum-payload_sum.ensures ∙ ap fp c.as_slice.ensures.value)
    ∙ sealed-is c.args.id c.self.inside.rows.items c.self.inside.payload.items c.self.invariant
    ∙ ap (λ cs. new_container c.args.id (map named_chunk cs)) c.self.view_is
