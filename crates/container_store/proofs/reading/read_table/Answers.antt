use Rattle.std.proofs.Common.{◌∙◌, sym, ap, subst, arith}
use Rattle.std.proofs.lemmas.Result.{err_from_is_err_and}
use Rattle.std.proofs.lemmas.Bool.{eqb-true}
use Rattle.vault_types.specs.declared.Table.{Table}
use Rattle.vault_types.specs.Tables.{IsTable}
use Rattle.blob_parts.proofs.Fields.{passed_none, not_empty, blob_unread, blob_other, blob_fits, blob_spelled}
use Rattle.container_store.specs.Reading.{table_body_at, table_head}
use Rattle.container_store.proofs.TableLemmas.{has_widths}
use Rattle.container_store.proofs.TableField.{table_field}
use Rattle.container_store.proofs.reading.read_table.Goals as goal
use Rattle.container_store.proofs.reading.read_table.Goals.{then-not-is_empty-via-then-not-is_empty, then-not-is_empty-via-else-not-is_empty+then-table-id}

pub returns-in_default-clause-none : goal.returns-in_default-clause-none
returns-in_default-clause-none c spelling t spells = c.in_default.ensures.none (table_head t) spells.spelled

pub returns-in_err-table-clause-none : goal.returns-in_err-table-clause-none
returns-in_err-table-clause-none c spelling t spells =
    let p = err_from_is_err_and c.from_residual.result c.from_residual.ensures.1 in
    blob_unread table_field 0 c.args.bytes.now c.in-Some.body.now c.in-Some.ensures.found
    (passed_none c.from_residual.result p.0 c.in_err-table.field-0.0 (table_body_at c.in-Some.body.now) p.1 p.2 spelling c.in_err-table.ensures)
    t (has_widths t spells.rules) spells.spelled

pub returns-then-not-is_empty-clause-none : goal.returns-then-not-is_empty-clause-none
returns-then-not-is_empty-clause-none c spelling t spells =
    let same = blob_other table_field 0 c.args.bytes.now c.in-Some.body.now c.in-Some.ensures.found c.in_ok-table.table c.in_ok-table.rest.now c.in_ok-table.ensures t (has_widths t spells.rules) spells.spelled in
    elim c.then-not-is_empty.branch [
      | then-not-is_empty-via-then-not-is_empty w ↦ not_empty c.in_ok-table.rest.now (sym c.is_empty.ensures ∙ w.if-not-is_empty.true) same.1
      | then-not-is_empty-via-else-not-is_empty+then-table-id w ↦ w.if-table-id.true (ap (λ (x : Table). x.id) same.0 ∙ spells.number)
    ]

pub has_rules-requires : goal.has_rules-requires
has_rules-requires c = blob_fits table_field 0 c.args.bytes.now c.in-Some.body.now c.in-Some.ensures.found (λ i. omega (arith, c.type_inv.bytes i)) c.in_ok-table.table c.in_ok-table.rest.now c.in_ok-table.ensures

pub returns-then-not-branch-clause-none : goal.returns-then-not-branch-clause-none
returns-then-not-branch-clause-none c spelling t spells =
    let same = blob_other table_field 0 c.args.bytes.now c.in-Some.body.now c.in-Some.ensures.found c.in_ok-table.table c.in_ok-table.rest.now c.in_ok-table.ensures t (has_widths t spells.rules) spells.spelled in
    let passes = c.in_ok-has_rules.ensures.no (subst IsTable (sym same.0) spells.rules) in
    absurd (cc (sym passes ∙ c.if-not-branch.true))

pub returns-clause-found : goal.returns-clause-found
returns-clause-found c = record {
  number = c.if-table-id.false;
  rules = c.in_ok-has_rules.ensures.yes c.if-not-branch.false;
  spelled =
      blob_spelled table_field 0 c.args.bytes.now c.in-Some.body.now c.in-Some.ensures.found (λ i. omega (arith, c.type_inv.bytes i)) c.in_ok-table.table c.in_ok-table.rest.now c.in_ok-table.ensures
      (eqb-true _ _ (sym c.is_empty.ensures ∙ c.if-not-is_empty.false));
}
