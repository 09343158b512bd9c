use Rattle.std.proofs.Common.{ap, ◌∙◌, List}
use Rattle.std.specs.List.{list_any}
use Rattle.vault_types.specs.declared.TableRow.{TableRow}
use Rattle.vault_types.specs.Names.{same_fp}
use Rattle.sampled_index.proofs.Looking.{row_more, all_rows}
use Rattle.sampled_index.proofs.tables.fps_of.Goals as goal

pub loop-row-preserved : goal.loop-row-preserved
loop-row-preserved c = λ f. row_more f c.as_slice-rows.result.now c.loop-row.row-index _ c.loop-row-test.true _ _ (c.loop-row.invariant f) (c.in_ok-insert.ensures.updates.0 f)

pub returns : goal.returns
returns c = λ f. c.loop-row.invariant f ∙ all_rows f c.as_slice-rows.result.now c.loop-row.row-index c.loop-row-test.false ∙ ap (λ (rows : List TableRow). list_any (λ r. same_fp r.fp f) rows) c.as_slice-rows.ensures
