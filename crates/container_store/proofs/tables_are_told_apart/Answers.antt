use Rattle.std.proofs.Common.{◌∙◌, ◌++◌, List, ℕ, sym, ap}
use Rattle.blob_parts.proofs.Fields.{blob_same}
use Rattle.container_store.proofs.TableLemmas.{has_widths}
use Rattle.container_store.proofs.TableField.{table_field}
use Rattle.container_store.proofs.tables_are_told_apart.Goals as goal

pub returns-clause-one : goal.returns-clause-one
returns-clause-one c id t a b first second = first.spelled ∙ sym second.spelled

pub returns-clause-apart : goal.returns-clause-apart
returns-clause-apart c id t u a b more first second e =
    blob_same table_field 0 t u more (has_widths t first.rules) (has_widths u second.rules) (ap (λ (x : List ℕ). x ++ more) (sym first.spelled) ∙ e ∙ second.spelled)
