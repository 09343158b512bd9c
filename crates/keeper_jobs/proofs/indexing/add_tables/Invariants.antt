use Rattle.std.proofs.Common.{◌-◌, ◌++◌, List}
use Rattle.vault_types.specs.declared.Table.{Table}
use Rattle.fp_index.specs.Index.{IsIndexOf}
use Rattle.keeper_jobs.specs.Jobs.{tables_from}
use Rattle.keeper_jobs.proofs.indexing.add_tables.Given as goal

abbrev pub invariant-loop-id : goal.invariant-loop-id
invariant-loop-id l = (known : List Table) → IsIndexOf l.initial.index known → IsIndexOf l.index (known ++ tables_from l.tables.entries l.first (l.id - l.first))
