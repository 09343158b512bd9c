use Rattle.std.proofs.Common.{◌<◌, ◌-◌, ◌++◌, List}
use Rattle.std.specs.List.{AllByRecursion}
use Rattle.vault_types.specs.declared.Table.{Table}
use Rattle.fp_index.specs.Index.{IsIndexOf}
use Rattle.keeper_jobs.specs.Jobs.{tables_from}
use Rattle.keeper_jobs.proofs.indexing.drop_tables.Given as goal

abbrev pub invariant-loop-id : goal.invariant-loop-id
invariant-loop-id l = (known : List Table) → AllByRecursion (λ t. t.id < l.first) known → IsIndexOf l.initial.index (known ++ tables_from l.tables.entries l.first (l.next - l.first))
    → IsIndexOf l.index (known ++ tables_from l.tables.entries l.id (l.next - l.id))
