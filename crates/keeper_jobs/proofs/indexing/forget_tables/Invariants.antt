use Rattle.std.proofs.Common.{◌≡◌, ◌≤◌, ◌&&◌, ℕ, cond, None, length}
use Rattle.std.specs.Prelude.{nat_le, nat_lt}
use Rattle.keeper_catalog.specs.Catalog.{table_at}
use Rattle.keeper_jobs.proofs.indexing.forget_tables.Given as goal

abbrev pub invariant-loop-id : goal.invariant-loop-id
invariant-loop-id l = record {
  gone : (id : ℕ) → table_at l.tables.entries id ≡ cond (nat_le l.first id && nat_lt id l.id-counter) None (table_at l.initial.tables.entries id);
  fewer : length l.tables.entries ≤ length l.initial.tables.entries;
}
