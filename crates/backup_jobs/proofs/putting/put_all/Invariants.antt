use Rattle.std.proofs.Common.{◌≡◌, List, map, ◌++◌, length, ◌≤◌}
use Rattle.std.specs.Vec.Iter.{into_iter_items}
use Rattle.vault_types.specs.Tables.{Container}
use Rattle.backup_jobs.specs.Going.{Began, AreNamed, AreNumbered, IsUnderway, len_of}
use Rattle.backup_jobs.proofs.putting.put_all.Given as goal

abbrev pub invariant-loop-one : goal.invariant-loop-one
invariant-loop-one g l =
    record {
      rest : l.fn.sealed.items ≡ l.yielded ++ into_iter_items l.one-iterator;
      underway : (b : Began) (before : List Container) → AreNumbered b.first (before ++ l.fn.sealed.items) → length (before ++ l.fn.sealed.items) ≤ b.limits.chunks
          → IsUnderway b l.fn.keeper before → IsUnderway b l.keeper (before ++ l.yielded);
      waits : l.keeper.pending ≡ l.fn.keeper.pending;
      named : AreNamed l.fn.keeper l.keeper l.yielded;
      lens : l.lens.items ≡ l.fn.lens.items ++ map len_of l.yielded;
    }
