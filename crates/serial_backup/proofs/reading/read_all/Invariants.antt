use Rattle.std.proofs.Common.{◌≡◌, ◌+◌, ◌-◌, List, ℕ, [], length}
use Rattle.backup_pass.specs.Passing.{index_in}
use Rattle.backup_jobs.specs.Going.{Began}
use Rattle.serial_backup.specs.Streaming.{IsGoing}
use Rattle.serial_backup.proofs.reading.read_all.Given as goal

abbrev pub decreases-loop-count : goal.decreases-loop-count
decreases-loop-count g l = (l.most + 1) - l.count

abbrev pub invariant-loop-count : goal.invariant-loop-count
invariant-loop-count g l =
    record {
      index : index_in l.pass ≡ index_in l.fn.pass;
      room : length l.piece ≡ 65536;
      going : (b : Began) → IsGoing b l.fn.keeper (g.I.Source.told l.fn.source) l.fn.pass l.fn.lens.items []
          → (read : List ℕ) × IsGoing b l.keeper (g.I.Source.told l.source) l.pass l.lens.items read × (l.count ≡ length read);
    }
