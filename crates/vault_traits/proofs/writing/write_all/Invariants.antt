use Rattle.std.proofs.Common.{◌≤◌, ◌-◌, length, take}
use Rattle.vault_traits.specs.Told.{Takes}
use Rattle.vault_traits.proofs.writing.write_all.Given as goal

abbrev pub decreases-loop-done : goal.decreases-loop-done
decreases-loop-done g l = length l.bytes - l.done

abbrev pub invariant-loop-done : goal.invariant-loop-done
invariant-loop-done g l =
    let s = g.K.Sink in
    record {
      within : l.done ≤ length l.bytes;
      taken : Takes ((s.told l.fn.sink).taken) ((s.told l.sink).taken) (take l.done l.bytes);
      later : (s.told l.fn.sink).faults ≤ (s.told l.sink).faults;
    }
