use Rattle.std.proofs.Common.{◌-◌, ◌≤◌, length}
use Rattle.folder_shelf.proofs.folder.read_whole.Given as goal

abbrev pub invariant-loop-done : goal.invariant-loop-done
invariant-loop-done g l = l.done ≤ length l.bytes.items

abbrev pub decreases-loop-done : goal.decreases-loop-done
decreases-loop-done g l = l.len - l.done
