use Rattle.std.proofs.Common.{ℕ, ◌+◌, ◌<◌, ◌≤◌, List, ◌++◌, take}
use Rattle.chunk_ae.specs.Scans.{IsScan}
use Rattle.chunk_ae.proofs.scan.scan_piece.Given as goal

abbrev pub invariant-loop-i : goal.invariant-loop-i
invariant-loop-i l = record {
  below : l.i < l.stop;
  within : l.start.len + l.stop ≤ l.max;
  scan : (x : List ℕ) → IsScan l.window l.max x l.start
      → IsScan l.window l.max (x ++ take l.i l.piece) (record { len = l.start.len + l.i; recent = l.recent; peak = l.peak; end = l.start.len + l.stop });
}
