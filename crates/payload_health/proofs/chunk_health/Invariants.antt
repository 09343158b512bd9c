use Rattle.std.proofs.Common.{◌≡◌, length, drop}
use Rattle.vault_types.specs.Tables.{payload_len}
use Rattle.payload_health.specs.Health.{first_bad}
use Rattle.payload_health.proofs.chunk_health.Given as goal

-- the rows so far have good chunks, and the rest of the payload is that of the other rows
abbrev pub invariant-loop-row : goal.invariant-loop-row
invariant-loop-row l =
    (l.number ≡ l.row-index)
    × (first_bad 0 l.rows l.payload ≡ first_bad l.row-index (drop l.row-index l.rows) l.rest)
    × (length l.rest ≡ payload_len (drop l.row-index l.rows))
