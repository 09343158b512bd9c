-- The ranges of what the grammar lets through, and of the limits of a run.
use Rattle.std.specs.Prelude.{◌≤◌, ℕ}
use Rattle.vault_types.specs.declared.Limits.{Limits}
use Rattle.vault_types.specs.declared.Line.{Line}
use Rattle.vault_types.specs.declared.Line.TheVariants as line
use Rattle.vault_types.specs.declared.Command.{Command}
use Rattle.vault_types.specs.declared.Command.TheVariants as command
use Rattle.vault_types.specs.JobRanges.{IsInRange}

-- how many items a line between two threads holds
pub record IsQueue (n : ℕ) : Type 0 where
  pub low : 1 ≤ n
  pub high : n ≤ 1024

-- how many threads do one kind of work side by side
pub record IsThreadCount (n : ℕ) : Type 0 where
  pub low : 1 ≤ n
  pub high : n ≤ 8

-- how a run uses threads: the room of its lines, the lanes that name chunks, and the restores that run
-- beside later lines
pub record AreThreadSettings (q l w : ℕ) : Type 0 where
  pub queue : IsQueue q
  pub lanes : IsThreadCount l
  pub workers : IsThreadCount w

-- the settings of a line are in their ranges
abbrev pub IsLineInRange : Line → Type 0
IsLineInRange (line.Backup set name config) = IsInRange config
IsLineInRange (line.Restore set version name cache) = (1 ≤ cache) × (cache ≤ 64)
IsLineInRange (line.Delete set through) = Unit {0}

-- those of a command
abbrev pub IsCommandInRange : Command → Type 0
IsCommandInRange (command.Backup set config queue lanes sample) =
    IsInRange config × AreThreadSettings queue lanes 1
IsCommandInRange (command.Restore set version cache area) = (1 ≤ cache) × (cache ≤ 64)
IsCommandInRange (command.Batch queue lanes workers) = AreThreadSettings queue lanes workers
IsCommandInRange (command.Fill seed versions queue lanes workers) =
    (1 ≤ versions) × (versions ≤ 64) × AreThreadSettings queue lanes workers
IsCommandInRange other = Unit {0}

-- limits within the standard ones
pub record AreLimits (limits : Limits) : Type 0 where
  pub chunks_low : 1 ≤ limits.chunks
  pub chunks_high : limits.chunks ≤ 4194304
  pub last_low : 1 ≤ limits.last
  pub last_high : limits.last ≤ 4294967294
  pub script_low : 1 ≤ limits.script
  pub script_high : limits.script ≤ 1048576
