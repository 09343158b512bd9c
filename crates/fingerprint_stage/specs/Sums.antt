-- Sums of a stream.
use Rattle.std.specs.Prelude.{ℕ, List}
use Rattle.sha1.specs.Sha1.{Holds}
use Rattle.fingerprint_stage.specs.declared.running_sum.RunningSum.{RunningSum}

-- the bytes that were added to the sum, one after another, are x
abbrev pub HasSummed : RunningSum → List ℕ → Type 0
HasSummed s x = Holds s.hasher x
