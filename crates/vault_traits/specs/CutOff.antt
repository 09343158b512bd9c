-- A sink that failed within some bytes.
use Rattle.std.specs.Prelude.{◌≡◌, ℕ, ◌<◌, List, ◌++◌, length}
use Rattle.vault_traits.specs.Counts.{Rose}
use Rattle.vault_traits.specs.Told.{SinkTold, Takes}

-- the sink failed, and before that a front of the bytes was written, but not all
pub record IsCutOff (bytes : List ℕ) (before now : SinkTold) : Type 0 where
  pub failed : Rose before.faults now.faults
  pub front : List ℕ
  pub rest : List ℕ
  pub short : 0 < length rest
  pub parts : front ++ rest ≡ bytes
  pub taken : Takes before.taken now.taken front
