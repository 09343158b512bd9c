-- What was written of some bytes.
use Rattle.std.specs.Prelude.{◌≡◌, ℕ, ◌≤◌, ◌-◌, List, ◌++◌, take, drop, Option, is_some, IfSome, length}
use Rattle.vault_traits.specs.Told.{SinkTold, Takes}
use Rattle.fingerprint_stage.specs.declared.running_sum.RunningSum.{RunningSum}
use Rattle.fingerprint_stage.specs.Sums.{HasSummed}

-- the sum, if there is one, is that of these bytes so far
abbrev pub IsSumOf : Option RunningSum → List ℕ → Type 0
IsSumOf sum bytes = IfSome sum (λ s. HasSummed s bytes)

-- all these bytes were written, and the sum, if there is one, has them too
pub record IsWrittenWithSum (bytes : List ℕ) (before now : SinkTold)
    (sum sum' : Option RunningSum) : Type 0 where
  pub taken : Takes before.taken now.taken bytes
  pub summed : (x : List ℕ) → IsSumOf sum x → IsSumOf sum' (x ++ bytes)
  pub kept : is_some sum' ≡ is_some sum
  pub later : before.faults ≤ now.faults

-- of these bytes a front was written, and the payload's bytes from `start` to `end` wait behind it
pub record IsWaiting (payload bytes : List ℕ) (start end : ℕ) (before now : SinkTold)
    (sum sum' : Option RunningSum) : Type 0 where
  pub front : List ℕ
  pub parts : front ++ take (end - start) (drop start payload) ≡ bytes
  pub ordered : start ≤ end
  pub within : end ≤ length payload
  pub written : IsWrittenWithSum front before now sum sum'
