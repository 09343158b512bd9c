-- Calls that failed, and their counts.
use Rattle.std.specs.Prelude.{ℕ, Bool, true, false, cond, Result, Ok, Err}
use Rattle.vault_traits.specs.declared.names.Refused.{Refused}
use Rattle.vault_traits.specs.declared.names.Refused.TheVariants as refused
use Rattle.vault_traits.specs.Counts.{counted}

-- the count of faults after a call that failed, or did not
abbrev pub counted_if : Bool → ℕ → ℕ
counted_if failed n = cond failed (counted n) n

-- the device failed
abbrev pub is_failed : {T : Type 0} → Result T Refused → Bool
is_failed (Ok x) = false
is_failed (Err refused.Failed) = true
is_failed (Err refused.Memory) = false
