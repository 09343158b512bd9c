-- Counts of faults: a count rises at each failure until it stands at the last value of a u64.
use Rattle.std.specs.Prelude.{◌≤◌, ◌+◌, ◌-◌, ◌^◌, min, max, ℕ, zero, suc, List, [], ◌∷◌, Result, OnErr, IsErrOf}
use Rattle.vault_traits.specs.declared.names.Failed.{Failed}
use Rattle.vault_traits.specs.declared.names.Refused.{Refused}
use Rattle.vault_traits.specs.declared.names.Refused.TheVariants as refused

-- one more, until the last value
abbrev pub counted : ℕ → ℕ
counted n = max n (min (n + 1) (2 ^ 64 - 1))

-- so many more, until the last value
abbrev pub added : ℕ → ℕ → ℕ
added n m = max n (min (n + m) (2 ^ 64 - 1))

-- the count after so many
abbrev pub counted_up : ℕ → ℕ → ℕ
counted_up n zero = n
counted_up n (suc m) = counted (counted_up n m)

-- it rose, or stands at the last value
abbrev pub Rose : ℕ → ℕ → Type 0
Rose before now = counted before ≤ now

-- the count of faults hasn't fallen, and `Failed` has a fault behind it
pub record HasCause {T : Type 0} (before now : ℕ) (result : Result T Refused) : Type 0 where
  pub later : before ≤ now
  pub failed : IsErrOf result refused.Failed → Rose before now

pub record HasFailed {T : Type 0} (before now : ℕ) (result : Result T Failed) : Type 0 where
  pub later : before ≤ now
  pub failed : OnErr result (Rose before now)

-- each number lies above the one before it, the first above the count before, and the last not
-- above the count now
abbrev pub RiseFrom : ℕ → List ℕ → ℕ → Type 0
RiseFrom before [] now = before ≤ now
RiseFrom before (n ∷ ns) now = Rose before n × RiseFrom n ns now
