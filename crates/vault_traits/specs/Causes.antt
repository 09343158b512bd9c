-- Why a call over a shelf was refused.
use Rattle.std.specs.Prelude.{◌≡◌, ◌≤◌, ℕ, Result, IfErr}
use Rattle.vault_types.specs.declared.Kind.{Kind}
use Rattle.vault_types.specs.declared.Why.{Why}
use Rattle.vault_types.specs.declared.Fault.{Fault}
use Rattle.vault_types.specs.declared.Fault.TheVariants as fault
use Rattle.vault_traits.specs.declared.names.Refused.{Refused}
use Rattle.vault_traits.specs.declared.names.Refused.TheVariants as refused
use Rattle.vault_traits.specs.Counts.{Rose}

-- the fault of a shelf call that was refused, when the shelf had failed so often
abbrev pub fault_of : ℕ → Refused → Fault
fault_of faults refused.Failed = fault.StoreFault faults
fault_of faults refused.Memory = fault.Memory

-- a fault of a call: the shelf failed in it, and the number is the count then; no memory; or damage
-- that was shown
abbrev pub IsCause : ℕ → ℕ → (Kind → ℕ → Why → Type 0) → Fault → Type 0
IsCause before now IsShown (fault.StoreFault n) = (n ≡ now) × Rose before now
IsCause before now IsShown (fault.Damaged kind number why) = IsShown kind number why
IsCause before now IsShown fault.Memory = Unit {0}
IsCause before now IsShown other = ⊥

-- no damage is shown
abbrev pub IsUndamaged : Kind → ℕ → Why → Type 0
IsUndamaged kind number why = ⊥

-- the count of the shelf's faults hasn't fallen, and each fault has its cause
pub record HasCauses {T : Type 0} (before now : ℕ) (IsShown : Kind → ℕ → Why → Type 0)
    (result : Result T Fault) : Type 0 where
  pub later : before ≤ now
  pub each : IfErr result (IsCause before now IsShown)

-- the same of a call that takes no memory and shows no damage
abbrev pub IsStoreFault : ℕ → ℕ → Fault → Type 0
IsStoreFault before now (fault.StoreFault n) = (n ≡ now) × Rose before now
IsStoreFault before now other = ⊥

pub record HasStoreFault {T : Type 0} (before now : ℕ) (result : Result T Fault) : Type 0 where
  pub later : before ≤ now
  pub each : IfErr result (IsStoreFault before now)
