-- What a keeper keeps between two lines.
use Rattle.std.specs.Prelude.{◌≡◌, List, [], Option, None, IsSome, IfSome, Contains}
use Rattle.vault_types.specs.declared.Name.{Name}
use Rattle.vault_types.specs.declared.Pending.TheVariants as pending
use Rattle.vault_traits.specs.Crash.{LeavesNowIfTold}
use Rattle.vault_types.specs.State.{State, IsValid}
use Rattle.vault_types.specs.Events.{Core, Change, Pin, IsNear}
use Rattle.keeper_catalog.specs.View.{View, Keeps}

-- over a shelf that tells its blobs, with no job and these pins, the keeper keeps the state, and a
-- failed write may have made the change, whose state is valid; where no mending is due, a crash
-- leaves only what is near the state
pub record IsStateWith (v : View) (ps : List Pin) (S : State) (other : Option Change) : Type 0 where
  pub core : Core
  pub keeps : Keeps v core
  pub state : core.state ≡ S
  pub change : core.other ≡ other
  pub job : core.job ≡ None
  pub pins : core.pins ≡ ps
  pub told : IsSome v.told.blobs
  pub changed : IfSome other (λ h. IsValid h.state)
  pub images : v.pending ≡ pending.Not → LeavesNowIfTold v.told.history (IsNear S other)

-- so with no pin
abbrev pub IsStateOf : View → State → Option Change → Type 0
IsStateOf v S other = IsStateWith v [] S other

-- the keeper knows the name as a stray
abbrev pub IsKnownStray : View → Name → Type 0
IsKnownStray v n = Contains v.memo.strays n
