-- The keeper's side of a restore that runs beside lines.
use Rattle.std.specs.Prelude.{◌≡◌, ◌≢◌, ◌⊎◌, ℕ, ◌+◌, ◌≤◌, List, [], ◌∷◌, ◌++◌, map, length, Contains, Option, Some, None}
use Rattle.std.specs.List.{AllByRecursion}
use Rattle.vault_types.specs.declared.Spot.{Spot}
use Rattle.vault_types.specs.Events.{Core, Change, Pin}
use Rattle.vault_types.specs.State.{State}
use Rattle.vault_traits.specs.Counts.{Rose, RiseFrom}
use Rattle.keeper_catalog.specs.View.{View}
use Rattle.keeper_core.specs.Keeping.{IsStateWith}
use Rattle.serial_restore.specs.Going.{HasPinned}
use Rattle.restore_stage.specs.declared.Loaded.{Loaded}
use Rattle.restore_stage.specs.Assembling.{ids}
use Rattle.pin_laws.specs.Following.{Follows}
use Rattle.restore_turns.specs.Sent.{AreSent, IsPart}

-- what a keeper keeps between two lines, with whatever pins
abbrev pub IsStateBeside : View → State → Option Change → Type 0
IsStateBeside v S other = (pins : List Pin) × IsStateWith v pins S other

-- so many of these loads were tried: the payloads of those in front are sent, and at most the last
-- one failed
pub record AreTried (loads : List ℕ) (got : ℕ) (sent : List Loaded) : Type 0 where
  pub left : List ℕ
  pub parts : ids sent ++ left ≡ loads
  pub count : (got ≡ length (ids sent)) ⊎ ((got ≡ length (ids sent) + 1) × (left ≢ []))

-- u is the keeper behind the pin, and now the one of this moment, which still has the pin. These
-- loads are planned, and so many of them tried; the number of a store fault may have been met; and
-- these items were sent, or are held to be sent
pub record IsEntry (u now : View) (number : ℕ) (spots : List Spot) (loads : List ℕ) (got : ℕ) (met : Option ℕ)
    (sent : List Loaded) : Type 0 where
  pub follows : Follows u now number
  pub later : u.told.faults ≤ now.told.faults
  pub core : (K : Core) × HasPinned u number spots K
  pub asked : (id : ℕ) → Contains loads id → Contains (map (λ s. s.id) spots) id
  pub all : AreSent u number spots met sent
  pub tried : AreTried loads got sent
  pub rose : (m : ℕ) → met ≡ Some m → Rose u.told.faults m

-- no load has failed
pub record IsGoing (got : ℕ) (met : Option ℕ) (sent : List Loaded) : Type 0 where
  pub none : met ≡ None
  pub count : got ≡ length (ids sent)
  pub parts : AllByRecursion IsPart sent

-- the number of a store fault that was met is as before, or the first, which was counted then
abbrev pub MeetsFirst : ℕ → Option ℕ → Option ℕ → ℕ → Type 0
MeetsFirst before was met now =
    ((met ≡ was) × (before ≤ now))
    ⊎ ((was ≡ None) × ((m : ℕ) × (met ≡ Some m) × RiseFrom before (m ∷ []) now))
