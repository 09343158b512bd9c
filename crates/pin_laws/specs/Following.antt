-- A keeper that goes on: what its shelf told it tells, and a pin of this number stays.
use Rattle.std.specs.Prelude.{◌≡◌, ℕ, List, Contains, IsSome}
use Rattle.vault_types.specs.Events.{Core, Pin}
use Rattle.keeper_catalog.specs.View.{View, Keeps}

-- a shelf that told its blobs tells them
abbrev pub GoesOnTelling : View → View → Type 0
GoesOnTelling was now = IsSome was.told.blobs → IsSome now.told.blobs

-- each pin of this number stays
abbrev pub StaysPinned : ℕ → List Pin → List Pin → Type 0
StaysPinned number before now = (p : Pin) → p.number ≡ number → Contains before p → Contains now p

-- a core that is kept now, with the pins of this number that the core K had
pub record HasNow (now : View) (number : ℕ) (K : Core) : Type 0 where
  pub core : Core
  pub keeps : Keeps now core
  pub pinned : StaysPinned number K.pins core.pins

-- for each core that was kept there is one that is kept now
pub record Follows (was now : View) (number : ℕ) : Type 0 where
  pub tells : GoesOnTelling was now
  pub cores : (K : Core) → Keeps was K → HasNow now number K
