-- What the release of a pin does to the shelf, to the memory and to the pins.
use Rattle.std.specs.Prelude.{◌≡◌, ◌⊎◌, ◌≤◌, ◌<◌, ◌+◌, ◌-◌, ◌^◌, ◌++◌, ℕ, List, length, Contains, IsSome}
use Rattle.vault_types.specs.declared.Name.{Name}
use Rattle.vault_types.specs.Shelf.{blob_at}
use Rattle.vault_types.specs.Events.{Core, IsNear, after_release, pins_without}
use Rattle.vault_traits.specs.Told.{ShelfTold}
use Rattle.vault_traits.specs.Crash.{LeavesNowIfTold, LeavesOnlyIfTold}
use Rattle.restore_pins.specs.Pins.{Listed, AreListsOf, without_pin}
use Rattle.state_laws.specs.Parts.{HeldIfTold}
use Rattle.keeper_catalog.specs.Catalog.{Memo, IsMemoOf, HasRoom}
use Rattle.deletion_laws.specs.Releasing.{IsReleased}
use Rattle.keeper_removals.specs.Removals.{Releasing}

-- the release of the pin of this number: from the memory m to l, from these pins to the rest, and
-- over a shelf that told this before and tells that now
pub record ReleasesPin (no : ℕ) (m l : Memo) (listed rest : List Listed)
    (before now : ShelfTold) : Type 0 where
  -- the memory, the pins and the shelf are those of the core after it, and no other blob changes
  pub memo : (K : Core) → Releasing m listed K → IsMemoOf l (after_release no l.strays K)
  pub pins : (K : Core) → Releasing m listed K → AreListsOf rest (pins_without no K.pins)
  pub left : rest ≡ without_pin no listed
  pub held : (K : Core) → Releasing m listed K → HeldIfTold before.blobs K
      → HeldIfTold now.blobs (after_release no l.strays K)
  pub others : (K : Core) → Releasing m listed K → (q : Name) → (IsReleased K no q → ⊥)
      → blob_at now.blobs q ≡ blob_at before.blobs q
  -- a crash at any moment leaves what it could leave before
  pub any_moment : (K : Core) → Releasing m listed K → LeavesNowIfTold before.history (IsNear K.state K.other)
      → LeavesOnlyIfTold before.history now.history (IsNear K.state K.other)
  -- each stray was one before or is a name that the release leaves, none goes, and at most one comes for each failure
  pub within : (K : Core) → Releasing m listed K → (q : Name) → Contains l.strays q
      → Contains m.strays q ⊎ IsReleased K no q
  pub few : now.faults < 2 ^ 64 - 1 → length l.strays + before.faults ≤ length m.strays + now.faults
  pub added : (added : List Name) × (l.strays ≡ m.strays ++ added)
  pub room : HasRoom l
  pub tells : IsSome before.blobs → IsSome now.blobs
  pub gets : now.gets ≡ before.gets
  pub later : before.faults ≤ now.faults
