-- A pin of a kept version.
use Rattle.std.specs.Prelude.{◌≡◌, ◌++◌, ◌∷◌, [], ℕ, List, false, Result, IfOk, OnErr, IsSome, Contains, Some}
use Rattle.std.specs.List.{AllByRecursion}
use Rattle.vault_types.specs.declared.Fault.{Fault}
use Rattle.vault_types.specs.Lists.{has}
use Rattle.vault_types.specs.Tables.{Container}
use Rattle.vault_types.specs.State.{KeptVersion, version_of}
use Rattle.vault_types.specs.Events.{Core, Pin, after_pin, with_pins}
use Rattle.vault_traits.specs.Causes.{HasCauses}
use Rattle.restore_pins.specs.Pins.{numbers}
use Rattle.keeper_catalog.specs.View.{View, Keeps, HasCore}
use Rattle.keeper_core.specs.declared.pinning.Pinned.{Pinned}
use Rattle.keeper_core.specs.Calls.{IsPinned, IsPinDamage, IsWholeOf, HasListed}

-- version n of the set is pinned
pub record PinsVersion (s n : ℕ) (u v : View) (result : Result Pinned Fault) : Type 0 where
  -- over a shelf that tells its blobs the pin has the containers of the version, and what is given is of it
  pub ok : IfOk result (λ p. IsSome u.told.blobs → (K : Core) (k : KeptVersion) → Keeps u K
      → version_of K.state s n ≡ Some k
      → Keeps v (after_pin p.no s n k K) × IsPinned K.state k p.length p.spots.items p.whole)
  pub whole : IfOk result (λ p. IsSome u.told.blobs → (K : Core) (k : KeptVersion) → Keeps u K
      → version_of K.state s n ≡ Some k → IsWholeOf u.told.blobs s n k p.whole)
  -- over any shelf one pin is added, of containers of the store; its number is new, and it lists the container of each
  -- spot
  pub pinned : IfOk result (λ p. (K : Core) → Keeps u K
      → (pin : Pin) × (pin.number ≡ p.no)
      × ((c : Container) → Contains pin.containers c → Contains K.state.containers c)
      × Keeps v (with_pins (K.pins ++ pin ∷ []) K.strays K))
  pub given : IfOk result (λ p. (ids : List ℕ)
      × (v.pins ≡ u.pins ++ record { number = p.no; version = n; ids = ids } ∷ []))
  pub fresh : IfOk result (λ p. has p.no (numbers u.pins) ≡ false)
  pub lists : IfOk result (λ p. (K : Core) → Keeps v K → AllByRecursion (HasListed K.pins p.no) p.spots.items)
  -- some core is kept; a refusal leaves each, and pins nothing
  pub core : HasCore v
  pub err : OnErr result (((K : Core) → Keeps u K → Keeps v K) × (v.pins ≡ u.pins))
  -- all else stays, no payload is got, and each refusal has its cause
  pub same : (v.memo ≡ u.memo) × (v.index ≡ u.index) × (v.job ≡ u.job) × (v.pending ≡ u.pending)
  pub shelf : (v.told.blobs ≡ u.told.blobs) × (v.told.history ≡ u.told.history) × (v.told.gets ≡ u.told.gets)
  pub causes : (K : Core) → Keeps u K
      → HasCauses u.told.faults v.told.faults (IsPinDamage u.told.blobs K.state s n) result
