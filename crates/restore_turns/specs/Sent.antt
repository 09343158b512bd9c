-- What the keeper's side of a restore that runs sends to its stage. u is the keeper behind the pin.
use Rattle.std.specs.Prelude.{◌≡◌, ℕ, List, Option, Some, None, IsSome}
use Rattle.std.specs.List.{AllByRecursion}
use Rattle.vault_types.specs.declared.Fault.{Fault}
use Rattle.vault_types.specs.declared.Fault.TheVariants as fault
use Rattle.vault_types.specs.declared.Spot.{Spot}
use Rattle.vault_types.specs.BlobDamage.{IsPayloadOf}
use Rattle.vault_types.specs.Events.{Core}
use Rattle.vault_types.specs.Tables.{Container}
use Rattle.keeper_catalog.specs.View.{View, Keeps}
use Rattle.keeper_core.specs.Calls.{Lists}
use Rattle.serial_restore.specs.Going.{HasPinned, IsBadPayload}
use Rattle.restore_stage.specs.declared.Loaded.{Loaded}
use Rattle.restore_stage.specs.declared.Loaded.TheVariants as loaded

-- the payload of the pinned container of this id, in each core that was kept behind the pin
pub record IsOwnPayload (u : View) (number id : ℕ) (bytes : List ℕ) : Type 0 where
  pub whole : (K : Core) (c : Container) → Keeps u K → Lists K.pins number id c → IsPayloadOf c.table bytes
  pub own : IsSome u.told.blobs → (K : Core) (c : Container) → Keeps u K → Lists K.pins number id c
      → c.payload ≡ Some bytes

-- the number of a store fault
abbrev pub number_of : Fault → Option ℕ
number_of (fault.StoreFault n) = Some n
number_of other = None

-- why a load failed: the shelf failed, and this is the number that was met; a payload of the pin was
-- damaged behind the pin, as it is now; or there was no memory
abbrev pub IsLoadFault : View → ℕ → List Spot → Option ℕ → Fault → Type 0
IsLoadFault u number spots met (fault.StoreFault n) = met ≡ Some n
IsLoadFault u number spots met (fault.Damaged k n y) =
    (K : Core) → HasPinned u number spots K → IsBadPayload u.told.blobs K.pins number k n y
IsLoadFault u number spots met fault.Memory = Unit {0}
IsLoadFault u number spots met other = ⊥

abbrev pub IsSent : View → ℕ → List Spot → Option ℕ → Loaded → Type 0
IsSent u number spots met (loaded.Payload p) = IsOwnPayload u number p.id p.bytes.items
IsSent u number spots met (loaded.Failed f) = IsLoadFault u number spots met f

abbrev pub AreSent : View → ℕ → List Spot → Option ℕ → List Loaded → Type 0
AreSent u number spots met items = AllByRecursion (IsSent u number spots met) items

-- a payload
abbrev pub IsPart : Loaded → Type 0
IsPart (loaded.Payload p) = Unit {0}
IsPart (loaded.Failed f) = ⊥
