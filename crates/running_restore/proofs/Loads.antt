-- A load of a restore that runs: what the keeper's call gives.
use Rattle.std.proofs.Common.{◌≡◌, inl, ℕ, zero, suc, ◌<◌, ◌≤◌, List, [], ◌∷◌, drop, length, Option, refl, arith}
use Rattle.std.specs.Prelude.{IsSome, Some, slice_index_or}
use Rattle.vault_types.specs.declared.Fault.{Fault}
use Rattle.vault_types.specs.declared.Spot.{Spot}
use Rattle.vault_types.specs.BlobDamage.{IsPayloadOf, IsPayloadDamage}
use Rattle.vault_types.specs.Events.{Core}
use Rattle.vault_types.specs.Tables.{Container}
use Rattle.vault_traits.specs.Causes.{IsCause}
use Rattle.vault_traits.specs.Counts.{counted}
use Rattle.keeper_catalog.specs.View.{View, Keeps}
use Rattle.keeper_core.specs.Calls.{Lists}
use Rattle.restore_assembler.specs.declared.payload.Payload.{Payload}
use Rattle.restore_stage.specs.declared.Loaded.{Loaded}
use Rattle.restore_stage.specs.declared.Loaded.TheVariants as loaded
use Rattle.serial_restore.specs.Going.{Stays}
use Rattle.restore_turns.specs.Entry.{IsEntry, IsGoing}
use Rattle.restore_turns.proofs.Turns.{turn_asks, turn_gives, turn_fails, turn_meets}
use Rattle.running_restore.specs.Feeding.{HasLoaded}

-- the element at a place, and those behind it
drop_at : (xs : List ℕ) (k : ℕ) → k < length xs → drop k xs ≡ slice_index_or xs k 0 ∷ drop (suc k) xs
drop_at [] k low = absurd (omega (arith, low))
drop_at (x ∷ xs) zero low = refl
drop_at (x ∷ xs) (suc k) low = drop_at xs k (omega (arith, low))

-- a load leaves all but the counts
pub load_stays : (v w : View) → ((K : Core) → Keeps v K → Keeps w K) → (w.memo ≡ v.memo) × (w.index ≡ v.index) × (w.pins ≡ v.pins) × (w.job ≡ v.job) × (w.pending ≡ v.pending) → (w.told.blobs ≡ v.told.blobs) × (w.told.history ≡ v.told.history) × (w.told.gets ≡ counted v.told.gets)
    → v.told.faults ≤ w.told.faults → Stays v w
load_stays v w keeps same shelf later = record { memo = same.0; index = same.1; pins = same.2; job = same.3; pending = same.4; blobs = shelf.0; history = shelf.1; later = later; keeps = keeps }

module _ (u v w : View) (number : ℕ) (spots : List Spot) (ids : List ℕ) (at : ℕ) (met : Option ℕ) (sent : List Loaded) (e : IsEntry u v number spots ids at met sent) (going : IsGoing at met sent) (here : at < length ids) where
  pub asks_at : (J : Core) × (c : Container) × Keeps v J × Lists J.pins number (slice_index_or ids at 0) c
  asks_at = turn_asks u v w number spots ids at met sent e going (slice_index_or ids at 0) (drop (suc at) ids) (drop_at ids at here)

  pub loaded_at : Stays v w → (p : Payload) → p.id ≡ slice_index_or ids at 0 → (IsSome v.told.blobs → (J : Core) (c : Container) → Keeps v J → Lists J.pins number (slice_index_or ids at 0) c → c.payload ≡ Some p.bytes.items)
      → ((J : Core) (c : Container) → Keeps v J → Lists J.pins number (slice_index_or ids at 0) c → IsPayloadOf c.table p.bytes.items) → HasLoaded u v w number spots ids at met sent (loaded.Payload p)
  loaded_at stays p is given whole =
      let h = turn_gives u v w number spots ids at met sent e going (slice_index_or ids at 0) (drop (suc at) ids) (drop_at ids at here) stays p is given whole in
      record { entry = h.0; going = λ part. h.1; meets = inl (refl, stays.later) }

  pub failed_at : Stays v w → (f : Fault) → ((J : Core) (c : Container) → Keeps v J → Lists J.pins number (slice_index_or ids at 0) c → IsCause v.told.faults w.told.faults (IsPayloadDamage v.told.blobs c.table) f) → HasLoaded u v w number spots ids at met sent (loaded.Failed f)
  failed_at stays f cause = record {
    entry = turn_fails u v w number spots ids at met sent e going (slice_index_or ids at 0) (drop (suc at) ids) (drop_at ids at here) stays f cause;
    going = λ part. absurd part;
    meets = turn_meets u v w number spots ids at met sent e going (slice_index_or ids at 0) (drop (suc at) ids) (drop_at ids at here) stays f cause;
  }
