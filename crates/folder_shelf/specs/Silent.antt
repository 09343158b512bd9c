-- What the devices over the host tell: how often they failed, and nothing of content.
use Rattle.std.specs.Prelude.{◌≡◌, ℕ, Option, None, Some, Result, Ok, Err, Bool, true, false}
use Rattle.std.proofs.Common.{subst}
use Rattle.vault_traits.specs.Told.{ShelfTold, SourceTold, SinkTold, PlacesTold}
use Rattle.vault_traits.specs.declared.names.Refused.{Refused}
use Rattle.vault_traits.specs.declared.names.Refused.TheVariants as refused

-- of a shelf: how often it failed, and how many gets of a payload there were
pub record ShelfCounts : Type 0 where
  pub faults : ℕ
  pub gets : ℕ

abbrev pub silent_shelf : ShelfCounts → ShelfTold
silent_shelf s = record { blobs = None; history = None; faults = s.faults; gets = s.gets }

-- of places: how often openings, readers and writers failed
pub record PlacesCounts : Type 0 where
  pub faults : ℕ
  pub read_faults : ℕ
  pub write_faults : ℕ

abbrev pub silent_places : PlacesCounts → PlacesTold
silent_places s =
    record { files = None; faults = s.faults; read_faults = s.read_faults; write_faults = s.write_faults }

abbrev pub silent_source : ℕ → SourceTold
silent_source faults = record { left = None; faults = faults }

abbrev pub silent_sink : ℕ → SinkTold
silent_sink faults = record { taken = None; faults = faults }

abbrev is_told : {A : Type 0} → Option A → Type 0
is_told None = Unit {0}
is_told (Some a) = ⊥

-- nothing is told
pub none_told : {A : Type 0} (a : A) → ◌≡◌ {A = Option A} None (Some a) → ⊥
none_told {A} a e = subst is_told e tt

-- want of memory is no failure of the device
abbrev pub is_failure : {A : Type 0} → Result A Refused → Bool
is_failure (Ok a) = false
is_failure (Err refused.Failed) = true
is_failure (Err refused.Memory) = false
