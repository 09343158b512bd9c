-- What a restore gives, why it is refused, and what it leaves of the store.
use Rattle.std.specs.Prelude.{◌≡◌, ◌≢◌, ◌⊎◌, ℕ, ◌≤◌, false, List, map, length, Contains, IsSome, Option, Some, Result, IfOk, IfErr, OnErr}
use Rattle.vault_types.specs.declared.Answer.{Answer}
use Rattle.vault_types.specs.declared.Answer.TheVariants.{Restored}
use Rattle.vault_types.specs.declared.Fault.{Fault}
use Rattle.vault_types.specs.declared.Fault.TheVariants as fault
use Rattle.vault_types.specs.declared.Fp.{Fp}
use Rattle.vault_types.specs.declared.Kind.{Kind}
use Rattle.vault_types.specs.declared.Kind.TheVariants as kind
use Rattle.vault_types.specs.declared.Name.{Name}
use Rattle.vault_types.specs.declared.Whole.{Whole}
use Rattle.vault_types.specs.declared.Why.{Why}
use Rattle.vault_types.specs.declared.Why.TheVariants as why
use Rattle.vault_types.specs.Bytes.{bytes_of}
use Rattle.vault_types.specs.Events.{Core, IsNear, containers_of, with_pins}
use Rattle.vault_types.specs.Names.{fp}
use Rattle.vault_types.specs.Plans.{requests, IsLeast}
use Rattle.vault_types.specs.Shelf.{Blobs, recipe_name, blob_at}
use Rattle.vault_types.specs.State.{State, KeptVersion, floor_of, latest_of, is_kept, version_of}
use Rattle.vault_types.specs.Tables.{Container}
use Rattle.vault_traits.specs.Counts.{counted_up, Rose}
use Rattle.vault_traits.specs.Crash.{LeavesNowIfTold, LeavesOnlyIfTold}
use Rattle.vault_traits.specs.Told.{SinkTold, Takes}
use Rattle.vault_types.specs.BlobDamage.{IsPayloadDamage}
use Rattle.keeper_catalog.specs.View.{View, Keeps}
use Rattle.keeper_core.specs.Calls.{IsPinDamage}
use Rattle.store_model.specs.Calls.{IsShortAt}
use Rattle.serial_restore.specs.Going.{HasTakenFront, IsAtMostLeast}

-- the sum that a version should have, by the number of its recipe
abbrev pub whole_of : ℕ → ℕ → Fp → Whole
whole_of s n want = record { number = (recipe_name s n).number; want = want }

-- a row of the version names the container
abbrev pub IsOfVersion : Option Blobs → State → ℕ → ℕ → Container → Type 0
IsOfVersion told S s n c =
    IsSome told → (k : KeptVersion) → version_of S s n ≡ Some k
    → Contains (containers_of S.containers (map (λ r. r.id) k.rows)) c

-- the payload of a container of the version is damaged
abbrev pub IsBadPayloadOf : Option Blobs → State → ℕ → ℕ → Kind → ℕ → Why → Type 0
IsBadPayloadOf told S s n k i w =
    (c : Container) × IsOfVersion told S s n c × IsPayloadDamage told c.table k i w

-- the bytes of the version have another sum than they should
abbrev pub IsWrongSumOf : Option Blobs → State → ℕ → ℕ → Kind → ℕ → Why → Type 0
IsWrongSumOf told S s n kind.Recipe i (why.Whole want found) =
    (i ≡ (recipe_name s n).number) × (found ≢ want)
    × (IsSome told → (k : KeptVersion) → version_of S s n ≡ Some k
    → (want ≡ k.sum) × (found ≡ fp (bytes_of S s n)))
IsWrongSumOf told S s n k i other = ⊥

-- why a restore was refused
abbrev pub IsRestoreFault : View → View → SinkTold → SinkTold → State → ℕ → ℕ → Fault → Type 0
IsRestoreFault v w before now S s n (fault.NotKept t m floor latest) =
    (is_kept S s n ≡ false)
    × (fault.NotKept t m floor latest ≡ fault.NotKept s n (floor_of S s) (latest_of S s))
IsRestoreFault v w before now S s n (fault.StoreFault i) = Rose v.told.faults i × (i ≤ w.told.faults)
IsRestoreFault v w before now S s n (fault.WriteFault i) = (i ≡ now.faults) × Rose before.faults now.faults
IsRestoreFault v w before now S s n (fault.Damaged k i why) =
    IsPinDamage v.told.blobs S s n k i why
    ⊎ (IsBadPayloadOf v.told.blobs S s n k i why ⊎ IsWrongSumOf v.told.blobs S s n k i why)
IsRestoreFault v w before now S s n fault.Memory = Unit {0}
IsRestoreFault v w before now S s n other = ⊥

-- all is as it was, and nothing more is pinned; names of the store may have ceased to be strays.
-- Each recipe has its bytes, and over a shelf that tells them each other blob too
pub record HasStayed (v w : View) (K : Core) (s n : ℕ) : Type 0 where
  pub strays : List Name
  pub keeps : Keeps w (with_pins K.pins strays K)
  pub within : IsSome v.told.blobs → IsSome (version_of K.state s n) → (q : Name) → Contains strays q
      → Contains K.strays q
  pub recipes : (t m : ℕ) → blob_at w.told.blobs (recipe_name t m) ≡ blob_at v.told.blobs (recipe_name t m)
  pub blobs : IsSome v.told.blobs → IsSome (version_of K.state s n) → (q : Name)
      → blob_at w.told.blobs q ≡ blob_at v.told.blobs q

-- a version is restored: its bytes, which have its sum, are taken
pub record IsRestored (v w : View) (before now : SinkTold) (K : Core) (s n : ℕ) (k : KeptVersion) (slots : ℕ)
    (answer : Answer) : Type 0 where
  pub loads : ℕ
  pub least : IsLeast (requests (map (λ r. r.id) k.rows)) slots loads
  pub gets : w.told.gets ≡ counted_up v.told.gets loads
  pub taken : Takes before.taken now.taken (bytes_of K.state s n)
  pub sum : fp (bytes_of K.state s n) ≡ k.sum
  pub is : answer ≡ Restored s n (length (bytes_of K.state s n)) loads

-- a restore of it was refused
pub record IsCut (v w : View) (before now : SinkTold) (K : Core) (s n : ℕ) (k : KeptVersion)
    (slots : ℕ) : Type 0 where
  pub loads : ℕ
  pub few : IsAtMostLeast (requests (map (λ r. r.id) k.rows)) slots loads
  pub gets : w.told.gets ≡ counted_up v.told.gets loads
  pub front : HasTakenFront before now (bytes_of K.state s n)

-- over a shelf that tells its blobs, of a kept version
abbrev pub WhereTold : View → ℕ → ℕ → (Core → KeptVersion → Type 0) → Type 0
WhereTold v s n P =
    IsSome v.told.blobs → (K : Core) (k : KeptVersion) → Keeps v K → version_of K.state s n ≡ Some k → P K k

-- what a restore leaves of a keeper
pub record IsLeft (v x : View) (s n : ℕ) : Type 0 where
  pub later : v.told.faults ≤ x.told.faults
  pub tells : IsSome v.told.blobs → IsSome x.told.blobs
  pub job : x.job ≡ v.job
  pub pins : x.pins ≡ v.pins
  pub state : (K : Core) → Keeps v K → HasStayed v x K s n
  pub any_moment : (K : Core) → Keeps v K → LeavesNowIfTold v.told.history (IsNear K.state K.other)
      → LeavesOnlyIfTold v.told.history x.told.history (IsNear K.state K.other)

-- what a restore comes to
pub record HasGone (v x : View) (before now : SinkTold) (s n slots : ℕ)
    (result : Result Answer Fault) : Type 0 where
  pub left : IsLeft v x s n
  pub sink : before.faults ≤ now.faults
  pub kind : IfOk result (λ answer. (bytes loads : ℕ) × (answer ≡ Restored s n bytes loads))
  pub cause : IfErr result (λ f. (K : Core) → Keeps v K → IsRestoreFault v x before now K.state s n f)
  pub ok : IfOk result (λ answer. WhereTold v s n (λ K k. IsRestored v x before now K s n k slots answer))
  pub err : OnErr result (WhereTold v s n (λ K k. IsCut v x before now K s n k slots))
  pub short : IfErr result
      (λ f. WhereTold v s n (λ K k. IsShortAt (bytes_of K.state s n) before.taken now.taken f))
