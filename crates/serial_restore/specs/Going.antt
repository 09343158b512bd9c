-- How far a restore has come: what its loads leave of a keeper, and what the sink has taken.
use Rattle.std.specs.Prelude.{◌≡◌, ◌≢◌, ◌⊎◌, ℕ, ◌+◌, ◌≤◌, true, List, [], ◌++◌, map, drop, length, All, Option, Some, None, IsSome, IfSome}
use Rattle.std.specs.List.{AllByRecursion}
use Rattle.vault_types.specs.declared.Fault.{Fault}
use Rattle.vault_types.specs.declared.Fault.TheVariants as fault
use Rattle.vault_types.specs.declared.Kind.{Kind}
use Rattle.vault_types.specs.declared.Kind.TheVariants as kind
use Rattle.vault_types.specs.declared.Spot.{Spot}
use Rattle.vault_types.specs.declared.Step.{Step}
use Rattle.vault_types.specs.declared.Step.TheVariants.{Load, Evict, Serve}
use Rattle.vault_types.specs.declared.Whole.{Whole}
use Rattle.vault_types.specs.declared.Why.{Why}
use Rattle.vault_types.specs.declared.Why.TheVariants as why
use Rattle.vault_types.specs.Lists.{has}
use Rattle.vault_types.specs.Names.{fp}
use Rattle.vault_types.specs.Plans.{requests, loads, IsLeast}
use Rattle.vault_types.specs.Shelf.{Blobs}
use Rattle.vault_types.specs.Tables.{Container, payload_len}
use Rattle.vault_types.specs.Events.{Core, Pin}
use Rattle.vault_traits.specs.Counts.{counted, counted_up, Rose}
use Rattle.vault_traits.specs.Told.{SinkTold, Takes}
use Rattle.vault_types.specs.BlobDamage.{IsPayloadDamage}
use Rattle.keeper_catalog.specs.View.{View, Keeps}
use Rattle.keeper_core.specs.Calls.{Lists, HasListed}
use Rattle.store_model.specs.Calls.{IsShortAt}
use Rattle.restore_assembler.specs.Copying.{Copying, wanted, HasCopied, version_bytes}

-- loads leave of a keeper all but the counts of faults and of gets
pub record Stays (v w : View) : Type 0 where
  pub memo : w.memo ≡ v.memo
  pub index : w.index ≡ v.index
  pub pins : w.pins ≡ v.pins
  pub job : w.job ≡ v.job
  pub pending : w.pending ≡ v.pending
  pub blobs : w.told.blobs ≡ v.told.blobs
  pub history : w.told.history ≡ v.told.history
  pub later : v.told.faults ≤ w.told.faults
  pub keeps : (K : Core) → Keeps v K → Keeps w K

-- a core that is kept, in which the pin of this number lists the containers of the spots
pub record HasPinned (v : View) (number : ℕ) (spots : List Spot) (K : Core) : Type 0 where
  pub keeps : Keeps v K
  pub listed : AllByRecursion (HasListed K.pins number) spots

-- the payloads, by the ids of their containers, are those that the containers have which the pin lists
abbrev pub ArePayloads : List Pin → ℕ → (ℕ → List ℕ) → Type 0
ArePayloads pins number payloads =
    (id : ℕ) (c : Container) (bytes : List ℕ) → Lists pins number id c → c.payload ≡ Some bytes
    → length bytes ≡ payload_len c.table.rows → payloads id ≡ bytes

-- so in a core that is kept, over a shelf that tells its blobs
pub record AreGiven (v : View) (number : ℕ) (spots : List Spot) (payloads : ℕ → List ℕ) : Type 0 where
  pub tells : IsSome v.told.blobs
  pub core : Core
  pub pinned : HasPinned v number spots core
  pub are : ArePayloads core.pins number payloads

-- over a shelf that tells its blobs, the container that the pin lists under the id has its whole payload
abbrev pub IsFull : View → ℕ → List Spot → ℕ → Type 0
IsFull v number spots id =
    IsSome v.told.blobs → (K : Core) (c : Container) → HasPinned v number spots K → Lists K.pins number id c
    → (bytes : List ℕ) × (c.payload ≡ Some bytes) × (length bytes ≡ payload_len c.table.rows)

-- the same of a step that loads it
abbrev pub IsFullAt : View → ℕ → List Spot → Step → Type 0
IsFullAt v number spots (Load id) = IsFull v number spots id
IsFullAt v number spots (Evict id) = Unit {0}
IsFullAt v number spots Serve = Unit {0}

-- a step loads only what is among the ids
abbrev pub IsLoadOf : List ℕ → Step → Type 0
IsLoadOf ids (Load id) = has id ids ≡ true
IsLoadOf ids (Evict id) = Unit {0}
IsLoadOf ids Serve = Unit {0}

-- the sink has taken a front of the bytes
pub record HasTakenFront (before now : SinkTold) (bytes : List ℕ) : Type 0 where
  pub front : List ℕ
  pub rest : List ℕ
  pub parts : front ++ rest ≡ bytes
  pub taken : Takes before.taken now.taken front

-- the bytes have another sum than they should
abbrev pub IsWrongSum : Option Whole → Kind → ℕ → Why → Type 0
IsWrongSum whole kind.Recipe number (why.Whole want found) =
    (whole ≡ Some (record { number = number; want = want })) × (found ≢ want)
IsWrongSum whole kind number other = ⊥

-- a payload of the pin is damaged
abbrev pub IsBadPayload : Option Blobs → List Pin → ℕ → Kind → ℕ → Why → Type 0
IsBadPayload told pins number k n w =
    (id : ℕ) × (c : Container) × Lists pins number id c × IsPayloadDamage told c.table k n w

-- why a restore stopped: the shelf or the sink failed in it, a payload is damaged, or the bytes
-- have another sum
abbrev pub IsCopyFault : View → View → SinkTold → SinkTold → List Pin → ℕ → Option Whole → Fault → Type 0
IsCopyFault v w before now pins number whole (fault.StoreFault n) =
    (n ≡ w.told.faults) × Rose v.told.faults w.told.faults
IsCopyFault v w before now pins number whole (fault.WriteFault n) =
    (n ≡ now.faults) × Rose before.faults now.faults
IsCopyFault v w before now pins number whole (fault.Damaged k n why) =
    IsWrongSum whole k n why ⊎ IsBadPayload v.told.blobs pins number k n why
IsCopyFault v w before now pins number whole fault.Memory = Unit {0}
IsCopyFault v w before now pins number whole other = ⊥

-- where the sum of all bytes is the damage, the one that was found is that of the bytes
abbrev pub IsFoundOf : List ℕ → Fault → Type 0
IsFoundOf bytes (fault.Damaged kind.Recipe n (why.Whole want found)) = found ≡ fp bytes
IsFoundOf bytes other = Unit {0}

-- the bytes have the sum that they should, where one is given
abbrev pub HasSum : (ℕ → List ℕ) → List Spot → Option Whole → Type 0
HasSum payloads spots whole = IfSome whole (λ x. fp (version_bytes payloads spots) ≡ x.want)

-- so with the payloads that are given
abbrev pub IsSummed : View → ℕ → List Spot → Option Whole → Type 0
IsSummed v number spots whole =
    (payloads : ℕ → List ℕ) → AreGiven v number spots payloads → HasSum payloads spots whole

-- one load, and what the copier does with its payload

pub record LoadsOne (v w : View) (number id : ℕ) (before now : SinkTold) (s t : Copying) : Type 0 where
  pub stays : Stays v w
  pub later : before.faults ≤ now.faults
  pub spots : t.spots ≡ s.spots
  pub whole : t.whole ≡ s.whole
  pub gets : w.told.gets ≡ counted v.told.gets
  pub fewer : loads t.steps + 1 ≡ loads s.steps
  pub behind : (k : ℕ) × (t.steps ≡ drop k s.steps)
  pub full : IsFull v number s.spots id
  pub copied : (payloads : ℕ → List ℕ) (start : SinkTold) → AreGiven v number s.spots payloads
      → HasCopied payloads start before s → HasCopied payloads start now t
  pub sum : wanted t ≡ None → (payloads : ℕ → List ℕ) (start : SinkTold) → AreGiven v number s.spots payloads
      → HasCopied payloads start before s → HasSum payloads s.spots s.whole

pub record StopsAt (v w : View) (number : ℕ) (before now : SinkTold) (s : Copying) (f : Fault) : Type 0 where
  pub stays : Stays v w
  pub later : before.faults ≤ now.faults
  pub gets : w.told.gets ≡ counted v.told.gets
  pub cause : (K : Core) → HasPinned v number s.spots K → IsCopyFault v w before now K.pins number s.whole f
  pub front : (payloads : ℕ → List ℕ) (start : SinkTold) → AreGiven v number s.spots payloads
      → HasCopied payloads start before s → HasTakenFront start now (version_bytes payloads s.spots)
  pub found : (payloads : ℕ → List ℕ) (start : SinkTold) → AreGiven v number s.spots payloads
      → HasCopied payloads start before s → IsFoundOf (version_bytes payloads s.spots) f
  pub short : (payloads : ℕ → List ℕ) (start : SinkTold) → AreGiven v number s.spots payloads
      → HasCopied payloads start before s → IsShortAt (version_bytes payloads s.spots) start.taken now.taken f

-- some loads: the steps that are done, each load of them counted once, and what the sink has then taken

pub record Underway (v w : View) (number : ℕ) (before now : SinkTold) (s t : Copying) : Type 0 where
  pub stays : Stays v w
  pub later : before.faults ≤ now.faults
  pub spots : t.spots ≡ s.spots
  pub whole : t.whole ≡ s.whole
  pub done : List Step
  pub parts : done ++ t.steps ≡ s.steps
  pub gets : w.told.gets ≡ counted_up v.told.gets (loads done)
  pub full : AllByRecursion (IsFullAt v number s.spots) done
  pub copied : (payloads : ℕ → List ℕ) → AreGiven v number s.spots payloads → HasCopied payloads before now t
  pub sum : (t ≡ s) ⊎ (wanted t ≡ None → IsSummed v number s.spots s.whole)

-- all bytes are written

pub record HasDone (v w : View) (number : ℕ) (before now : SinkTold) (s : Copying) : Type 0 where
  pub stays : Stays v w
  pub later : before.faults ≤ now.faults
  pub done : List Step
  pub rest : List Step
  pub parts : done ++ rest ≡ s.steps
  pub served : All (λ step. step ≢ Serve) rest
  pub gets : w.told.gets ≡ counted_up v.told.gets (loads done)
  pub full : AllByRecursion (IsFullAt v number s.spots) done
  pub taken : (payloads : ℕ → List ℕ) → AreGiven v number s.spots payloads
      → Takes before.taken now.taken (version_bytes payloads s.spots)
  pub sum : (s.spots ≡ []) ⊎ IsSummed v number s.spots s.whole

-- all bytes of a version with these spots are written, with the fewest loads, and where there are
-- any they have the sum that they should
pub record IsCopied (v w : View) (number : ℕ) (before now : SinkTold) (spots : List Spot)
    (whole : Option Whole) (slots n : ℕ) : Type 0 where
  pub stays : Stays v w
  pub later : before.faults ≤ now.faults
  pub least : IsLeast (requests (map (λ s. s.id) spots)) slots n
  pub gets : w.told.gets ≡ counted_up v.told.gets n
  pub full : AllByRecursion (λ s. IsFull v number spots s.id) spots
  pub taken : (payloads : ℕ → List ℕ) → AreGiven v number spots payloads
      → Takes before.taken now.taken (version_bytes payloads spots)
  pub sum : (spots ≡ []) ⊎ IsSummed v number spots whole

-- a restore of these spots stopped; so many loads as it had are few
pub record IsRestoreStopped (v w : View) (number : ℕ) (before now : SinkTold) (spots : List Spot)
    (whole : Option Whole) (IsFew : ℕ → Type 0) (f : Fault) : Type 0 where
  pub stays : Stays v w
  pub later : before.faults ≤ now.faults
  pub loads : ℕ
  pub few : IsFew loads
  pub gets : w.told.gets ≡ counted_up v.told.gets loads
  pub cause : (K : Core) → HasPinned v number spots K → IsCopyFault v w before now K.pins number whole f
  pub front : (payloads : ℕ → List ℕ) → AreGiven v number spots payloads
      → HasTakenFront before now (version_bytes payloads spots)
  pub found : (payloads : ℕ → List ℕ) → AreGiven v number spots payloads
      → IsFoundOf (version_bytes payloads spots) f
  pub short : (payloads : ℕ → List ℕ) → AreGiven v number spots payloads
      → IsShortAt (version_bytes payloads spots) before.taken now.taken f

-- not more than in any plan that serves the requests
abbrev pub IsAtMostLeast : List ℕ → ℕ → ℕ → Type 0
IsAtMostLeast reqs slots m = (n : ℕ) → IsLeast reqs slots n → m ≤ n
