-- How far a scrub has come.
use Rattle.std.specs.Prelude.{◌≡◌, ◌⊎◌, ◌≤◌, ◌<◌, ◌+◌, ℕ, List, [], ◌∷◌, ◌++◌, map, length, Option, None, Some, Result, IfOk, OnErr, IfSome, IsSome}
use Rattle.std.specs.List.{AllByRecursion}
use Rattle.vault_types.specs.declared.Fault.{Fault}
use Rattle.vault_types.specs.Tables.{Container, id_of}
use Rattle.vault_types.specs.State.{container_in}
use Rattle.vault_types.specs.Shelf.{Blobs}
use Rattle.vault_types.specs.Events.{Core}
use Rattle.vault_traits.specs.Counts.{counted, counted_up}
use Rattle.vault_traits.specs.Causes.{HasCauses}
use Rattle.payload_health.specs.declared.Findings.{Findings}
use Rattle.payload_health.specs.Findings.{findings_in}
use Rattle.keeper_catalog.specs.View.{View, Keeps}
use Rattle.keeper_core.specs.NextNamed.{IsNextAbove}
use Rattle.scrub.specs.Scrubbing.{AreReadAs, Stays, IsScrubDamage}

-- the next container above an id was read, or there is none
abbrev pub IsReadNext : Option Blobs → List Container → ℕ → Option Container → Type 0
IsReadNext told cs above None = IsNextAbove (map id_of cs) above None
IsReadNext told cs above (Some read) =
    IsNextAbove (map id_of cs) above (Some read.table.id)
    × ((c : Container) → container_in cs read.table.id ≡ Some c
    → (read.table ≡ c.table) × (IsSome told → read ≡ c))

-- a payload is got where there is one more
abbrev pub gets_behind : Option Container → ℕ → ℕ
gets_behind None n = n
gets_behind (Some read) n = counted n

-- the next container above an id is read
pub record ReadsNext (u v : View) (above : ℕ) (result : Result (Option Container) Fault) : Type 0 where
  pub next : IfOk result (λ r. (K : Core) → Keeps u K → IsReadNext u.told.blobs K.state.containers above r)
  pub above_it : IfOk result (λ r. IfSome r (λ c. above < c.table.id))
  pub gets : IfOk result (λ r. v.told.gets ≡ gets_behind r u.told.gets)
  pub few : OnErr result ((v.told.gets ≡ u.told.gets)
      ⊎ ((v.told.gets ≡ counted u.told.gets)
      × ((K : Core) → Keeps u K → (n : ℕ) × IsNextAbove (map id_of K.state.containers) above (Some n))))
  pub stays : Stays u v
  pub causes : HasCauses u.told.faults v.told.faults (IsScrubDamage u) result

-- the containers up to an id were read; what is found of the first of them is noted, and the others wait for their checks
pub record HasCome (u v : View) (passed : ℕ) (f : Findings) (waiting : List Container) (K : Core) : Type 0 where
  pub done : List Container
  pub rest : List Container
  pub parts : done ++ rest ≡ K.state.containers
  pub low : AllByRecursion (λ c. c.table.id ≤ passed) done
  pub high : AllByRecursion (λ c. passed < c.table.id) rest
  pub noted : List Container
  pub read : AreReadAs u.told.blobs done (noted ++ waiting)
  pub found : f ≡ findings_in noted
  pub gets : v.told.gets ≡ counted_up u.told.gets (length done)

-- so for each core, and all but counts is as before
pub record IsUnderway (u v : View) (passed : ℕ) (f : Findings) (waiting : List Container) : Type 0 where
  pub come : (K : Core) → Keeps u K → HasCome u v passed f waiting K
  pub stays : Stays u v
  pub later : u.told.faults ≤ v.told.faults
  pub few : f.containers + length waiting ≤ passed

-- one container more is noted
pub record NotesOne (f g : Findings) (c : Container) : Type 0 where
  pub count : g.containers ≡ f.containers + 1
  pub found : (cs : List Container) → f ≡ findings_in cs → g ≡ findings_in (cs ++ c ∷ [])

-- the oldest check was ended and noted
abbrev pub NotesOldest : List Container → List Container → Findings → Findings → Type 0
NotesOldest [] now f g = (now ≡ []) × (g ≡ f)
NotesOldest (c ∷ cs) now f g = (now ≡ cs) × NotesOne f g c

-- nothing was noted, or the oldest check
abbrev pub NotesAtMostOne : List Container → List Container → Findings → Findings → Type 0
NotesAtMostOne before now f g = ((now ≡ before) × (g ≡ f)) ⊎ NotesOldest before now f g
