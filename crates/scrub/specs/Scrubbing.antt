-- What scrubbing finds of the containers of a keeper, and what it leaves.
use Rattle.std.specs.Prelude.{◌≡◌, ◌≤◌, ℕ, List, map, length, Option, IsSome, Contains, Result, IfOk, OnOk}
use Rattle.vault_types.specs.declared.Kind.{Kind}
use Rattle.vault_types.specs.declared.Why.{Why}
use Rattle.vault_types.specs.declared.Fault.{Fault}
use Rattle.vault_types.specs.Tables.{Container}
use Rattle.vault_types.specs.Shelf.{Blobs}
use Rattle.vault_types.specs.BlobDamage.{IsTableDamage}
use Rattle.vault_types.specs.Events.{Core}
use Rattle.vault_traits.specs.Counts.{counted_up}
use Rattle.vault_traits.specs.Causes.{HasCauses}
use Rattle.payload_health.specs.declared.Findings.{Findings}
use Rattle.payload_health.specs.Findings.{findings_in}
use Rattle.keeper_catalog.specs.View.{View, Keeps}

-- all but the counts of faults and gets is as before
pub record Stays (u v : View) : Type 0 where
  pub blobs : v.told.blobs ≡ u.told.blobs
  pub history : v.told.history ≡ u.told.history
  pub memo : v.memo ≡ u.memo
  pub index : v.index ≡ u.index
  pub pins : v.pins ≡ u.pins
  pub job : v.job ≡ u.job
  pub pending : v.pending ≡ u.pending

-- the containers were read so: with their tables, and over a shelf that tells its blobs with their payloads
abbrev pub AreReadAs : Option Blobs → List Container → List Container → Type 0
AreReadAs told cs read =
    (map (λ c. c.table) read ≡ map (λ c. c.table) cs) × (IsSome told → read ≡ cs)

-- the table of a named container is no longer what it was when the shelf was opened
abbrev pub IsScrubDamage : View → Kind → ℕ → Why → Type 0
IsScrubDamage u kind number why =
    (K : Core) → Keeps u K
    → (c : Container) × Contains K.state.containers c × IsTableDamage u.told.blobs c.table.id kind number why

pub record Scrubs (u v : View) (result : Result Findings Fault) : Type 0 where
  -- what is found is what the definition says of the containers that versions name; over a shelf that doesn't tell its
  -- blobs, with some payloads
  pub found : IfOk result (λ f. (K : Core) → Keeps u K
      → (read : List Container) × AreReadAs u.told.blobs K.state.containers read × (f ≡ findings_in read))
  -- each of their payloads is got once, or so many of them
  pub gets : OnOk result ((K : Core) → Keeps u K
      → v.told.gets ≡ counted_up u.told.gets (length K.state.containers))
  pub few : (K : Core) → Keeps u K
      → (n : ℕ) × (n ≤ length K.state.containers) × (v.told.gets ≡ counted_up u.told.gets n)
  -- the store is as before, and each refusal has its cause
  pub stays : Stays u v
  pub keeps : (K : Core) → Keeps u K → Keeps v K
  pub causes : HasCauses u.told.faults v.told.faults (IsScrubDamage u) result
