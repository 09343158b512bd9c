-- What contracts see of a keeper, and when it keeps a core.
use Rattle.std.specs.Prelude.{◌≡◌, ℕ, ◌+◌, List, [], map, length, Contains, Option, None, option_map}
use Rattle.vault_types.specs.declared.Fp.{Fp}
use Rattle.vault_types.specs.declared.Name.{Name}
use Rattle.vault_types.specs.declared.Pending.{Pending}
use Rattle.vault_types.specs.declared.Pending.TheVariants as pending
use Rattle.std.specs.List.{AllByRecursion}
use Rattle.vault_types.specs.State.{State, next_of}
use Rattle.vault_types.specs.Tables.{Container, IsTable}
use Rattle.vault_types.specs.Events.{Core, Job, Pin, pinned_containers, IsCore}
use Rattle.vault_traits.specs.Told.{ShelfTold}
use Rattle.fp_index.specs.Index.{IsIndexOf}
use Rattle.restore_pins.specs.Pins.{Listed, AreListsOf}
use Rattle.state_laws.specs.Parts.{HeldIfTold}
use Rattle.keeper_catalog.specs.declared.JobInfo.{JobInfo}
use Rattle.keeper_catalog.specs.Catalog.{Memo, IsMemoOf}

-- what the shelf tells; the memory; the index, also while it is lent to a job; the pins; the open
-- job; and whether a mending is due
pub record View : Type 0 where
  pub told : ShelfTold
  pub memo : Memo
  pub index : List (Fp × List ℕ)
  pub pins : List Listed
  pub job : Option JobInfo
  pub pending : Pending

abbrev pub job_info : State → Job → JobInfo
job_info S j = record { set = j.set; first = next_of S; next = next_of S + length j.containers }

-- pins that list one id list one container
abbrev pub AreAlike : List Pin → Type 0
AreAlike pins =
    (c d : Container) → Contains (pinned_containers pins) c → Contains (pinned_containers pins) d
    → c.table.id ≡ d.table.id → c ≡ d

-- the keeper keeps the core: the shelf holds it, where that is told, and the memory is that of it
pub record Keeps (v : View) (K : Core) : Type 0 where
  pub core : IsCore K
  pub held : HeldIfTold v.told.blobs K
  pub memo : IsMemoOf v.memo K
  pub index : IsIndexOf v.index (map (λ c. c.table) K.state.containers)
  pub pins : AreListsOf v.pins K.pins
  pub alike : AreAlike K.pins
  pub pinned : AllByRecursion (λ c. IsTable c.table) (pinned_containers K.pins)
  pub job : v.job ≡ option_map (job_info K.state) K.job
  pub pending : v.pending ≡ K.pending

abbrev pub HasCore : View → Type 0
HasCore v = (K : Core) × Keeps v K

-- the core of a shelf that was just opened
abbrev pub opened_core : State → List Name → Core
opened_core S strays =
    record { state = S; other = None; pins = []; strays = strays; job = None; pending = pending.Opened }
