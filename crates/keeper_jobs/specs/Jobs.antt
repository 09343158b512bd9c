-- What the parts of a keeper's calls are told of a core.
use Rattle.std.specs.Prelude.{◌≡◌, ℕ, zero, suc, ◌+◌, Bool, true, false, ◌&&◌, ◌||◌, not, List, [], ◌∷◌, ◌++◌, map, filter, length, nat_le, nat_lt, Option, Some, None}
use Rattle.std.specs.Option.{option_map_or}
use Rattle.vault_types.specs.declared.Fp.{Fp}
use Rattle.vault_types.specs.declared.Kind.{Kind}
use Rattle.vault_types.specs.declared.Kind.TheVariants as kind
use Rattle.vault_types.specs.declared.Table.{Table}
use Rattle.vault_types.specs.declared.Recipe.{Recipe}
use Rattle.vault_types.specs.declared.Name.{Name}
use Rattle.vault_types.specs.declared.Pending.{Pending}
use Rattle.vault_types.specs.declared.Pending.TheVariants as pending
use Rattle.vault_types.specs.State.{KeptVersion, next_of}
use Rattle.vault_types.specs.Shelf.{same_name, table_name, payload_name}
use Rattle.vault_types.specs.Events.{Core, Job, IsCore, CanCommit, put_by, version_in_recipe}
use Rattle.fp_index.specs.Index.{IsIndexOf}
use Rattle.keeper_catalog.specs.declared.SetInfo.{SetInfo}
use Rattle.keeper_catalog.specs.declared.JobInfo.{JobInfo}
use Rattle.keeper_catalog.specs.Catalog.{Memo, set_info, table_at, IsMemoOf}
use Rattle.keeper_catalog.specs.View.{job_info}

-- the set that a mending on behalf of s mends, if one is due
abbrev pub mended_by : Pending → ℕ → Option ℕ
mended_by pending.Not s = None
mended_by pending.Opened s = Some s
mended_by (pending.FailedFor m) s = Some m

-- what mending is told of a core
pub record Sees (sets : List SetInfo) (waits : Pending) (K : Core) : Type 0 where
  pub core : IsCore K
  pub sets_are : sets ≡ map set_info K.state.datasets
  pub pending_is : waits ≡ K.pending

-- the two names of a container that is put
abbrev pub names_of : ℕ → List Name
names_of id = payload_name id ∷ table_name id ∷ []

-- the job of the core puts the container of this id next
pub record Puts (K : Core) (strays : List Name) (id : ℕ) : Type 0 where
  pub core : IsCore K
  pub strays_are : K.strays ≡ strays
  pub alone : K.other ≡ None
  pub next : id ≡ next_of K.state + length (put_by K.job)

-- the table in memory at an id, if there is one
abbrev pub tables_at : List (ℕ × Table) → ℕ → List Table
tables_at tables id = option_map_or (λ t. t ∷ []) (table_at tables id) []

-- those at so many ids from the first on
abbrev pub tables_from : List (ℕ × Table) → ℕ → ℕ → List Table
tables_from tables first zero = []
tables_from tables first (suc n) = tables_at tables first ++ tables_from tables (first + 1) n

-- each table stands at its id
abbrev pub AreKeyed : List (ℕ × Table) → Type 0
AreKeyed tables = (id : ℕ) (t : Table) → table_at tables id ≡ Some t → t.id ≡ id

-- whether the name is that of a table or a payload
abbrev pub is_of_container : Kind → Bool
is_of_container kind.Table = true
is_of_container kind.Payload = true
is_of_container kind.Recipe = false
is_of_container kind.Floor = false

-- whether the name is the recipe's, or one of a container of the job
abbrev pub is_committed : Name → ℕ → ℕ → Name → Bool
is_committed recipe first next n =
    same_name n recipe || (is_of_container n.kind && (nat_le first n.number && nat_lt n.number next))

-- the strays that stay where these names are needed from now on
abbrev pub uncommitted : Name → ℕ → ℕ → List Name → List Name
uncommitted recipe first next strays = filter (λ n. not (is_committed recipe first next n)) strays

-- a recipe that the open job may commit, and what is in memory then
pub record Commits (m : Memo) (index : List (Fp × List ℕ)) (info : JobInfo) (r : Recipe) (K : Core)
    (job : Job) : Type 0 where
  pub core : IsCore K
  pub memo : IsMemoOf m K
  pub index_is : IsIndexOf index (map (λ c. c.table) K.state.containers)
  pub info_is : info ≡ job_info K.state job
  pub can : CanCommit K job r

-- the version that the recipe says
abbrev pub version_by : Core → Job → Recipe → KeptVersion
version_by K job r = version_in_recipe (K.state.containers ++ job.containers) r
