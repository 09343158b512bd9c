-- What a keeper's events leave: no job, or an open one whose recipe may be committed once its rows
-- are rows of a recipe.
use Rattle.std.specs.Prelude.{◌≡◌, ℕ, ◌+◌, List, map, length, Contains, ◌++◌, Some, None}
use Rattle.std.specs.List.{AllByRecursion}
use Rattle.vault_types.specs.declared.Row.{Row}
use Rattle.vault_types.specs.declared.TableRow.{TableRow}
use Rattle.vault_types.specs.declared.Recipe.{Recipe}
use Rattle.vault_types.specs.State.{latest_of, next_of, HasFp}
use Rattle.vault_types.specs.Events.{Core, Job}
use Rattle.blob_parts.specs.Recipes.{FitsRow}
use Rattle.keeper_catalog.specs.View.{View, Keeps}
use Rattle.keeper_driver.specs.declared.jobs.Draft.{Draft}

-- no job is open
pub record HasNoJob (v : View) : Type 0 where
  pub core : Core
  pub keeps : Keeps v core
  pub no_job : v.job ≡ None

-- a job is open, and this is the index that it was lent
pub record HasOpenJob (v : View) (d : Draft) : Type 0 where
  pub core : Core
  pub keeps : Keeps v core
  pub job : Job
  pub open_job : core.job ≡ Some job
  pub lent : d.index ≡ v.index

-- the rows of the version so far are in kept containers or in those of the job, and name each of these
pub record IsDraft (v : View) (d : Draft) : Type 0 where
  pub opened : HasOpenJob v d
  pub set : d.set ≡ opened.job.set
  pub version : d.version ≡ latest_of opened.core.state d.set + 1
  pub next : d.next ≡ next_of opened.core.state + length opened.job.containers
  pub rows : AllByRecursion (HasFp (opened.core.state.containers ++ opened.job.containers)) d.rows
  pub uses : AllByRecursion (λ c. Contains (map (λ r. r.id) d.rows) c.table.id) opened.job.containers
  pub fits : AllByRecursion FitsRow d.rows

-- the row of a chunk of this container
abbrev pub row_in : ℕ → TableRow → Row
row_in id r = record { fp = r.fp; id = id; len = r.len }

-- the recipe says this set, this version, its next id and its rows
pub record IsRecipeFor (set version next : ℕ) (rows : List Row) (r : Recipe) : Type 0 where
  pub set_is : r.set ≡ set
  pub version_is : r.version ≡ version
  pub next_is : r.next ≡ next
  pub rows_are : r.rows ≡ rows
