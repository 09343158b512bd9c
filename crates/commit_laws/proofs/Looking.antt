-- The tables in memory over a commit.
use Rattle.std.proofs.Common.{◌≡◌, ℕ, List, [], ◌++◌, Option, Some, None, refl, sym, ap, ◌∙◌, arith}
use Rattle.std.specs.Prelude.{option_map}
use Rattle.std.specs.Option.{option_or}
use Rattle.vault_types.specs.declared.Name.{Name}
use Rattle.vault_types.specs.declared.Table.{Table}
use Rattle.vault_types.specs.Tables.{Container}
use Rattle.vault_types.specs.State.{KeptVersion, container_in}
use Rattle.vault_types.specs.Events.{Core, Job, put_by, pinned_containers, after_commit, IsCore}
use Rattle.keeper_catalog.specs.Catalog.{listed, AreTables}
use Rattle.commit_laws.proofs.Listing.{found_append, found_is}
use Rattle.commit_laws.proofs.Committing.{not_in_job}

-- lists in which the same is found have the same tables
pub same_tables : (t : List (ℕ × Table)) (cs ds : List Container) → ((id : ℕ) → container_in ds id ≡ container_in cs id) → AreTables t cs → AreTables t ds
same_tables t cs ds same are id = are id ∙ ap (λ (o : Option Container). option_map (λ c. c.table) o) (sym (same id))

or_none : (o : Option Container) → option_or o None ≡ o
or_none None = refl
or_none (Some c) = refl

-- the state's first, then the job's, and last those that pins list, where what a pin lists isn't the job's
moved : (s p j : Option Container) → ((c : Container) → p ≡ Some c → j ≡ None) → option_or (option_or s j) (option_or p None) ≡ option_or s (option_or p j)
moved (Some c) p j apart = refl
moved None (Some c) j apart = ap (λ (o : Option Container). option_or o (Some c)) (apart c refl)
moved None None j apart = or_none j

module _ (K : Core) (job : Job) (core : IsCore K) (open_job : K.job ≡ Some job) where
  pinned_apart : (id : ℕ) (c : Container) → container_in (pinned_containers K.pins) id ≡ Some c → container_in job.containers id ≡ None
  pinned_apart id c is =
      let found = found_is (pinned_containers K.pins) id c is in
      let below = (core.pins c found.0).0 in
      not_in_job K job core open_job id (omega (arith, found.1, below))

  -- after a commit the same is found
  pub found_committed : (k : KeptVersion) (strays : List Name) (id : ℕ) → container_in (listed (after_commit k job strays K)) id ≡ container_in (listed K) id
  found_committed k strays id =
      found_append (K.state.containers ++ job.containers) (pinned_containers K.pins ++ []) id
      ∙ ap (λ (o : Option Container). option_or o (container_in (pinned_containers K.pins ++ []) id)) (found_append K.state.containers job.containers id)
      ∙ ap (λ (o : Option Container). option_or (option_or (container_in K.state.containers id) (container_in job.containers id)) o) (found_append (pinned_containers K.pins) [] id)
      ∙ moved (container_in K.state.containers id) (container_in (pinned_containers K.pins) id) (container_in job.containers id) (pinned_apart id)
      ∙ ap (λ (o : Option Container). option_or (container_in K.state.containers id) o) (sym (found_append (pinned_containers K.pins) job.containers id))
      ∙ sym (found_append K.state.containers (pinned_containers K.pins ++ job.containers) id)
      ∙ ap (λ (o : Option Job). container_in (K.state.containers ++ (pinned_containers K.pins ++ put_by o)) id) (sym open_job)

  -- and the tables are those of the core
  pub commit_tables : (t : List (ℕ × Table)) (k : KeptVersion) (strays : List Name) → AreTables t (listed K) → AreTables t (listed (after_commit k job strays K))
  commit_tables t k strays are = same_tables t (listed K) (listed (after_commit k job strays K)) (found_committed k strays) are
