-- A commit keeps a core, and is a change of it.
use Rattle.std.proofs.Common.{◌≡◌, ◌≢◌, ℕ, ◌<◌, ◌≤◌, ◌⊎◌, inl, inr, ⊎_elim, true, length, map, List, ◌++◌, Option, Some, None, refl, sym, ap, ◌∙◌, subst, arith}
use Rattle.std.specs.Prelude.{Contains, IsSome, IfSome, IsSomeAnd, IsTrue}
use Rattle.std.specs.Option.{option_or}
use Rattle.std.specs.List.{AllByRecursion, range_with_len}
use Rattle.std.proofs.lemmas.List.{map-append, length-set}
use Rattle.std.proofs.lemmas.List.Elements.{Contains-append_left, Contains-append_right, Contains-append_cases}
use Rattle.vault_types.specs.declared.Name.{Name}
use Rattle.vault_types.specs.declared.Row.{Row}
use Rattle.vault_types.specs.declared.Recipe.{Recipe}
use Rattle.vault_types.specs.Lists.{has, set_of, IsAscending}
use Rattle.vault_types.specs.Names.{fp}
use Rattle.vault_types.specs.Tables.{Container, id_of, has_fp, IsTable}
use Rattle.vault_types.specs.State.{State, KeptVersion, dataset, next_of, next_in, all_rows, named, container_in, HasFp, IsDataset, IsValid}
use Rattle.vault_types.specs.Bytes.{row_bytes}
use Rattle.vault_types.specs.Events.{Core, Job, put_by, version_in_recipe, CanCommit, committed, after_commit, commit_change, IsChange, IsCore}
use Rattle.vault_types.proofs.SetLemmas.{has-set_of, IsAscending-set_of, ascending_unique}
use Rattle.vault_types.proofs.StateLemmas.{row_ids}
use Rattle.vault_types.proofs.NextLemmas.{ids_below}
use Rattle.vault_types.proofs.SumLemmas.{fp-is_fp}
use Rattle.state_laws.proofs.Growing.{floor_same}
use Rattle.commit_laws.proofs.Listing.{all_append, all_set, all_weaker, all_at, all_map, all_unmap, has_of, contains_of, has_both, themselves, ascending_append, range_low, range_ascends, found_append, found_is, none_where}
use Rattle.commit_laws.proofs.Growing.{more_of, next_more, more_dataset, whole_fp, whole_empty, dataset_at, next_in_low, next_set, rows_with, ids_kept, ids_new, has_fp_more}

-- the ids of a valid state ascend

pub state_ascends : (S : State) → IsValid S → IsAscending (map id_of S.containers)
state_ascends S valid = subst IsAscending (sym valid.containers) (IsAscending-set_of (row_ids (all_rows S.datasets)))

-- the containers of the open job

module _ (K : Core) (job : Job) (core : IsCore K) (open_job : K.job ≡ Some job) where
  pub job_ids : map id_of job.containers ≡ range_with_len (next_of K.state) (length job.containers)
  job_ids = subst (λ (o : Option Job). map id_of (put_by o) ≡ range_with_len (next_of K.state) (length (put_by o))) open_job core.job

  pub job_low : AllByRecursion (λ c. next_of K.state ≤ c.table.id) job.containers
  job_low = all_unmap id_of (λ m. next_of K.state ≤ m) job.containers (subst (λ (l : List ℕ). AllByRecursion (λ m. next_of K.state ≤ m) l) (sym job_ids) (range_low (next_of K.state) (length job.containers)))

  pub job_tables : AllByRecursion (λ c. IsTable c.table) job.containers
  job_tables = subst (λ (o : Option Job). AllByRecursion (λ c. IsTable c.table) (put_by o)) open_job core.tables

  pub job_alone : K.other ≡ None
  job_alone = core.alone (subst (λ (o : Option Job). IsSome o) (sym open_job) refl)

  -- an id below the job's is none of them
  pub not_in_job : (id : ℕ) → id < next_of K.state → container_in job.containers id ≡ None
  not_in_job id below = none_where job.containers id (all_weaker (λ c. next_of K.state ≤ c.table.id) (λ c. c.table.id ≢ id) job.containers (λ c high same. omega (arith, high, same)) job_low)

-- a row whose fingerprint is in a table names that container

pub found_named : (cs : List Container) (q : Row) → HasFp cs q → has q.id (map id_of cs) ≡ true
found_named cs q there = at (container_in cs q.id) refl there
  where
    at : (o : Option Container) → container_in cs q.id ≡ o → IsSomeAnd o (λ c. IsTrue (has_fp q.fp c.table)) → has q.id (map id_of cs) ≡ true
    at None is none = absurd none
    at (Some c) is some =
        let found = found_is cs q.id c is in
        subst (λ (j : ℕ). has j (map id_of cs) ≡ true) found.1 (has_of c.table.id (map id_of cs) (all_at (λ (c : Container). Contains (map id_of cs) c.table.id) cs c (each cs) found.0))
      where
        each : (cs : List Container) → AllByRecursion (λ c. Contains (map id_of cs) c.table.id) cs
        each cs = all_unmap id_of (Contains (map id_of cs)) cs (themselves (map id_of cs))

-- the state after the commit

module _ (K : Core) (job : Job) (r : Recipe) (core : IsCore K) (can : CanCommit K job r) where
  abbrev version : KeptVersion
  version = version_in_recipe (K.state.containers ++ job.containers) r

  next_high : next_of K.state ≤ r.next
  next_high = omega (arith, can.next)

  grown_dataset : IsDataset (more_of (dataset K.state job.set) version)
  grown_dataset = more_dataset (dataset K.state job.set) version
      (dataset_at K.state.datasets job.set can.in_range core.state.datasets)
      can.rules.rules
      (whole_fp r.whole (fp (row_bytes (K.state.containers ++ job.containers) r.rows)) (fp-is_fp (row_bytes (K.state.containers ++ job.containers) r.rows)) can.rules.whole)
      (λ none. whole_empty r.whole (row_bytes (K.state.containers ++ job.containers) r.rows) (ap (row_bytes (K.state.containers ++ job.containers)) none) (can.rules.no_bytes none))
      (let low = next_in_low K.state job.set can.in_range in omega (arith, low, next_high))
      (omega (arith, can.version, can.rules.version.1))

  -- what the containers are, and what is named

  in_all : (j : ℕ) → Contains (map id_of K.state.containers) j ⊎ Contains (map id_of job.containers) j → has j (map id_of (K.state.containers ++ job.containers)) ≡ true
  in_all j there = has_of j (map id_of (K.state.containers ++ job.containers)) (subst (λ (l : List ℕ). Contains l j) (sym (map-append id_of K.state.containers job.containers))
      (⊎_elim (λ old. Contains-append_left (map id_of K.state.containers) (map id_of job.containers) j old) (λ new. Contains-append_right (map id_of K.state.containers) (map id_of job.containers) j new) there))

  of_all : (j : ℕ) → has j (map id_of (K.state.containers ++ job.containers)) ≡ true → Contains (map id_of K.state.containers) j ⊎ Contains (map id_of job.containers) j
  of_all j h = Contains-append_cases (map id_of K.state.containers) (map id_of job.containers) j
      (subst (λ (l : List ℕ). Contains l j) (map-append id_of K.state.containers job.containers) (contains_of j (map id_of (K.state.containers ++ job.containers)) h))

  named_in_all : (j : ℕ) → has j (row_ids (all_rows (committed version job K.state).datasets)) ≡ true → has j (map id_of (K.state.containers ++ job.containers)) ≡ true
  named_in_all j h = all_at (λ (m : ℕ). has m (map id_of (K.state.containers ++ job.containers)) ≡ true) (row_ids (all_rows (committed version job K.state).datasets)) j
      (all_map (λ (q : Row). q.id) (λ m. has m (map id_of (K.state.containers ++ job.containers)) ≡ true) (all_rows (committed version job K.state).datasets)
      (rows_with (λ q. has q.id (map id_of (K.state.containers ++ job.containers)) ≡ true) K.state.datasets job.set version
      (all_weaker (HasFp K.state.containers) (λ q. has q.id (map id_of (K.state.containers ++ job.containers)) ≡ true) (all_rows K.state.datasets)
      (λ q there. in_all q.id (inl (contains_of q.id (map id_of K.state.containers) (found_named K.state.containers q there)))) core.state.rows)
      (all_weaker (HasFp (K.state.containers ++ job.containers)) (λ q. has q.id (map id_of (K.state.containers ++ job.containers)) ≡ true) r.rows
      (λ q there. found_named (K.state.containers ++ job.containers) q there) can.rows)))
      (contains_of j (row_ids (all_rows (committed version job K.state).datasets)) h)

  all_named : (j : ℕ) → has j (map id_of (K.state.containers ++ job.containers)) ≡ true → has j (row_ids (all_rows (committed version job K.state).datasets)) ≡ true
  all_named j h = has_of j (row_ids (all_rows (committed version job K.state).datasets)) (⊎_elim
      (λ old. ids_kept K.state.datasets job.set version j (contains_of j (row_ids (all_rows K.state.datasets)) (sym (has-set_of j (row_ids (all_rows K.state.datasets))) ∙ ap (has j) (sym core.state.containers) ∙ has_of j (map id_of K.state.containers) old)))
      (λ new. ids_new K.state.datasets job.set version j can.in_range
      (all_at (λ (m : ℕ). Contains (row_ids r.rows) m) (map id_of job.containers) j (all_map id_of (λ m. Contains (row_ids r.rows) m) job.containers can.uses) new))
      (of_all j h))

  grown_ids : map id_of (K.state.containers ++ job.containers) ≡ named (committed version job K.state)
  grown_ids = ascending_unique (map id_of (K.state.containers ++ job.containers)) (set_of (row_ids (all_rows (committed version job K.state).datasets)))
      (subst IsAscending (sym (map-append id_of K.state.containers job.containers))
      (ascending_append (next_of K.state) (map id_of K.state.containers) (map id_of job.containers)
      (state_ascends K.state core.state)
      (subst IsAscending (sym (job_ids K job core can.open_job)) (range_ascends (next_of K.state) (length job.containers)))
      (all_map id_of (λ m. m < next_of K.state) K.state.containers (ids_below K.state core.state))
      (all_map id_of (λ m. next_of K.state ≤ m) job.containers (job_low K job core can.open_job))))
      (IsAscending-set_of (row_ids (all_rows (committed version job K.state).datasets)))
      (λ j. has_both j _ _ (all_named j) (named_in_all j) ∙ sym (has-set_of j (row_ids (all_rows (committed version job K.state).datasets))))

  grown_valid : IsValid (committed version job K.state)
  grown_valid = record {
    sets = length-set K.state.datasets job.set (more_of (dataset K.state job.set) version) ∙ core.state.sets;
    datasets = all_set IsDataset K.state.datasets job.set (more_of (dataset K.state job.set) version) core.state.datasets grown_dataset;
    containers = grown_ids;
    tables = all_append (λ c. IsTable c.table) K.state.containers job.containers core.state.tables (job_tables K job core can.open_job);
    rows = rows_with (HasFp (K.state.containers ++ job.containers)) K.state.datasets job.set version
        (all_weaker (HasFp K.state.containers) (HasFp (K.state.containers ++ job.containers)) (all_rows K.state.datasets) (λ q there. has_fp_more K.state.containers job.containers q there) core.state.rows)
        can.rows;
  }

  grown_next : next_of (committed version job K.state) ≡ r.next
  grown_next =
      let d = more_of (dataset K.state job.set) version in
      let e : next_in d ≡ r.next = next_more (dataset K.state job.set) version in
      next_set K.state job.set d can.in_range (omega (arith, e, next_high)) ∙ e

  -- a pinned container is found as it was

  pin_found : (c : Container) → c.table.id < next_of K.state → IfSome (container_in K.state.containers c.table.id) (λ d. d ≡ c) → IfSome (container_in (K.state.containers ++ job.containers) c.table.id) (λ d. d ≡ c)
  pin_found c below was = subst (λ (o : Option Container). IfSome o (λ d. d ≡ c)) (sym (found_append K.state.containers job.containers c.table.id)) (at (container_in K.state.containers c.table.id) was)
    where
      at : (o : Option Container) → IfSome o (λ d. d ≡ c) → IfSome (option_or o (container_in job.containers c.table.id)) (λ d. d ≡ c)
      at (Some d) here = here
      at None here = subst (λ (o : Option Container). IfSome o (λ d. d ≡ c)) (sym (not_in_job K job core can.open_job c.table.id below)) tt

  commit_core_of : (strays : List Name) → IsCore (after_commit version job strays K)
  commit_core_of strays = record {
    state = grown_valid;
    job = refl;
    tables = tt;
    payloads = tt;
    job_set = tt;
    pins = λ c among. let was = core.pins c among in (omega (arith, was.0, grown_next, next_high), pin_found c was.0 was.1);
    numbers = core.numbers;
    alone = λ some. refl;
    failed = λ s is. let was = core.failed s is in omega (arith, was, length-set K.state.datasets job.set (more_of (dataset K.state job.set) version));
    other = tt;
  }

  commit_change_of : IsChange K.state job.set (commit_change version job r K.state)
  commit_change_of = record {
    in_range = can.in_range;
    kind = inl (refl, floor_same K.state job.set version job.containers core.state can.in_range job.set);
    containers = λ c among. ⊎_elim (λ old. inl old) (λ new. inr (all_at (λ (c : Container). next_of K.state ≤ c.table.id) job.containers c (job_low K job core can.open_job) new)) (Contains-append_cases K.state.containers job.containers c among);
    sets = length-set K.state.datasets job.set (more_of (dataset K.state job.set) version);
    valid = grown_valid;
  }

module _ (K : Core) (job : Job) (r : Recipe) (k : KeptVersion) (core : IsCore K) (can : CanCommit K job r) (is : k ≡ version_in_recipe (K.state.containers ++ job.containers) r) where
  -- a commit keeps a core
  pub commit_core : (strays : List Name) → IsCore (after_commit k job strays K)
  commit_core strays = subst (λ (v : KeptVersion). IsCore (after_commit v job strays K)) (sym is) (commit_core_of K job r core can strays)

  -- and is a change of its set
  pub commit_is_change : IsChange K.state job.set (commit_change k job r K.state)
  commit_is_change = subst (λ (v : KeptVersion). IsChange K.state job.set (commit_change v job r K.state)) (sym is) (commit_change_of K job r core can)

  -- the first free id is the recipe's
  pub commit_next : next_of (committed k job K.state) ≡ r.next
  commit_next = subst (λ (v : KeptVersion). next_of (committed v job K.state) ≡ r.next) (sym is) (grown_next K job r core can)
