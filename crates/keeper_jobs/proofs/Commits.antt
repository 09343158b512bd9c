-- What the memory says of a core whose job commits.
use Rattle.std.proofs.Common.{◌≡◌, ◌≢◌, ℕ, suc, ◌<◌, ◌≤◌, ◌+◌, ◌-◌, length, map, ◌&&◌, List, [], ◌∷◌, ◌++◌, Option, Some, None, refl, sym, ◌∙◌, ap, subst, arith}
use Rattle.std.specs.Prelude.{Contains, slice_index_or, slice_set, if◌then◌else◌, nat_le, nat_lt, option_map}
use Rattle.std.specs.Option.{option_map_or, option_or}
use Rattle.std.specs.List.{AllByRecursion, range_with_len}
use Rattle.std.proofs.lemmas.List.{map-append}
use Rattle.std.proofs.Math.ListN.{get_or-map}
use Rattle.vault_types.specs.Lists.{set_of, IsAscending}
use Rattle.vault_types.specs.declared.Fp.{Fp}
use Rattle.vault_types.specs.declared.Recipe.{Recipe}
use Rattle.vault_types.specs.declared.Table.{Table}
use Rattle.vault_types.specs.Tables.{Container, id_of}
use Rattle.vault_types.specs.State.{empty_dataset, floor_of, latest_of, next_of, container_in}
use Rattle.vault_types.specs.Marks.{Mark, marks_of}
use Rattle.vault_types.specs.declared.Pending.{Pending}
use Rattle.vault_types.specs.Events.{Core, Change, Job, put_by, pinned_containers, committed, after_commit, after_refused}
use Rattle.set_markers.specs.SetMarkers.{AreMarkersOfSets}
use Rattle.commit_laws.specs.Laws.{is_put}
use Rattle.commit_laws.proofs.Looking.{commit_tables}
use Rattle.commit_laws.proofs.Marking.{commit_markers, commit_sets}
use Rattle.commit_laws.proofs.Putting.{refused_tables}
use Rattle.vault_types.proofs.NextLemmas.{ids_below}
use Rattle.fp_index.specs.Index.{IsIndexOf}
use Rattle.keeper_catalog.specs.declared.JobInfo.{JobInfo}
use Rattle.keeper_catalog.specs.declared.SetInfo.{SetInfo}
use Rattle.keeper_catalog.specs.Catalog.{Memo, set_info, listed, table_at, AreTables, IsMemoOf}
use Rattle.commit_laws.proofs.Listing.{all_at, all_weaker, all_map, all_of, found_append, found_is, found_where, none_where, range_ascends}
use Rattle.commit_laws.proofs.Committing.{job_ids, job_low}
use Rattle.keeper_jobs.specs.Jobs.{tables_from, AreKeyed, Commits, version_by}

length_map : {X Y : Type 0} (f : X → Y) (xs : List X) → length (map f xs) ≡ length xs
length_map f [] = refl
length_map f (x ∷ xs) = ap suc (length_map f xs)

-- each table is at its id
pub keyed_of : (t : List (ℕ × Table)) (cs : List Container) → AreTables t cs → AreKeyed t
keyed_of t cs are id u is = at (container_in cs id) refl (sym (are id) ∙ is)
  where
    at : (o : Option Container) → container_in cs id ≡ o → option_map (λ (c : Container). c.table) o ≡ Some u → u.id ≡ id
    at None found e = absurd (let clash : ◌≡◌ {A = Option Table} None (Some u) = e in cc)
    at (Some c) found e = let same : c.table ≡ u = (let f : ◌≡◌ {A = Option Table} (Some c.table) (Some u) = e in cc) in ap (λ (v : Table). v.id) (sym same) ∙ (found_is cs id c found).1

-- tables that stand at ids in a row
rows_of : (t : List (ℕ × Table)) (a : ℕ) (cs : List Container) → map id_of cs ≡ range_with_len a (length cs) → AllByRecursion (λ c. table_at t c.table.id ≡ Some c.table) cs → tables_from t a (length cs) ≡ map (λ c. c.table) cs
rows_of t a [] ids all = refl
rows_of t a (c ∷ cs) ids all =
    let first : c.table.id ≡ a = cc in
    let rest : map id_of cs ≡ range_with_len (a + 1) (length cs) = cc in
    ap (λ (o : Option Table). option_map_or (λ u. u ∷ []) o [] ++ tables_from t (a + 1) (length cs)) (ap (table_at t) (sym first) ∙ all.0)
    ∙ ap (λ l. c.table ∷ l) (rows_of t (a + 1) cs rest all.1)

module _ (m : Memo) (index : List (Fp × List ℕ)) (info : JobInfo) (r : Recipe) (K : Core) (job : Job) (c : Commits m index info r K job) where
  pub sets_count : length m.sets ≡ 256
  sets_count = ap length c.memo.sets ∙ length_map set_info K.state.datasets ∙ c.core.state.sets

  pub keyed : AreKeyed m.tables
  keyed = keyed_of m.tables (listed K) c.memo.tables

  pub first_is : info.first ≡ next_of K.state
  first_is = ap (λ (i : JobInfo). i.first) c.info_is

  pub next_is : info.next ≡ next_of K.state + length job.containers
  next_is = ap (λ (i : JobInfo). i.next) c.info_is

  pub set_is : info.set ≡ job.set
  set_is = ap (λ (i : JobInfo). i.set) c.info_is

  pub in_order : info.first ≤ info.next
  in_order = omega (arith, first_is, next_is)

  pub in_range : info.set < length m.sets
  in_range = omega (arith, set_is, c.can.in_range, sets_count, c.core.state.sets)

  -- the job's tables are there

  job_found : (d : Container) → Contains job.containers d → container_in (listed K) d.table.id ≡ Some d
  job_found d among =
      let high : next_of K.state ≤ d.table.id = all_at (λ e. next_of K.state ≤ e.table.id) job.containers d (job_low K job c.core c.can.open_job) among in
      found_append K.state.containers (pinned_containers K.pins ++ put_by K.job) d.table.id
      ∙ ap (λ (o : Option Container). option_or o (container_in (pinned_containers K.pins ++ put_by K.job) d.table.id))
      (none_where K.state.containers d.table.id (all_weaker (λ e. e.table.id < next_of K.state) (λ e. e.table.id ≢ d.table.id) K.state.containers (λ e low same. omega (arith, high, low, same)) (ids_below K.state c.core.state)))
      ∙ found_append (pinned_containers K.pins) (put_by K.job) d.table.id
      ∙ ap (λ (o : Option Container). option_or o (container_in (put_by K.job) d.table.id))
      (none_where (pinned_containers K.pins) d.table.id (all_of (λ e. e.table.id ≢ d.table.id) (pinned_containers K.pins) (λ e there same. let low = (c.core.pins e there).0 in omega (arith, high, low, same))))
      ∙ ap (λ (o : Option Job). container_in (put_by o) d.table.id) c.can.open_job
      ∙ found_where job.containers d (subst IsAscending (sym (job_ids K job c.core c.can.open_job)) (range_ascends (next_of K.state) (length job.containers))) among

  job_tables : tables_from m.tables info.first (info.next - info.first) ≡ map (λ d. d.table) job.containers
  job_tables =
      ap (λ n. tables_from m.tables n (info.next - info.first)) first_is
      ∙ ap (tables_from m.tables (next_of K.state)) (let e : info.next - info.first ≡ length job.containers = omega (arith, first_is, next_is) in e)
      ∙ rows_of m.tables (next_of K.state) job.containers (job_ids K job c.core c.can.open_job)
      (all_of (λ d. table_at m.tables d.table.id ≡ Some d.table) job.containers (λ d among. c.memo.tables d.table.id ∙ ap (λ (o : Option Container). option_map (λ (e : Container). e.table) o) (job_found d among)))

  pub known_below : AllByRecursion (λ t. t.id < info.first) (map (λ d. d.table) K.state.containers)
  known_below = subst (λ n. AllByRecursion (λ t. t.id < n) (map (λ (d : Container). d.table) K.state.containers)) (sym first_is)
      (all_map (λ (d : Container). d.table) (λ t. t.id < next_of K.state) K.state.containers (ids_below K.state c.core.state))

  pub index_more : (new : List (Fp × List ℕ)) → IsIndexOf new (map (λ d. d.table) K.state.containers ++ tables_from m.tables info.first (info.next - info.first)) → IsIndexOf new (map (λ d. d.table) (committed (version_by K job r) job K.state).containers)
  index_more new is = subst (IsIndexOf new) (ap (λ l. map (λ (d : Container). d.table) K.state.containers ++ l) job_tables ∙ sym (map-append (λ (d : Container). d.table) K.state.containers job.containers)) is

  -- the memory where the job is over and the state as before
  pub still_memo : (n : Memo) (other : Option Change) (waits : Pending) → n.sets ≡ m.sets → ((marks : List Mark) → AreMarkersOfSets m.markers marks → AreMarkersOfSets n.markers marks)
      → ((id : ℕ) → table_at n.tables id ≡ (if nat_le info.first id && nat_lt id info.next then None else table_at m.tables id)) → IsMemoOf n (after_refused other None n.strays waits K)
  still_memo n other waits sets markers gone = record {
    sets = sets ∙ c.memo.sets;
    tables = refused_tables K c.core m.tables n.tables other n.strays waits left c.memo.tables;
    markers = (c.memo.markers.0, markers c.memo.markers.0 c.memo.markers.1, c.memo.markers.2);
    strays = refl;
  }
    where
      left : (id : ℕ) → table_at n.tables id ≡ (if is_put K id then None else table_at m.tables id)
      left id = gone id ∙ (λ i. if nat_le (first_is i) id && nat_lt id (last i) then None else table_at m.tables id)
        where
          last : info.next ≡ next_of K.state + length (put_by K.job)
          last = next_is ∙ ap (λ (o : Option Job). next_of K.state + length (put_by o)) (sym c.can.open_job)

  floor_is : (slice_index_or m.sets info.set (set_info empty_dataset)).floor ≡ floor_of K.state job.set
  floor_is =
      ap (λ (l : List SetInfo). (slice_index_or l info.set (set_info empty_dataset)).floor) c.memo.sets
      ∙ ap (λ (i : SetInfo). i.floor) (get_or-map set_info K.state.datasets info.set empty_dataset)
      ∙ ap (λ s. floor_of K.state s) set_is

  pub latest_is : (slice_index_or m.sets info.set (set_info empty_dataset)).latest ≡ latest_of K.state job.set
  latest_is =
      ap (λ (l : List SetInfo). (slice_index_or l info.set (set_info empty_dataset)).latest) c.memo.sets
      ∙ ap (λ (i : SetInfo). i.latest) (get_or-map set_info K.state.datasets info.set empty_dataset)
      ∙ ap (λ s. latest_of K.state s) set_is

  -- the memory behind the commit
  pub done_memo : (n : Memo) (ids : List ℕ) → ids ≡ set_of (map (λ q. q.id) r.rows)
      → n.sets ≡ slice_set m.sets info.set (record { floor = (slice_index_or m.sets info.set (set_info empty_dataset)).floor; latest = r.version; next = r.next; sparse = r.sparse })
      → n.tables ≡ m.tables → ((marks : List Mark) → AreMarkersOfSets m.markers marks → AreMarkersOfSets n.markers (marks ++ marks_of info.set r.version ids)) → IsMemoOf n (after_commit (version_by K job r) job n.strays K)
  done_memo n ids ids_are sets tables markers = record {
    sets = sets ∙ (λ i. slice_set (c.memo.sets i) (set_is i) (record { floor = floor_is i; latest = r.version; next = r.next; sparse = r.sparse })) ∙ sym (commit_sets K.state job r (version_by K job r) c.core.state refl refl c.can.version);
    tables = subst (λ (t : List (ℕ × Table)). AreTables t (listed (after_commit (version_by K job r) job n.strays K))) (sym tables) (commit_tables K job c.core c.can.open_job m.tables (version_by K job r) n.strays c.memo.tables);
    markers = (
      c.memo.markers.0 ++ marks_of job.set r.version (set_of (map (λ q. q.id) r.rows)),
      subst (λ (l : List Mark). AreMarkersOfSets n.markers (c.memo.markers.0 ++ l)) (λ i. marks_of (set_is i) r.version (ids_are i)) (markers c.memo.markers.0 c.memo.markers.1),
      commit_markers K.state job r (version_by K job r) c.core.state c.can.in_range refl c.can.version c.memo.markers.0 c.memo.markers.2,
    );
    strays = refl;
  }
