-- An open job goes on: a row for a chunk that is kept, and a container with its rows; and when its recipe may be committed.
use Rattle.std.proofs.Common.{◌≡◌, ◌⊎◌, inl, inr, ⊎_elim, ℕ, zero, suc, ◌+◌, ◌<◌, ◌≤◌, Bool, true, false, cond, length, map, max, List, [], ◌∷◌, ◌++◌, Option, Some, None, refl, sym, ◌∙◌, ap, subst, arith, length-append, append_assoc}
use Rattle.std.specs.Prelude.{Contains, IfSome, IsSomeAnd, IsTrue, filter, nat_le, slice_index_or, option_map}
use Rattle.std.specs.Option.{option_map_or}
use Rattle.std.specs.List.{AllByRecursion, list_any}
use Rattle.std.proofs.lemmas.Bool.Decides.{nat_tests}
use Rattle.std.proofs.lemmas.List.{map-append}
use Rattle.std.proofs.lemmas.List.Elements.{Contains-append_left, Contains-append_right}
use Rattle.std.proofs.lemmas.List.Folds.{list_any_at}
use Rattle.vault_types.specs.declared.Fp.{Fp}
use Rattle.vault_types.specs.declared.Row.{Row}
use Rattle.vault_types.specs.declared.TableRow.{TableRow}
use Rattle.vault_types.specs.declared.Table.{Table}
use Rattle.vault_types.specs.declared.Name.{Name}
use Rattle.vault_types.specs.declared.Recipe.{Recipe}
use Rattle.vault_types.specs.Blobs.{IsRecipe}
use Rattle.vault_types.specs.Lists.{greatest, IsAscending}
use Rattle.vault_types.specs.Names.{same_fp, IsFp}
use Rattle.vault_types.specs.Tables.{Container, id_of, newest, has_fp, IsTable}
use Rattle.vault_types.specs.State.{next_of, latest_of, container_in, HasFp}
use Rattle.vault_types.specs.Events.{Core, Job, put_in, after_put, IsCore, CanCommit}
use Rattle.vault_types.proofs.NextLemmas.{ids_below}
use Rattle.container_fill.proofs.FpLemmas.{same-refl}
use Rattle.fp_index.specs.Index.{IsIndexOf}
use Rattle.blob_parts.specs.Recipes.{FitsRow}
use Rattle.keeper_catalog.specs.View.{View, Keeps}
use Rattle.commit_laws.proofs.Listing.{all_append, all_weaker, all_map, all_of, no_member, first_of_list, later_of_list, ascending_append, range_ascends, found_where, some_same, none_some}
use Rattle.commit_laws.proofs.Committing.{state_ascends, job_ids, job_low}
use Rattle.commit_laws.proofs.Growing.{has_fp_more}
use Rattle.keeper_driver.specs.declared.jobs.Draft.{Draft}
use Rattle.keeper_driver.specs.Drafts.{IsDraft, row_in}

-- the newest container that has a fingerprint

member_greatest : (ns : List ℕ) (n : ℕ) → greatest ns ≡ Some n → Contains ns n
member_greatest [] n e = absurd (none_some n e)
member_greatest (m ∷ ns) n e = step (greatest ns) refl (some_same _ _ e) (member_greatest ns)
  where
    larger : (k : ℕ) (b : Bool) → nat_le m k ≡ b → max m k ≡ n → Contains ns k → Contains (m ∷ ns) n
    larger k true t is there = let same : k ≡ n = grind (arith, nat_tests) in later_of_list m ns n (subst (Contains ns) same there)
    larger k false t is there = let same : m ≡ n = grind (arith, nat_tests) in subst (Contains (m ∷ ns)) same (first_of_list m ns)

    step : (o : Option ℕ) → greatest ns ≡ o → option_map_or (max m) o m ≡ n → ((k : ℕ) → greatest ns ≡ Some k → Contains ns k) → Contains (m ∷ ns) n
    step None none is rest = subst (Contains (m ∷ ns)) is (first_of_list m ns)
    step (Some k) some is rest = larger k (nat_le m k) refl is (rest k some)

record IsThere (cs : List Container) (f : Fp) (id : ℕ) : Type 0 where
  pub container : Container
  pub among : Contains cs container
  pub has_id : container.table.id ≡ id
  pub has : has_fp f container.table ≡ true

first_or_later : {X : Type 0} (x : X) (xs : List X) (y : X) → Contains (x ∷ xs) y → (x ≡ y) ⊎ Contains xs y
first_or_later x xs y there = at there.0 there.1 there.2
  where
    at : (k : ℕ) → k < length (x ∷ xs) → slice_index_or (x ∷ xs) k y ≡ y → (x ≡ y) ⊎ Contains xs y
    at zero low is = inl is
    at (suc k) low is = inr (k, omega (arith, low), is)

named_there : (f : Fp) (cs : List Container) (id : ℕ) → Contains (map (λ (t : Table). t.id) (filter (has_fp f) (map (λ (c : Container). c.table) cs))) id → IsThere cs f id
named_there f [] id there = absurd (no_member id there)
named_there f (c ∷ cs) id there = step (has_fp f c.table) refl there (named_there f cs id)
  where
    more : IsThere cs f id → IsThere (c ∷ cs) f id
    more t = record { container = t.container; among = later_of_list c cs t.container t.among; has_id = t.has_id; has = t.has }

    rest : List Table
    rest = filter (has_fp f) (map (λ (d : Container). d.table) cs)

    step : (b : Bool) → has_fp f c.table ≡ b → Contains (map (λ (t : Table). t.id) (cond b (c.table ∷ filter (has_fp f) (map (λ (d : Container). d.table) cs)) (filter (has_fp f) (map (λ (d : Container). d.table) cs)))) id
        → (Contains (map (λ (t : Table). t.id) (filter (has_fp f) (map (λ (d : Container). d.table) cs))) id → IsThere cs f id) → IsThere (c ∷ cs) f id
    step true h there later = ⊎_elim
        (λ same. record { container = c; among = first_of_list c cs; has_id = same; has = h })
        (λ behind. more (later behind))
        (first_or_later c.table.id (map (λ (t : Table). t.id) (filter (has_fp f) (map (λ (d : Container). d.table) cs))) id there)
    step false h there later = more (later there)

found_newest : (cs : List Container) (q : Row) → IsAscending (map id_of cs) → newest (map (λ (c : Container). c.table) cs) q.fp ≡ Some q.id → HasFp cs q
found_newest cs q up is =
    let t = named_there q.fp cs q.id (member_greatest (map (λ (t : Table). t.id) (filter (has_fp q.fp) (map (λ (c : Container). c.table) cs))) q.id is) in
    subst (λ (o : Option Container). IsSomeAnd o (λ c. IsTrue (has_fp q.fp c.table))) (sym (found_where cs t.container up t.among) ∙ ap (container_in cs) t.has_id) t.has

-- the containers of the state and of the job ascend

all_ascend : (K : Core) (job : Job) → IsCore K → K.job ≡ Some job → IsAscending (map id_of (K.state.containers ++ job.containers))
all_ascend K job core open_job =
    subst IsAscending (sym (map-append id_of K.state.containers job.containers))
    (ascending_append (next_of K.state) (map id_of K.state.containers) (map id_of job.containers)
    (state_ascends K.state core.state)
    (subst IsAscending (sym (job_ids K job core open_job)) (range_ascends (next_of K.state) (length job.containers)))
    (all_map id_of (λ m. m < next_of K.state) K.state.containers (ids_below K.state core.state))
    (all_map id_of (λ m. next_of K.state ≤ m) job.containers (job_low K job core open_job)))

-- rows of a container

has_itself : (rows : List TableRow) (r : TableRow) → Contains rows r → list_any (λ (q : TableRow). same_fp q.fp r.fp) rows ≡ true
has_itself rows r there = list_any_at (λ (q : TableRow). same_fp q.fp r.fp) rows there.0 r there.1 (ap (λ (q : TableRow). same_fp q.fp r.fp) there.2 ∙ same-refl r.fp)

rows_there : (cs : List Container) (c : Container) → container_in cs c.table.id ≡ Some c → AllByRecursion (HasFp cs) (map (row_in c.table.id) c.table.rows)
rows_there cs c is = all_map (row_in c.table.id) (HasFp cs) c.table.rows
    (all_of (λ (r : TableRow). HasFp cs (row_in c.table.id r)) c.table.rows
    (λ r there. subst (λ (o : Option Container). IsSomeAnd o (λ d. IsTrue (has_fp r.fp d.table))) (sym is) (has_itself c.table.rows r there)))

both : (fits : (r : TableRow) → Type 0) (lens : (r : TableRow) → Type 0) (rows : List TableRow) → AllByRecursion fits rows → AllByRecursion lens rows → AllByRecursion (λ r. fits r × lens r) rows
both fits lens [] f l = tt
both fits lens (r ∷ rows) f l = ((f.0, l.0), both fits lens rows f.1 l.1)

rows_fit : (t : Table) → IsTable t → AllByRecursion FitsRow (map (row_in t.id) t.rows)
rows_fit t is = all_map (row_in t.id) FitsRow t.rows
    (all_weaker (λ (r : TableRow). IsFp r.fp × ((1 ≤ r.len) × (r.len ≤ 65536))) (λ r. FitsRow (row_in t.id r)) t.rows
    (λ r both. (both.0, (is.id_high, omega (arith, both.1.1))))
    (both (λ r. IsFp r.fp) (λ r. (1 ≤ r.len) × (r.len ≤ 65536)) t.rows is.fps is.lens))

rows_name : (id : ℕ) (rows : List TableRow) → 1 ≤ length rows → Contains (map (λ (q : Row). q.id) (map (row_in id) rows)) id
rows_name id [] some = absurd (omega (arith, some))
rows_name id (r ∷ rows) some = first_of_list id (map (λ (q : Row). q.id) (map (row_in id) rows))

ids_more : (rows more : List Row) (id : ℕ) → Contains (map (λ (q : Row). q.id) rows) id → Contains (map (λ (q : Row). q.id) (rows ++ more)) id
ids_more rows more id there = subst (λ (l : List ℕ). Contains l id) (sym (map-append (λ (q : Row). q.id) rows more)) (Contains-append_left (map (λ (q : Row). q.id) rows) (map (λ (q : Row). q.id) more) id there)

ids_behind : (rows more : List Row) (id : ℕ) → Contains (map (λ (q : Row). q.id) more) id → Contains (map (λ (q : Row). q.id) (rows ++ more)) id
ids_behind rows more id there = subst (λ (l : List ℕ). Contains l id) (sym (map-append (λ (q : Row). q.id) rows more)) (Contains-append_right (map (λ (q : Row). q.id) rows) (map (λ (q : Row). q.id) more) id there)

-- the job goes on

module _ (v : View) (d : Draft) (is : IsDraft v d) where
  abbrev K : Core
  K = is.opened.core

  abbrev job : Job
  job = is.opened.job

  -- with more rows
  pub with_rows : (e : Draft) (more : List Row) → e.set ≡ d.set → e.version ≡ d.version → e.next ≡ d.next → e.index ≡ d.index → e.rows ≡ d.rows ++ more
      → AllByRecursion (HasFp (K.state.containers ++ job.containers)) more → AllByRecursion FitsRow more → IsDraft v e
  with_rows e more set version next index rows there fit = record {
    opened = record { core = K; keeps = is.opened.keeps; job = job; open_job = is.opened.open_job; lent = index ∙ is.opened.lent };
    set = set ∙ is.set;
    version = version ∙ is.version ∙ ap (λ s. latest_of K.state s + 1) (sym set);
    next = next ∙ is.next;
    rows = subst (AllByRecursion (HasFp (K.state.containers ++ job.containers))) (sym rows) (all_append (HasFp (K.state.containers ++ job.containers)) d.rows more is.rows there);
    uses = subst (λ (l : List Row). AllByRecursion (λ (c : Container). Contains (map (λ (r : Row). r.id) l) c.table.id) job.containers) (sym rows)
        (all_weaker (λ (c : Container). Contains (map (λ (r : Row). r.id) d.rows) c.table.id) (λ (c : Container). Contains (map (λ (r : Row). r.id) (d.rows ++ more)) c.table.id) job.containers
        (λ c named. ids_more d.rows more c.table.id named) is.uses);
    fits = subst (AllByRecursion FitsRow) (sym rows) (all_append FitsRow d.rows more is.fits fit);
  }

  -- with the row of a chunk that is kept
  pub with_kept : (e : Draft) (q : Row) → e.set ≡ d.set → e.version ≡ d.version → e.next ≡ d.next → e.index ≡ d.index → e.rows ≡ d.rows ++ q ∷ []
      → ((tables : List Table) → IsIndexOf d.index tables → Some q.id ≡ newest tables q.fp) → FitsRow q → IsDraft v e
  with_kept e q set version next index rows found fit = with_rows e (q ∷ []) set version next index rows (
    has_fp_more K.state.containers job.containers q
        (found_newest K.state.containers q (state_ascends K.state is.opened.keeps.core.state)
        (sym (found (map (λ (c : Container). c.table) K.state.containers) (subst (λ l. IsIndexOf l (map (λ (c : Container). c.table) K.state.containers)) (sym is.opened.lent) is.opened.keeps.index)))),
    tt,
  )
      (fit, tt)

  -- with a container that was put
  module _ (w : View) (e : Draft) (c : Container) (strays : List Name) (keeps : Keeps w (after_put c strays K)) where
    put_job : (after_put c strays K).job ≡ Some (put_in c job)
    put_job = ap (option_map (put_in c)) is.opened.open_job

    there : container_in (K.state.containers ++ (job.containers ++ c ∷ [])) c.table.id ≡ Some c
    there = found_where (K.state.containers ++ (job.containers ++ c ∷ [])) c
        (all_ascend (after_put c strays K) (put_in c job) keeps.core put_job)
        (Contains-append_right K.state.containers (job.containers ++ c ∷ []) c (Contains-append_right job.containers (c ∷ []) c (first_of_list c [])))

    pub with_container : e.index ≡ w.index → e.set ≡ d.set → e.version ≡ d.version → e.next ≡ d.next + 1 → e.rows ≡ d.rows ++ map (row_in c.table.id) c.table.rows → IsTable c.table → IsDraft w e
    with_container lent set version next rows rules =
        let more : List Row = map (row_in c.table.id) c.table.rows in
        record {
          opened = record { core = after_put c strays K; keeps = keeps; job = put_in c job; open_job = put_job; lent = lent };
          set = set ∙ is.set;
          version = version ∙ is.version ∙ ap (λ s. latest_of K.state s + 1) (sym set);
          next = next ∙ (let at = is.next in let len = length-append job.containers (c ∷ []) in omega (arith, at, len));
          rows = subst (AllByRecursion (HasFp (K.state.containers ++ (job.containers ++ c ∷ [])))) (sym rows)
              (all_append (HasFp (K.state.containers ++ (job.containers ++ c ∷ []))) d.rows more
              (all_weaker (HasFp (K.state.containers ++ job.containers)) (HasFp (K.state.containers ++ (job.containers ++ c ∷ []))) d.rows
              (λ q has. subst (λ (l : List Container). HasFp l q) (append_assoc K.state.containers job.containers (c ∷ [])) (has_fp_more (K.state.containers ++ job.containers) (c ∷ []) q has)) is.rows)
              (rows_there (K.state.containers ++ (job.containers ++ c ∷ [])) c there));
          uses = subst (λ (l : List Row). AllByRecursion (λ (x : Container). Contains (map (λ (r : Row). r.id) l) x.table.id) (job.containers ++ c ∷ [])) (sym rows)
              (all_append (λ (x : Container). Contains (map (λ (r : Row). r.id) (d.rows ++ more)) x.table.id) job.containers (c ∷ [])
              (all_weaker (λ (x : Container). Contains (map (λ (r : Row). r.id) d.rows) x.table.id) (λ (x : Container). Contains (map (λ (r : Row). r.id) (d.rows ++ more)) x.table.id) job.containers
              (λ x named. ids_more d.rows more x.table.id named) is.uses)
              (ids_behind d.rows more c.table.id (rows_name c.table.id c.table.rows rules.count), tt));
          fits = subst (AllByRecursion FitsRow) (sym rows) (all_append FitsRow d.rows more is.fits (rows_fit c.table rules));
        }

  -- a recipe of it may be committed
  pub can_commit : (r : Recipe) → IsRecipe r → r.set ≡ d.set → r.version ≡ d.version → r.next ≡ d.next → r.rows ≡ d.rows → CanCommit K job r
  can_commit r rules set version next rows = record {
    open_job = is.opened.open_job;
    rules = rules;
    set = set ∙ is.set;
    in_range = subst (λ (o : Option Job). IfSome o (λ j. j.set < length K.state.datasets)) is.opened.open_job is.opened.keeps.core.job_set;
    version = version ∙ is.version ∙ ap (λ s. latest_of K.state s + 1) is.set;
    rows = subst (AllByRecursion (HasFp (K.state.containers ++ job.containers))) (sym rows) is.rows;
    uses = subst (λ (l : List Row). AllByRecursion (λ (c : Container). Contains (map (λ (q : Row). q.id) l) c.table.id) job.containers) (sym rows) is.uses;
    next = next ∙ is.next;
  }
