-- A container that the job puts, and the end of a job without a commit.
use Rattle.std.proofs.Common.{◌≡◌, ◌≢◌, ℕ, zero, suc, ◌+◌, ◌<◌, ◌≤◌, ◌⊎◌, inl, inr, ⊎_elim, Bool, true, false, cond, ◌&&◌, length, map, List, [], ◌∷◌, ◌++◌, Option, Some, None, refl, sym, ap, ◌∙◌, subst, arith, length-append, add-zero}
use Rattle.std.specs.Prelude.{IsSome, IfSome, nat_eq, nat_le, nat_lt, option_map, ◌==◌, if◌then◌else◌}
use Rattle.std.specs.Option.{option_or}
use Rattle.std.specs.List.{AllByRecursion, range_with_len}
use Rattle.std.proofs.lemmas.Bool.Decides.{nat_tests}
use Rattle.std.proofs.lemmas.List.{map-append}
use Rattle.std.proofs.lemmas.List.Elements.{Contains-append_left, Contains-append_cases}
use Rattle.vault_types.specs.declared.Name.{Name}
use Rattle.vault_types.specs.declared.Table.{Table}
use Rattle.vault_types.specs.declared.Pending.{Pending}
use Rattle.vault_types.specs.Tables.{Container, id_of, IsTable}
use Rattle.vault_types.specs.State.{next_of, container_in}
use Rattle.vault_types.specs.Bytes.{HasPayload}
use Rattle.vault_types.specs.Shelf.{Blobs}
use Rattle.vault_types.specs.Events.{Core, Change, Job, put_by, put_in, pinned_containers, after_put, after_abort, after_refused, IsCore, Held}
use Rattle.vault_types.proofs.NextLemmas.{ids_below}
use Rattle.keeper_catalog.specs.Catalog.{listed, table_at, AreTables}
use Rattle.commit_laws.specs.Laws.{is_put}
use Rattle.commit_laws.proofs.Listing.{all_append, all_weaker, all_unmap, all_of, no_member, found_append, none_where, range_low, range_high}

range_more : (a n : ℕ) → range_with_len a n ++ (a + n) ∷ [] ≡ range_with_len a (n + 1)
range_more a n = more a n ∙ ap (range_with_len a) (let e : suc n ≡ n + 1 = omega arith in e)
  where
    more : (a n : ℕ) → range_with_len a n ++ (a + n) ∷ [] ≡ range_with_len a (suc n)
    more a zero = ap (λ k. k ∷ []) (add-zero a)
    more a (suc n) = ap (λ l. a ∷ l) (ap (λ k. range_with_len (a + 1) n ++ k ∷ []) (let e : a + suc n ≡ (a + 1) + n = omega arith in e) ∙ more (a + 1) n)

-- ids of the state, of what pins list and of the open job

module _ (K : Core) (core : IsCore K) where
  none_named : (id : ℕ) → next_of K.state ≤ id → container_in K.state.containers id ≡ None
  none_named id high = none_where K.state.containers id (all_weaker (λ c. c.table.id < next_of K.state) (λ c. c.table.id ≢ id) K.state.containers (λ c low same. omega (arith, high, low, same)) (ids_below K.state core.state))

  none_pinned : (id : ℕ) → next_of K.state ≤ id → container_in (pinned_containers K.pins) id ≡ None
  none_pinned id high = none_where (pinned_containers K.pins) id (all_of (λ c. c.table.id ≢ id) (pinned_containers K.pins) (λ c among same. let low = (core.pins c among).0 in omega (arith, high, low, same)))

  none_put : (id : ℕ) → (id < next_of K.state) ⊎ (next_of K.state + length (put_by K.job) ≤ id) → container_in (put_by K.job) id ≡ None
  none_put id (inl low) = none_where (put_by K.job) id (all_weaker (λ c. next_of K.state ≤ c.table.id) (λ c. c.table.id ≢ id) (put_by K.job) (λ c high same. omega (arith, high, low, same))
      (all_unmap id_of (λ n. next_of K.state ≤ n) (put_by K.job) (subst (λ (l : List ℕ). AllByRecursion (λ n. next_of K.state ≤ n) l) (sym core.job) (range_low (next_of K.state) (length (put_by K.job))))))
  none_put id (inr high) = none_where (put_by K.job) id (all_weaker (λ c. c.table.id < next_of K.state + length (put_by K.job)) (λ c. c.table.id ≢ id) (put_by K.job) (λ c low same. omega (arith, high, low, same))
      (all_unmap id_of (λ n. n < next_of K.state + length (put_by K.job)) (put_by K.job) (subst (λ (l : List ℕ). AllByRecursion (λ n. n < next_of K.state + length (put_by K.job)) l) (sym core.job) (range_high (next_of K.state) (length (put_by K.job))))))

  found_listed : (id : ℕ) → container_in (listed K) id ≡ option_or (container_in K.state.containers id) (option_or (container_in (pinned_containers K.pins) id) (container_in (put_by K.job) id))
  found_listed id = found_append K.state.containers (pinned_containers K.pins ++ put_by K.job) id ∙ ap (λ (o : Option Container). option_or (container_in K.state.containers id) o) (found_append (pinned_containers K.pins) (put_by K.job) id)

  -- the table of the next id is free
  pub next_free : (t : List (ℕ × Table)) → AreTables t (listed K) → table_at t (next_of K.state + length (put_by K.job)) ≡ None
  next_free t are =
      let id = next_of K.state + length (put_by K.job) in
      are id ∙ ap (λ (o : Option Container). option_map (λ (c : Container). c.table) o) (found_listed id
      ∙ ap (λ (o : Option Container). option_or o (option_or (container_in (pinned_containers K.pins) id) (container_in (put_by K.job) id))) (none_named id (omega arith))
      ∙ ap (λ (o : Option Container). option_or o (container_in (put_by K.job) id)) (none_pinned id (omega arith))
      ∙ none_put id (inr (omega arith)))

-- a put

module _ (K : Core) (job : Job) (c : Container) (core : IsCore K) (open_job : K.job ≡ Some job) (number : c.table.id ≡ next_of K.state + length job.containers) where
  put_is : put_by (option_map (put_in c) K.job) ≡ job.containers ++ c ∷ []
  put_is = ap (λ (o : Option Job). put_by (option_map (put_in c) o)) open_job

  number_is : c.table.id ≡ next_of K.state + length (put_by K.job)
  number_is = number ∙ ap (λ (o : Option Job). next_of K.state + length (put_by o)) (sym open_job)

  pub put_core : (strays : List Name) → IsTable c.table → HasPayload c → IsCore (after_put c strays K)
  put_core strays table payload = record {
    state = core.state;
    job = subst (λ (l : List Container). map id_of l ≡ range_with_len (next_of K.state) (length l)) (sym put_is) ids_are;
    tables = subst (λ (l : List Container). AllByRecursion (λ c. IsTable c.table) l) (sym put_is) (all_append (λ c. IsTable c.table) job.containers (c ∷ []) (subst (λ (o : Option Job). AllByRecursion (λ c. IsTable c.table) (put_by o)) open_job core.tables) (table, tt));
    payloads = subst (λ (l : List Container). AllByRecursion HasPayload l) (sym put_is) (all_append HasPayload job.containers (c ∷ []) (subst (λ (o : Option Job). AllByRecursion HasPayload (put_by o)) open_job core.payloads) (payload, tt));
    job_set = subst (λ (o : Option Job). IfSome (option_map (put_in c) o) (λ j. j.set < length K.state.datasets)) (sym open_job) (subst (λ (o : Option Job). IfSome o (λ j. j.set < length K.state.datasets)) open_job core.job_set);
    pins = core.pins;
    numbers = core.numbers;
    alone = λ some. core.alone (subst (λ (o : Option Job). IsSome o) (sym open_job) refl);
    failed = core.failed;
    other = core.other;
  }
    where
      ids_are : map id_of (job.containers ++ c ∷ []) ≡ range_with_len (next_of K.state) (length (job.containers ++ c ∷ []))
      ids_are =
          map-append id_of job.containers (c ∷ [])
          ∙ ap (λ (l : List ℕ). l ++ c.table.id ∷ []) (subst (λ (o : Option Job). map id_of (put_by o) ≡ range_with_len (next_of K.state) (length (put_by o))) open_job core.job)
          ∙ ap (λ (k : ℕ). range_with_len (next_of K.state) (length job.containers) ++ k ∷ []) number
          ∙ range_more (next_of K.state) (length job.containers)
          ∙ ap (range_with_len (next_of K.state)) (sym (length-append job.containers (c ∷ [])))

  found_put : (id : ℕ) → container_in (listed (after_put c [] K)) id ≡ cond (nat_eq id c.table.id) (Some c) (container_in (listed K) id)
  found_put id =
      ap (λ (l : List Container). container_in (K.state.containers ++ (pinned_containers K.pins ++ l)) id) put_is
      ∙ found_append K.state.containers (pinned_containers K.pins ++ (job.containers ++ c ∷ [])) id
      ∙ ap (λ (o : Option Container). option_or (container_in K.state.containers id) o)
      (found_append (pinned_containers K.pins) (job.containers ++ c ∷ []) id
      ∙ ap (λ (o : Option Container). option_or (container_in (pinned_containers K.pins) id) o) (found_append job.containers (c ∷ []) id
      ∙ ap (λ (o : Option Job). option_or (container_in (put_by o) id) (container_in (c ∷ []) id)) (sym open_job)))
      ∙ at (nat_eq id c.table.id) refl
      ∙ ap (cond (nat_eq id c.table.id) (Some c)) (sym (found_listed K core id))
    where
      last : (a p j : Option Container) → option_or a (option_or p (option_or j None)) ≡ option_or a (option_or p j)
      last (Some d) p j = refl
      last None (Some d) j = refl
      last None None (Some d) = refl
      last None None None = refl

      at : (b : Bool) → nat_eq id c.table.id ≡ b
          → option_or (container_in K.state.containers id) (option_or (container_in (pinned_containers K.pins) id) (option_or (container_in (put_by K.job) id) (container_in (c ∷ []) id)))
          ≡ cond b (Some c) (option_or (container_in K.state.containers id) (option_or (container_in (pinned_containers K.pins) id) (container_in (put_by K.job) id)))
      at true t =
          let same : id ≡ c.table.id = grind (arith, nat_tests) in
          let yes : (c.table.id == id) ≡ true = grind (arith, nat_tests) in
          let e = number_is in
          ap (λ (o : Option Container). option_or o (option_or (container_in (pinned_containers K.pins) id) (option_or (container_in (put_by K.job) id) (container_in (c ∷ []) id)))) (none_named K core id (omega (arith, same, e)))
          ∙ ap (λ (o : Option Container). option_or o (option_or (container_in (put_by K.job) id) (container_in (c ∷ []) id))) (none_pinned K core id (omega (arith, same, e)))
          ∙ ap (λ (o : Option Container). option_or o (container_in (c ∷ []) id)) (none_put K core id (inr (omega (arith, same, e))))
          ∙ ap (λ b. cond b (Some c) None) yes
      at false t =
          let no : (c.table.id == id) ≡ false = grind (arith, nat_tests) in
          ap (λ b. option_or (container_in K.state.containers id) (option_or (container_in (pinned_containers K.pins) id) (option_or (container_in (put_by K.job) id) (cond b (Some c) None)))) no
          ∙ last (container_in K.state.containers id) (container_in (pinned_containers K.pins) id) (container_in (put_by K.job) id)

  -- with the container's table the tables are those of the core
  pub put_tables : (t t' : List (ℕ × Table)) (strays : List Name) → ((id : ℕ) → table_at t' id ≡ (if nat_eq id c.table.id then Some c.table else table_at t id)) → AreTables t (listed K) → AreTables t' (listed (after_put c strays K))
  put_tables t t' strays made are id =
      made id
      ∙ ap (λ (o : Option Table). cond (nat_eq id c.table.id) (Some c.table) o) (are id)
      ∙ inside (nat_eq id c.table.id)
      ∙ ap (λ (o : Option Container). option_map (λ (c : Container). c.table) o) (sym (found_put id))
    where
      inside : (b : Bool) → cond b (Some c.table) (option_map (λ (c : Container). c.table) (container_in (listed K) id)) ≡ option_map (λ (c : Container). c.table) (cond b (Some c) (container_in (listed K) id))
      inside true = refl
      inside false = refl

-- the end of a job

module _ (K : Core) (core : IsCore K) where
  job_gone : (id : ℕ) → (if is_put K id then None else option_map (λ (c : Container). c.table) (container_in (listed K) id)) ≡ option_map (λ (c : Container). c.table) (container_in (K.state.containers ++ (pinned_containers K.pins ++ [])) id)
  job_gone id =
      ap (λ (o : Option Container). cond (is_put K id) None (option_map (λ (c : Container). c.table) o)) (found_listed K core id)
      ∙ at (nat_le (next_of K.state) id) (nat_lt id (next_of K.state + length (put_by K.job))) refl refl
      ∙ ap (λ (o : Option Container). option_map (λ (c : Container). c.table) o)
      (sym (found_append K.state.containers (pinned_containers K.pins ++ []) id ∙ ap (λ (o : Option Container). option_or (container_in K.state.containers id) o) (found_append (pinned_containers K.pins) [] id)))
    where
      at : (a b : Bool) → nat_le (next_of K.state) id ≡ a → nat_lt id (next_of K.state + length (put_by K.job)) ≡ b
          → cond (a && b) None (option_map (λ (c : Container). c.table) (option_or (container_in K.state.containers id) (option_or (container_in (pinned_containers K.pins) id) (container_in (put_by K.job) id))))
          ≡ option_map (λ (c : Container). c.table) (option_or (container_in K.state.containers id) (option_or (container_in (pinned_containers K.pins) id) None))
      at true true s t =
          let high : next_of K.state ≤ id = grind (arith, nat_tests) in
          sym (ap (λ (o : Option Container). option_map (λ (c : Container). c.table) (option_or o (option_or (container_in (pinned_containers K.pins) id) None))) (none_named K core id high)
          ∙ ap (λ (o : Option Container). option_map (λ (c : Container). c.table) (option_or o None)) (none_pinned K core id high))
      at true false s t =
          let high : next_of K.state + length (put_by K.job) ≤ id = grind (arith, nat_tests) in
          ap (λ (o : Option Container). option_map (λ (c : Container). c.table) (option_or (container_in K.state.containers id) (option_or (container_in (pinned_containers K.pins) id) o))) (none_put K core id (inr high))
      at false b s t =
          let low : id < next_of K.state = grind (arith, nat_tests) in
          ap (λ (o : Option Container). option_map (λ (c : Container). c.table) (option_or (container_in K.state.containers id) (option_or (container_in (pinned_containers K.pins) id) o))) (none_put K core id (inl low))

  pub abort_tables : (t t' : List (ℕ × Table)) → ((id : ℕ) → table_at t' id ≡ (if is_put K id then None else table_at t id)) → AreTables t (listed K) → AreTables t' (listed (after_abort K))
  abort_tables t t' left are id = left id ∙ ap (λ (o : Option Table). cond (is_put K id) None o) (are id) ∙ job_gone id

  pub refused_tables : (t t' : List (ℕ × Table)) (other : Option Change) (strays : List Name) (waits : Pending) → ((id : ℕ) → table_at t' id ≡ (if is_put K id then None else table_at t id)) → AreTables t (listed K) → AreTables t' (listed (after_refused other None strays waits K))
  refused_tables t t' other strays waits left are id = left id ∙ ap (λ (o : Option Table). cond (is_put K id) None o) (are id) ∙ job_gone id

  pub abort_core : IsCore (after_abort K)
  abort_core = record {
    state = core.state;
    job = refl;
    tables = tt;
    payloads = tt;
    job_set = tt;
    pins = core.pins;
    numbers = core.numbers;
    alone = λ some. absurd (let clash : false ≡ true = some in cc);
    failed = core.failed;
    other = core.other;
  }

pub abort_held : (K : Core) (m : Blobs) → Held m K → Held m (after_abort K)
abort_held K m held = record {
  near = held.near;
  containers = λ c among. held.containers c (Contains-append_left (pinned_containers K.pins) (put_by K.job) c (⊎_elim (λ here. here) (λ none. absurd (no_member c none)) (Contains-append_cases (pinned_containers K.pins) [] c among)));
  others = held.others;
  apart = held.apart;
}
