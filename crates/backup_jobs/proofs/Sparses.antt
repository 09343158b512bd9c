-- The sparse list of a version.
use Rattle.std.proofs.Common.{◌≡◌, ℕ, suc, ◌+◌, ◌-◌, ◌<◌, Bool, true, false, cond, not, ◌||◌, List, [], ◌∷◌, ◌++◌, map, filter, Some, unwrap_or, refl, sym, ap, ◌∙◌, arith}
use Rattle.std.specs.Prelude.{nat_eq, nat_lt, ◌==◌, slice_get, option_map}
use Rattle.std.specs.Option.{option_map_or}
use Rattle.std.specs.Map.{lookup}
use Rattle.std.proofs.lemmas.Bool.Decides.{nat_tests}
use Rattle.std.proofs.lemmas.Map.Views.{any-filter_same}
use Rattle.vault_types.specs.declared.Row.{Row}
use Rattle.vault_types.specs.Lists.{has, distinct_by}
use Rattle.vault_types.specs.Tables.{Container, payload_len}
use Rattle.vault_types.specs.State.{container_in}
use Rattle.vault_types.specs.Backup.{payload_length_of}
use Rattle.vault_types.specs.Sparse.{sparse}
use Rattle.har_monitor.specs.Monitor.{Counted, HasSeen, NamesEach, ids_of, listed_length as given}
use Rattle.har_monitor.proofs.Callers.{names_each, sparse_same}
use Rattle.backup_jobs.specs.Going.{AreNumbered, len_of, own_len, len_at}

-- a number of a list is among those without repeats
has-distinct_by : (c : ℕ) (ns : List ℕ) → has c ns ≡ true → has c (distinct_by nat_eq ns) ≡ true
has-distinct_by c [] e = e
has-distinct_by c (n ∷ ns) e = step (nat_eq c n) refl e (λ f. has-distinct_by c ns f)
  where
    apart : (k : ℕ) → nat_eq c n ≡ false → nat_eq c k ≡ true → not (nat_eq n k) ≡ true
    apart k t g = let other : nat_eq n k ≡ false = grind (arith, nat_tests) in ap not other

    step : (b : Bool) → nat_eq c n ≡ b → (b || has c ns) ≡ true → (has c ns ≡ true → has c (distinct_by nat_eq ns) ≡ true)
        → (b || has c (filter (λ m. not (nat_eq n m)) (distinct_by nat_eq ns))) ≡ true
    step true t f more = refl
    step false t f more = any-filter_same (nat_eq c) (λ m. not (nat_eq n m)) true (λ k g. apart k t g) (distinct_by nat_eq ns) ∙ more f

-- what a list of pairs gives for a number of the list that it was made of
given_at : (f : ℕ → ℕ) (c : ℕ) (ids : List ℕ) → has c ids ≡ true → given (map (λ i. (i, f i)) ids) c ≡ f c
given_at f c [] e = cc
given_at f c (i ∷ ids) e = step (nat_eq c i) refl e (λ g. given_at f c ids g)
  where
    step : (b : Bool) → nat_eq c i ≡ b → (b || has c ids) ≡ true → (has c ids ≡ true → given (map (λ i. (i, f i)) ids) c ≡ f c)
        → unwrap_or (cond b (Some (f i)) (lookup (nat_eq c) (map (λ i. (i, f i)) ids))) 0 ≡ f c
    step true t g more = let same : i ≡ c = grind (arith, nat_tests) in ap f same
    step false t g more = more g

ids_given : (f : ℕ → ℕ) (ids : List ℕ) → map (λ (p : ℕ × ℕ). p.0) (map (λ c. (c, f c)) ids) ≡ ids
ids_given f [] = refl
ids_given f (c ∷ ids) = ap (λ cs. c ∷ cs) (ids_given f ids)

-- payloads that are made of a monitor's ids name each of them once
module _ (m : Counted) (rows : List Row) (f : ℕ → ℕ) (payloads : List (ℕ × ℕ)) (seen : HasSeen m rows) (made : payloads ≡ map (λ c. (c, f c)) m.ids) where
  pub named : NamesEach m.ids payloads
  named = names_each m rows payloads seen (ap (map (λ (p : ℕ × ℕ). p.0)) made ∙ ids_given f m.ids)

  -- the list by these payloads is that by f
  pub sparse_given : (threshold limit : ℕ) → sparse rows (given payloads) threshold limit ≡ sparse rows f threshold limit
  sparse_given threshold limit = sparse_same rows (given payloads) f threshold limit
      (λ c e. ap (λ ps. given ps c) made ∙ given_at f c m.ids (ap (has c) seen.ids ∙ has-distinct_by c (ids_of rows) e))

-- where the containers of a job are numbered, how many bytes one has stands at its place
own_found : (cs : List Container) (first c : ℕ) → AreNumbered first cs → payload_length_of cs c ≡ own_len first (map len_of cs) c
own_found [] first c h = none (nat_lt c first)
  where
    none : (b : Bool) → ◌≡◌ {A = ℕ} 0 (cond b 0 0)
    none true = refl
    none false = refl
own_found (d ∷ cs) first c h = step (d.table.id == c) (nat_lt c first) refl refl (own_found cs (first + 1) c h.1)
  where
    step : (b l : Bool) → (d.table.id == c) ≡ b → nat_lt c first ≡ l → payload_length_of cs c ≡ own_len (first + 1) (map len_of cs) c
        → option_map_or (λ (k : Container). payload_len k.table.rows) (cond b (Some d) (container_in cs c)) 0 ≡ cond l 0 (unwrap_or (slice_get (len_of d ∷ map len_of cs) (c - first)) 0)
    step true true e f more =
        let same : d.table.id ≡ c = grind (arith, nat_tests) in
        let low : c < first = grind (arith, nat_tests) in
        absurd (omega (arith, h.0, same, low))
    step true false e f more =
        let same : d.table.id ≡ c = grind (arith, nat_tests) in
        let none : c - first ≡ 0 = omega (arith, h.0, same) in
        sym (ap (λ n. unwrap_or (slice_get (len_of d ∷ map len_of cs) n) 0) none)
    step false true e f more =
        let low : c < first = grind (arith, nat_tests) in
        let below : nat_lt c (first + 1) ≡ true = grind (arith, nat_tests) in
        more ∙ ap (λ b. cond b 0 (unwrap_or (slice_get (map len_of cs) (c - (first + 1))) 0)) below
    step false false e f more =
        let other : nat_lt c (first + 1) ≡ false = grind (arith, nat_tests, h.0) in
        let place : c - first ≡ suc (c - (first + 1)) = grind (arith, nat_tests, h.0) in
        more ∙ ap (λ b. cond b 0 (unwrap_or (slice_get (map len_of cs) (c - (first + 1))) 0)) other
        ∙ sym (ap (λ n. unwrap_or (slice_get (len_of d ∷ map len_of cs) n) 0) place)

-- so does that of a container of the store, or of the job
pub len_found : (old cs : List Container) (first c : ℕ) → AreNumbered first cs → payload_length_of (old ++ cs) c ≡ len_at old first (map len_of cs) c
len_found [] cs first c h = own_found cs first c h
len_found (d ∷ old) cs first c h = step (d.table.id == c) (len_found old cs first c h)
  where
    step : (b : Bool) → payload_length_of (old ++ cs) c ≡ len_at old first (map len_of cs) c
        → option_map_or (λ (k : Container). payload_len k.table.rows) (cond b (Some d) (container_in (old ++ cs) c)) 0 ≡ unwrap_or (option_map len_of (cond b (Some d) (container_in old c))) (own_len first (map len_of cs) c)
    step true more = refl
    step false more = more

-- the sparse list of a version, from how many bytes the payload of each container has
pub sparse_found : (rows : List Row) (old cs : List Container) (first threshold limit : ℕ) → AreNumbered first cs
    → sparse rows (payload_length_of (old ++ cs)) threshold limit ≡ sparse rows (len_at old first (map len_of cs)) threshold limit
sparse_found rows old cs first threshold limit h =
    sparse_same rows (payload_length_of (old ++ cs)) (len_at old first (map len_of cs)) threshold limit (λ c e. len_found old cs first c h)
