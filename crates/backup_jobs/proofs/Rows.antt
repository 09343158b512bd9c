-- The rows and the containers of a job.
use Rattle.std.proofs.Common.{◌≡◌, ℕ, zero, suc, ◌+◌, ◌<◌, ◌≤◌, Bool, true, false, cond, ◌&&◌, ◌||◌, List, [], ◌∷◌, ◌++◌, map, length, drop, take, refl, sym, ap, ◌∙◌, subst, arith, Option, Some, None}
use Rattle.std.specs.Prelude.{find, is_some, max, option_map, unwrap_or, Contains, IsTrue, IsSomeAnd, ◌==◌}
use Rattle.std.specs.Option.{option_or}
use Rattle.std.specs.List.{AllByRecursion}
use Rattle.std.proofs.lemmas.List.Folds.{find-append, list_any-append}
use Rattle.std.proofs.lemmas.Bool.Decides.{nat_tests}
use Rattle.vault_types.specs.declared.Fp.{Fp}
use Rattle.vault_types.specs.declared.How.{How}
use Rattle.vault_types.specs.declared.How.TheVariants.{Old, Own, Write}
use Rattle.vault_types.specs.Lists.{parts_up_to, fitting}
use Rattle.vault_types.specs.Names.{NamedChunk, named_chunk, fp, same_fp, IsFp}
use Rattle.vault_types.specs.Pieces.{piece_len, pieces}
use Rattle.vault_types.specs.Tables.{Container, has_fp}
use Rattle.vault_types.specs.State.{container_in}
use Rattle.vault_types.specs.Decide.{is_written, is_write}
use Rattle.vault_types.specs.Fill.{new_container, new_containers, taker, home, rows_of, writes}
use Rattle.vault_types.proofs.PieceLemmas.{piece_rule}
use Rattle.vault_types.proofs.FillLemmas.{first_with, all_of, same_fps, has_fp-chunks, taker_above}
use Rattle.vault_types.proofs.DecideLemmas.{IsFair, AreFair, places_of}
use Rattle.vault_types.proofs.SumLemmas.{fp-is_fp}
use Rattle.container_fill.proofs.FpLemmas.{same-refl}
use Rattle.container_fill.specs.Carried.{AreInTurnBehind}
use Rattle.backup_jobs.proofs.Chunks.{AreChunks, chunk_sizes}

-- each row has a fingerprint, and 1 to 65,536 bytes

pub rows_fps : (new : List Container) (ys : List (List ℕ)) (hs : List How) → AllByRecursion (λ r. IsFp r.fp) (rows_of new (map named_chunk ys) hs)
rows_fps new [] hs = tt
rows_fps new (y ∷ ys) [] = tt
rows_fps new (y ∷ ys) (h ∷ hs) = (fp-is_fp y, rows_fps new ys hs)

pub rows_lens : (new : List Container) (ys : List (List ℕ)) (hs : List How) → AreChunks ys → AllByRecursion (λ r. (1 ≤ r.len) × (r.len ≤ 65536)) (rows_of new (map named_chunk ys) hs)
rows_lens new [] hs h = tt
rows_lens new (y ∷ ys) [] h = tt
rows_lens new (y ∷ ys) (how ∷ hs) h = (chunk_sizes y h.0, rows_lens new ys hs h.1)

-- what is found of a list and not in its front is in the rest

some_in_rest : (f : Fp) (p qs : List NamedChunk) → is_some (first_with f qs) ≡ true → is_some (first_with f (p ++ qs)) ≡ true
some_in_rest f p qs h = ap is_some (find-append (λ c. same_fp c.fp f) p qs) ∙ step (first_with f p)
  where
    step : (o : Option NamedChunk) → is_some (option_or o (first_with f qs)) ≡ true
    step None = h
    step (Some c) = refl

-- the container that took a fingerprint stands under its id, and has it

abbrev HasIt : Fp → Container → Type 0
HasIt f k = IsTrue (has_fp f k.table)

abbrev id_or_zero : Option Container → ℕ
id_or_zero o = unwrap_or (option_map (λ c. c.table.id) o) 0

none_here : (next : ℕ) (p : List NamedChunk) (f : Fp) → has_fp f (new_container next p).table ≡ false → is_some (first_with f p) ≡ false
none_here next p f e = sym (has_fp-chunks f p) ∙ e

later_some : (f : Fp) (p qs : List NamedChunk) → is_some (first_with f p) ≡ false → is_some (first_with f (p ++ qs)) ≡ true → is_some (first_with f qs) ≡ true
later_some f p qs none h = step (first_with f p) none (sym (ap is_some (find-append (λ c. same_fp c.fp f) p qs)) ∙ h)
  where
    step : (o : Option NamedChunk) → is_some o ≡ false → is_some (option_or o (first_with f qs)) ≡ true → is_some (first_with f qs) ≡ true
    step None e i = i
    step (Some c) e i = cc

pub taker_found : (next : ℕ) (ps : List (List NamedChunk)) (f : Fp) → is_some (first_with f (all_of ps)) ≡ true
    → IsSomeAnd (container_in (new_containers next ps) (taker (new_containers next ps) f)) (HasIt f)
taker_found next [] f h = cc
taker_found next (p ∷ ps) f h = step (has_fp f (new_container next p).table) refl (taker_found (next + 1) ps f)
  where
    step : (b : Bool) → has_fp f (new_container next p).table ≡ b
        → (is_some (first_with f (all_of ps)) ≡ true → IsSomeAnd (container_in (new_containers (next + 1) ps) (taker (new_containers (next + 1) ps) f)) (HasIt f))
        → IsSomeAnd (container_in (new_containers next (p ∷ ps)) (id_or_zero (cond b (Some (new_container next p)) (find (λ c. has_fp f c.table) (new_containers (next + 1) ps))))) (HasIt f)
    step true e more =
        let here : (next == next) ≡ true = grind (arith, nat_tests) in
        subst (λ (b : Bool). IsSomeAnd (cond b (Some (new_container next p)) (container_in (new_containers (next + 1) ps) next)) (HasIt f)) (sym here) e
    step false e more =
        let there : is_some (first_with f (all_of ps)) ≡ true = later_some f p (all_of ps) (none_here next p f e) h in
        let above : next + 1 ≤ taker (new_containers (next + 1) ps) f = taker_above (next + 1) ps f there in
        let other : (next == taker (new_containers (next + 1) ps) f) ≡ false = grind (arith, nat_tests) in
        subst (λ (b : Bool). IsSomeAnd (cond b (Some (new_container next p)) (container_in (new_containers (next + 1) ps) (taker (new_containers (next + 1) ps) f))) (HasIt f)) (sym other) (more there)

pub taker_below : (next : ℕ) (ps : List (List NamedChunk)) (f : Fp) → 1 ≤ next → taker (new_containers next ps) f < next + length (new_containers next ps)
taker_below next [] f low = omega arith
taker_below next (p ∷ ps) f low =
    let below : taker (new_containers (next + 1) ps) f < next + 1 + length (new_containers (next + 1) ps) = taker_below (next + 1) ps f (omega arith) in
    elim (has_fp f (new_container next p).table) as (λ b. id_or_zero (cond b (Some (new_container next p)) (find (λ c. has_fp f c.table) (new_containers (next + 1) ps))) < next + length (new_containers next (p ∷ ps))) [
      | true ↦ omega arith
      | false ↦ omega arith
    ]

-- a container behind those of lower ids is found behind them

pub found_later : (low : ℕ) (cs more : List Container) (id : ℕ) → AllByRecursion (λ c. c.table.id < low) cs → low ≤ id → container_in (cs ++ more) id ≡ container_in more id
found_later low [] more id h p = refl
found_later low (c ∷ cs) more id h p =
    let no : (c.table.id == id) ≡ false = grind (arith, nat_tests, h.0) in
    ap (λ b. cond b (Some c) (container_in (cs ++ more) id)) no ∙ found_later low cs more id h.1 p

-- rows by what was decided: what holds of an old container and of one that took a write holds of each row's

pub rows_each : (Fact : Fp → ℕ → Type 0) (new : List Container) (find : Fp → Option ℕ) (all : List (Fp × How)) → ((f : Fp) (c : ℕ) → find f ≡ Some c → Fact f c) → ((f : Fp) → is_written all f ≡ true → Fact f (taker new f))
    → (ys : List (List ℕ)) (hs : List How) → AreFair find all (places_of (map named_chunk ys) hs) → AllByRecursion (λ r. Fact r.fp r.id) (rows_of new (map named_chunk ys) hs)
rows_each Fact new find all old own [] hs h = tt
rows_each Fact new find all old own (y ∷ ys) [] h = tt
rows_each Fact new find all old own (y ∷ ys) (how ∷ hs) h = (at how h.0, rows_each Fact new find all old own ys hs h.1)
  where
    at : (how : How) → IsFair find all (fp y) how → Fact (fp y) (home new (fp y) how)
    at (Old c) e = old (fp y) c e
    at Own e = own (fp y) e
    at Write e = own (fp y) e

-- no fingerprint is written twice

abbrev pub AreApart : List NamedChunk → Type 0
AreApart [] = Unit {0}
AreApart (c ∷ cs) = (is_some (first_with c.fp cs) ≡ false) × AreApart cs

apart_rest : (p qs : List NamedChunk) → AreApart (p ++ qs) → AreApart qs
apart_rest [] qs h = h
apart_rest (c ∷ p) qs h = apart_rest p qs h.1

apart_front : (f : Fp) (p qs : List NamedChunk) → AreApart (p ++ qs) → is_some (first_with f qs) ≡ true → is_some (first_with f p) ≡ false
apart_front f [] qs h some = refl
apart_front f (c ∷ p) qs h some = step (same_fp c.fp f) refl (apart_front f p qs h.1 some)
  where
    step : (b : Bool) → same_fp c.fp f ≡ b → is_some (first_with f p) ≡ false → is_some (cond b (Some c) (first_with f p)) ≡ false
    step true e none =
        absurd (let clash : true ≡ false = sym (some_in_rest f p qs some) ∙ ap (λ g. is_some (first_with g (p ++ qs))) (sym (same_fps c.fp f e)) ∙ h.0 in cc)
    step false e none = none

not_before : (places : List (Fp × How)) (p : Fp × How) (f : Fp) → is_written (places ++ p ∷ []) f ≡ false → is_written places f ≡ false
not_before places p f h = step (is_written places f) (sym (list_any-append (λ q. same_fp q.0 f && is_write q.1) places (p ∷ [])) ∙ h)
  where
    step : (b : Bool) → (b || is_written (p ∷ []) f) ≡ false → b ≡ false
    step true e = e
    step false e = refl

written_now : (places : List (Fp × How)) (f : Fp) → is_written (places ++ (f, Write) ∷ []) f ≡ true
written_now places f =
    list_any-append (λ q. same_fp q.0 f && is_write q.1) places ((f, Write) ∷ [])
    ∙ ap (λ b. is_written places f || ((b && true) || false)) (same-refl f)
    ∙ last (is_written places f)
  where
    last : (b : Bool) → (b || true) ≡ true
    last true = refl
    last false = refl

-- what is written behind some places is apart, and was not written in these
pub apart_writes : (places : List (Fp × How)) (cs : List NamedChunk) (hs : List How) → AreInTurnBehind places cs hs
    → AreApart (writes cs hs) × ((f : Fp) → is_some (first_with f (writes cs hs)) ≡ true → is_written places f ≡ false)
apart_writes places [] hs h = (tt, λ f some. cc)
apart_writes places (c ∷ cs) [] h = (tt, λ f some. cc)
apart_writes places (c ∷ cs) (Old id ∷ hs) h =
    let more = apart_writes (places ++ (c.fp, Old id) ∷ []) cs hs h.1 in (more.0, λ f some. not_before places (c.fp, Old id) f (more.1 f some))
apart_writes places (c ∷ cs) (Own ∷ hs) h =
    let more = apart_writes (places ++ (c.fp, Own) ∷ []) cs hs h.1 in (more.0, λ f some. not_before places (c.fp, Own) f (more.1 f some))
apart_writes places (c ∷ cs) (Write ∷ hs) h =
    let more = apart_writes (places ++ (c.fp, Write) ∷ []) cs hs h.1 in
    ((none (is_some (first_with c.fp (writes cs hs))) refl (more.1 c.fp), more.0), λ f some. step f (same_fp c.fp f) refl some (more.1 f))
  where
    none : (b : Bool) → is_some (first_with c.fp (writes cs hs)) ≡ b → (is_some (first_with c.fp (writes cs hs)) ≡ true → is_written (places ++ (c.fp, Write) ∷ []) c.fp ≡ false) → b ≡ false
    none true e later = sym (written_now places c.fp) ∙ later e
    none false e later = refl

    step : (f : Fp) (b : Bool) → same_fp c.fp f ≡ b → is_some (cond b (Some c) (first_with f (writes cs hs))) ≡ true → (is_some (first_with f (writes cs hs)) ≡ true → is_written (places ++ (c.fp, Write) ∷ []) f ≡ false) → is_written places f ≡ false
    step f true e some later = ap (is_written places) (sym (same_fps c.fp f e)) ∙ h.0
    step f false e some later = not_before places (c.fp, Write) f (later some)

-- what is written has a row with the id of its taker

pub written_rows : (new : List Container) (f : Fp) (cs : List NamedChunk) (hs : List How) → is_some (first_with f (writes cs hs)) ≡ true → Contains (map (λ r. r.id) (rows_of new cs hs)) (taker new f)
written_rows new f [] hs h = cc
written_rows new f (c ∷ cs) [] h = cc
written_rows new f (c ∷ cs) (Old id ∷ hs) h = let w = written_rows new f cs hs h in (suc w.0, omega (arith, w.1), w.2)
written_rows new f (c ∷ cs) (Own ∷ hs) h = let w = written_rows new f cs hs h in (suc w.0, omega (arith, w.1), w.2)
written_rows new f (c ∷ cs) (Write ∷ hs) h = step (same_fp c.fp f) refl h (written_rows new f cs hs)
  where
    step : (b : Bool) → same_fp c.fp f ≡ b → is_some (cond b (Some c) (first_with f (writes cs hs))) ≡ true → (is_some (first_with f (writes cs hs)) ≡ true → Contains (map (λ r. r.id) (rows_of new cs hs)) (taker new f))
        → Contains (map (λ r. r.id) (rows_of new (c ∷ cs) (Write ∷ hs))) (taker new f)
    step true e some more = (zero, omega arith, ap (taker new) (same_fps c.fp f e))
    step false e some more = let w = more some in (suc w.0, omega (arith, w.1), w.2)

-- no piece is empty

abbrev pub AreFilled : List (List NamedChunk) → Type 0
AreFilled ps = AllByRecursion (λ p. 1 ≤ length p) ps

front_filled : (k : ℕ) (y : NamedChunk) (ys : List NamedChunk) → 1 ≤ k → 1 ≤ length (take k (y ∷ ys))
front_filled zero y ys p = absurd (omega arith)
front_filled (suc k) y ys p = omega arith

parts_filled : (size n : ℕ) (ys : List NamedChunk) → AreFilled (parts_up_to n (piece_len (λ (c : NamedChunk). length c.bytes) size) ys)
parts_filled size zero ys = tt
parts_filled size (suc n) [] = tt
parts_filled size (suc n) (y ∷ ys) =
    let k : ℕ = max 1 (fitting (λ (c : NamedChunk). length c.bytes) size (y ∷ ys)) in
    let some : 1 ≤ k = (piece_rule (λ (c : NamedChunk). length c.bytes) size).some (y ∷ ys) k refl in
    (front_filled k y ys some, parts_filled size n (drop k (y ∷ ys)))

pub pieces_filled : (size : ℕ) (xs : List NamedChunk) → AreFilled (pieces (λ c. length c.bytes) size xs)
pieces_filled size xs = parts_filled size (length xs) xs

-- each new container is named by a row, where each fingerprint that was written has a row of its taker

pub all_used : (ids : List ℕ) (next : ℕ) (ps : List (List NamedChunk)) → AreFilled ps → AreApart (all_of ps)
    → ((f : Fp) → is_some (first_with f (all_of ps)) ≡ true → Contains ids (taker (new_containers next ps) f)) → AllByRecursion (λ c. Contains ids c.table.id) (new_containers next ps)
all_used ids next [] filled apart rows = tt
all_used ids next ([] ∷ ps) filled apart rows = absurd (omega (arith, filled.0))
all_used ids next ((c ∷ p) ∷ ps) filled apart rows = (here, all_used ids (next + 1) ps filled.1 (apart_rest (c ∷ p) (all_of ps) apart) later)
  where
    own : has_fp c.fp (new_container next (c ∷ p)).table ≡ true
    own = has_fp-chunks c.fp (c ∷ p) ∙ ap (λ b. is_some (cond b (Some c) (first_with c.fp p))) (same-refl c.fp)

    first : is_some (first_with c.fp (all_of ((c ∷ p) ∷ ps))) ≡ true
    first = ap (λ b. is_some (cond b (Some c) (first_with c.fp (p ++ all_of ps)))) (same-refl c.fp)

    here : Contains ids next
    here = subst (Contains ids) (ap (λ b. id_or_zero (cond b (Some (new_container next (c ∷ p))) (find (λ d. has_fp c.fp d.table) (new_containers (next + 1) ps)))) own) (rows c.fp first)

    later : (f : Fp) → is_some (first_with f (all_of ps)) ≡ true → Contains ids (taker (new_containers (next + 1) ps) f)
    later f some =
        let none : has_fp f (new_container next (c ∷ p)).table ≡ false = has_fp-chunks f (c ∷ p) ∙ apart_front f (c ∷ p) (all_of ps) apart some in
        subst (Contains ids) (ap (λ b. id_or_zero (cond b (Some (new_container next (c ∷ p))) (find (λ d. has_fp f d.table) (new_containers (next + 1) ps)))) none) (rows f (some_in_rest f (c ∷ p) (all_of ps) some))
