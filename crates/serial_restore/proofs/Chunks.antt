-- The bytes of a version's spots in payloads are those of its rows.
use Rattle.std.proofs.Common.{◌≡◌, ⊎_elim, ℕ, zero, suc, ◌+◌, ◌≤◌, Bool, true, false, cond, leb, List, [], ◌∷◌, ◌++◌, take, drop, length, map, Option, Some, None, refl, sym, ap, ◌∙◌, arith, length-append, length-drop}
use Rattle.std.specs.Prelude.{Contains, IsSomeAnd, IfSome}
use Rattle.std.specs.Option.{option_map_or}
use Rattle.std.specs.List.{AllByRecursion, IsDistinct}
use Rattle.std.proofs.Math.Seq.{take-append_seam, drop-append-add}
use Rattle.std.proofs.lemmas.Bool.{leb-true, leb-false, le-leb}
use Rattle.std.proofs.lemmas.List.{take-append-drop}
use Rattle.std.proofs.lemmas.List.Concat.{flat_map-cons}
use Rattle.std.proofs.lemmas.List.Sums.{sum_by-cons}
use Rattle.std.proofs.lemmas.Map.Keys.{IsDistinct-head, IsDistinct-tail}
use Rattle.vault_types.specs.declared.Fp.{Fp}
use Rattle.vault_types.specs.declared.Row.{Row}
use Rattle.vault_types.specs.declared.TableRow.{TableRow}
use Rattle.vault_types.specs.Names.{same_fp}
use Rattle.vault_types.specs.Tables.{Container, payload_len, IsTable}
use Rattle.vault_types.specs.State.{container_in, length_of}
use Rattle.vault_types.specs.Bytes.{front_of, chunk_in, chunk_of, chunk_at, row_bytes, offset_of, spot_of, spot_bytes, HasRow}
use Rattle.vault_types.proofs.FillLemmas.{bytes_eq-same}
use Rattle.commit_laws.proofs.Listing.{all_at, all_unmap, found_is}
use Rattle.state_laws.proofs.Members.{clash, first_or_rest}
use Rattle.restore_assembler.specs.Copying.{version_bytes}

-- the chunks of a payload that are there in whole
abbrev pub fitting : List TableRow → List ℕ → List ℕ
fitting [] payload = []
fitting (r ∷ rows) payload = front_of r.len payload ++ fitting rows (drop r.len payload)

-- those of the container with an id
abbrev pub payload_at : List Container → ℕ → List ℕ
payload_at containers id = option_map_or (λ c. option_map_or (fitting c.table.rows) c.payload []) (container_in containers id) []

-- the container with an id has its whole payload
abbrev pub HasWhole : List Container → ℕ → Type 0
HasWhole containers id = IfSome (container_in containers id) (λ c. (bytes : List ℕ) × (c.payload ≡ Some bytes) × (length bytes ≡ payload_len c.table.rows))

-- lists

take_none : (n : ℕ) → take n (let none : List ℕ = [] in none) ≡ []
take_none zero = refl
take_none (suc n) = refl

drop_none : (n : ℕ) → drop n (let none : List ℕ = [] in none) ≡ []
drop_none zero = refl
drop_none (suc n) = refl

drop_long : (n : ℕ) (xs : List ℕ) → length xs ≤ n → drop n xs ≡ []
drop_long n xs long = empty (drop n xs) (let h = length-drop n xs in omega (arith, h, long))
  where
    empty : (ys : List ℕ) → length ys ≡ 0 → ys ≡ []
    empty [] none = refl
    empty (y ∷ ys) none = absurd (omega (arith, none))

length_front : (n : ℕ) (xs : List ℕ) → n ≤ length xs → length (take n xs) ≡ n
length_front n xs few =
    let a : length (take n xs ++ drop n xs) ≡ length xs = ap length (take-append-drop n xs) in
    let b = length-append (take n xs) (drop n xs) in
    let c = length-drop n xs in
    omega (arith, a, b, c, few)

front_there : (n : ℕ) (xs : List ℕ) → n ≤ length xs → front_of n xs ≡ take n xs
front_there n xs few = ap (λ (b : Bool). cond b (take n xs) []) (le-leb n (length xs) few)

front_none : (n : ℕ) → front_of n [] ≡ []
front_none n = step (leb n 0)
  where
    step : (b : Bool) → cond b (take n (let none : List ℕ = [] in none)) [] ≡ []
    step true = take_none n
    step false = refl

-- a payload that ends before a chunk

fitting_none : (rows : List TableRow) → fitting rows [] ≡ []
fitting_none [] = refl
fitting_none (r ∷ rows) = ap (λ (x : List ℕ). x ++ fitting rows (drop r.len [])) (front_none r.len) ∙ ap (fitting rows) (drop_none r.len) ∙ fitting_none rows

chunk_none : (rows : List TableRow) (f : Fp) → chunk_in rows [] f ≡ []
chunk_none [] f = refl
chunk_none (r ∷ rows) f = step (same_fp r.fp f) (chunk_none rows f)
  where
    step : (b : Bool) → chunk_in rows [] f ≡ [] → cond b (front_of r.len []) (chunk_in rows (drop r.len []) f) ≡ []
    step true rest = front_none r.len
    step false rest = ap (λ (p : List ℕ). chunk_in rows p f) (drop_none r.len) ∙ rest

-- a whole payload

pub fitting_whole : (rows : List TableRow) (payload : List ℕ) → length payload ≡ payload_len rows → fitting rows payload ≡ payload
fitting_whole [] [] long = refl
fitting_whole [] (x ∷ payload) long = absurd (let e : suc (length payload) ≡ 0 = long in omega (arith, e))
fitting_whole (r ∷ rows) payload long =
    let total = sum_by-cons (λ (q : TableRow). q.len) r rows in
    let few : r.len ≤ length payload = omega (arith, long, total) in
    let left : length (drop r.len payload) ≡ payload_len rows = (let h = length-drop r.len payload in omega (arith, h, long, total)) in
    ap (λ (x : List ℕ). x ++ fitting rows (drop r.len payload)) (front_there r.len payload few)
    ∙ ap (λ (x : List ℕ). take r.len payload ++ x) (fitting_whole rows (drop r.len payload) left)
    ∙ take-append-drop r.len payload

-- the row of a fingerprint

module _ (r : TableRow) (rows : List TableRow) (f : Fp) (len : ℕ) (there : Contains (r ∷ rows) (record { fp = f; len = len })) where
  row_behind : same_fp r.fp f ≡ false → Contains rows (record { fp = f; len = len })
  row_behind other = ⊎_elim
      (λ (same : r ≡ record { fp = f; len = len }). clash {A = Contains rows (record { fp = f; len = len })} (same_fp r.fp f) (ap (λ (q : TableRow). same_fp q.fp f) same ∙ bytes_eq-same f.0) other)
      (λ rest. rest)
      (first_or_rest r rows (record { fp = f; len = len }) there)

  row_here : IsDistinct same_fp (map (λ q. q.fp) (r ∷ rows)) → same_fp r.fp f ≡ true → r.len ≡ len
  row_here differ this = ⊎_elim
      (λ (same : r ≡ record { fp = f; len = len }). ap (λ (q : TableRow). q.len) same)
      (λ rest. clash {A = r.len ≡ len} (same_fp r.fp f) this
      (all_at (λ (q : TableRow). same_fp r.fp q.fp ≡ false) rows (record { fp = f; len = len }) (all_unmap (λ (q : TableRow). q.fp) (λ y. same_fp r.fp y ≡ false) rows (IsDistinct-head same_fp r.fp (map (λ q. q.fp) rows) differ)) rest))
      (first_or_rest r rows (record { fp = f; len = len }) there)

-- a chunk by its offset

chunk_there : (rows : List TableRow) (f : Fp) (len : ℕ) (payload : List ℕ) → IsDistinct same_fp (map (λ q. q.fp) rows) → Contains rows (record { fp = f; len = len })
    → take len (drop (offset_of rows f) (fitting rows payload)) ≡ chunk_in rows payload f
chunk_there [] f len payload differ there = absurd (omega (arith, there.1))
chunk_there (r ∷ rows) f len payload differ there = at (chunk_there rows f len (drop r.len payload)) (leb r.len (length payload)) (same_fp r.fp f) refl refl
  where
    at : (IsDistinct same_fp (map (λ q. q.fp) rows) → Contains rows (record { fp = f; len = len }) → take len (drop (offset_of rows f) (fitting rows (drop r.len payload))) ≡ chunk_in rows (drop r.len payload) f) → (a b : Bool) → leb r.len (length payload) ≡ a → same_fp r.fp f ≡ b
        → take len (drop (cond b 0 (r.len + offset_of rows f)) (cond a (take r.len payload) [] ++ fitting rows (drop r.len payload))) ≡ cond b (cond a (take r.len payload) []) (chunk_in rows (drop r.len payload) f)
    at rest true true few this =
        let long = length_front r.len payload (leb-true r.len (length payload) few) in
        let is : len ≡ length (take r.len payload) = sym (row_here r rows f len there differ this) ∙ sym long in
        ap (λ (n : ℕ). take n (take r.len payload ++ fitting rows (drop r.len payload))) is ∙ take-append_seam (take r.len payload) (fitting rows (drop r.len payload))
    at rest true false few this =
        let long = length_front r.len payload (leb-true r.len (length payload) few) in
        ap (λ (n : ℕ). take len (drop (n + offset_of rows f) (take r.len payload ++ fitting rows (drop r.len payload)))) (sym long)
        ∙ ap (take len) (drop-append-add (take r.len payload) (fitting rows (drop r.len payload)) (offset_of rows f))
        ∙ rest (IsDistinct-tail same_fp r.fp (map (λ q. q.fp) rows) differ) (row_behind r rows f len there this)
    at rest false b few this = ap (λ (x : List ℕ). take len (drop (cond b 0 (r.len + offset_of rows f)) x)) (ap (fitting rows) (gone few) ∙ fitting_none rows)
        ∙ ap (take len) (drop_none (cond b 0 (r.len + offset_of rows f))) ∙ take_none len ∙ sym (none b)
      where
        gone : leb r.len (length payload) ≡ false → drop r.len payload ≡ []
        gone e = drop_long r.len payload (let h = leb-false r.len (length payload) e in omega (arith, h))

        none : (c : Bool) → cond c [] (chunk_in rows (drop r.len payload) f) ≡ []
        none true = refl
        none false = ap (λ (p : List ℕ). chunk_in rows p f) (gone few) ∙ chunk_none rows f

chunk_long : (rows : List TableRow) (f : Fp) (len : ℕ) (payload : List ℕ) → IsDistinct same_fp (map (λ q. q.fp) rows) → Contains rows (record { fp = f; len = len }) → length payload ≡ payload_len rows
    → length (chunk_in rows payload f) ≡ len
chunk_long [] f len payload differ there whole = absurd (omega (arith, there.1))
chunk_long (r ∷ rows) f len payload differ there whole = at (chunk_long rows f len (drop r.len payload)) (same_fp r.fp f) refl
  where
    at : (IsDistinct same_fp (map (λ q. q.fp) rows) → Contains rows (record { fp = f; len = len }) → length (drop r.len payload) ≡ payload_len rows → length (chunk_in rows (drop r.len payload) f) ≡ len) → (b : Bool) → same_fp r.fp f ≡ b → length (cond b (front_of r.len payload) (chunk_in rows (drop r.len payload) f)) ≡ len
    at rest true this =
        let total = sum_by-cons (λ (q : TableRow). q.len) r rows in
        let few : r.len ≤ length payload = omega (arith, whole, total) in
        ap length (front_there r.len payload few) ∙ length_front r.len payload few ∙ row_here r rows f len there differ this
    at rest false this =
        let total = sum_by-cons (λ (q : TableRow). q.len) r rows in
        let left : length (drop r.len payload) ≡ payload_len rows = (let h = length-drop r.len payload in omega (arith, h, whole, total)) in
        rest (IsDistinct-tail same_fp r.fp (map (λ q. q.fp) rows) differ) (row_behind r rows f len there this) left

-- the rows of a version

module _ (containers : List Container) (tables : AllByRecursion (λ c. IsTable c.table) containers) where
  rules_at : (id : ℕ) → IfSome (container_in containers id) (λ c. IsTable c.table)
  rules_at id = step (container_in containers id) refl
    where
      step : (o : Option Container) → container_in containers id ≡ o → IfSome o (λ c. IsTable c.table)
      step None e = tt
      step (Some c) e = all_at (λ (d : Container). IsTable d.table) containers c tables (found_is containers id c e).0

  spot_chunk : (r : Row) → HasRow containers r → spot_bytes (payload_at containers) (spot_of containers r) ≡ chunk_at containers r
  spot_chunk r has = at (container_in containers r.id) has (rules_at r.id)
    where
      at : (o : Option Container) → IsSomeAnd o (λ c. Contains c.table.rows (record { fp = r.fp; len = r.len })) → IfSome o (λ c. IsTable c.table)
          → take r.len (drop (option_map_or (λ c. offset_of c.table.rows r.fp) o 0) (option_map_or (λ c. option_map_or (fitting c.table.rows) c.payload []) o [])) ≡ option_map_or (λ c. chunk_of c r.fp) o []
      at None there rules = absurd there
      at (Some c) there rules = of_payload c.payload
        where
          of_payload : (p : Option (List ℕ)) → take r.len (drop (offset_of c.table.rows r.fp) (option_map_or (fitting c.table.rows) p [])) ≡ option_map_or (λ payload. chunk_in c.table.rows payload r.fp) p []
          of_payload None = ap (take r.len) (drop_none (offset_of c.table.rows r.fp)) ∙ take_none r.len
          of_payload (Some payload) = chunk_there c.table.rows r.fp r.len payload rules.differ there

  pub spots_bytes : (rows : List Row) → AllByRecursion (HasRow containers) rows → version_bytes (payload_at containers) (map (spot_of containers) rows) ≡ row_bytes containers rows
  spots_bytes [] has = refl
  spots_bytes (r ∷ rows) has =
      flat_map-cons (spot_bytes (payload_at containers)) (spot_of containers r) (map (spot_of containers) rows)
      ∙ ap (λ (x : List ℕ). x ++ version_bytes (payload_at containers) (map (spot_of containers) rows)) (spot_chunk r has.0)
      ∙ ap (λ (x : List ℕ). chunk_at containers r ++ x) (spots_bytes rows has.1)
      ∙ sym (flat_map-cons (chunk_at containers) r rows)

  chunk_len : (r : Row) → HasRow containers r → HasWhole containers r.id → length (chunk_at containers r) ≡ r.len
  chunk_len r has whole = at (container_in containers r.id) has whole (rules_at r.id)
    where
      at : (o : Option Container) → IsSomeAnd o (λ c. Contains c.table.rows (record { fp = r.fp; len = r.len })) → IfSome o (λ c. (bytes : List ℕ) × (c.payload ≡ Some bytes) × (length bytes ≡ payload_len c.table.rows)) → IfSome o (λ c. IsTable c.table)
          → length (option_map_or (λ c. chunk_of c r.fp) o []) ≡ r.len
      at None there full rules = absurd there
      at (Some c) there full rules =
          ap (λ (p : Option (List ℕ)). length (option_map_or (λ payload. chunk_in c.table.rows payload r.fp) p [])) full.1
          ∙ chunk_long c.table.rows r.fp r.len full.0 rules.differ there full.2

  pub rows_len : (rows : List Row) → AllByRecursion (HasRow containers) rows → AllByRecursion (λ r. HasWhole containers r.id) rows → length (row_bytes containers rows) ≡ length_of rows
  rows_len [] has whole = refl
  rows_len (r ∷ rows) has whole =
      let a : length (row_bytes containers (r ∷ rows)) ≡ length (chunk_at containers r ++ row_bytes containers rows) = ap length (flat_map-cons (chunk_at containers) r rows) in
      let b = length-append (chunk_at containers r) (row_bytes containers rows) in
      let c = chunk_len r has.0 whole.0 in
      let d = rows_len rows has.1 whole.1 in
      let e = sum_by-cons (λ (q : Row). q.len) r rows in
      omega (arith, a, b, c, d, e)
