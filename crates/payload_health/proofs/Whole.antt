-- A payload is good exactly where it is whole.
use Rattle.std.proofs.Common.{◌≡◌, ◌+◌, ◌-◌, ℕ, Bool, true, false, not, cond, List, [], ◌∷◌, ◌++◌, map, take, drop, length, Option, Some, None, refl, sym, ap, ◌∙◌, arith, length-append}
use Rattle.std.specs.Prelude.{◌==◌, IsSomeAnd}
use Rattle.std.specs.List.{concat}
use Rattle.std.proofs.lemmas.Bool.Decides.{nat_tests}
use Rattle.std.proofs.lemmas.List.{take-append-drop, length-take-le, length-drop}
use Rattle.std.proofs.lemmas.List.Sums.{sum_by-cons}
use Rattle.std.proofs.Math.Seq.{take-append_seam, drop-append_seam}
use Rattle.vault_types.specs.declared.Fp.{Fp}
use Rattle.vault_types.specs.declared.TableRow.{TableRow}
use Rattle.vault_types.specs.declared.Table.{Table}
use Rattle.vault_types.specs.Names.{fp, same_fp}
use Rattle.vault_types.specs.Tables.{table_row, payload_len, IsWhole}
use Rattle.vault_types.proofs.FillLemmas.{same_fps}
use Rattle.payload_health.specs.declared.Health.{Health}
use Rattle.payload_health.specs.declared.Health.TheVariants.{Good, Length, Sum, Chunk}
use Rattle.payload_health.specs.Health.{first_bad, health_of, is_good, IsGoodWhereWhole}
use Rattle.payload_health.proofs.Comparing.{same_is}

-- chunks that are there

chunks_len : (chunks : List (List ℕ)) → length (concat chunks) ≡ payload_len (map table_row chunks)
chunks_len [] = refl
chunks_len (x ∷ xs) = length-append x (concat xs) ∙ ap (λ n. length x + n) (chunks_len xs) ∙ sym (sum_by-cons (λ (r : TableRow). r.len) (table_row x) (map table_row xs))

chunks_good : (i : ℕ) (chunks : List (List ℕ)) → first_bad i (map table_row chunks) (concat chunks) ≡ Good
chunks_good i [] = refl
chunks_good i (x ∷ xs) =
    let front : take (length x) (x ++ concat xs) ≡ x = take-append_seam x (concat xs) in
    let same : same_fp (fp (take (length x) (x ++ concat xs))) (fp x) ≡ true = same_is _ _ (ap fp front) in
    ap (λ (b : Bool). cond b (first_bad (i + 1) (map table_row xs) (drop (length x) (x ++ concat xs))) (Chunk i (fp x) (fp (take (length x) (x ++ concat xs))))) same
    ∙ ap (λ (bytes : List ℕ). first_bad (i + 1) (map table_row xs) bytes) (drop-append_seam x (concat xs))
    ∙ chunks_good (i + 1) xs

-- what comes of the tests of length and sum
tested : Table → List ℕ → Bool → Bool → Health
tested t bytes a b = cond (not a) (Length (payload_len t.rows) (length bytes)) (cond (not b) (Sum t.payload_sum (fp bytes)) (first_bad 0 t.rows bytes))

whole_good : (t : Table) (bytes : List ℕ) → IsWhole t bytes → health_of t (Some bytes) ≡ Good
unfolding tested
whole_good t bytes whole =
    let len : length bytes ≡ payload_len t.rows = ap length (sym whole.1) ∙ chunks_len whole.0 ∙ ap payload_len whole.2 in
    let a : (length bytes == payload_len t.rows) ≡ true = grind (arith, nat_tests) in
    let b : same_fp (fp bytes) t.payload_sum ≡ true = same_is (fp bytes) t.payload_sum (ap (λ (bs : List ℕ). let f : Fp = record { 0 = bs } in f) whole.3) in
    ap (λ (x : Bool). tested t bytes x (same_fp (fp bytes) t.payload_sum)) a
    ∙ ap (λ (x : Bool). tested t bytes true x) b
    ∙ ap (λ (rows : List TableRow). first_bad 0 rows bytes) (sym whole.2)
    ∙ ap (λ (bs : List ℕ). first_bad 0 (map table_row whole.0) bs) (sym whole.1)
    ∙ chunks_good 0 whole.0

-- what is good has its chunks

abbrev HasChunks : List TableRow → List ℕ → Type 0
HasChunks rows bytes = (chunks : List (List ℕ)) × (concat chunks ≡ bytes) × (map table_row chunks ≡ rows)

no_bytes : (bytes : List ℕ) → length bytes ≡ 0 → [] ≡ bytes
no_bytes [] e = refl
no_bytes (b ∷ bytes) e = absurd (omega arith)

good_chunks : (i : ℕ) (rows : List TableRow) (bytes : List ℕ) → length bytes ≡ payload_len rows → is_good (first_bad i rows bytes) ≡ true → HasChunks rows bytes
good_chunks i [] bytes len good = ([], no_bytes bytes len, refl)
good_chunks i (r ∷ rows) bytes len good = step (same_fp (fp (take r.len bytes)) r.fp) refl (good_chunks (i + 1) rows (drop r.len bytes)) good
  where
    all : payload_len (r ∷ rows) ≡ r.len + payload_len rows
    all = sum_by-cons (λ (q : TableRow). q.len) r rows

    front : length (take r.len bytes) ≡ r.len
    front = length-take-le r.len bytes (omega (arith, all, len))

    behind : length (drop r.len bytes) ≡ payload_len rows
    behind = let d = length-drop r.len bytes in omega (arith, all, len, d)

    step : (b : Bool) → same_fp (fp (take r.len bytes)) r.fp ≡ b → (length (drop r.len bytes) ≡ payload_len rows → is_good (first_bad (i + 1) rows (drop r.len bytes)) ≡ true → HasChunks rows (drop r.len bytes))
        → is_good (cond b (first_bad (i + 1) rows (drop r.len bytes)) (Chunk i r.fp (fp (take r.len bytes)))) ≡ true → HasChunks (r ∷ rows) bytes
    step true e others good =
        let rest = others behind good in
        let f : fp (take r.len bytes) ≡ r.fp = same_fps (fp (take r.len bytes)) r.fp e in (
          take r.len bytes ∷ rest.0,
          ap (λ (bs : List ℕ). take r.len bytes ++ bs) rest.1 ∙ take-append-drop r.len bytes,
          ap (λ (q : TableRow). q ∷ map table_row rest.0) (ap (λ (g : Fp). let q : TableRow = record { fp = g; len = length (take r.len bytes) } in q) f ∙ ap (λ (n : ℕ). let q : TableRow = record { fp = r.fp; len = n } in q) front)
              ∙ ap (λ (qs : List TableRow). r ∷ qs) rest.2,
        )
    step false e others good = absurd (let clash : false ≡ true = good in cc)

good_whole : (t : Table) (payload : Option (List ℕ)) → is_good (health_of t payload) ≡ true → IsSomeAnd payload (IsWhole t)
good_whole t None good = absurd (let clash : false ≡ true = good in cc)
good_whole t (Some bytes) good = step (length bytes == payload_len t.rows) (same_fp (fp bytes) t.payload_sum) refl refl good
  where
    step : (a b : Bool) → (length bytes == payload_len t.rows) ≡ a → same_fp (fp bytes) t.payload_sum ≡ b → is_good (cond (not a) (Length (payload_len t.rows) (length bytes)) (cond (not b) (Sum t.payload_sum (fp bytes)) (first_bad 0 t.rows bytes))) ≡ true → IsWhole t bytes
    step false b e f good = absurd (let clash : false ≡ true = good in cc)
    step true false e f good = absurd (let clash : false ≡ true = good in cc)
    step true true e f good =
        let len : length bytes ≡ payload_len t.rows = grind (arith, nat_tests) in
        let has = good_chunks 0 t.rows bytes len good in
        (has.0, has.1, has.2, ap (λ (g : Fp). g.0) (same_fps (fp bytes) t.payload_sum f))

whole_there : (t : Table) (payload : Option (List ℕ)) → IsSomeAnd payload (IsWhole t) → is_good (health_of t payload) ≡ true
whole_there t None whole = absurd whole
whole_there t (Some bytes) whole = ap is_good (whole_good t bytes whole)

pub good_where_whole : (t : Table) (payload : Option (List ℕ)) → IsGoodWhereWhole t payload
good_where_whole t payload = (good_whole t payload, whole_there t payload)
