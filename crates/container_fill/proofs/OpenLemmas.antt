-- The rows and the payload of a container that is being filled.
use Rattle.std.proofs.Common.{◌≡◌, ℕ, ◌+◌, ◌≤◌, false, List, [], ◌∷◌, ◌++◌, map, length, drop, refl, sym, ap, ◌∙◌, subst, arith, length-append, append-nil, suc, ◌<◌, ◌^◌, Some}
use Rattle.std.specs.List.{concat, list_any, AllByRecursion, IsDistinct}
use Rattle.std.proofs.lemmas.List.{map-append}
use Rattle.std.proofs.lemmas.List.Folds.{concat-append}
use Rattle.std.proofs.lemmas.List.Sums.{sum_by-append, sum_by-cons}
use Rattle.std.proofs.lemmas.Map.Keys.{IsDistinct-push}
use Rattle.std.proofs.Math.Seq.{take-append_seam, drop-append_seam}
use Rattle.vault_types.specs.declared.TableRow.{TableRow}
use Rattle.vault_types.specs.Names.{fp, same_fp, IsFp, named_chunk}
use Rattle.vault_types.specs.Tables.{Container, table_row, payload_len, IsTable, IsWhole}
use Rattle.vault_types.specs.Fill.{new_container}
use Rattle.vault_types.specs.Bytes.{chunks_of_rows}
use Rattle.container_fill.specs.Opened.{bytes_in, IsOpen}
use Rattle.vault_types.proofs.SumLemmas.{fp-is_fp}
use Rattle.container_fill.proofs.FpLemmas.{same-equivalence}

pub chunks_again : (chunks : List (List ℕ)) → chunks_of_rows (map table_row chunks) (concat chunks) ≡ chunks
chunks_again [] = refl
chunks_again (x ∷ xs) =
    ap (λ y. y ∷ chunks_of_rows (map table_row xs) (drop (length x) (x ++ concat xs))) (take-append_seam x (concat xs))
    ∙ ap (λ p. x ∷ chunks_of_rows (map table_row xs) p) (drop-append_seam x (concat xs))
    ∙ ap (λ ys. x ∷ ys) (chunks_again xs)

-- what contracts see of an open container is its chunks
pub seen_as : (rows : List TableRow) (payload : List ℕ) (h : IsOpen rows payload) → chunks_of_rows rows payload ≡ h.chunks
seen_as rows payload h =
    ap (λ r. chunks_of_rows r payload) h.rows_are
    ∙ ap (λ p. chunks_of_rows (map table_row h.chunks) p) h.payload_is
    ∙ chunks_again h.chunks

concat-len : (chunks : List (List ℕ)) → length (concat chunks) ≡ bytes_in chunks
concat-len [] = refl
concat-len (x ∷ xs) = length-append x (concat xs) ∙ ap (λ n. length x + n) (concat-len xs) ∙ sym (sum_by-cons length x xs)

pub payload-len : (rows : List TableRow) (payload : List ℕ) → IsOpen rows payload → length payload ≡ bytes_in (chunks_of_rows rows payload)
payload-len rows payload h = ap length h.payload_is ∙ concat-len h.chunks ∙ ap bytes_in (sym (seen_as rows payload h))

all-push : {X : Type 0} (P : X → Type 0) (xs : List X) (x : X) → AllByRecursion P xs → P x → AllByRecursion P (xs ++ x ∷ [])
all-push P [] x h p = (p, tt)
all-push P (y ∷ ys) x h p = (h.0, all-push P ys x h.1 p)

pub open-one : (chunk : List ℕ) → 1 ≤ length chunk → length chunk ≤ 65536 → IsOpen (table_row chunk ∷ []) chunk
unfolding IsDistinct
open-one chunk p q = record {
  chunks = chunk ∷ [];
  rows_are = refl;
  payload_is = sym (append-nil chunk);
  some = omega arith;
  lens = ((p, q), tt);
  total = omega arith;
  differ = IsDistinct-push same-equivalence [] (fp chunk) tt refl;
}

pub open-more : (rows : List TableRow) (payload chunk : List ℕ) (h : IsOpen rows payload) → 1 ≤ length chunk → length chunk ≤ 65536
    → bytes_in (chunks_of_rows rows payload) + length chunk ≤ 4194304
    → list_any (same_fp (fp chunk)) (map fp (chunks_of_rows rows payload)) ≡ false
    → IsOpen (rows ++ table_row chunk ∷ []) (payload ++ chunk)
open-more rows payload chunk h p q room other =
    let seen : chunks_of_rows rows payload ≡ h.chunks = seen_as rows payload h in
    record {
      chunks = h.chunks ++ chunk ∷ [];
      rows_are = ap (λ r. r ++ table_row chunk ∷ []) h.rows_are ∙ sym (map-append table_row h.chunks (chunk ∷ []));
      payload_is =
          ap (λ b. b ++ chunk) h.payload_is
          ∙ ap (λ b. concat h.chunks ++ b) (sym (append-nil chunk))
          ∙ sym (concat-append h.chunks (chunk ∷ []));
      some = let l : length (h.chunks ++ chunk ∷ []) ≡ length h.chunks + 1 = length-append h.chunks (chunk ∷ []) in omega arith;
      lens = all-push (λ c. (1 ≤ length c) × (length c ≤ 65536)) h.chunks chunk h.lens (p, q);
      total =
          let s : bytes_in (h.chunks ++ chunk ∷ []) ≡ bytes_in h.chunks + (0 + length chunk) = sum_by-append length h.chunks (chunk ∷ []) in
          let r : bytes_in (chunks_of_rows rows payload) ≡ bytes_in h.chunks = ap bytes_in seen in
          omega arith;
      differ =
          let P : List (List ℕ) → Type 0 = λ cs. list_any (same_fp (fp chunk)) (map fp cs) ≡ false in
          let Q : List _ → Type 0 = λ fs. IsDistinct same_fp fs in
          subst Q (sym (map-append fp h.chunks (chunk ∷ []))) (IsDistinct-push same-equivalence (map fp h.chunks) (fp chunk) h.differ (subst P seen other));
    }

pub seen-more : (rows : List TableRow) (payload chunk : List ℕ) (h : IsOpen rows payload) (i : IsOpen (rows ++ table_row chunk ∷ []) (payload ++ chunk))
    → chunks_of_rows (rows ++ table_row chunk ∷ []) (payload ++ chunk) ≡ chunks_of_rows rows payload ++ chunk ∷ []
seen-more rows payload chunk h i =
    ap (λ r. chunks_of_rows r (payload ++ chunk)) (ap (λ r. r ++ table_row chunk ∷ []) h.rows_are ∙ sym (map-append table_row h.chunks (chunk ∷ [])))
    ∙ ap (λ b. chunks_of_rows (map table_row (h.chunks ++ chunk ∷ [])) b)
    (ap (λ b. b ++ chunk) h.payload_is ∙ ap (λ b. concat h.chunks ++ b) (sym (append-nil chunk)) ∙ sym (concat-append h.chunks (chunk ∷ [])))
    ∙ chunks_again (h.chunks ++ chunk ∷ [])
    ∙ ap (λ cs. cs ++ chunk ∷ []) (sym (seen_as rows payload h))

-- the container that is put

rows-named : (chunks : List (List ℕ)) → map table_row chunks ≡ (map (λ c. record { fp = c.fp; len = length c.bytes }) (map named_chunk chunks))
rows-named [] = refl
rows-named (x ∷ xs) = ap (λ rs. table_row x ∷ rs) (rows-named xs)

bytes-named : (chunks : List (List ℕ)) → chunks ≡ map (λ c. c.bytes) (map named_chunk chunks)
bytes-named [] = refl
bytes-named (x ∷ xs) = ap (λ rs. x ∷ rs) (bytes-named xs)

abbrev sealed_as : ℕ → List TableRow → List ℕ → Container
sealed_as id rows payload = record { table = record { id = id; rows = rows; payload_sum = fp payload }; payload = Some payload }

pub sealed-is : (id : ℕ) (rows : List TableRow) (payload : List ℕ) → IsOpen rows payload → sealed_as id rows payload ≡ new_container id (map named_chunk (chunks_of_rows rows payload))
sealed-is id rows payload h =
    ap (λ r. sealed_as id r payload) (h.rows_are ∙ rows-named h.chunks)
    ∙ ap (λ p. sealed_as id (map (λ c. record { fp = c.fp; len = length c.bytes }) (map named_chunk h.chunks)) p) (h.payload_is ∙ ap concat (bytes-named h.chunks))
    ∙ ap (λ cs. new_container id (map named_chunk cs)) (sym (seen_as rows payload h))

lens-rows : (chunks : List (List ℕ)) → AllByRecursion (λ c. (1 ≤ length c) × (length c ≤ 65536)) chunks → AllByRecursion (λ r. (1 ≤ r.len) × (r.len ≤ 65536)) (map table_row chunks)
lens-rows [] h = tt
lens-rows (x ∷ xs) h = (h.0, lens-rows xs h.1)

fps-rows : (chunks : List (List ℕ)) → AllByRecursion (λ r. IsFp r.fp) (map table_row chunks)
fps-rows [] = tt
fps-rows (x ∷ xs) = (fp-is_fp x, fps-rows xs)

total-rows : (chunks : List (List ℕ)) → payload_len (map table_row chunks) ≡ bytes_in chunks
total-rows [] = refl
total-rows (x ∷ xs) = sum_by-cons (λ r. r.len) (table_row x) (map table_row xs) ∙ ap (λ n. length x + n) (total-rows xs) ∙ sym (sum_by-cons length x xs)

fps-again : (chunks : List (List ℕ)) → map (λ r. r.fp) (map table_row chunks) ≡ map fp chunks
fps-again [] = refl
fps-again (x ∷ xs) = ap (λ fs. fp x ∷ fs) (fps-again xs)

rows-len : (chunks : List (List ℕ)) → length (map table_row chunks) ≡ length chunks
rows-len [] = refl
rows-len (x ∷ xs) = ap suc (rows-len xs)

pub sealed-table : (id : ℕ) (rows : List TableRow) (payload : List ℕ) → 1 ≤ id → id < 2 ^ 64 → IsOpen rows payload → IsTable (record { id = id; rows = rows; payload_sum = fp payload })
sealed-table id rows payload low high h =
    let P : List TableRow → Type 0 = λ r. IsTable (record { id = id; rows = r; payload_sum = fp payload }) in
    subst P (sym h.rows_are) (record {
      id_low = low;
      id_high = high;
      count = let l : length (map table_row h.chunks) ≡ length h.chunks = rows-len h.chunks in (let s : 1 ≤ length h.chunks = h.some in omega arith);
      lens = lens-rows h.chunks h.lens;
      total = let t : payload_len (map table_row h.chunks) ≡ bytes_in h.chunks = total-rows h.chunks in (let s : bytes_in h.chunks ≤ 4194304 = h.total in omega arith);
      fps = fps-rows h.chunks;
      payload_sum = fp-is_fp payload;
      differ = let Q : List _ → Type 0 = λ fs. IsDistinct same_fp fs in subst Q (sym (fps-again h.chunks)) h.differ;
    })

pub sealed-whole : (id : ℕ) (rows : List TableRow) (payload : List ℕ) → IsOpen rows payload → IsWhole (record { id = id; rows = rows; payload_sum = fp payload }) payload
sealed-whole id rows payload h = (h.chunks, sym h.payload_is, sym h.rows_are, refl)
