-- The chunks of a table as a map gathers them.
use Rattle.std.proofs.Common.{◌≡◌, ℕ, ◌+◌, ◌<◌, ◌≤◌, ◌^◌, Bool, true, false, cond, List, [], ◌∷◌, map, drop, get_or, length, refl, sym, ap, ◌∙◌, subst, arith, Option, Some, None}
use Rattle.std.specs.Option.{option_or}
use Rattle.std.specs.List.{AllByRecursion, IsDistinct}
use Rattle.std.specs.Map.{lookup}
use Rattle.std.proofs.lemmas.List.{drop_more, drop_all}
use Rattle.std.proofs.lemmas.List.Sums.{sum_by-cons}
use Rattle.std.proofs.lemmas.Map.Keys.{IsDistinct-head, IsDistinct-tail}
use Rattle.vault_types.specs.declared.Fp.{Fp}
use Rattle.vault_types.specs.declared.TableRow.{TableRow}
use Rattle.vault_types.specs.Names.{same_fp}
use Rattle.vault_types.specs.Tables.{payload_len}
use Rattle.vault_types.proofs.FillLemmas.{same_fps}
use Rattle.row_spots.specs.declared.offsets.ChunkSpan.{ChunkSpan}
use Rattle.row_spots.specs.Offsets.{place_from}

-- the places of the rows but the rest, whose chunks stand from a byte on
pub record IsBuilt (entries : List (Fp × ChunkSpan)) (at : ℕ) (rest rows : List TableRow) : Type 0 where
  pub gives : (f : Fp) → option_or (lookup (same_fp f) entries) (place_from at rest f) ≡ place_from 0 rows f
  pub fresh : AllByRecursion (λ r. lookup (same_fp r.fp) entries ≡ None) rest
  pub differ : IsDistinct same_fp (map (λ r. r.fp) rest)
  pub fits : at + payload_len rest < 2 ^ 32

fresh_rows : (rows : List TableRow) → AllByRecursion (λ r. lookup {X = ChunkSpan} (same_fp r.fp) [] ≡ None) rows
fresh_rows [] = tt
fresh_rows (r ∷ rows) = (refl, fresh_rows rows)

pub built_none : (rows : List TableRow) → payload_len rows < 2 ^ 32 → IsDistinct same_fp (map (λ r. r.fp) rows) → IsBuilt [] 0 rows rows
built_none rows few apart = record { gives = λ f. refl; fresh = fresh_rows rows; differ = apart; fits = omega (arith, few) }

pub built_fits : (entries : List (Fp × ChunkSpan)) (at : ℕ) (r : TableRow) (rest rows : List TableRow) → IsBuilt entries at (r ∷ rest) rows → at + r.len < 2 ^ 32
built_fits entries at r rest rows h =
    let sum : payload_len (r ∷ rest) ≡ r.len + payload_len rest = sum_by-cons (λ (q : TableRow). q.len) r rest in
    let few : at + payload_len (r ∷ rest) < 2 ^ 32 = h.fits in
    omega arith

pub built_more : (old new : List (Fp × ChunkSpan)) (at : ℕ) (r : TableRow) (rest rows : List TableRow) → IsBuilt old at (r ∷ rest) rows
    → ((q : Fp) → lookup (same_fp q) new ≡ cond (same_fp r.fp q) (Some (record { at = at; len = r.len })) (lookup (same_fp q) old)) → IsBuilt new (at + r.len) rest rows
built_more old new at r rest rows h n = record {
  gives = λ f. ap (λ o. option_or o (place_from (at + r.len) rest f)) (n f) ∙ step f (same_fp r.fp f) refl ∙ h.gives f;
  fresh = others rest (IsDistinct-head same_fp r.fp (map (λ q. q.fp) rest) h.differ) h.fresh.1;
  differ = IsDistinct-tail same_fp r.fp (map (λ q. q.fp) rest) h.differ;
  fits =
      let sum : payload_len (r ∷ rest) ≡ r.len + payload_len rest = sum_by-cons (λ (q : TableRow). q.len) r rest in
      let few : at + payload_len (r ∷ rest) < 2 ^ 32 = h.fits in
      omega arith;
}
  where
    step : (f : Fp) (b : Bool) → same_fp r.fp f ≡ b
        → option_or (cond b (Some (record { at = at; len = r.len })) (lookup (same_fp f) old)) (place_from (at + r.len) rest f) ≡ option_or (lookup (same_fp f) old) (cond (same_fp r.fp f) (Some (record { at = at; len = r.len })) (place_from (at + r.len) rest f))
    step f true t =
        let none : lookup (same_fp f) old ≡ None = subst (λ q. lookup (same_fp q) old ≡ None) (same_fps r.fp f t) h.fresh.0 in
        sym (ap (λ b. option_or (lookup (same_fp f) old) (cond b (Some (record { at = at; len = r.len })) (place_from (at + r.len) rest f))) t
        ∙ ap (λ o. option_or o (Some (record { at = at; len = r.len }))) none)
    step f false t = sym (ap (λ b. option_or (lookup (same_fp f) old) (cond b (Some (record { at = at; len = r.len })) (place_from (at + r.len) rest f))) t)

    others : (qs : List TableRow) → AllByRecursion (λ y. same_fp r.fp y ≡ false) (map (λ q. q.fp) qs) → AllByRecursion (λ q. lookup (same_fp q.fp) old ≡ None) qs → AllByRecursion (λ q. lookup (same_fp q.fp) new ≡ None) qs
    others [] apart free = tt
    others (q ∷ qs) apart free = (n q.fp ∙ ap (λ b. cond b (Some (record { at = at; len = r.len })) (lookup (same_fp q.fp) old)) apart.0 ∙ free.0, others qs apart.1 free.1)

-- the same by the index of the row
pub row_fits : (entries : List (Fp × ChunkSpan)) (at i : ℕ) (d : TableRow) (rows : List TableRow) → i < length rows → IsBuilt entries at (drop i rows) rows → at + (get_or rows i d).len < 2 ^ 32
row_fits entries at i d rows l h = built_fits entries at (get_or rows i d) (drop (i + 1) rows) rows (subst (λ rest. IsBuilt entries at rest rows) (drop_more rows i d l) h)

pub row_more : (old new : List (Fp × ChunkSpan)) (at i : ℕ) (d : TableRow) (rows : List TableRow) → i < length rows → IsBuilt old at (drop i rows) rows
    → ((q : Fp) → lookup (same_fp q) new ≡ cond (same_fp (get_or rows i d).fp q) (Some (record { at = at; len = (get_or rows i d).len })) (lookup (same_fp q) old))
    → IsBuilt new (at + (get_or rows i d).len) (drop (i + 1) rows) rows
row_more old new at i d rows l h n = built_more old new at (get_or rows i d) (drop (i + 1) rows) rows (subst (λ rest. IsBuilt old at rest rows) (drop_more rows i d l) h) n

pub built_all : (entries : List (Fp × ChunkSpan)) (at i : ℕ) (rows : List TableRow) → length rows ≤ i → IsBuilt entries at (drop i rows) rows → (f : Fp) → lookup (same_fp f) entries ≡ place_from 0 rows f
built_all entries at i rows past h f =
    sym (or_none (lookup (same_fp f) entries))
    ∙ sym (ap (λ rest. option_or (lookup (same_fp f) entries) (place_from at rest f)) (drop_all i rows past))
    ∙ h.gives f
  where
    or_none : (o : Option ChunkSpan) → option_or o None ≡ o
    or_none None = refl
    or_none (Some p) = refl
