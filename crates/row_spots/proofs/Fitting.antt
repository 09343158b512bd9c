-- Where a row's chunk lies, by what is known of its table.
use Rattle.std.proofs.Common.{◌≡◌, ℕ, zero, suc, ◌+◌, ◌<◌, ◌≤◌, Bool, true, false, cond, List, [], ◌∷◌, map, length, get_or, take, refl, sym, ap, ◌∙◌, subst, arith, Option, Some, None}
use Rattle.std.specs.Prelude.{nat_eq, Contains, IfSome, IfNone, IsSomeAnd, option_and_then}
use Rattle.std.specs.Option.{option_map_or}
use Rattle.std.specs.List.{AllByRecursion, IsDistinct}
use Rattle.std.specs.Map.{lookup}
use Rattle.std.proofs.lemmas.Bool.Decides.{nat_tests}
use Rattle.std.proofs.lemmas.List.{take_all}
use Rattle.std.proofs.lemmas.List.Elements.{All-from_recursion, recursion_from_All, All-more}
use Rattle.std.proofs.lemmas.Option.{slice_get-get_or, same_Some}
use Rattle.std.proofs.lemmas.Map.Keys.{IsDistinct-head, IsDistinct-tail}
use Rattle.vault_types.specs.declared.Fp.{Fp}
use Rattle.vault_types.specs.declared.TableRow.{TableRow}
use Rattle.vault_types.specs.declared.Table.{Table}
use Rattle.vault_types.specs.declared.Row.{Row}
use Rattle.vault_types.specs.declared.Spot.{Spot}
use Rattle.vault_types.specs.Names.{same_fp}
use Rattle.vault_types.specs.Bytes.{offset_of}
use Rattle.vault_types.proofs.FillLemmas.{same_fps, bytes_eq-same}
use Rattle.keeper_catalog.specs.Catalog.{table_at}
use Rattle.row_spots.specs.declared.offsets.ChunkSpan.{ChunkSpan}
use Rattle.row_spots.specs.Spots.{spot_in, HasPlace, AreRuled, IsFirstWithout}
use Rattle.row_spots.specs.Offsets.{place_from, span_at, fitting_spot, ArePlaces}

contains_later : (r : TableRow) (rows : List TableRow) (x : TableRow) → Contains rows x → Contains (r ∷ rows) x
contains_later r rows x h = (suc h.0, omega (arith, h.1), h.2)

-- a place is that of the first row with the fingerprint
pub record IsThere (at : ℕ) (rows : List TableRow) (f : Fp) (p : ChunkSpan) : Type 0 where
  pub offset : p.at ≡ at + offset_of rows f
  pub row : Contains rows (record { fp = f; len = p.len })

pub place_there : (at : ℕ) (rows : List TableRow) (f : Fp) (p : ChunkSpan) → place_from at rows f ≡ Some p → IsThere at rows f p
place_there at [] f p e = absurd cc
place_there at (r ∷ rows) f p e = step (same_fp r.fp f) refl e (λ i. place_there (at + r.len) rows f p i)
  where
    step : (b : Bool) → same_fp r.fp f ≡ b → cond b (Some (record { at = at; len = r.len })) (place_from (at + r.len) rows f) ≡ Some p → (place_from (at + r.len) rows f ≡ Some p → IsThere (at + r.len) rows f p) → IsThere at (r ∷ rows) f p
    step true t i rest =
        let is : record { at = at; len = r.len } ≡ p = same_Some _ _ i in
        let none : offset_of (r ∷ rows) f ≡ 0 = ap (λ b. cond b 0 (r.len + offset_of rows f)) t in
        let high : at ≡ p.at = ap (λ q. q.at) is in
        let wide : r.len ≡ p.len = ap (λ q. q.len) is in
        record {
          offset = omega arith;
          row = (0, omega arith, ap (λ g. record { fp = g; len = r.len }) (same_fps r.fp f t) ∙ ap (λ n. record { fp = f; len = n }) wide);
        }
    step false t i rest =
        let later : IsThere (at + r.len) rows f p = rest i in
        let more : offset_of (r ∷ rows) f ≡ r.len + offset_of rows f = ap (λ b. cond b 0 (r.len + offset_of rows f)) t in
        let is : p.at ≡ at + r.len + offset_of rows f = later.offset in
        record { offset = omega arith; row = contains_later r rows _ later.row }

-- where the fingerprints differ, a row has its place
pub there_place : (at : ℕ) (rows : List TableRow) (f : Fp) (len : ℕ) → IsDistinct same_fp (map (λ r. r.fp) rows) → Contains rows (record { fp = f; len = len }) → IsSomeAnd (place_from at rows f) (λ p. p.len ≡ len)
there_place at [] f len apart (k, l, e) = absurd (omega arith)
there_place at (r ∷ rows) f len apart (zero, l, e) =
    let same : same_fp r.fp f ≡ true = ap (λ q. same_fp q.fp f) e ∙ bytes_eq-same f.0 in
    let wide : r.len ≡ len = ap (λ q. q.len) e in
    subst (λ b. IsSomeAnd (cond b (Some (record { at = at; len = r.len })) (place_from (at + r.len) rows f)) (λ p. p.len ≡ len)) (sym same) wide
there_place at (r ∷ rows) f len apart (suc k, l, e) =
    let below : k < length rows = omega arith in
    let other : same_fp r.fp f ≡ false = ap (λ q. same_fp r.fp q.fp) (sym e) ∙ later rows k (record { fp = f; len = len }) below (IsDistinct-head same_fp r.fp (map (λ q. q.fp) rows) apart) in
    subst (λ b. IsSomeAnd (cond b (Some (record { at = at; len = r.len })) (place_from (at + r.len) rows f)) (λ p. p.len ≡ len)) (sym other)
    (there_place (at + r.len) rows f len (IsDistinct-tail same_fp r.fp (map (λ q. q.fp) rows) apart) (k, below, e))
  where
    later : (qs : List TableRow) (i : ℕ) (d : TableRow) → i < length qs → AllByRecursion (λ y. same_fp r.fp y ≡ false) (map (λ q. q.fp) qs) → same_fp r.fp (get_or qs i d).fp ≡ false
    later [] i d l a = absurd (omega arith)
    later (q ∷ qs) zero d l a = a.0
    later (q ∷ qs) (suc i) d l a = later qs i d (omega arith) a.1

-- what a spot says of its row
pub record IsAnswer (tables : List (ℕ × Table)) (r : Row) (answer : Option Spot) : Type 0 where
  pub spot : IfSome answer (λ s. s ≡ spot_in tables r)
  pub placed : IfSome answer (λ _. HasPlace tables r)
  pub absent : IfNone answer (HasPlace tables r → ⊥)

-- the same at the table that there is
record AnswersAt (o : Option Table) (r : Row) (answer : Option Spot) : Type 0 where
  spot : IfSome answer (λ s. s ≡ record { id = r.id; at = option_map_or (λ t. offset_of t.rows r.fp) o 0; len = r.len })
  placed : IfSome answer (λ _. IsSomeAnd o (λ t. Contains t.rows (record { fp = r.fp; len = r.len })))
  absent : IfNone answer (IsSomeAnd o (λ t. Contains t.rows (record { fp = r.fp; len = r.len })) → ⊥)

module _ (r : Row) (t : Table) (apart : IsDistinct same_fp (map (λ q. q.fp) t.rows)) where
  at_place : (o : Option ChunkSpan) → place_from 0 t.rows r.fp ≡ o → AnswersAt (Some t) r (fitting_spot r o)
  at_place None e = record {
    spot = tt;
    placed = tt;
    absent = λ h. subst (λ o. IsSomeAnd o (λ p. p.len ≡ r.len)) e (there_place 0 t.rows r.fp r.len apart h);
  }
  at_place (Some p) e = step (nat_eq p.len r.len) refl
    where
      there : IsThere 0 t.rows r.fp p
      there = place_there 0 t.rows r.fp p e

      step : (b : Bool) → nat_eq p.len r.len ≡ b → AnswersAt (Some t) r (cond b (Some (record { id = r.id; at = p.at; len = r.len })) None)
      step true i =
          let wide : p.len ≡ r.len = grind (arith, nat_tests) in
          let offset : p.at ≡ offset_of t.rows r.fp = omega (arith, there.offset) in
          record {
            spot = ap (λ n. record { id = r.id; at = n; len = r.len }) offset;
            placed = subst (λ n. Contains t.rows (record { fp = r.fp; len = n })) wide there.row;
            absent = tt;
          }
      step false i = record {
        spot = tt;
        placed = tt;
        absent = λ h. let wide : p.len ≡ r.len = subst (λ o. IsSomeAnd o (λ q. q.len ≡ r.len)) e (there_place 0 t.rows r.fp r.len apart h) in grind (arith, nat_tests);
      }

pub answers : (tables : List (ℕ × Table)) (r : Row) → AreRuled tables → IsAnswer tables r (fitting_spot r (span_at tables r.id r.fp))
answers tables r rules = record { spot = at.spot; placed = at.placed; absent = at.absent }
  where
    step : (o : Option Table) → table_at tables r.id ≡ o → AnswersAt o r (fitting_spot r (option_and_then (λ t. place_from 0 t.rows r.fp) o))
    step None e = record { spot = tt; placed = tt; absent = λ h. h }
    step (Some t) e = at_place r t (rules r.id t e).differ (place_from 0 t.rows r.fp) refl

    at : AnswersAt (table_at tables r.id) r (fitting_spot r (span_at tables r.id r.fp))
    at = step (table_at tables r.id) refl

-- what is known of the row's table gives its place
pub known_place : (tables : List (ℕ × Table)) (known : List (ℕ × List (Fp × ChunkSpan))) (r : Row) → IsSomeAnd (lookup (nat_eq r.id) known) (ArePlaces tables r.id)
    → option_and_then (lookup (same_fp r.fp)) (lookup (nat_eq r.id) known) ≡ span_at tables r.id r.fp
known_place tables known r h = step (lookup (nat_eq r.id) known) h
  where
    step : (o : Option (List (Fp × ChunkSpan))) → IsSomeAnd o (ArePlaces tables r.id) → option_and_then (lookup (same_fp r.fp)) o ≡ span_at tables r.id r.fp
    step None i = absurd i
    step (Some places) i = i r.fp

-- the rows so far

pub placed_more : (tables : List (ℕ × Table)) (rows : List Row) (i : ℕ) (d : Row) → i < length rows → AllByRecursion (HasPlace tables) (take i rows) → HasPlace tables (get_or rows i d) → AllByRecursion (HasPlace tables) (take (i + 1) rows)
placed_more tables rows i d l h p = recursion_from_All (HasPlace tables) (take (i + 1) rows) (All-more (HasPlace tables) rows i d l (All-from_recursion (HasPlace tables) (take i rows) h) p)

pub placed_all : (tables : List (ℕ × Table)) (rows : List Row) (i : ℕ) → length rows ≤ i → AllByRecursion (HasPlace tables) (take i rows) → AllByRecursion (HasPlace tables) rows
placed_all tables rows i past h = subst (AllByRecursion (HasPlace tables)) (take_all i rows past) h

pub first_without : (tables : List (ℕ × Table)) (rows : List Row) (i : ℕ) (d : Row) → i < length rows → AllByRecursion (HasPlace tables) (take i rows) → (HasPlace tables (get_or rows i d) → ⊥) → IsFirstWithout tables rows i
first_without tables rows i d l h n = record { none = subst (λ o. IsSomeAnd o (λ r. HasPlace tables r → ⊥)) (sym (slice_get-get_or rows i d l)) n; before = h }
