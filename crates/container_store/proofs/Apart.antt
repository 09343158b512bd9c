-- Fingerprints that come twice, and that come once.
use Rattle.std.proofs.Common.{◌≡◌, ℕ, suc, ◌+◌, ◌<◌, Bool, true, false, cond, ◌||◌, List, [], ◌∷◌, ◌++◌, length, take, drop, get_or, map, refl, sym, ap, subst, ◌∙◌, add-one}
use Rattle.std.specs.List.{AllByRecursion, list_any, IsDistinct}
use Rattle.std.specs.Cmp.{IsEquivalence}
use Rattle.std.specs.Cmp.Lexicographic.{on_texts_equal}
use Rattle.std.proofs.lemmas.List.Folds.{list_any-append}
use Rattle.std.proofs.lemmas.List.{map-append, take-append-drop}
use Rattle.std.proofs.Math.Seq.{take-suc, drop-cons}
use Rattle.std.proofs.lemmas.Map.Keys.{IsDistinct-push}
use Rattle.vault_types.specs.declared.Fp.{Fp}
use Rattle.vault_types.specs.declared.TableRow.{TableRow}
use Rattle.vault_types.specs.Names.{same_fp}

pub same_fp_equiv : IsEquivalence same_fp
same_fp_equiv = on_texts_equal (λ (f : Fp). f.0)

all_at : {X : Type 0} (P : X → Type 0) (xs ys : List X) (y : X) → AllByRecursion P (xs ++ y ∷ ys) → P y
all_at P [] ys y each = each.0
all_at P (x ∷ xs) ys y each = all_at P xs ys y each.1

twice : (xs ys : List Fp) (y : Fp) → list_any (same_fp y) xs ≡ true → IsDistinct same_fp (xs ++ y ∷ ys) → ⊥
unfolding IsDistinct
twice [] ys y e distinct = absurd cc
twice (x ∷ xs) ys y e distinct = at (λ h. twice xs ys y h distinct.1) (same_fp y x) refl e
  where
    at : (list_any (same_fp y) xs ≡ true → ⊥) → (b : Bool) → same_fp y x ≡ b → (b || list_any (same_fp y) xs) ≡ true → ⊥
    at more true is h = let other : same_fp x y ≡ false = all_at (λ z. same_fp x z ≡ false) xs ys y distinct.0 in absurd (cc (sym is ∙ same_fp_equiv.symm y x, other))
    at more false is h = more h

abbrev pub fps : List TableRow → List Fp
fps rows = map (λ r. r.fp) rows

fps-more : (rows : List TableRow) (i : ℕ) (d : TableRow) → i < length rows → fps (take (i + 1) rows) ≡ fps (take i rows) ++ (get_or rows i d).fp ∷ []
fps-more rows i d lt = ap fps (rw add-one (take-suc rows i d lt)) ∙ map-append (λ (r : TableRow). r.fp) (take i rows) (get_or rows i d ∷ [])

fps-parts : (rows : List TableRow) (i : ℕ) (d : TableRow) → i < length rows → fps rows ≡ fps (take i rows) ++ (get_or rows i d).fp ∷ fps (drop (suc i) rows)
fps-parts rows i d lt =
    ap fps (sym (take-append-drop i rows) ∙ ap (λ (x : List TableRow). take i rows ++ x) (drop-cons rows i d lt))
    ∙ map-append (λ (r : TableRow). r.fp) (take i rows) (get_or rows i d ∷ drop (suc i) rows)

-- what is known of the fingerprints that a set has: they are those of the rows so far, and none came twice
pub record IsSeen (has : Fp → Bool) (xs : List Fp) : Type 0 where
  pub known : (q : Fp) → has q ≡ list_any (same_fp q) xs
  pub distinct : IsDistinct same_fp xs

pub seen_none : (has : Fp → Bool) → ((q : Fp) → has q ≡ false) → IsSeen has []
unfolding IsDistinct
seen_none has none = record { known = none; distinct = tt }

pub seen_more : (has now : Fp → Bool) (rows : List TableRow) (i : ℕ) (d : TableRow) → i < length rows → IsSeen has (fps (take i rows)) → has (get_or rows i d).fp ≡ false
    → ((q : Fp) → now q ≡ cond (same_fp (get_or rows i d).fp q) true (has q)) → IsSeen now (fps (take (i + 1) rows))
seen_more has now rows i d lt seen new update =
    let y = (get_or rows i d).fp in
    let xs = fps (take i rows) in
    let grown : IsSeen now (xs ++ y ∷ []) = record {
      known = λ q.
          update q ∙ ap (λ (b : Bool). cond b true (has q)) (same_fp_equiv.symm y q) ∙ as_or (same_fp q y) (has q)
          ∙ ap (λ (b : Bool). b || (same_fp q y || false)) (seen.known q) ∙ sym (list_any-append (same_fp q) xs (y ∷ []));
      distinct = IsDistinct-push same_fp_equiv xs y seen.distinct (sym (seen.known y) ∙ new);
    } in
    subst (λ (l : List Fp). IsSeen now l) (sym (fps-more rows i d lt)) grown
  where
    as_or : (a b : Bool) → cond a true b ≡ (b || (a || false))
    as_or true true = refl
    as_or true false = refl
    as_or false true = refl
    as_or false false = refl

pub seen_twice : (has : Fp → Bool) (rows : List TableRow) (i : ℕ) (d : TableRow) → i < length rows → IsSeen has (fps (take i rows)) → has (get_or rows i d).fp ≡ true → IsDistinct same_fp (fps rows) → ⊥
seen_twice has rows i d lt seen old distinct =
    twice (fps (take i rows)) (fps (drop (suc i) rows)) (get_or rows i d).fp (sym (seen.known (get_or rows i d).fp) ∙ old)
    (subst (λ (l : List Fp). IsDistinct same_fp l) (fps-parts rows i d lt) distinct)
