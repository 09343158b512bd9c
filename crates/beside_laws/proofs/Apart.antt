-- Names of running restores, apart from each other and from those of later lines.
use Rattle.std.proofs.Common.{◌≡◌, ℕ, Bool, true, false, ◌||◌, IsTrue, List, [], ◌∷◌, ◌++◌, refl, sym, ◌∙◌, ap}
use Rattle.std.specs.Prelude.{Contains, flat_map}
use Rattle.std.specs.List.{list_any, AllByRecursion}
use Rattle.std.specs.Str.{bytes_eq}
use Rattle.vault_types.proofs.FillLemmas.{bytes_eq-same, same_bytes}
use Rattle.vault_types.specs.declared.Line.{Line}
use Rattle.vault_types.specs.Words.{sources_of, outputs_of, is_one_of}
use Rattle.store_model.specs.Outputs.{AreApartFrom}
use Rattle.script_laws.proofs.Names.{any_left, any_right, or_left, or_right, eq_swap, absent, later_output, later_source}

-- no name comes twice
abbrev pub AreDistinct : List (List ℕ) → Type 0
AreDistinct [] = Unit {0}
AreDistinct (n ∷ ns) = (is_one_of ns n ≡ false) × AreDistinct ns

-- each of the names is among the named ones
abbrev pub AreWithin : List (List ℕ) → List (List ℕ) → Type 0
AreWithin named names = AllByRecursion (λ n. IsTrue (is_one_of named n)) names

or_both : (a b : Bool) → a ≡ false → b ≡ false → (a || b) ≡ false
or_both true b h k = h
or_both false b h k = k

module _ {X : Type 0} (f : X → Bool) where
  any_both : (A B : List X) → list_any f A ≡ false → list_any f B ≡ false → list_any f (A ++ B) ≡ false
  any_both [] B h k = k
  any_both (a ∷ A) B h k = or_both (f a) _ (or_left (f a) _ h) (any_both A B (or_right (f a) _ h) k)

  pub mid_less : (A : List X) (n : X) (B : List X) → list_any f (A ++ n ∷ B) ≡ false → list_any f (A ++ B) ≡ false
  mid_less A n B h = any_both A B (any_left f A (n ∷ B) h) (or_right (f n) _ (any_right f A (n ∷ B) h))

  pub mid_one : (A : List X) (n : X) (B : List X) → list_any f (A ++ n ∷ B) ≡ false → f n ≡ false
  mid_one A n B h = or_left (f n) _ (any_right f A (n ∷ B) h)

  pub mid_more : (A : List X) (n : X) (B : List X) → list_any f (A ++ B) ≡ false → f n ≡ false → list_any f (A ++ n ∷ B) ≡ false
  mid_more A n B h k = any_both A (n ∷ B) (any_left f A B h) (or_both (f n) _ k (any_right f A B h))

  any_more : (A B : List X) → IsTrue (list_any f A) → IsTrue (list_any f (A ++ B))
  any_more [] B h = let e : false ≡ true = h in cc
  any_more (a ∷ A) B h = by (f a) (list_any f A) (list_any f (A ++ B)) (λ k. any_more A B k) h
    where
      by : (b c d : Bool) → (IsTrue c → IsTrue d) → IsTrue (b || c) → IsTrue (b || d)
      by true c d more h = refl
      by false c d more h = more h

  any_last : (A : List X) (n : X) → f n ≡ true → IsTrue (list_any f (A ++ n ∷ []))
  any_last [] n is = by (f n) is
    where
      by : (b : Bool) → b ≡ true → IsTrue (b || false)
      by true h = refl
      by false h = h
  any_last (a ∷ A) n is = by (f a) (list_any f (A ++ n ∷ [])) (any_last A n is)
    where
      by : (b c : Bool) → IsTrue c → IsTrue (b || c)
      by true c h = refl
      by false c h = h

pub distinct_less : (A : List (List ℕ)) (n : List ℕ) (B : List (List ℕ)) → AreDistinct (A ++ n ∷ B) → AreDistinct (A ++ B) × (is_one_of (A ++ B) n ≡ false)
distinct_less [] n B h = (h.1, h.0)
distinct_less (a ∷ A) n B h =
    let rest = distinct_less A n B h.1 in
    ((mid_less (bytes_eq a) A n B h.0, rest.0), or_both (bytes_eq n a) _ (eq_swap a n (mid_one (bytes_eq a) A n B h.0)) rest.1)

pub distinct_more : (A : List (List ℕ)) (n : List ℕ) (B : List (List ℕ)) → AreDistinct (A ++ B) → is_one_of (A ++ B) n ≡ false → AreDistinct (A ++ n ∷ B)
distinct_more [] n B h none = (none, h)
distinct_more (a ∷ A) n B h none = (
  mid_more (bytes_eq a) A n B h.0 (eq_swap n a (or_left (bytes_eq n a) _ none)),
  distinct_more A n B h.1 (or_right (bytes_eq n a) _ none),
)

pub within_less : (named A : List (List ℕ)) (n : List ℕ) (B : List (List ℕ)) → AreWithin named (A ++ n ∷ B) → AreWithin named (A ++ B) × IsTrue (is_one_of named n)
within_less named [] n B h = (h.1, h.0)
within_less named (a ∷ A) n B h = let rest = within_less named A n B h.1 in ((h.0, rest.0), rest.1)

pub within_more : (named A : List (List ℕ)) (n : List ℕ) (B : List (List ℕ)) → AreWithin named (A ++ B) → IsTrue (is_one_of named n) → AreWithin named (A ++ n ∷ B)
within_more named [] n B h here = (here, h)
within_more named (a ∷ A) n B h here = (h.0, within_more named A n B h.1 here)

pub within_named : (named more names : List (List ℕ)) → AreWithin named names → AreWithin (named ++ more) names
within_named named more [] h = tt
within_named named more (n ∷ names) h = (any_more (bytes_eq n) named more h.0, within_named named more names h.1)

pub last_named : (named : List (List ℕ)) (n : List ℕ) → IsTrue (is_one_of (named ++ n ∷ []) n)
last_named named n = any_last (bytes_eq n) named n (bytes_eq-same n)

-- a name that is not among the named ones is another than one that is
apart_names : (named : List (List ℕ)) (n m : List ℕ) → is_one_of named n ≡ false → IsTrue (is_one_of named m) → bytes_eq n m ≡ false
apart_names named n m none here = by (bytes_eq n m) refl
  where
    by : (b : Bool) → bytes_eq n m ≡ b → bytes_eq n m ≡ false
    by true is = let e : true ≡ false = sym here ∙ ap (is_one_of named) (sym (same_bytes n m is)) ∙ none in cc
    by false is = is

pub not_within : (named names : List (List ℕ)) (n : List ℕ) → AreWithin named names → is_one_of named n ≡ false → is_one_of names n ≡ false
not_within named [] n h none = refl
not_within named (m ∷ names) n h none = or_both (bytes_eq n m) _ (apart_names named n m none h.0) (not_within named names n h.1 none)

-- a name that was given is no output of a later line, and no source
pub given_no_output : (before named : List (List ℕ)) (lines : List Line) (n : List ℕ) → AreApartFrom before named lines → IsTrue (is_one_of named n) → is_one_of (flat_map outputs_of lines) n ≡ false
given_no_output before named lines n apart here = absent (flat_map outputs_of lines) n (λ m there. eq_swap m n (apart_names named m n (later_output before named lines m apart there) here))

pub output_not_given : (before named : List (List ℕ)) (lines : List Line) (n m : List ℕ) → AreApartFrom before named lines → IsTrue (is_one_of named n) → Contains (flat_map outputs_of lines) m → is_one_of (n ∷ []) m ≡ false
output_not_given before named lines n m apart here there = or_both (bytes_eq m n) false (apart_names named m n (later_output before named lines m apart there) here) refl

pub source_not_given : (before named : List (List ℕ)) (lines : List Line) (n m : List ℕ) → AreApartFrom before named lines → IsTrue (is_one_of named n) → Contains (flat_map sources_of lines) m → is_one_of (n ∷ []) m ≡ false
source_not_given before named lines n m apart here there = or_both (bytes_eq m n) false (apart_names named m n (later_source before named lines m apart there) here) refl
