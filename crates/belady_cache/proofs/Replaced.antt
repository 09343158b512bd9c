-- One step of the loop of `replace`.
use Rattle.std.proofs.Common.{◌≡◌, ℕ, ◌+◌, ◌<◌, Bool, true, false, cond, ◌||◌, ◌==◌, List, ◌++◌, length, take, drop, set, get_or, refl, sym, ap, ◌∙◌, arith}
use Rattle.std.proofs.lemmas.Grind.{common_steps}
use Rattle.std.proofs.lemmas.Bool.{eq-eqb, ne_eqb}
use Rattle.std.proofs.lemmas.List.{get_or_default}
use Rattle.std.proofs.lemmas.List.Edits.{map_over_more}
use Rattle.std.proofs.lemmas.List.Folds.{list_any_more}
use Rattle.belady_cache.specs.declared.present.Held.{Held}
use Rattle.belady_cache.specs.Present.{is_present, replaced}

-- what the loop writes over h
abbrev written : ℕ → Held → Held → Held
written id new h = cond (h.id == id) new h

pub written_yes : (id : ℕ) (new h : Held) → h.id ≡ id → new ≡ written id new h
written_yes id new h e = sym (ap (λ b. cond b new h) (eq-eqb h.id id e))

pub written_no : (id : ℕ) (new h : Held) → (h.id ≡ id → ⊥) → h ≡ written id new h
written_no id new h e = sym (ap (λ b. cond b new h) (ne_eqb h.id id e))

-- at the element that it reads
pub replaced_more : (id : ℕ) (new : Held) (xs ys zs : List Held) (i : ℕ) (d h : Held) → i < length xs → ys ≡ replaced id new (take i xs) ++ drop i xs → length ys ≡ length xs → zs ≡ set ys i h → h ≡ written id new (get_or ys i d) → zs ≡ replaced id new (take (i + 1) xs) ++ drop (i + 1) xs
replaced_more id new xs ys zs i d h l e len z is =
    z ∙ ap (set ys i) is ∙ map_over_more (written id new) xs ys i (get_or ys i d) l e (get_or_default ys i d (get_or ys i d) (omega arith))

-- that element is the list's own
own_element : (id : ℕ) (new : Held) (xs ys : List Held) (i : ℕ) (d : Held) → i < length xs → ys ≡ replaced id new (take i xs) ++ drop i xs → get_or ys i d ≡ get_or xs i d
own_element id new xs ys i d l e = grind (arith, common_steps)

found_more : (id : ℕ) (new : Held) (xs ys : List Held) (i : ℕ) (d : Held) (b : Bool) → i < length xs → ys ≡ replaced id new (take i xs) ++ drop i xs → ((get_or ys i d).id == id) ≡ b → is_present id (take (i + 1) xs) ≡ (is_present id (take i xs) || b)
found_more id new xs ys i d b l e t =
    list_any_more (λ (h : Held). h.id == id) xs i d l
    ∙ ap (λ c. is_present id (take i xs) || c) (ap (λ (h : Held). h.id == id) (sym (own_element id new xs ys i d l e)) ∙ t)

or-true : (b : Bool) → (b || true) ≡ true
or-true true = refl
or-true false = refl

or-false : (b : Bool) → (b || false) ≡ b
or-false true = refl
or-false false = refl

pub found_yes : (id : ℕ) (new : Held) (xs ys : List Held) (i : ℕ) (d : Held) (found : Bool) → i < length xs → ys ≡ replaced id new (take i xs) ++ drop i xs → (get_or ys i d).id ≡ id → found ≡ true → found ≡ is_present id (take (i + 1) xs)
found_yes id new xs ys i d found l e same is =
    is ∙ sym (found_more id new xs ys i d true l e (eq-eqb _ _ same) ∙ or-true (is_present id (take i xs)))

pub found_no : (id : ℕ) (new : Held) (xs ys : List Held) (i : ℕ) (d : Held) (found : Bool) → i < length xs → ys ≡ replaced id new (take i xs) ++ drop i xs → ((get_or ys i d).id ≡ id → ⊥) → found ≡ is_present id (take i xs) → found ≡ is_present id (take (i + 1) xs)
found_no id new xs ys i d found l e other is =
    is ∙ sym (found_more id new xs ys i d false l e (ne_eqb _ _ other) ∙ or-false (is_present id (take i xs)))
