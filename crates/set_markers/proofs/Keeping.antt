-- A list of ids that differ, of which each one's marker is forgotten in turn.
use Rattle.std.proofs.Common.{◌≡◌, ℕ, zero, suc, ◌+◌, ◌-◌, ◌<◌, ◌≤◌, Bool, true, false, cond, ◌&&◌, ◌||◌, List, [], ◌∷◌, take, drop, get_or, length, refl, sym, ap, ◌∙◌, subst, arith, None}
use Rattle.std.specs.Prelude.{nat_eq, IsSome}
use Rattle.std.specs.List.{AllByRecursion, IsDistinct}
use Rattle.std.specs.Map.{lookup}
use Rattle.std.proofs.lemmas.Bool.Decides.{nat_tests}
use Rattle.std.proofs.lemmas.List.{get_or-drop}
use Rattle.std.proofs.lemmas.List.Folds.{list_any_more}
use Rattle.std.proofs.lemmas.Map.Keys.{apart_from_distinct}
use Rattle.vault_types.specs.Lists.{has}
use Rattle.set_markers.specs.SetMarkers.{is_key, count_of}

-- what both lists have from i on is at place i too
pub same_place : (xs ys : List ℕ) (i : ℕ) → drop i ys ≡ drop i xs → get_or ys i 0 ≡ get_or xs i 0
same_place xs ys i e = sym (front ys) ∙ ap (λ zs. get_or zs 0 0) e ∙ front xs
  where
    front : (zs : List ℕ) → get_or (drop i zs) 0 0 ≡ get_or zs i 0
    front zs = get_or-drop i zs 0 0 ∙ ap (λ n. get_or zs n 0) (omega arith)

-- an id is not among those before it
fresh-up_to : (xs : List ℕ) (i n : ℕ) → IsDistinct nat_eq xs → i < length xs → n ≤ i → has (get_or xs i 0) (take n xs) ≡ false
fresh-up_to xs i zero d l p = refl
fresh-up_to xs i (suc n) d l p =
    let next : suc n ≡ n + 1 = omega arith in
    let apart : nat_eq (get_or xs n 0) (get_or xs i 0) ≡ false = apart_from_distinct nat_eq xs n i 0 d (omega arith) l in
    let flip : nat_eq (get_or xs i 0) (get_or xs n 0) ≡ false = grind (arith, nat_tests) in
    ap (λ m. has (get_or xs i 0) (take m xs)) next
    ∙ list_any_more (nat_eq (get_or xs i 0)) xs n 0 (omega arith)
    ∙ ap (λ b. b || nat_eq (get_or xs i 0) (get_or xs n 0)) (fresh-up_to xs i n d l (omega arith))
    ∙ flip

pub fresh : (xs : List ℕ) (i : ℕ) → IsDistinct nat_eq xs → i < length xs → has (get_or xs i 0) (take i xs) ≡ false
fresh xs i d l = fresh-up_to xs i i d l (omega arith)

all-at : (P : ℕ → Type 0) (xs : List ℕ) (i : ℕ) → i < length xs → AllByRecursion P xs → P (get_or xs i 0)
all-at P [] i l h = absurd (omega arith)
all-at P (x ∷ xs) zero l h = h.0
all-at P (x ∷ xs) (suc i) l h = all-at P xs i (omega arith) h.1

none : (b : Bool) → (b && false) ≡ false
none true = refl
none false = refl

-- after the markers of the first i ids of xs are forgotten in the set s
abbrev pub AreForgotten : ℕ → List ((ℕ × ℕ) × ℕ) → List ((ℕ × ℕ) × ℕ) → List ℕ → Type 0
AreForgotten s old new ids = (t c : ℕ) → lookup (is_key t c) new ≡ cond (nat_eq s t && has c ids) None (lookup (is_key t c) old)

abbrev pub AreFewer : List ((ℕ × ℕ) × ℕ) → List ((ℕ × ℕ) × ℕ) → List ℕ → Type 0
AreFewer old new ids = (c : ℕ) → count_of c new ≡ count_of c old - cond (has c ids) 1 0

-- the next id still has its marker, and its count
pub still_marked : (s : ℕ) (old new : List ((ℕ × ℕ) × ℕ)) (xs : List ℕ) (i n : ℕ) → IsDistinct nat_eq xs → i < length xs → AllByRecursion (λ c. IsSome (lookup (is_key s c) old)) xs → AreForgotten s old new (take i xs) → n ≡ get_or xs i 0
    → IsSome (lookup (is_key s n) new)
still_marked s old new xs i n d l m f e =
    let here : IsSome (lookup (is_key s (get_or xs i 0)) old) = all-at (λ c. IsSome (lookup (is_key s c) old)) xs i l m in
    let kept : lookup (is_key s (get_or xs i 0)) new ≡ lookup (is_key s (get_or xs i 0)) old =
    f s (get_or xs i 0) ∙ ap (λ b. cond b None (lookup (is_key s (get_or xs i 0)) old)) (ap (λ b. nat_eq s s && b) (fresh xs i d l) ∙ none (nat_eq s s)) in
    subst (λ c. IsSome (lookup (is_key s c) new)) (sym e) (subst (λ o. IsSome o) (sym kept) here)

pub still_counted : (old new : List ((ℕ × ℕ) × ℕ)) (xs : List ℕ) (i n : ℕ) → IsDistinct nat_eq xs → i < length xs → AreFewer old new (take i xs) → n ≡ get_or xs i 0 → count_of n new ≡ count_of n old
still_counted old new xs i n d l f e =
    let no : has n (take i xs) ≡ false = ap (λ c. has c (take i xs)) e ∙ fresh xs i d l in
    f n ∙ ap (λ b. count_of n old - cond b 1 0) no ∙ omega arith

-- and is forgotten
pub forgotten-more : (s : ℕ) (old mid new : List ((ℕ × ℕ) × ℕ)) (xs : List ℕ) (i n : ℕ) → i < length xs → AreForgotten s old mid (take i xs) → n ≡ get_or xs i 0
    → ((t c : ℕ) → lookup (is_key t c) new ≡ cond (is_key s n (t, c)) None (lookup (is_key t c) mid)) → AreForgotten s old new (take (i + 1) xs)
forgotten-more s old mid new xs i n l f e h = λ t c.
    h t c ∙ ap (λ o. cond (is_key s n (t, c)) None o) (f t c)
    ∙ step t c (nat_eq s t) (nat_eq n c) (nat_eq c (get_or xs i 0)) (has c (take i xs)) (ap (λ m. nat_eq m c) e ∙ grind (arith, nat_tests))
    ∙ sym (ap (λ b. cond (nat_eq s t && b) None (lookup (is_key t c) old)) (list_any_more (nat_eq c) xs i 0 l))
  where
    step : (t c : ℕ) (a b d m : Bool) → b ≡ d → cond (a && b) None (cond (a && m) None (lookup (is_key t c) old)) ≡ cond (a && (m || d)) None (lookup (is_key t c) old)
    step t c true true true true e = refl
    step t c true true true false e = refl
    step t c true true false m e = cc
    step t c true false true m e = cc
    step t c true false false true e = refl
    step t c true false false false e = refl
    step t c false b d m e = refl

pub fewer-more : (old mid new : List ((ℕ × ℕ) × ℕ)) (xs : List ℕ) (i n : ℕ) → IsDistinct nat_eq xs → i < length xs → AreFewer old mid (take i xs) → n ≡ get_or xs i 0
    → ((c : ℕ) → count_of c new ≡ count_of c mid - cond (nat_eq n c) 1 0) → AreFewer old new (take (i + 1) xs)
fewer-more old mid new xs i n d l f e h = λ c.
    h c ∙ ap (λ m. m - cond (nat_eq n c) 1 0) (f c)
    ∙ step c (nat_eq n c) refl (nat_eq c (get_or xs i 0)) (has c (take i xs)) refl (ap (λ m. nat_eq m c) e ∙ grind (arith, nat_tests))
    ∙ sym (ap (λ b. count_of c old - cond b 1 0) (list_any_more (nat_eq c) xs i 0 l))
  where
    step : (c : ℕ) (b : Bool) → nat_eq n c ≡ b → (g m : Bool) → has c (take i xs) ≡ m → b ≡ g → (count_of c old - cond m 1 0) - cond b 1 0 ≡ count_of c old - cond (m || g) 1 0
    step c true t true true u k =
        let same : c ≡ get_or xs i 0 = grind (arith, nat_tests, e) in
        let no : has c (take i xs) ≡ false = ap (λ m. has m (take i xs)) same ∙ fresh xs i d l in
        absurd (let clash : true ≡ false = sym u ∙ no in cc)
    step c true t true false u k = omega arith
    step c true t false m u k = cc
    step c false t true m u k = cc
    step c false t false true u k = omega arith
    step c false t false false u k = omega arith
