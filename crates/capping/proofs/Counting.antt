-- Counting ids one by one, and putting them in order by their counts.
use Rattle.std.proofs.Common.{◌≡◌, ℕ, ◌+◌, ◌<◌, ◌≤◌, Bool, true, false, cond, ◌||◌, List, [], ◌∷◌, ◌++◌, map, length, take, get_or, append-nil, refl, sym, ap, ◌∙◌, arith, Option, Some, None, unwrap_or}
use Rattle.std.specs.Prelude.{nat_eq, filter_map}
use Rattle.std.specs.List.{IsDistinct}
use Rattle.std.specs.Map.{lookup}
use Rattle.std.proofs.lemmas.Bool.Decides.{nat_tests}
use Rattle.std.proofs.lemmas.List.{take_more}
use Rattle.std.proofs.lemmas.List.Elements.{filter_map-append}
use Rattle.std.proofs.lemmas.List.Folds.{list_any-append}
use Rattle.std.proofs.lemmas.List.Sums.{sum_by-append, sum_by-cons, count_by-le-length}
use Rattle.vault_types.specs.Lists.{has}
use Rattle.vault_types.specs.Capping.{times}
use Rattle.capping.specs.Counts.{HasCounted}

has-more : (q id : ℕ) (ids : List ℕ) → has q (ids ++ id ∷ []) ≡ (has q ids || (nat_eq q id || false))
has-more q id ids = list_any-append (nat_eq q) ids (id ∷ [])

times-more : (q id : ℕ) (ids : List ℕ) → times (ids ++ id ∷ []) q ≡ times ids q + cond (nat_eq q id) 1 0
times-more q id ids =
    let e : times (ids ++ id ∷ []) q ≡ times ids q + times (id ∷ []) q = sum_by-append (λ x. cond (nat_eq q x) 1 0) ids (id ∷ []) in
    let f : times (id ∷ []) q ≡ cond (nat_eq q id) 1 0 + times [] q = sum_by-cons (λ x. cond (nat_eq q x) 1 0) id [] in
    omega arith

times-none : (q : ℕ) (ids : List ℕ) → has q ids ≡ false → times ids q ≡ 0
times-none q [] e = refl
times-none q (x ∷ xs) e = step (nat_eq q x) refl e (λ f. times-none q xs f)
  where
    step : (b : Bool) → nat_eq q x ≡ b → (b || has q xs) ≡ false → (has q xs ≡ false → times xs q ≡ 0) → times (x ∷ xs) q ≡ 0
    step true t f i = cc
    step false t f i =
        let c : times (x ∷ xs) q ≡ cond (nat_eq q x) 1 0 + times xs q = sum_by-cons (λ y. cond (nat_eq q y) 1 0) x xs in
        let z : cond {A = ℕ} (nat_eq q x) 1 0 ≡ 0 = ap (λ (b : Bool). cond {A = ℕ} b 1 0) t in
        let r : times xs q ≡ 0 = i f in
        omega arith

abbrev count_in : List ℕ → ℕ → Option ℕ
count_in ids c = cond (has c ids) (Some (times ids c)) None

pub found-count : (q : ℕ) (ids : List ℕ) → unwrap_or (count_in ids q) 0 ≡ times ids q
found-count q ids = step (has q ids) refl
  where
    step : (b : Bool) → has q ids ≡ b → unwrap_or (cond b (Some (times ids q)) None) 0 ≡ times ids q
    step true e = refl
    step false e = sym (times-none q ids e)

pub times-le : (q : ℕ) (ids : List ℕ) → times ids q ≤ length ids
times-le q ids = count_by-le-length (nat_eq q) ids

pub counted-none : HasCounted [] []
unfolding IsDistinct
counted-none = record { once = tt; each = λ c. refl }

pub counted-more : (old new : List (ℕ × ℕ)) (ids : List ℕ) (id v : ℕ) → HasCounted old ids → IsDistinct nat_eq (map (λ p. p.0) new)
    → ((q : ℕ) → lookup (nat_eq q) new ≡ cond (nat_eq id q) (Some v) (lookup (nat_eq q) old))
    → v ≡ unwrap_or (lookup (nat_eq id) old) 0 + 1 → HasCounted new (ids ++ id ∷ [])
counted-more old new ids id v h once news is = record { once = once; each = each }
  where
    value : v ≡ times ids id + 1
    value =
        let e : unwrap_or (lookup (nat_eq id) old) 0 ≡ times ids id = ap (λ o. unwrap_or o 0) (h.each id) ∙ found-count id ids in
        omega arith

    at : (q : ℕ) (b : Bool) → nat_eq id q ≡ b → cond b (Some v) (lookup (nat_eq q) old) ≡ count_in (ids ++ id ∷ []) q
    at q true t =
        let same : id ≡ q = grind (arith, nat_tests) in
        let t' : nat_eq q id ≡ true = grind (arith, nat_tests) in
        let there : has q (ids ++ id ∷ []) ≡ true = has-more q id ids ∙ ap (λ b. has q ids || (b || false)) t' ∙ last (has q ids) in
        let n : times (ids ++ id ∷ []) q ≡ v = times-more q id ids ∙ ap (λ b. times ids q + cond b 1 0) t' ∙ ap (λ c. times ids c + 1) (sym same) ∙ sym value in
        sym (ap (λ b. cond b (Some (times (ids ++ id ∷ []) q)) None) there ∙ ap Some n)
      where
        last : (b : Bool) → (b || true) ≡ true
        last true = refl
        last false = refl
    at q false t =
        let t' : nat_eq q id ≡ false = grind (arith, nat_tests) in
        let there : has q (ids ++ id ∷ []) ≡ has q ids = has-more q id ids ∙ ap (λ b. has q ids || (b || false)) t' ∙ last (has q ids) in
        let n : times (ids ++ id ∷ []) q ≡ times ids q = times-more q id ids ∙ ap (λ b. times ids q + cond b 1 0) t' ∙ omega arith in
        h.each q ∙ sym (ap (λ b. cond b (Some (times (ids ++ id ∷ []) q)) None) there ∙ ap (λ m. cond (has q ids) (Some m) None) n)
      where
        last : (b : Bool) → (b || false) ≡ b
        last true = refl
        last false = refl

    each : (q : ℕ) → lookup (nat_eq q) new ≡ count_in (ids ++ id ∷ []) q
    each q = news q ∙ at q (nat_eq id q) refl

-- the ids of the places before one more

abbrev pub ids_in : List (Option ℕ) → List ℕ
ids_in places = filter_map (λ o. o) places

pub ids_more-some : (places : List (Option ℕ)) (i id : ℕ) → i < length places → get_or places i None ≡ Some id → ids_in (take (i + 1) places) ≡ ids_in (take i places) ++ id ∷ []
ids_more-some places i id l e =
    ap ids_in (take_more places i None l) ∙ filter_map-append (λ o. o) (take i places) (get_or places i None ∷ []) ∙ ap (λ o. ids_in (take i places) ++ ids_in (o ∷ [])) e

pub ids_more-none : (places : List (Option ℕ)) (i : ℕ) → i < length places → get_or places i None ≡ None → ids_in (take (i + 1) places) ≡ ids_in (take i places)
ids_more-none places i l e =
    ap ids_in (take_more places i None l) ∙ filter_map-append (λ o. o) (take i places) (get_or places i None ∷ []) ∙ ap (λ o. ids_in (take i places) ++ ids_in (o ∷ [])) e ∙ append-nil (ids_in (take i places))

pub few_ids : (places : List (Option ℕ)) → length (ids_in places) ≤ length places
few_ids [] = omega arith
few_ids (None ∷ places) = let h : length (ids_in places) ≤ length places = few_ids places in omega arith
few_ids (Some id ∷ places) = let h : length (ids_in places) ≤ length places = few_ids places in omega arith
