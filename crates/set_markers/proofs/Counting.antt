-- In how many sets a container has a marker.
use Rattle.std.proofs.Common.{◌≡◌, ℕ, ◌+◌, ◌≤◌, Bool, true, false, cond, List, [], ◌∷◌, refl, sym, ap, ◌∙◌, arith, Option, Some, None, Result, Ok, Err}
use Rattle.std.specs.Prelude.{nat_eq, is_some, IsOk, OnOk, IfOk, MatchOption}
use Rattle.std.specs.List.Sorted.{IsPermutation}
use Rattle.std.specs.Map.{lookup, remove_entry, set_value}
use Rattle.std.proofs.lemmas.Bool.Decides.{nat_tests}
use Rattle.std.proofs.lemmas.List.Sorted.{sum_by-IsPermutation}
use Rattle.std.proofs.lemmas.List.Sums.{sum_by-cons}
use Rattle.set_markers.specs.SetMarkers.{is_key, count_of}

abbrev one : Bool → ℕ
one b = cond b 1 0

pub count_of-moved : (c : ℕ) (es fs : List ((ℕ × ℕ) × ℕ)) → IsPermutation es fs → count_of c fs ≡ count_of c es
count_of-moved c es fs h = sum_by-IsPermutation (λ e. cond (nat_eq c e.0.1) 1 0) es fs h

count_of-cons : (c : ℕ) (e : (ℕ × ℕ) × ℕ) (es : List ((ℕ × ℕ) × ℕ)) → count_of c (e ∷ es) ≡ cond (nat_eq c e.0.1) 1 0 + count_of c es
count_of-cons c e es = sum_by-cons (λ d. cond (nat_eq c d.0.1) 1 0) e es

count_of-set_value : (c : ℕ) (test : ℕ × ℕ → Bool) (es : List ((ℕ × ℕ) × ℕ)) (w : ℕ) → count_of c (set_value test es w) ≡ count_of c es
count_of-set_value c test [] w = refl
count_of-set_value c test (e ∷ es) w = step (test e.0) (count_of-set_value c test es w)
  where
    step : (b : Bool) → count_of c (set_value test es w) ≡ count_of c es → count_of c (cond b ((e.0, w) ∷ es) (e ∷ set_value test es w)) ≡ count_of c (e ∷ es)
    step true h = refl
    step false h = count_of-cons c e (set_value test es w) ∙ ap (λ n. cond (nat_eq c e.0.1) 1 0 + n) h ∙ sym (count_of-cons c e es)

count_of-remove_entry : (c s i : ℕ) (es : List ((ℕ × ℕ) × ℕ)) → is_some (lookup (is_key s i) es) ≡ true → count_of c (remove_entry (is_key s i) es) + cond (nat_eq i c) 1 0 ≡ count_of c es
count_of-remove_entry c s i [] h = cc
count_of-remove_entry c s i (e ∷ es) h = step (is_key s i e.0) refl h (λ f. count_of-remove_entry c s i es f)
  where
    step : (b : Bool) → is_key s i e.0 ≡ b → is_some (cond b (Some e.1) (lookup (is_key s i) es)) ≡ true → (is_some (lookup (is_key s i) es) ≡ true → count_of c (remove_entry (is_key s i) es) + cond (nat_eq i c) 1 0 ≡ count_of c es)
        → count_of c (cond b es (e ∷ remove_entry (is_key s i) es)) + cond (nat_eq i c) 1 0 ≡ count_of c (e ∷ es)
    step true t f g =
        let same : nat_eq i c ≡ nat_eq c e.0.1 = grind (arith, nat_tests) in
        omega (arith, ap one same, count_of-cons c e es)
    step false t f g = omega (arith, g f, count_of-cons c e es, count_of-cons c e (remove_entry (is_key s i) es))

-- what a call that is Ok ensures
pub at_ok : {X E : Type 0} (P : Type 0) (r : Result X E) → IsOk r → OnOk r P → P
at_ok P (Ok x) ok h = h
at_ok P (Err e) ok h = let clash : false ≡ true = ok in absurd (cc)

-- the count after an insertion
pub count-put : {E : Type 0} (s i v : ℕ) (es fs : List ((ℕ × ℕ) × ℕ)) (r : Result (Option ℕ) E) → IsOk r → IfOk r (λ old. old ≡ lookup (is_key s i) es)
    → IfOk r (λ old. MatchOption old (IsPermutation (((s, i), v) ∷ es) fs) (λ _. fs ≡ set_value (is_key s i) es v))
    → (c : ℕ) → count_of c fs ≡ count_of c es + cond (is_some (lookup (is_key s i) es)) 0 (cond (nat_eq i c) 1 0)
count-put s i v es fs (Err e) ok old puts c = let clash : false ≡ true = ok in cc
count-put s i v es fs (Ok None) ok old puts c =
    let new : nat_eq c i ≡ nat_eq i c = grind (arith, nat_tests) in
    count_of-moved c (((s, i), v) ∷ es) fs puts ∙ count_of-cons c ((s, i), v) es ∙ omega (arith, ap one new) ∙ ap (λ o. count_of c es + cond (is_some o) 0 (one (nat_eq i c))) old
count-put s i v es fs (Ok (Some w)) ok old puts c =
    ap (count_of c) puts ∙ count_of-set_value c (is_key s i) es v ∙ omega arith ∙ ap (λ o. count_of c es + cond (is_some o) 0 (one (nat_eq i c))) old

-- the count after a removal
pub count-taken : (s i : ℕ) (es fs : List ((ℕ × ℕ) × ℕ)) → is_some (lookup (is_key s i) es) ≡ true → IsPermutation (remove_entry (is_key s i) es) fs → (c : ℕ) → count_of c fs + cond (nat_eq i c) 1 0 ≡ count_of c es
count-taken s i es fs h p c = ap (λ n. n + cond (nat_eq i c) 1 0) (count_of-moved c (remove_entry (is_key s i) es) fs p) ∙ count_of-remove_entry c s i es h

pub at_least_one : (s c : ℕ) (es : List ((ℕ × ℕ) × ℕ)) → is_some (lookup (is_key s c) es) ≡ true → 1 ≤ count_of c es
at_least_one s c [] h = cc
at_least_one s c (e ∷ es) h = step (is_key s c e.0) refl h (λ f. at_least_one s c es f)
  where
    step : (b : Bool) → is_key s c e.0 ≡ b → is_some (cond b (Some e.1) (lookup (is_key s c) es)) ≡ true → (is_some (lookup (is_key s c) es) ≡ true → 1 ≤ count_of c es) → 1 ≤ count_of c (e ∷ es)
    step true t f g =
        let same : nat_eq c e.0.1 ≡ true = grind (arith, nat_tests) in
        omega (arith, ap one same, count_of-cons c e es)
    step false t f g = omega (arith, g f, count_of-cons c e es)

pub in_some_set : (c : ℕ) (es : List ((ℕ × ℕ) × ℕ)) → 1 ≤ count_of c es → (s : ℕ) × (is_some (lookup (is_key s c) es) ≡ true)
in_some_set c [] h = absurd (omega arith)
in_some_set c (e ∷ es) h = step (nat_eq c e.0.1) refl (λ f. in_some_set c es f)
  where
    step : (b : Bool) → nat_eq c e.0.1 ≡ b → (1 ≤ count_of c es → (s : ℕ) × (is_some (lookup (is_key s c) es) ≡ true)) → (s : ℕ) × (is_some (lookup (is_key s c) (e ∷ es)) ≡ true)
    step true t g =
        let self : is_key e.0.0 c e.0 ≡ true = grind (arith, nat_tests) in
        (e.0.0, ap (λ b. is_some (cond b (Some e.1) (lookup (is_key e.0.0 c) es))) self)
    step false t g =
        let rest : 1 ≤ count_of c es = omega (arith, ap one t, count_of-cons c e es) in
        let found : (s : ℕ) × (is_some (lookup (is_key s c) es) ≡ true) = g rest in
        (found.0, other found.0 (is_key found.0 c e.0) found.1)
      where
        other : (s : ℕ) (b : Bool) → is_some (lookup (is_key s c) es) ≡ true → is_some (cond b (Some e.1) (lookup (is_key s c) es)) ≡ true
        other s true f = refl
        other s false f = f
