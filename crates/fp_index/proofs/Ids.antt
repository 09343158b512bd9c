-- Ascending lists of ids: the greatest, one more, one less, and where a search leads.
use Rattle.std.proofs.Common.{◌≡◌, ℕ, zero, suc, ◌-◌, ◌<◌, ◌≤◌, Bool, true, false, cond, not, ◌&&◌, ◌||◌, max, List, [], ◌∷◌, length, get_or, refl, sym, ap, ◌∙◌, subst, arith, Option, Some, None, Result, Ok, Err, nat_cmp, Equal}
use Rattle.std.specs.Prelude.{nat_eq, nat_lt, insert, slice_get, is_ok, OnErr}
use Rattle.std.specs.Option.{option_map_or}
use Rattle.std.specs.List.{AllByRecursion, remove}
use Rattle.std.proofs.lemmas.Bool.Decides.{nat_tests}
use Rattle.vault_types.specs.Lists.{has, with_number, greatest, IsAscending}
use Rattle.vault_types.proofs.SetLemmas.{has-with_number, IsAscending-with_number, ascending_unique}
use Rattle.fp_index.specs.Lists.{without}

-- the last of an ascending list is the greatest

pub last-ascending : (ns : List ℕ) → IsAscending ns → slice_get ns (length ns - 1) ≡ greatest ns
last-ascending [] h = refl
last-ascending (n ∷ []) h = refl
last-ascending (n ∷ m ∷ ms) h =
    let place : length (n ∷ m ∷ ms) - 1 ≡ suc (length (m ∷ ms) - 1) = omega arith in
    ap (slice_get (n ∷ m ∷ ms)) place ∙ last-ascending (m ∷ ms) h.1 ∙ ap Some (over (greatest ms))
  where
    over : (o : Option ℕ) → option_map_or (max m) o m ≡ max n (option_map_or (max m) o m)
    over None = let l : n < m = h.0.0 in omega arith
    over (Some k) = let l : n < m = h.0.0 in omega arith

-- one less

has-filter : (k id : ℕ) (ns : List ℕ) → has k (without id ns) ≡ (not (nat_eq k id) && has k ns)
has-filter k id [] = none (not (nat_eq k id))
  where
    none : (b : Bool) → false ≡ (b && false)
    none true = refl
    none false = refl
has-filter k id (n ∷ ns) = step (nat_eq n id) refl (has-filter k id ns)
  where
    here : (c d : Bool) (b : Bool) → (c ≡ true → d ≡ false) → (d && b) ≡ (d && (c || b))
    here true true b i = let f : true ≡ false = i refl in cc
    here true false b i = refl
    here false d b i = refl

    more : (c d b : Bool) → (c ≡ true → d ≡ true) → (c || (d && b)) ≡ (d && (c || b))
    more true true b i = refl
    more true false b i = let f : false ≡ true = i refl in cc
    more false d b i = refl

    step : (b : Bool) → nat_eq n id ≡ b → has k (without id ns) ≡ (not (nat_eq k id) && has k ns) → has k (cond (not b) (n ∷ without id ns) (without id ns)) ≡ (not (nat_eq k id) && has k (n ∷ ns))
    step true e h = h ∙ here (nat_eq k n) (not (nat_eq k id)) (has k ns) (λ t. let same : nat_eq k id ≡ true = grind (arith, nat_tests) in ap not same)
    step false e h = ap (λ b. nat_eq k n || b) h ∙ more (nat_eq k n) (not (nat_eq k id)) (has k ns) (λ t. let other : nat_eq k id ≡ false = grind (arith, nat_tests) in ap not other)

pub has-without : (k id : ℕ) (ns : List ℕ) → has k (without id ns) ≡ (not (nat_eq k id) && has k ns)
has-without k id ns = has-filter k id ns

above-without : (low id : ℕ) (ns : List ℕ) → AllByRecursion (λ m. low < m) ns → AllByRecursion (λ m. low < m) (without id ns)
above-without low id [] h = tt
above-without low id (n ∷ ns) h = step (nat_eq n id) (above-without low id ns h.1)
  where
    step : (b : Bool) → AllByRecursion (λ m. low < m) (without id ns) → AllByRecursion (λ m. low < m) (cond (not b) (n ∷ without id ns) (without id ns))
    step true i = i
    step false i = (h.0, i)

pub IsAscending-without : (id : ℕ) (ns : List ℕ) → IsAscending ns → IsAscending (without id ns)
IsAscending-without id [] h = tt
IsAscending-without id (n ∷ ns) h = step (nat_eq n id) (IsAscending-without id ns h.1)
  where
    step : (b : Bool) → IsAscending (without id ns) → IsAscending (cond (not b) (n ∷ without id ns) (without id ns))
    step true i = i
    step false i = (above-without n id ns h.0, i)

-- by places

place-above : (low : ℕ) (ns : List ℕ) (i : ℕ) → AllByRecursion (λ m. low < m) ns → i < length ns → low < get_or ns i 0
place-above low [] i h l = absurd (omega arith)
place-above low (n ∷ ns) zero h l = h.0
place-above low (n ∷ ns) (suc i) h l = place-above low ns i h.1 (omega arith)

pub rises : (ns : List ℕ) → IsAscending ns → (i j : ℕ) → i ≤ j → j < length ns → get_or ns i 0 ≤ get_or ns j 0
rises [] h i j p l = absurd (omega arith)
rises (n ∷ ns) h zero zero p l = omega arith
rises (n ∷ ns) h zero (suc j) p l = let above : n < get_or ns j 0 = place-above n ns j h.0 (omega arith) in omega arith
rises (n ∷ ns) h (suc i) zero p l = absurd (omega arith)
rises (n ∷ ns) h (suc i) (suc j) p l = rises ns h.1 i j (omega arith) (omega arith)

pub has-place : (n : ℕ) (ns : List ℕ) (i : ℕ) → i < length ns → get_or ns i 0 ≡ n → has n ns ≡ true
has-place n [] i l e = absurd (omega arith)
has-place n (m ∷ ms) zero l e = let t : nat_eq n m ≡ true = grind (arith, nat_tests) in ap (λ b. b || has n ms) t
has-place n (m ∷ ms) (suc i) l e = ap (λ b. nat_eq n m || b) (has-place n ms i (omega arith) e) ∙ last (nat_eq n m)
  where
    last : (b : Bool) → (b || true) ≡ true
    last true = refl
    last false = refl

-- where a number that is not there belongs
pub record IsGap (n : ℕ) (ns : List ℕ) (i : ℕ) : Type 0 where
  pub within : i ≤ length ns
  pub below : (k : ℕ) → k < i → get_or ns k 0 < n
  pub above : (k : ℕ) → i ≤ k → k < length ns → n < get_or ns k 0

gap-tail : (n m : ℕ) (ms : List ℕ) (i : ℕ) → IsGap n (m ∷ ms) (suc i) → IsGap n ms i
gap-tail n m ms i g = record { within = (let w : suc i ≤ length (m ∷ ms) = g.within in omega arith); below = λ k l. g.below (suc k) (omega arith); above = λ k p l. g.above (suc k) (omega arith) (omega arith) }

gap-none : (n : ℕ) (ns : List ℕ) (i : ℕ) → IsGap n ns i → has n ns ≡ false
gap-none n [] i g = refl
gap-none n (m ∷ ms) zero g =
    let up : n < m = g.above 0 (omega arith) (omega arith) in
    let t : nat_eq n m ≡ false = grind (arith, nat_tests) in
    ap (λ b. b || has n ms) t
    ∙ gap-none n ms zero (record { within = omega arith; below = λ k l. absurd (omega arith); above = λ k p l. g.above (suc k) (omega arith) (omega arith) })
gap-none n (m ∷ ms) (suc i) g =
    let down : m < n = g.below 0 (omega arith) in
    let t : nat_eq n m ≡ false = grind (arith, nat_tests) in
    ap (λ b. b || has n ms) t ∙ gap-none n ms i (gap-tail n m ms i g)

pub no_gap : (n : ℕ) (ns : List ℕ) (i : ℕ) → IsGap n ns i → has n ns ≡ true → ⊥
no_gap n ns i g h = let no : has n ns ≡ false = gap-none n ns i g in let clash : true ≡ false = sym h ∙ no in cc

pub insert-gap : (n : ℕ) (ns : List ℕ) (i : ℕ) → IsGap n ns i → insert ns i n ≡ with_number n ns
insert-gap n [] zero g = refl
insert-gap n [] (suc i) g = let w : suc i ≤ length {A = ℕ} [] = g.within in absurd (omega arith)
insert-gap n (m ∷ ms) zero g =
    let up : n < m = g.above 0 (omega arith) (omega arith) in
    let t : nat_lt n m ≡ true = grind (arith, nat_tests) in
    sym (ap (λ b. cond b (n ∷ m ∷ ms) (cond (nat_eq n m) (m ∷ ms) (m ∷ with_number n ms))) t)
insert-gap n (m ∷ ms) (suc i) g =
    let down : m < n = g.below 0 (omega arith) in
    let t : nat_lt n m ≡ false = grind (arith, nat_tests) in
    let u : nat_eq n m ≡ false = grind (arith, nat_tests) in
    ap (λ ks. m ∷ ks) (insert-gap n ms i (gap-tail n m ms i g))
    ∙ sym (ap (λ b. cond b (n ∷ m ∷ ms) (cond (nat_eq n m) (m ∷ ms) (m ∷ with_number n ms))) t ∙ ap (λ b. cond b (m ∷ ms) (m ∷ with_number n ms)) u)

-- a number that is there changes nothing when it is put in, and one that is not when it is taken out

pub with_number-there : (n : ℕ) (ns : List ℕ) → IsAscending ns → has n ns ≡ true → with_number n ns ≡ ns
with_number-there n ns h e = ascending_unique (with_number n ns) ns (IsAscending-with_number n ns h) h (λ k. has-with_number k n ns ∙ step k (nat_eq k n) refl)
  where
    step : (k : ℕ) (b : Bool) → nat_eq k n ≡ b → (b || has k ns) ≡ has k ns
    step k true t = let same : k ≡ n = grind (arith, nat_tests) in sym (ap (λ m. has m ns) same ∙ e)
    step k false t = refl

pub without-none : (n : ℕ) (ns : List ℕ) → IsAscending ns → has n ns ≡ false → without n ns ≡ ns
without-none n ns h e = ascending_unique (without n ns) ns (IsAscending-without n ns h) h (λ k. has-without k n ns ∙ step k (nat_eq k n) refl)
  where
    step : (k : ℕ) (b : Bool) → nat_eq k n ≡ b → (not b && has k ns) ≡ has k ns
    step k true t = let same : k ≡ n = grind (arith, nat_tests) in sym (ap (λ m. has m ns) same ∙ e)
    step k false t = refl

pub without-gap : (n : ℕ) (ns : List ℕ) (i : ℕ) → IsAscending ns → IsGap n ns i → ns ≡ without n ns
without-gap n ns i h g = sym (without-none n ns h (gap-none n ns i g))

above-none : (n : ℕ) (ns : List ℕ) → AllByRecursion (λ m. n < m) ns → has n ns ≡ false
above-none n [] h = refl
above-none n (m ∷ ms) h = let e : nat_eq n m ≡ false = grind (arith, nat_tests, h.0) in ap (λ b. b || has n ms) e ∙ above-none n ms h.1

pub remove-place : (n : ℕ) (ns : List ℕ) (i : ℕ) → IsAscending ns → i < length ns → get_or ns i 0 ≡ n → remove ns i ≡ without n ns
remove-place n [] i h l e = absurd (omega arith)
remove-place n (m ∷ ms) zero h l e =
    let t : nat_eq m n ≡ true = grind (arith, nat_tests) in
    let up : AllByRecursion (λ k. n < k) ms = subst (λ j. AllByRecursion (λ k. j < k) ms) e h.0 in
    sym (ap (λ b. cond (not b) (m ∷ without n ms) (without n ms)) t ∙ without-none n ms h.1 (above-none n ms up))
remove-place n (m ∷ ms) (suc i) h l e =
    let up : m < get_or ms i 0 = place-above m ms i h.0 (omega arith) in
    let t : nat_eq m n ≡ false = grind (arith, nat_tests) in
    ap (λ ks. m ∷ ks) (remove-place n ms i h.1 (omega arith) e)
    ∙ sym (ap (λ b. cond (not b) (m ∷ without n ms) (without n ms)) t)

-- a call that fails only without room does not fail
pub ok_with_room : {X Y : Type 0} (r : Result X Y) (P : Type 0) → OnErr r P → (P → ⊥) → is_ok r ≡ true
ok_with_room (Ok x) P h never = refl
ok_with_room (Err e) P h never = absurd (never h)

-- where a search hit
pub equal_at : (xs ys : List ℕ) (i n : ℕ) → xs ≡ ys → nat_cmp (get_or xs i 0) n ≡ Equal → get_or ys i 0 ≡ n
equal_at xs ys i n e h = sym (ap (λ zs. get_or zs i 0) e) ∙ same (get_or xs i 0) h
  where
    same : (m : ℕ) → nat_cmp m n ≡ Equal → m ≡ n
    same m h = grind (arith, nat_tests)
