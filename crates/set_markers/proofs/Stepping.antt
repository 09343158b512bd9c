-- Markers after commits and takings: which ids stand where.
use Rattle.std.proofs.Common.{◌≡◌, ℕ, ◌<◌, ◌≤◌, Bool, true, false, cond, not, ◌&&◌, ◌||◌, List, [], ◌∷◌, map, refl, sym, ap, subst, ◌∙◌, arith}
use Rattle.std.specs.Prelude.{nat_eq, nat_lt, nat_le, ◌==◌}
use Rattle.std.specs.List.{AllByRecursion, list_any}
use Rattle.std.proofs.lemmas.Bool.Decides.{nat_tests}
use Rattle.std.proofs.lemmas.List.Folds.{list_any-append}
use Rattle.vault_types.specs.Lists.{has}
use Rattle.vault_types.specs.Marks.{Mark, marks_of, marked_ids, marks_above, freed_ids}
use Rattle.marker_gc.proofs.Lists.{has-filter}
use Rattle.marker_gc.proofs.Marking.{all-append, has-marked_ids}
use Rattle.set_markers.specs.Steps.{MarkerStep, marks_after, floor_after, stands_above, stands_since, FloorsRise}
use Rattle.set_markers.specs.Steps.MarkerStep.{Committed, Taken}

-- whether a mark at or above the floor of its set names the id
abbrev names_above : (ℕ → ℕ) → ℕ → Mark → Bool
names_above floors c m = nat_le (floors m.set) m.version && nat_eq c m.id

or_swap : (a b : Bool) → (a || b) ≡ (b || a)
or_swap true true = refl
or_swap true false = refl
or_swap false true = refl
or_swap false false = refl

in_list : (floors : ℕ → ℕ) (c s v : ℕ) (ids : List ℕ) → list_any (names_above floors c) (marks_of s v ids) ≡ (nat_le (floors s) v && has c ids)
in_list floors c s v [] = step (nat_le (floors s) v)
  where
    step : (b : Bool) → false ≡ (b && false)
    step true = refl
    step false = refl
in_list floors c s v (n ∷ ids) = ap (λ b. (nat_le (floors s) v && nat_eq c n) || b) (in_list floors c s v ids) ∙ step (nat_le (floors s) v)
  where
    step : (b : Bool) → ((b && nat_eq c n) || (b && has c ids)) ≡ (b && (nat_eq c n || has c ids))
    step true = refl
    step false = refl

-- a new floor takes no mark at or above the floors, where those are no lower
not_taken : (floors : ℕ → ℕ) (c t f : ℕ) (marks : List Mark) → f ≤ floors t → list_any (names_above floors c) (marks_above t f marks) ≡ list_any (names_above floors c) marks
not_taken floors c t f [] h = refl
not_taken floors c t f (m ∷ marks) h = step (m.set == t) refl (nat_lt m.version f) refl (not_taken floors c t f marks h)
  where
    lower : m.set ≡ t → m.version < f → names_above floors c m ≡ false
    lower e l =
        let AtFloor : ℕ → Type 0 = λ n. f ≤ floors n in
        let high : f ≤ floors m.set = subst AtFloor (sym e) h in
        let no : nat_le (floors m.set) m.version ≡ false = grind (arith, nat_tests) in
        ap (λ b. b && nat_eq c m.id) no

    step : (a : Bool) → (m.set == t) ≡ a → (b : Bool) → nat_lt m.version f ≡ b → list_any (names_above floors c) (marks_above t f marks) ≡ list_any (names_above floors c) marks
        → list_any (names_above floors c) (cond (not (a && b)) (m ∷ marks_above t f marks) (marks_above t f marks)) ≡ (names_above floors c m || list_any (names_above floors c) marks)
    step true e true l i =
        let same : m.set ≡ t = grind (arith, nat_tests) in
        let low : m.version < f = grind (arith, nat_tests) in
        i ∙ sym (ap (λ b. b || list_any (names_above floors c) marks) (lower same low))
    step true e false l i = ap (λ b. names_above floors c m || b) i
    step false e b l i = ap (λ d. names_above floors c m || d) i

-- a floor rises
rises : (t f : ℕ) (steps : List MarkerStep) → floor_after steps t ≤ f → (s : ℕ) → floor_after steps s ≤ floor_after (Taken t f ∷ steps) s
rises t f steps h s = step (nat_eq t s) refl
  where
    step : (b : Bool) → nat_eq t s ≡ b → floor_after steps s ≤ cond b f (floor_after steps s)
    step true e =
        let same : t ≡ s = grind (arith, nat_tests) in
        let Under : ℕ → Type 0 = λ n. floor_after steps n ≤ f in subst Under same h
    step false e = omega arith

-- the marks that the steps leave name at or above floors what the commits name there, where those are no lower
above-marks : (floors : ℕ → ℕ) (c : ℕ) (steps : List MarkerStep) → FloorsRise steps → ((s : ℕ) → floor_after steps s ≤ floors s) → list_any (names_above floors c) (marks_after steps) ≡ stands_above floors steps c
above-marks floors c [] h g = refl
above-marks floors c (Committed s v ids ∷ steps) h g =
    list_any-append (names_above floors c) (marks_after steps) (marks_of s v ids)
    ∙ ap (λ b. b || list_any (names_above floors c) (marks_of s v ids)) (above-marks floors c steps h.1 g)
    ∙ ap (λ b. stands_above floors steps c || b) (in_list floors c s v ids)
    ∙ or_swap (stands_above floors steps c) (nat_le (floors s) v && has c ids)
above-marks floors c (Taken t f ∷ steps) h g =
    not_taken floors c t f (marks_after steps) last
    ∙ above-marks floors c steps h.1 (λ s. le_trans (rises t f steps h.0 s) (g s))
  where
    last : f ≤ floors t
    last =
        let self : nat_eq t t ≡ true = grind (arith, nat_tests) in
        subst (λ b. cond b f (floor_after steps t) ≤ floors t) self (g t)

    le_trans : {k m n : ℕ} → k ≤ m → m ≤ n → k ≤ n
    le_trans p q = omega arith

-- and each is at or above the last floor of its set
abbrev IsKept : (ℕ → ℕ) → Mark → Type 0
IsKept floors m = floors m.set ≤ m.version

all_kept : (steps : List MarkerStep) → FloorsRise steps → AllByRecursion (IsKept (floor_after steps)) (marks_after steps)
all_kept [] h = tt
all_kept (Committed s v ids ∷ steps) h = all-append (IsKept (floor_after steps)) (marks_after steps) (marks_of s v ids) (all_kept steps h.1) (new ids)
  where
    new : (ns : List ℕ) → AllByRecursion (IsKept (floor_after steps)) (marks_of s v ns)
    new [] = tt
    new (n ∷ ns) = (h.0, new ns)
all_kept (Taken t f ∷ steps) h = left (marks_after steps) (all_kept steps h.1)
  where
    left : (ms : List Mark) → AllByRecursion (IsKept (floor_after steps)) ms → AllByRecursion (IsKept (floor_after (Taken t f ∷ steps))) (marks_above t f ms)
    left [] i = tt
    left (m ∷ ms) i = step (m.set == t) (nat_eq t m.set) refl (grind (arith, nat_tests)) (nat_lt m.version f) refl (left ms i.1)
      where
        step : (a d : Bool) → nat_eq t m.set ≡ d → a ≡ d → (b : Bool) → nat_lt m.version f ≡ b → AllByRecursion (IsKept (floor_after (Taken t f ∷ steps))) (marks_above t f ms)
            → AllByRecursion (IsKept (floor_after (Taken t f ∷ steps))) (cond (not (a && b)) (m ∷ marks_above t f ms) (marks_above t f ms))
        step true d k e true l j = j
        step true true k e false l j = let at : f ≤ m.version = grind (arith, nat_tests) in (subst (λ d. cond d f (floor_after steps m.set) ≤ m.version) (sym k) at, j)
        step true false k e false l j = absurd (cc)
        step false true k e b l j = absurd (cc)
        step false false k e b l j = (subst (λ d. cond d f (floor_after steps m.set) ≤ m.version) (sym k) i.0, j)

kept-named : (floors : ℕ → ℕ) (c : ℕ) (marks : List Mark) → AllByRecursion (IsKept floors) marks → list_any (names_above floors c) marks ≡ has c (map (λ m. m.id) marks)
kept-named floors c [] h = refl
kept-named floors c (m ∷ marks) h =
    let at : nat_le (floors m.set) m.version ≡ true = grind (arith, nat_tests, h.0) in
    ap (λ b. (b && nat_eq c m.id) || list_any (names_above floors c) marks) at ∙ ap (λ b. nat_eq c m.id || b) (kept-named floors c marks h.1)

named-above : (c : ℕ) (steps : List MarkerStep) → FloorsRise steps → has c (marked_ids (marks_after steps)) ≡ stands_above (floor_after steps) steps c
named-above c steps h =
    has-marked_ids c (marks_after steps) ∙ sym (kept-named (floor_after steps) c (marks_after steps) (all_kept steps h)) ∙ above-marks (floor_after steps) c steps h (λ s. omega arith)

-- where floors rise, less stands at or above them
less-above : (low high : ℕ → ℕ) (c : ℕ) (steps : List MarkerStep) → ((s : ℕ) → low s ≤ high s) → stands_above high steps c ≡ true → stands_above low steps c ≡ true
less-above low high c [] g e = e
less-above low high c (Committed s v ids ∷ steps) g e = step (nat_le (high s) v) refl (nat_le (low s) v) refl (has c ids) e (λ f. less-above low high c steps g f)
  where
    always : (b : Bool) → (b || true) ≡ true
    always true = refl
    always false = refl

    step : (a : Bool) → nat_le (high s) v ≡ a → (b : Bool) → nat_le (low s) v ≡ b → (d : Bool) → ((a && d) || stands_above high steps c) ≡ true → (stands_above high steps c ≡ true → stands_above low steps c ≡ true)
        → ((b && d) || stands_above low steps c) ≡ true
    step true t true u true f h = refl
    step true t false u true f h = let up : low s ≤ high s = g s in let clash : true ≡ false = grind (arith, nat_tests) in cc
    step true t b u false f h = ap (λ x. (b && false) || x) (h f) ∙ always (b && false)
    step false t b u d f h = ap (λ x. (b && d) || x) (h f) ∙ always (b && d)
less-above low high c (Taken t f ∷ steps) g e = less-above low high c steps g e

since-above : (c : ℕ) (steps : List MarkerStep) → FloorsRise steps → stands_since steps c ≡ stands_above (floor_after steps) steps c
since-above c [] h = refl
since-above c (Committed s v ids ∷ steps) h =
    let at : nat_le (floor_after steps s) v ≡ true = grind (arith, nat_tests, h.0) in
    ap (λ b. has c ids || b) (since-above c steps h.1) ∙ sym (ap (λ b. (b && has c ids) || stands_above (floor_after steps) steps c) at)
since-above c (Taken t f ∷ steps) h =
    step (stands_since steps c) (stands_above (floor_after (Taken t f ∷ steps)) steps c)
    (λ e. since-above c steps h.1 ∙ less-above (floor_after steps) (floor_after (Taken t f ∷ steps)) c steps (rises t f steps h.0) e)
  where
    step : (a b : Bool) → (b ≡ true → a ≡ true) → (a && not (a && not b)) ≡ b
    step true true i = refl
    step true false i = refl
    step false true i = let clash : false ≡ true = i refl in cc
    step false false i = refl

pub named-since : (c : ℕ) (steps : List MarkerStep) → FloorsRise steps → has c (marked_ids (marks_after steps)) ≡ stands_since steps c
named-since c steps h = named-above c steps h ∙ sym (since-above c steps h)

pub taken-since : (s floor c : ℕ) (steps : List MarkerStep) → FloorsRise (Taken s floor ∷ steps)
    → has c (freed_ids s floor (marks_after steps)) ≡ (stands_since steps c && not (stands_above (floor_after (Taken s floor ∷ steps)) steps c))
taken-since s floor c steps h =
    has-filter c (λ k. not (has k (marked_ids (marks_above s floor (marks_after steps))))) (marked_ids (marks_after steps))
    ∙ ap (λ b. b && not (has c (marked_ids (marks_above s floor (marks_after steps))))) (named-since c steps h.1)
    ∙ ap (λ b. stands_since steps c && not b) (named-above c (Taken s floor ∷ steps) h)
