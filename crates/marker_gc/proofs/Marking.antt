-- Markers: what one more version and a new floor make of them, and which ids are named.
use Rattle.std.proofs.Common.{◌≡◌, ℕ, Bool, true, false, cond, not, ◌&&◌, ◌||◌, max, List, [], ◌∷◌, ◌++◌, map, length, refl, sym, ap, ◌∙◌, arith, Option, Some, None}
use Rattle.std.specs.Prelude.{nat_eq, nat_lt, ◌==◌, filter, is_some}
use Rattle.std.specs.Option.{option_map_or}
use Rattle.std.specs.List.{AllByRecursion, IsDistinct}
use Rattle.std.specs.Map.{lookup}
use Rattle.std.specs.Cmp.{nat_eq_equiv}
use Rattle.std.proofs.lemmas.Bool.Decides.{nat_tests}
use Rattle.std.proofs.lemmas.Map.Entries.{option_filter, lookup-filter-values}
use Rattle.std.proofs.lemmas.Map.Made.{is_some-lookup, IsDistinct-keys_filter}
use Rattle.vault_types.specs.Lists.{has, greatest}
use Rattle.vault_types.specs.Marks.{Mark, marks_of, marked_ids, marks_above}
use Rattle.vault_types.proofs.SetLemmas.{has-set_of, IsAscending-set_of}
use Rattle.marker_gc.specs.Markers.{is_of, marker_of, AreMarkers}
use Rattle.marker_gc.proofs.Lists.{same_length}

-- the marker with one version more
abbrev pub raised : ℕ → Option ℕ → Option ℕ
raised v o = Some (option_map_or (max v) o v)

abbrev nothing : Option ℕ
nothing = None

-- the marker with one mark more in front
pub marker_of-cons : (m : Mark) (marks : List Mark) (s c : ℕ) → marker_of (m ∷ marks) s c ≡ cond (is_of s c m) (raised m.version (marker_of marks s c)) (marker_of marks s c)
marker_of-cons m marks s c = step (is_of s c m)
  where
    step : (b : Bool) → greatest (map (λ n. n.version) (cond b (m ∷ filter (is_of s c) marks) (filter (is_of s c) marks))) ≡ cond b (raised m.version (marker_of marks s c)) (marker_of marks s c)
    step true = refl
    step false = refl

marker_of-marks_of : (t v : ℕ) (ids : List ℕ) (s c : ℕ) → marker_of (marks_of t v ids) s c ≡ cond ((t == s) && has c ids) (Some v) None
marker_of-marks_of t v [] s c = step (t == s)
  where
    step : (b : Bool) → nothing ≡ cond (b && false) (Some v) None
    step true = refl
    step false = refl
marker_of-marks_of t v (n ∷ ids) s c =
    marker_of-cons (record { id = n; set = t; version = v }) (marks_of t v ids) s c
    ∙ ap (λ o. cond ((t == s) && (n == c)) (raised v o) o) (marker_of-marks_of t v ids s c)
    ∙ step (t == s) (n == c) (nat_eq c n) (has c ids) (grind (arith, nat_tests))
  where
    step : (a b d e : Bool) → b ≡ d → cond (a && b) (raised v (cond (a && e) (Some v) None)) (cond (a && e) (Some v) None) ≡ cond (a && (d || e)) (Some v) None
    step true true true true h = ap Some (omega arith)
    step true true true false h = refl
    step true true false e h = cc
    step true false true e h = cc
    step true false false e h = refl
    step false b d e h = refl

-- the markers with one version of the set t more
pub marker_of-more : (marks : List Mark) (t v : ℕ) (ids : List ℕ) (s c : ℕ) → marker_of (marks ++ marks_of t v ids) s c ≡ cond ((t == s) && has c ids) (raised v (marker_of marks s c)) (marker_of marks s c)
marker_of-more [] t v ids s c = marker_of-marks_of t v ids s c
marker_of-more (m ∷ marks) t v ids s c =
    marker_of-cons m (marks ++ marks_of t v ids) s c
    ∙ ap (λ o. cond (is_of s c m) (raised m.version o) o) (marker_of-more marks t v ids s c)
    ∙ step (is_of s c m) ((t == s) && has c ids) (marker_of marks s c)
    ∙ sym (ap (λ o. cond ((t == s) && has c ids) (raised v o) o) (marker_of-cons m marks s c))
  where
    step : (a b : Bool) (o : Option ℕ) → cond a (raised m.version (cond b (raised v o) o)) (cond b (raised v o) o) ≡ cond b (raised v (cond a (raised m.version o) o)) (cond a (raised m.version o) o)
    step true true None = ap Some (omega arith)
    step true true (Some k) = ap Some (omega arith)
    step true false o = refl
    step false true o = refl
    step false false o = refl

-- a version is at or above the floor
abbrev pub stays : ℕ → ℕ → Bool
stays floor v = not (nat_lt v floor)

-- the markers with a new floor of the set t
pub marker_of-above : (t floor : ℕ) (marks : List Mark) (s c : ℕ) → marker_of (marks_above t floor marks) s c ≡ cond (t == s) (option_filter (stays floor) (marker_of marks s c)) (marker_of marks s c)
marker_of-above t floor [] s c = step (t == s)
  where
    step : (b : Bool) → nothing ≡ cond b nothing nothing
    step true = refl
    step false = refl
marker_of-above t floor (m ∷ marks) s c =
    first ((m.set == t) && nat_lt m.version floor)
    ∙ ap (λ o. cond (not ((m.set == t) && nat_lt m.version floor)) (cond (is_of s c m) (raised m.version o) o) o) (marker_of-above t floor marks s c)
    ∙ step (m.set == t) (m.set == s) (t == s) (m.id == c) (nat_lt m.version floor) refl (grind (arith, nat_tests)) (grind (arith, nat_tests)) (marker_of marks s c)
    ∙ sym (ap (λ o. cond (t == s) (option_filter (stays floor) o) o) (marker_of-cons m marks s c))
  where
    first : (b : Bool) → marker_of (cond (not b) (m ∷ marks_above t floor marks) (marks_above t floor marks)) s c
        ≡ cond (not b) (cond (is_of s c m) (raised m.version (marker_of (marks_above t floor marks) s c)) (marker_of (marks_above t floor marks) s c)) (marker_of (marks_above t floor marks) s c)
    first true = refl
    first false = marker_of-cons m (marks_above t floor marks) s c

    high : (o : Option ℕ) → nat_lt m.version floor ≡ false → raised m.version (option_filter (stays floor) o) ≡ option_filter (stays floor) (raised m.version o)
    high None e = sym (ap (λ b. cond (not b) (Some m.version) None) e)
    high (Some k) e = both (nat_lt k floor) refl
      where
        both : (b : Bool) → nat_lt k floor ≡ b → raised m.version (cond (not b) (Some k) None) ≡ option_filter (stays floor) (raised m.version (Some k))
        both true f =
            let most : max m.version k ≡ m.version = grind (arith, nat_tests) in
            sym (ap (λ n. option_filter (stays floor) (Some n)) most ∙ ap (λ b. cond (not b) (Some m.version) None) e)
        both false f =
            let up : nat_lt (max m.version k) floor ≡ false = grind (arith, nat_tests) in
            sym (ap (λ b. cond (not b) (Some (max m.version k)) None) up)

    low : (o : Option ℕ) → nat_lt m.version floor ≡ true → option_filter (stays floor) o ≡ option_filter (stays floor) (raised m.version o)
    low None e = sym (ap (λ b. cond (not b) (Some m.version) None) e)
    low (Some k) e = both (nat_lt k floor) refl
      where
        both : (b : Bool) → nat_lt k floor ≡ b → cond (not b) (Some k) None ≡ option_filter (stays floor) (raised m.version (Some k))
        both true f =
            let down : nat_lt (max m.version k) floor ≡ true = grind (arith, nat_tests) in
            sym (ap (λ b. cond (not b) (Some (max m.version k)) None) down)
        both false f =
            let most : max m.version k ≡ k = grind (arith, nat_tests) in
            sym (ap (λ n. option_filter (stays floor) (Some n)) most ∙ ap (λ b. cond (not b) (Some k) None) f)

    step : (a b t ac below : Bool) → nat_lt m.version floor ≡ below → (a ≡ true → b ≡ t) → (t ≡ true → a ≡ b) → (o : Option ℕ)
        → cond (not (a && below)) (cond (b && ac) (raised m.version (cond t (option_filter (stays floor) o) o)) (cond t (option_filter (stays floor) o) o)) (cond t (option_filter (stays floor) o) o)
        ≡ cond t (option_filter (stays floor) (cond (b && ac) (raised m.version o) o)) (cond (b && ac) (raised m.version o) o)
    step true true true true true e h i o = low o e
    step true true true true false e h i o = high o e
    step true true true false true e h i o = refl
    step true true true false false e h i o = refl
    step true true false ac below e h i o = let f : true ≡ false = h refl in cc
    step true false true ac below e h i o = let f : false ≡ true = h refl in cc
    step true false false ac true e h i o = refl
    step true false false ac false e h i o = refl
    step false true true ac below e h i o = let f : false ≡ true = i refl in cc
    step false true false ac below e h i o = refl
    step false false true ac below e h i o = refl
    step false false false ac below e h i o = refl

-- which ids are named

pub all-append : (Q : Mark → Type 0) (ms ns : List Mark) → AllByRecursion Q ms → AllByRecursion Q ns → AllByRecursion Q (ms ++ ns)
all-append Q [] ns h i = i
all-append Q (m ∷ ms) ns h i = (h.0, all-append Q ms ns h.1 i)

pub all-marks_of : (s v : ℕ) (ids : List ℕ) → AllByRecursion (λ m. m.set ≡ s) (marks_of s v ids)
all-marks_of s v [] = tt
all-marks_of s v (n ∷ ids) = (refl, all-marks_of s v ids)

pub all-filter : (Q : Mark → Type 0) (p : Mark → Bool) (ms : List Mark) → AllByRecursion Q ms → AllByRecursion Q (filter p ms)
all-filter Q p [] h = tt
all-filter Q p (m ∷ ms) h = step (p m) (all-filter Q p ms h.1)
  where
    step : (b : Bool) → AllByRecursion Q (filter p ms) → AllByRecursion Q (cond b (m ∷ filter p ms) (filter p ms))
    step true i = (h.0, i)
    step false i = i

pub has-marked_ids : (c : ℕ) (marks : List Mark) → has c (marked_ids marks) ≡ has c (map (λ m. m.id) marks)
has-marked_ids c marks = has-set_of c (map (λ m. m.id) marks)

-- in one set an id is named where it has a marker
pub named-marker : (s c : ℕ) (marks : List Mark) → AllByRecursion (λ m. m.set ≡ s) marks → has c (map (λ m. m.id) marks) ≡ is_some (marker_of marks s c)
named-marker s c [] h = refl
named-marker s c (m ∷ marks) h =
    ap (λ b. nat_eq c m.id || b) (named-marker s c marks h.1)
    ∙ step (m.set == s) (m.id == c) (nat_eq c m.id) (grind (arith, nat_tests, h.0)) (grind (arith, nat_tests)) (marker_of marks s c)
    ∙ sym (ap is_some (marker_of-cons m marks s c))
  where
    step : (a b d : Bool) → a ≡ true → b ≡ d → (o : Option ℕ) → (d || is_some o) ≡ is_some (cond (a && b) (raised m.version o) o)
    step true true true h i o = refl
    step true true false h i o = cc
    step true false true h i o = cc
    step true false false h i o = refl
    step false b d h i o = cc

pub named-each : (markers : List (ℕ × ℕ)) (s : ℕ) (marks : List Mark) → AreMarkers markers s marks → (c : ℕ) → has c (marked_ids marks) ≡ is_some (lookup (nat_eq c) markers)
named-each markers s marks h c = has-marked_ids c marks ∙ named-marker s c marks h.of_set ∙ sym (ap is_some (h.each c))

pub count-ids : (markers : List (ℕ × ℕ)) (s : ℕ) (marks : List Mark) → AreMarkers markers s marks → length markers ≡ length (marked_ids marks)
count-ids markers s marks h =
    sym (length-keys markers)
    ∙ same_length (map (λ e. e.0) markers) (marked_ids marks) h.once (IsAscending-set_of (map (λ m. m.id) marks))
    (λ k. sym (is_some-lookup (nat_eq k) markers) ∙ sym (named-each markers s marks h k))
  where
    length-keys : (es : List (ℕ × ℕ)) → length (map (λ e. e.0) es) ≡ length es
    length-keys [] = refl
    length-keys (e ∷ es) = omega (arith, length-keys es)

-- what a commit leaves
pub markers-more : (old new : List (ℕ × ℕ)) (s v : ℕ) (ids : List ℕ) (marks : List Mark) → AreMarkers old s marks → IsDistinct nat_eq (map (λ e. e.0) new)
    → ((c : ℕ) → lookup (nat_eq c) new ≡ cond (has c ids) (raised v (lookup (nat_eq c) old)) (lookup (nat_eq c) old))
    → AreMarkers new s (marks ++ marks_of s v ids)
markers-more old new s v ids marks h d e = record {
  once = d;
  of_set = all-append (λ m. m.set ≡ s) marks (marks_of s v ids) h.of_set (all-marks_of s v ids);
  each = λ c.
      e c ∙ ap (λ o. cond (has c ids) (raised v o) o) (h.each c)
      ∙ sym (marker_of-more marks s v ids s c ∙ ap (λ b. cond (b && has c ids) (raised v (marker_of marks s c)) (marker_of marks s c)) same);
}
  where
    same : (s == s) ≡ true
    same = grind (arith, nat_tests)

-- what a new floor leaves
pub markers-above : (old : List (ℕ × ℕ)) (s floor : ℕ) (marks : List Mark) → AreMarkers old s marks → AreMarkers (filter (λ e. not (nat_lt e.1 floor)) old) s (marks_above s floor marks)
markers-above old s floor marks h = record {
  once = IsDistinct-keys_filter nat_eq (λ e. not (nat_lt e.1 floor)) old h.once;
  of_set = all-filter (λ m. m.set ≡ s) (λ m. not ((m.set == s) && nat_lt m.version floor)) marks h.of_set;
  each = λ c.
      lookup-filter-values nat_eq_equiv (stays floor) c old h.once ∙ ap (option_filter (stays floor)) (h.each c)
      ∙ sym (marker_of-above s floor marks s c ∙ ap (λ b. cond b (option_filter (stays floor) (marker_of marks s c)) (marker_of marks s c)) same);
}
  where
    same : (s == s) ≡ true
    same = grind (arith, nat_tests)
