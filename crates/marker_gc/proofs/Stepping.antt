-- Markers after commits and takings: which ids stand where.
use Rattle.std.proofs.Common.{◌≡◌, ℕ, ◌<◌, ◌≤◌, Bool, true, false, cond, not, ◌&&◌, ◌||◌, max, List, [], ◌∷◌, refl, sym, ap, ◌∙◌, arith, Option, Some, None}
use Rattle.std.specs.Prelude.{nat_lt, nat_le, ◌==◌, is_some}
use Rattle.std.specs.List.{AllByRecursion}
use Rattle.std.proofs.lemmas.Bool.Decides.{nat_tests}
use Rattle.std.proofs.lemmas.Map.Entries.{option_filter}
use Rattle.vault_types.specs.Lists.{has}
use Rattle.vault_types.specs.Marks.{marks_of, marked_ids, marks_above, freed_ids}
use Rattle.marker_gc.specs.Markers.{marker_of}
use Rattle.marker_gc.specs.Steps.{MarkerStep, marks_after, stands_above, stands_since, AreEarlier, VersionsRise}
use Rattle.marker_gc.specs.Steps.MarkerStep.{Committed, Taken}
use Rattle.marker_gc.proofs.Lists.{has-filter}
use Rattle.marker_gc.proofs.Marking.{raised, stays, marker_of-more, marker_of-above, all-append, all-marks_of, all-filter, has-marked_ids, named-marker}

-- a list for a version at or above a floor was committed for one that rises above it
above-below : (version floor c : ℕ) (steps : List MarkerStep) → AreEarlier version steps → stands_above floor steps c ≡ true → floor ≤ version
above-below version floor c [] h e = let clash : false ≡ true = e in absurd (cc)
above-below version floor c (Committed v ids ∷ steps) h e = step (nat_le floor v) refl (has c ids) e (λ f. above-below version floor c steps h.1 f)
  where
    step : (a : Bool) → nat_le floor v ≡ a → (b : Bool) → ((a && b) || stands_above floor steps c) ≡ true → (stands_above floor steps c ≡ true → floor ≤ version) → floor ≤ version
    step true t true f g = let low : v < version = h.0 in let at : floor ≤ v = grind (arith, nat_tests) in omega arith
    step true t false f g = g f
    step false t b f g = g f
above-below version floor c (Taken f ∷ steps) h e = above-below version floor c steps h e

-- the marker of a container after the steps, and where its id stands
pub record Stands (s c : ℕ) (steps : List MarkerStep) : Type 0 where
  pub since : is_some (marker_of (marks_after s steps) s c) ≡ stands_since steps c
  pub above : (floor : ℕ) → is_some (option_filter (stays floor) (marker_of (marks_after s steps) s c)) ≡ (stands_since steps c && stands_above floor steps c)

self : (s : ℕ) → (s == s) ≡ true
self s = grind (arith, nat_tests)

after-committed : (s v c : ℕ) (ids : List ℕ) (steps : List MarkerStep)
    → marker_of (marks_after s (Committed v ids ∷ steps)) s c ≡ cond (has c ids) (raised v (marker_of (marks_after s steps) s c)) (marker_of (marks_after s steps) s c)
after-committed s v c ids steps =
    marker_of-more (marks_after s steps) s v ids s c
    ∙ ap (λ b. cond (b && has c ids) (raised v (marker_of (marks_after s steps) s c)) (marker_of (marks_after s steps) s c)) (self s)

after-taken : (s f c : ℕ) (steps : List MarkerStep) → marker_of (marks_after s (Taken f ∷ steps)) s c ≡ option_filter (stays f) (marker_of (marks_after s steps) s c)
after-taken s f c steps =
    marker_of-above s f (marks_after s steps) s c
    ∙ ap (λ b. cond b (option_filter (stays f) (marker_of (marks_after s steps) s c)) (marker_of (marks_after s steps) s c)) (self s)

kept-some : (floor w : ℕ) → is_some (option_filter (stays floor) (Some w)) ≡ stays floor w
kept-some floor w = step (stays floor w)
  where
    step : (b : Bool) → is_some (cond b (Some w) None) ≡ b
    step true = refl
    step false = refl

committed-above : (floor v : ℕ) (o : Option ℕ) (a since above : Bool) → (above ≡ true → floor ≤ v) → is_some o ≡ since → is_some (option_filter (stays floor) o) ≡ (since && above)
    → is_some (option_filter (stays floor) (cond a (raised v o) o)) ≡ ((a || since) && ((nat_le floor v && a) || above))
committed-above floor v o false since above h e f = f ∙ ap (λ b. since && b) (sym (there (nat_le floor v)))
  where
    there : (b : Bool) → ((b && false) || above) ≡ above
    there true = refl
    there false = refl
committed-above floor v None true since true h e f =
    let at : floor ≤ v = h refl in
    kept-some floor v ∙ grind (arith, nat_tests)
committed-above floor v None true since false h e f = kept-some floor v ∙ grind (arith, nat_tests)
committed-above floor v (Some w) true true above h e f =
    let same : stays floor w ≡ above = sym (kept-some floor w) ∙ f in
    kept-some floor (max v w) ∙ high above (nat_lt w floor) refl same
  where
    high : (b d : Bool) → nat_lt w floor ≡ d → not d ≡ b → stays floor (max v w) ≡ ((nat_le floor v && true) || b)
    high true true t g = cc
    high true false t g = grind (arith, nat_tests)
    high false true t g = grind (arith, nat_tests)
    high false false t g = cc
committed-above floor v (Some w) true false above h e f = cc

taken-above : (f floor : ℕ) (o : Option ℕ) (since here above : Bool) → is_some o ≡ since → is_some (option_filter (stays f) o) ≡ (since && here) → is_some (option_filter (stays floor) o) ≡ (since && above)
    → is_some (option_filter (stays floor) (option_filter (stays f) o)) ≡ ((since && not (since && not here)) && above)
taken-above f floor None true here above e g h = cc
taken-above f floor None false here above e g h = refl
taken-above f floor (Some w) false here above e g h = cc
taken-above f floor (Some w) true here above e g h = step (stays f w) ∙ ap (λ b. not (not b) && above) (sym (kept-some f w) ∙ g)
  where
    step : (b : Bool) → is_some (option_filter (stays floor) (cond b (Some w) None)) ≡ (not (not b) && above)
    step true = h
    step false = refl

pub stands : (s c : ℕ) (steps : List MarkerStep) → VersionsRise steps → Stands s c steps
stands s c [] h = record { since = refl; above = λ floor. refl }
stands s c (Committed v ids ∷ steps) h =
    let rest : Stands s c steps = stands s c steps h.1 in record {
      since = ap is_some (after-committed s v c ids steps) ∙ one (has c ids) rest.since;
      above = λ floor.
          ap (λ o. is_some (option_filter (stays floor) o)) (after-committed s v c ids steps)
          ∙ committed-above floor v (marker_of (marks_after s steps) s c) (has c ids) (stands_since steps c) (stands_above floor steps c) (λ e. above-below v floor c steps h.0 e) rest.since (rest.above floor);
    }
  where
    one : (a : Bool) → is_some (marker_of (marks_after s steps) s c) ≡ stands_since steps c → is_some (cond a (raised v (marker_of (marks_after s steps) s c)) (marker_of (marks_after s steps) s c)) ≡ (a || stands_since steps c)
    one true e = refl
    one false e = e
stands s c (Taken f ∷ steps) h =
    let rest : Stands s c steps = stands s c steps h in record {
      since = ap is_some (after-taken s f c steps) ∙ rest.above f ∙ twice (stands_since steps c) (stands_above f steps c);
      above = λ floor.
          ap (λ o. is_some (option_filter (stays floor) o)) (after-taken s f c steps)
          ∙ taken-above f floor (marker_of (marks_after s steps) s c) (stands_since steps c) (stands_above f steps c) (stands_above floor steps c) rest.since (rest.above f) (rest.above floor);
    }
  where
    twice : (a b : Bool) → (a && b) ≡ (a && not (a && not b))
    twice true true = refl
    twice true false = refl
    twice false b = refl

of_one_set : (s : ℕ) (steps : List MarkerStep) → AllByRecursion (λ m. m.set ≡ s) (marks_after s steps)
of_one_set s [] = tt
of_one_set s (Committed v ids ∷ steps) = all-append (λ m. m.set ≡ s) (marks_after s steps) (marks_of s v ids) (of_one_set s steps) (all-marks_of s v ids)
of_one_set s (Taken f ∷ steps) = all-filter (λ m. m.set ≡ s) (λ m. not ((m.set == s) && nat_lt m.version f)) (marks_after s steps) (of_one_set s steps)

pub named-since : (s c : ℕ) (steps : List MarkerStep) → VersionsRise steps → has c (marked_ids (marks_after s steps)) ≡ stands_since steps c
named-since s c steps h = has-marked_ids c (marks_after s steps) ∙ named-marker s c (marks_after s steps) (of_one_set s steps) ∙ (stands s c steps h).since

pub taken-since : (s floor c : ℕ) (steps : List MarkerStep) → VersionsRise steps → has c (freed_ids s floor (marks_after s steps)) ≡ (stands_since steps c && not (stands_above floor steps c))
taken-since s floor c steps h =
    has-filter c (λ k. not (has k (marked_ids (marks_above s floor (marks_after s steps))))) (marked_ids (marks_after s steps))
    ∙ ap (λ b. b && not (has c (marked_ids (marks_above s floor (marks_after s steps))))) (named-since s c steps h)
    ∙ ap (λ b. stands_since steps c && not b) (named-since s c (Taken floor ∷ steps) h)
    ∙ once (stands_since steps c) (stands_above floor steps c)
  where
    once : (a b : Bool) → (a && not (a && not (a && not b))) ≡ (a && not b)
    once true true = refl
    once true false = refl
    once false b = refl
