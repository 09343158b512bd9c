-- A turn of one among the restores that run.
use Rattle.std.proofs.Common.{◌≡◌, ◌<◌, ◌+◌, ℕ, suc, Option, List, [], ◌∷◌, ◌++◌, map, length, take, drop, get_or, set, refl, sym, ◌∙◌, ap, subst, arith}
use Rattle.std.specs.List.{remove, AllByRecursion}
use Rattle.std.proofs.Math.Seq.{drop-cons}
use Rattle.std.proofs.lemmas.List.{take-append-drop, set_split, map-append}
use Rattle.vault_types.specs.declared.Limits.{Limits}
use Rattle.vault_types.specs.declared.Name.{Name}
use Rattle.vault_types.specs.declared.Answer.{Answer}
use Rattle.vault_types.specs.declared.Line.{Line}
use Rattle.vault_types.specs.State.{State}
use Rattle.vault_types.specs.Events.{Change}
use Rattle.vault_traits.specs.Files.{IsThere}
use Rattle.vault_traits.specs.Told.{ShelfTold}
use Rattle.store_model.specs.Steps.{Moment}
use Rattle.store_model.specs.View.{IsKept}
use Rattle.beside_laws.specs.Progress.{Underway}
use Rattle.beside_laws.specs.Progress.Underway.{begins_restore, goes_on, ends_restore}
use Rattle.beside_laws.specs.Running.{Past, with_answer}
use Rattle.beside_laws.specs.Steps.{EndsRestore}
use Rattle.beside_laws.proofs.Standing.{standing_of}
use Rattle.beside_laws.proofs.Whole.{stands_at}
use Rattle.beside_runner.specs.Turns.{GoesOn, IsBegun}

split : {X : Type 0} (xs : List X) (at : ℕ) (x : X) → at < length xs → x ≡ get_or xs at x → xs ≡ take at xs ++ x ∷ drop (suc at) xs
split {X} xs at x below is = sym (take-append-drop at xs) ∙ ap (λ (ys : List X). take at xs ++ ys) (drop-cons xs at x below ∙ ap (λ (y : X). y ∷ drop (suc at) xs) (sym is))

-- ---- what holds of all that run

module _ {E : Type 0} (Old New : List E → Type 0) (xs : List E) (at : ℕ) (x : E) (below : at < length xs) (is : x ≡ get_or xs at x) (holds : Old xs) where
  at_place : Old (take at xs ++ x ∷ drop (suc at) xs)
  at_place = subst Old (split xs at x below is) holds

  pub held_at : (first : List E) × (later : List E) × Old (first ++ x ∷ later)
  held_at = (take at xs, drop (suc at) xs, at_place)

  pub held_set : (y : E) → ((first later : List E) → Old (first ++ x ∷ later) → New (first ++ y ∷ later)) → New (set xs at y)
  held_set y on = subst New (sym (set_split xs at y below)) (on (take at xs) (drop (suc at) xs) at_place)

  pub held_less : ((first later : List E) → Old (first ++ x ∷ later) → New (first ++ later)) → New (remove xs at)
  held_less less = less (take at xs) (drop (suc at) xs) at_place

module _ {E P : Type 0} (past : E → P) (xs : List E) (at : ℕ) (below : at < length xs) where
  parts : (x : E) → x ≡ get_or xs at x → map past xs ≡ map past (take at xs) ++ past x ∷ map past (drop (suc at) xs)
  parts x is = ap (map past) (split xs at x below is) ∙ map-append past (take at xs) (x ∷ drop (suc at) xs)

  parts_set : (y : E) → map past (set xs at y) ≡ map past (take at xs) ++ past y ∷ map past (drop (suc at) xs)
  parts_set y = ap (map past) (set_split xs at y below) ∙ map-append past (take at xs) (y ∷ drop (suc at) xs)

  pub past_same : (x y : E) → x ≡ get_or xs at x → past y ≡ past x → map past (set xs at y) ≡ map past xs
  past_same x y is same = parts_set y ∙ ap (λ (p : P). map past (take at xs) ++ p ∷ map past (drop (suc at) xs)) same ∙ sym (parts x is)

-- ---- a run of lines

module _ {K E : Type 0} (shelf : K → ShelfTold) (keeps : K → State → Option Change → Type 0) (known : K → Name → Type 0) (limits : Limits) (lines : List Line) (start : Moment K) (past : E → Past K) (i : ℕ) (answers : List Answer) where
  pub under_on : (xs : List E) (at : ℕ) (x y : E) (now mid : Moment K) → at < length xs → x ≡ get_or xs at x → GoesOn shelf keeps known now (past x) (past y) mid
      → Underway shelf keeps known limits lines start i answers (map past xs) now → Underway shelf keeps known limits lines start i answers (map past (set xs at y)) mid
  under_on xs at x y now mid below is on u =
      subst (λ (P : List (Past K)). Underway shelf keeps known limits lines start i answers P mid) (sym (parts_set past xs at below y))
      (subst (λ (q : Past K). Underway shelf keeps known limits lines start i answers (map past (take at xs) ++ q ∷ map past (drop (suc at) xs)) mid) (sym on.is)
      (goes_on i answers (map past (take at xs)) (past x) (map past (drop (suc at) xs)) now mid on.gets on.met on.on
      (subst (λ (P : List (Past K)). Underway shelf keeps known limits lines start i answers P now) (parts past xs at below x is) u)))

  pub under_stands : (keeps_is : (k : K) (S : State) (other : Option Change) → keeps k S other → IsKept (shelf k) S other) (xs : List E) (at : ℕ) (x : E) (now : Moment K) → at < length xs → x ≡ get_or xs at x
      → Underway shelf keeps known limits lines start i answers (map past xs) now → IsThere now.places.files (past x).name × ((past x).place < length answers)
  under_stands keeps_is xs at x now below is u =
      stands_at shelf keeps known keeps_is limits lines start i answers (map past (take at xs)) (past x) (map past (drop (suc at) xs)) now
      (subst (λ (P : List (Past K)). Underway shelf keeps known limits lines start i answers P now) (parts past xs at below x is) u)

  pub under_ended : (xs : List E) (at : ℕ) (x : E) (now mid : Moment K) (answer : Answer) → at < length xs → x ≡ get_or xs at x → EndsRestore shelf keeps known limits now (with_answer answer (past x)) mid
      → Underway shelf keeps known limits lines start i answers (map past xs) now → Underway shelf keeps known limits lines start i (set answers (past x).place answer) (map past (remove xs at)) mid
  under_ended xs at x now mid answer below is ends u =
      subst (λ (P : List (Past K)). Underway shelf keeps known limits lines start i (set answers (past x).place answer) P mid) (sym (map-append past (take at xs) (drop (suc at) xs)))
      (ends_restore i answers (map past (take at xs)) (past x) (map past (drop (suc at) xs)) now mid answer ends
      (subst (λ (P : List (Past K)). Underway shelf keeps known limits lines start i answers P now) (parts past xs at below x is) u))

  pub under_begun : (xs ys : List E) (e : E) (now mid : Moment K) (line : Line) → i < length lines → line ≡ get_or lines i line → IsBegun shelf keeps known now line i mid (past e) → ys ≡ xs ++ e ∷ []
      → Underway shelf keeps known limits lines start i answers (map past xs) now → Underway shelf keeps known limits lines start (i + 1) answers (map past ys) mid
  under_begun xs ys e now mid line below here b is u =
      subst (λ (P : List (Past K)). Underway shelf keeps known limits lines start (i + 1) answers P mid) (sym (ap (map past) is ∙ map-append past xs (e ∷ [])))
      (subst (λ (q : Past K). Underway shelf keeps known limits lines start (i + 1) answers (map past xs ++ q ∷ []) mid) (sym b.past)
      (begins_restore i answers (map past xs) now mid b.set b.version b.name b.cache below (subst (λ (l : Line). l ≡ get_or lines i l) b.is here) b.begins b.there u))

module _ {K : Type 0} (shelf : K → ShelfTold) (keeps : K → State → Option Change → Type 0) (known : K → Name → Type 0) (limits : Limits) (lines : List Line) (start : Moment K) where
  -- there is an answer for each line
  pub under_long : (keeps_is : (k : K) (S : State) (other : Option Change) → keeps k S other → IsKept (shelf k) S other) (i : ℕ) (answers : List Answer) (P : List (Past K)) (now : Moment K)
      → Underway shelf keeps known limits lines start i answers P now → length answers ≡ length lines
  under_long keeps_is i answers P now u = (standing_of shelf keeps known keeps_is limits lines start i answers P now u).under.long

-- ---- lists

pub none_left : {X : Type 0} (xs : List X) → length xs < 1 → xs ≡ []
none_left [] few = refl
none_left (x ∷ xs) few = absurd (omega (arith, few))

pub all_at : {X : Type 0} (P : X → Type 0) (xs : List X) (at : ℕ) (x : X) → AllByRecursion P xs → at < length xs → x ≡ get_or xs at x → P x
all_at {X} P xs at x all below is = here (take at xs) (drop (suc at) xs) (subst (AllByRecursion P) (split xs at x below is) all)
  where
    here : (first later : List X) → AllByRecursion P (first ++ x ∷ later) → P x
    here [] later h = h.0
    here (y ∷ first) later h = here first later h.1
