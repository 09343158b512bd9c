-- What a call of the keeper leaves of the restores that run.
use Rattle.std.proofs.Common.{◌≡◌, ◌≢◌, ◌≤◌, ◌<◌, ℕ, true, false, List, [], ◌∷◌, ◌++◌, map, length, get_or, Option, None, Some, refl, sym, ◌∙◌, ap, subst}
use Rattle.std.specs.Prelude.{IsSome, IfSome}
use Rattle.std.specs.List.{AllByRecursion}
use Rattle.std.proofs.Math.Nat.{le_refl}
use Rattle.std.proofs.lemmas.List.{map-append}
use Rattle.vault_types.specs.Lists.{has}
use Rattle.vault_traits.specs.Files.{ChangesOnly, AreKept}
use Rattle.vault_traits.specs.Told.{Files}
use Rattle.restore_pins.specs.Pins.{Listed, numbers, without_pin}
use Rattle.commit_laws.proofs.Listing.{all_append, all_left, all_right, all_both}
use Rattle.beside_runner.proofs.Served.{held_at}
use Rattle.keeper_catalog.specs.View.{View}
use Rattle.pin_laws.specs.Following.{Follows}
use Rattle.pin_laws.proofs.Calls.{still}
use Rattle.restore_turns.proofs.Turns.{entry_follows}
use Rattle.running_restore.specs.Views.{RunningView, IsStarted, IsRunning}
use Rattle.beside_steps.specs.Holding.{BesideView, IsOne, AreApart, Holds, IsSameButReply}
use Rattle.beside_steps.proofs.Apart.{AreOthers, apart_more, apart_less, numbers_left}

-- ---- files: who tells them now told them before

pub told_before : (a b : Option Files) (name : List ℕ) (Becomes : Option (List ℕ) → Option (List ℕ) → Type 0) → ChangesOnly a b name Becomes → IsSome b → IsSome a
told_before a None name Becomes changed some = absurd (let e : false ≡ true = some in cc)
told_before None (Some g) name Becomes changed some = absurd changed
told_before (Some f) (Some g) name Becomes changed some = refl

pub told_kept : (a b : Option Files) → AreKept a b → IsSome b → IsSome a
told_kept a None kept some = absurd (let e : false ≡ true = some in cc)
told_kept None (Some g) kept some = absurd kept
told_kept (Some f) (Some g) kept some = refl

pub told_on : (X : Type 0) (a b : Option Files) → (IsSome b → IsSome a) → IfSome a (λ f. X) → IfSome b (λ f. X)
told_on X a None back h = tt
told_on X None (Some g) back h = absurd (let e : false ≡ true = back refl in cc)
told_on X (Some f) (Some g) back h = h

-- ---- each that runs

abbrev number : BesideView → ℕ
number e = e.restore.number

all_of_any : {X : Type 0} (P : X → Type 0) (xs : List X) → ((x : X) → P x) → AllByRecursion P xs
all_of_any P [] each = tt
all_of_any P (x ∷ xs) each = (each x, all_of_any P xs each)

-- another call of the keeper comes, and the pin stays
module _ (v w : View) (a b : Option Files) (later : v.told.faults ≤ w.told.faults) (back : IsSome b → IsSome a) where
  pub one_follows : (e : BesideView) → Follows v w e.restore.number → IsOne v a e → IsOne w b e
  one_follows e follows one = record {
    running = entry_follows e.restore.behind v w e.restore.number e.restore.first.copying.spots e.restore.ids e.restore.got e.restore.met e.restore.sent one.running follows later;
    started = one.started;
    fresh = one.fresh;
    empty = told_on (e.restore.first.sink.taken ≡ Some []) a b back one.empty;
    unreplied = one.unreplied;
  }

  each_follows : (es : List BesideView) → AllByRecursion (λ e. Follows v w e.restore.number) es → AllByRecursion (IsOne v a) es → AllByRecursion (IsOne w b) es
  each_follows es follow all = all_both (λ e. Follows v w e.restore.number) (IsOne v a) (IsOne w b) es one_follows follow all

  -- each pin stays
  module _ (follows : (n : ℕ) → Follows v w n) where
    all_follow : (es : List BesideView) → AllByRecursion (IsOne v a) es → AllByRecursion (IsOne w b) es
    all_follow es all = each_follows es (all_of_any (λ (e : BesideView). Follows v w e.restore.number) es (λ e. follows e.restore.number)) all

    -- a call that leaves the pins
    pub holds_still : (es : List BesideView) → Holds v a es → w.job ≡ None → w.pins ≡ v.pins → Holds w b es
    holds_still es h job pins = record {
      job = job;
      each = all_follow es h.each;
      pins = ap numbers pins ∙ h.pins;
      apart = subst (λ (ps : List Listed). AreApart (numbers ps)) (sym pins) h.apart;
    }

    -- so, and one of them goes on
    pub holds_on : (first : List BesideView) (e d : BesideView) (others : List BesideView) → Holds v a (first ++ e ∷ others) → w.job ≡ v.job → w.pins ≡ v.pins → d.restore.number ≡ e.restore.number → IsOne w b d → Holds w b (first ++ d ∷ others)
    holds_on first e d others h job pins same one = record {
      job = job ∙ h.job;
      each = all_append (IsOne w b) first (d ∷ others) (all_follow first (all_left (IsOne v a) first (e ∷ others) h.each)) (one, all_follow others (all_right (IsOne v a) first (e ∷ others) h.each).1);
      pins = ap numbers pins ∙ h.pins ∙ map-append number first (e ∷ others) ∙ ap (λ (n : ℕ). map number first ++ n ∷ map number others) (sym same) ∙ sym (map-append number first (d ∷ others));
      apart = subst (λ (ps : List Listed). AreApart (numbers ps)) (sym pins) h.apart;
    }

    -- one more is pinned
    pub holds_more : (es : List BesideView) (e : BesideView) → Holds v a es → w.job ≡ None → numbers w.pins ≡ numbers v.pins ++ e.restore.number ∷ [] → has e.restore.number (numbers v.pins) ≡ false → IsOne w b e → Holds w b (es ++ e ∷ [])
    holds_more es e h job pins fresh one = record {
      job = job;
      each = all_append (IsOne w b) es (e ∷ []) (all_follow es h.each) (one, tt);
      pins = pins ∙ ap (λ (ns : List ℕ). ns ++ e.restore.number ∷ []) h.pins ∙ sym (map-append number es (e ∷ []));
      apart = subst (λ (ns : List ℕ). AreApart ns) (sym pins) (apart_more (numbers v.pins) e.restore.number h.apart fresh);
    }

  -- one is released
  module _ (first : List BesideView) (e : BesideView) (others : List BesideView) (h : Holds v a (first ++ e ∷ others)) where
    numbers_are : numbers v.pins ≡ map number first ++ e.restore.number ∷ map number others
    numbers_are = h.pins ∙ map-append number first (e ∷ others)

    left_apart : AreApart (map number first ++ map number others) × AreOthers e.restore.number (map number first) × AreOthers e.restore.number (map number others)
    unfolding numbers_are
    left_apart = apart_less (map number first) e.restore.number (map number others) (subst (λ (ns : List ℕ). AreApart ns) numbers_are h.apart)

    pub holds_less : ((n : ℕ) → n ≢ e.restore.number → Follows v w n) → w.job ≡ v.job → w.pins ≡ without_pin e.restore.number v.pins → Holds w b (first ++ others)
    unfolding left_apart numbers_are
    holds_less follows job pins =
        let left : numbers w.pins ≡ map number first ++ map number others = ap numbers pins ∙ numbers_left (map number first) e.restore.number (map number others) v.pins numbers_are left_apart.1 left_apart.2 in
        record {
          job = job ∙ h.job;
          each = all_append (IsOne w b) first others
              (each_follows first (followed first left_apart.1) (all_left (IsOne v a) first (e ∷ others) h.each))
              (each_follows others (followed others left_apart.2) (all_right (IsOne v a) first (e ∷ others) h.each).1);
          pins = left ∙ sym (map-append number first others);
          apart = subst (λ (ns : List ℕ). AreApart ns) (sym left) left_apart.0;
        }
      where
        followed : (es : List BesideView) → AreOthers e.restore.number (map number es) → AllByRecursion (λ d. Follows v w d.restore.number) es
        followed [] apart = tt
        followed (d ∷ es) apart = (follows d.restore.number apart.0, followed es apart.1)

-- its reply was taken, or not
pub holds_replied : (v : View) (files : Option Files) (e d : BesideView) → IsSameButReply e d → (first others : List BesideView) → Holds v files (first ++ e ∷ others) → Holds v files (first ++ d ∷ others)
holds_replied v files e d same first others h =
    let one = (all_right (IsOne v files) first (e ∷ others) h.each).0 in
    holds_on v v files files (le_refl v.told.faults) (λ some. some) (λ n. still v n) first e d others h refl refl (ap (λ (r : RunningView). r.number) same.restore) (record {
      running = subst (λ (r : RunningView). IsRunning v r) (sym same.restore) one.running;
      started = subst (λ (r : RunningView). IsStarted r) (sym same.restore) one.started;
      fresh = ap (λ (r : RunningView). r.first.sink.faults) same.restore ∙ one.fresh;
      empty = subst (λ (r : RunningView). IfSome files (λ f. r.first.sink.taken ≡ Some [])) (sym same.restore) one.empty;
      unreplied = same.unreplied;
    })

-- one of those that run
pub one_of : (v : View) (files : Option Files) (first : List BesideView) (e : BesideView) (others : List BesideView) → Holds v files (first ++ e ∷ others) → IsOne v files e
one_of v files first e others h = (all_right (IsOne v files) first (e ∷ others) h.each).0

-- the one at a place
pub one_at : (v : View) (files : Option Files) (es : List BesideView) (at : ℕ) (e : BesideView) → at < length es → e ≡ get_or es at e → Holds v files es → IsOne v files e
one_at v files es at e below is h = let parts = held_at (Holds v files) (Holds v files) es at e below is h in one_of v files parts.0 e parts.1 parts.2
