-- What a holder of a pin knows, over the calls of a keeper.
use Rattle.std.proofs.Common.{◌≡◌, ℕ, ◌≤◌, length, true, false, not, List, [], ◌∷◌, ◌++◌, None, sym, ◌∙◌, subst, arith}
use Rattle.std.specs.Prelude.{Contains, slice_index_or, ◌==◌}
use Rattle.std.specs.List.{AllByRecursion}
use Rattle.std.proofs.lemmas.Bool.Decides.{nat_tests}
use Rattle.std.proofs.lemmas.List.Elements.{Contains-append_left, Contains-push}
use Rattle.vault_types.specs.declared.Name.{Name}
use Rattle.vault_types.specs.declared.Spot.{Spot}
use Rattle.vault_types.specs.Lists.{has}
use Rattle.vault_types.specs.Events.{Core, Pin, with_pins, after_release}
use Rattle.restore_pins.specs.Pins.{numbers}
use Rattle.restore_pins.proofs.Callers.{numbers-same}
use Rattle.keeper_catalog.specs.View.{View, Keeps}
use Rattle.commit_laws.proofs.Listing.{all_weaker}
use Rattle.state_laws.proofs.Members.{clash, in_map, filter_contains}
use Rattle.keeper_core.specs.Calls.{HasListed}
use Rattle.keeper_driver.specs.Drafts.{HasNoJob}
use Rattle.keeper_driver.specs.Pinning.{IsPinning}

-- another core is kept that has the same pins
pub goes_on : (v w : View) (n : ℕ) (spots : List Spot) (is : IsPinning v n spots) (K : Core) → Keeps w K → w.job ≡ None → K.pins ≡ is.core.pins → IsPinning w n spots
goes_on v w n spots is K keeps none same = record {
  core = K;
  keeps = keeps;
  no_job = none;
  pin = is.pin;
  among = subst (λ (ps : List Pin). Contains ps is.pin) (sym same) is.among;
  has_number = is.has_number;
  listed = subst (λ (ps : List Pin). AllByRecursion (HasListed ps n) spots) (sym same) is.listed;
}

-- more pins, and fewer

lists_in : (before now : List Pin) (n : ℕ) → ((p : Pin) → p.number ≡ n → Contains before p → Contains now p) → (s : Spot) → HasListed before n s → HasListed now n s
lists_in before now n more s has_listed =
    let l = has_listed.1 in
    (has_listed.0, record { pin = l.pin; among = more l.pin l.has_number l.among; has_number = l.has_number; listed = l.listed; has_id = l.has_id }, has_listed.2)

pub stays : (v w : View) (n : ℕ) (spots : List Spot) (is : IsPinning v n spots) (K : Core) → Keeps w K → w.job ≡ None → ((p : Pin) → p.number ≡ n → Contains is.core.pins p → Contains K.pins p) → IsPinning w n spots
stays v w n spots is K keeps none more = record {
  core = K;
  keeps = keeps;
  no_job = none;
  pin = is.pin;
  among = more is.pin is.has_number is.among;
  has_number = is.has_number;
  listed = all_weaker (HasListed is.core.pins n) (HasListed K.pins n) spots (lists_in is.core.pins K.pins n more) is.listed;
}

-- the keeper knows the number of the pin
pub known : (v : View) (n : ℕ) (spots : List Spot) → IsPinning v n spots → has n (numbers v.pins) ≡ true
known v n spots is = subst (λ (k : ℕ). has k (numbers v.pins) ≡ true) is.has_number
    (subst (λ (ns : List ℕ). has is.pin.number ns ≡ true) (numbers-same v.pins is.core.pins is.keeps.pins) (in_map (λ (p : Pin). p.number) is.core.pins is.pin is.among))

pub idle_again : (v : View) (n : ℕ) (spots : List Spot) → IsPinning v n spots → HasNoJob v
idle_again v n spots is = record { core = is.core; keeps = is.keeps; no_job = is.no_job }

-- the first spot of a pin

pub first_listed : (P : Spot → Type 0) (spots : List Spot) (s : Spot) → 1 ≤ length spots → s ≡ slice_index_or spots 0 s → AllByRecursion P spots → P s
first_listed P [] s some is all = absurd (omega (arith, some))
first_listed P (x ∷ xs) s some is all = subst P (sym is) all.0

-- a pin

pub begins : (v w : View) (is : HasNoJob v) (n : ℕ) (spots : List Spot) (pin : Pin) → pin.number ≡ n → Keeps w (with_pins (is.core.pins ++ pin ∷ []) is.core.strays is.core) → ((K : Core) → Keeps w K → AllByRecursion (HasListed K.pins n) spots) → w.job ≡ v.job → IsPinning w n spots
begins v w is n spots pin number keeps lists job = record {
  core = with_pins (is.core.pins ++ pin ∷ []) is.core.strays is.core;
  keeps = keeps;
  no_job = job ∙ is.no_job;
  pin = pin;
  among = Contains-push is.core.pins pin;
  has_number = number;
  listed = lists (with_pins (is.core.pins ++ pin ∷ []) is.core.strays is.core) keeps;
}

pub beside : (v w : View) (n : ℕ) (spots : List Spot) (is : IsPinning v n spots) (pin : Pin) → Keeps w (with_pins (is.core.pins ++ pin ∷ []) is.core.strays is.core) → w.job ≡ v.job → IsPinning w n spots
beside v w n spots is pin keeps job = stays v w n spots is (with_pins (is.core.pins ++ pin ∷ []) is.core.strays is.core) keeps (job ∙ is.no_job)
    (λ p number there. Contains-append_left is.core.pins (pin ∷ []) p there)

pub apart : (v : View) (n m : ℕ) (spots : List Spot) → IsPinning v n spots → has m (numbers v.pins) ≡ false → m ≡ n → ⊥
apart v n m spots is fresh same = clash (has m (numbers v.pins)) (subst (λ (k : ℕ). has k (numbers v.pins) ≡ true) (sym same) (known v n spots is)) fresh

-- a release

other_number : (a b n : ℕ) → a ≡ n → (n ≡ b → ⊥) → not (a == b) ≡ true
other_number a b n same other = grind (arith, nat_tests)

pub left : (v w : View) (n m : ℕ) (spots : List Spot) (is : IsPinning v n spots) (strays : List Name) → (n ≡ m → ⊥) → Keeps w (after_release m strays is.core) → w.job ≡ v.job → IsPinning w n spots
left v w n m spots is strays other keeps job = stays v w n spots is (after_release m strays is.core) keeps (job ∙ is.no_job)
    (λ p number there. filter_contains (λ (q : Pin). not (q.number == m)) is.core.pins p there (other_number p.number m n number other))
