-- One version after another.
use Rattle.std.proofs.Common.{◌≡◌, ◌⊎◌, inl, inr, ⊎_elim, ℕ, zero, suc, ◌+◌, ◌-◌, ◌≤◌, ◌<◌, Bool, true, false, cond, length, List, [], ◌∷◌, ◌++◌, Option, Some, None, refl, sym, ap, subst, ◌∙◌, arith, append_assoc}
use Rattle.std.specs.Prelude.{◌≢◌, ◌&&◌, IsErrAnd, IfErr, Result, Ok, Err, nat_lt, nat_le}
use Rattle.std.proofs.lemmas.Bool.Decides.{nat_tests}
use Rattle.std.proofs.lemmas.List.{append-nil}
use Rattle.vault_types.specs.declared.Fault.{Fault}
use Rattle.vault_types.specs.State.{State, KeptVersion, dataset, floor_of, latest_of, is_kept, version_of, IsValid}
use Rattle.vault_types.specs.Shelf.{Blobs, blob_at, recipe_name}
use Rattle.vault_types.specs.Events.{Core, Change, IsNear}
use Rattle.vault_traits.specs.Counts.{counted_up}
use Rattle.vault_traits.specs.Crash.{LeavesNowIfTold, LeavesOnlyIfTold}
use Rattle.vault_traits.proofs.Moments.{then, more, stays}
use Rattle.state_laws.proofs.Changing.{recipe_same, version_low, version_high, latest_low}
use Rattle.state_laws.proofs.Growing.{floor_pos}
use Rattle.keeper_catalog.specs.View.{View, Keeps}
use Rattle.keeper_core.proofs.Replacings.{version_there}
use Rattle.script_laws.proofs.Rising.{counted_up_twice}
use Rattle.vault_types.specs.RecipeForms.{IsSecond}
use Rattle.store_model.specs.Migrating.{HaveFirst, kept_versions, versions_from, versions_below}
use Rattle.keeper_core.specs.Keeping.{IsStateOf}
use Rattle.vault_types.specs.FirstDamage.{IsBefore}
use Rattle.serial_migrate.specs.Going.{LeavesOne, Went, Halted, Gone, AllDone, HasEndedBy}
use Rattle.serial_migrate.proofs.Counts.{have_append, have_split, have_same, have_head, have_moved, from_goes_on}

-- ---- the state that is kept

pub valid_of : (v : View) (S : State) (other : Option Change) → IsStateOf v S other → IsValid S
valid_of v S other is = subst IsValid is.state is.keeps.core.state

-- a change is the one from before, or none
pub near_before : (S : State) (other next : Option Change) → (next ≡ None) ⊎ (next ≡ other) → (c : Blobs) → IsNear S next c → IsNear S other c
near_before S other next (inl none) c near = alone other (subst (λ (o : Option Change). IsNear S o c) none near)
  where
    alone : (o : Option Change) → IsNear S None c → IsNear S o c
    alone o (inl stands) = inl stands
    alone o (inr nothing) = absurd nothing
near_before S other next (inr same) c near = subst (λ (o : Option Change). IsNear S o c) same near

pub change_before : (other mid next : Option Change) → (mid ≡ None) ⊎ (mid ≡ other) → (next ≡ None) ⊎ (next ≡ mid) → (next ≡ None) ⊎ (next ≡ other)
change_before other mid next first (inl none) = inl none
change_before other mid next (inl none) (inr same) = inl (same ∙ none)
change_before other mid next (inr is) (inr same) = inr (same ∙ is)

-- ---- places among versions

data Compared (set number s n : ℕ) : Type 0 where
  Before : IsBefore s n set number → Compared set number s n
  At : s ≡ set → n ≡ number → Compared set number s n
  Behind : (IsBefore s n set (number + 1) → ⊥) → Compared set number s n

below_or_not : (a b : ℕ) → (a < b) ⊎ (b ≤ a)
below_or_not a b = by_test (nat_lt a b) refl
  where
    by_test : (x : Bool) → nat_lt a b ≡ x → (a < b) ⊎ (b ≤ a)
    by_test true is = let e : a < b = grind (arith, nat_tests) in inl e
    by_test false is = let e : b ≤ a = grind (arith, nat_tests) in inr e

three : (a b : ℕ) → (a < b) ⊎ ((a ≡ b) ⊎ (b < a))
three a b = ⊎_elim (λ low. inl low) (λ high. inr (⊎_elim (λ more. inr more) (λ same. inl (omega (arith, high, same))) (below_or_not b a))) (below_or_not a b)

compare : (set number s n : ℕ) → Compared set number s n
compare set number s n = by_set (three s set)
  where
    by_number : s ≡ set → (n < number) ⊎ ((n ≡ number) ⊎ (number < n)) → Compared set number s n
    by_number same (inl low) = Before (inr (same, low))
    by_number same (inr (inl is)) = At same is
    by_number same (inr (inr high)) = Behind (λ before. ⊎_elim (λ (low : s < set). absurd (omega (arith, low, same))) (λ (both : (s ≡ set) × (n < number + 1)). absurd (omega (arith, both.1, high))) before)

    by_set : (s < set) ⊎ ((s ≡ set) ⊎ (set < s)) → Compared set number s n
    by_set (inl low) = Before (inl low)
    by_set (inr (inl same)) = by_number same (three n number)
    by_set (inr (inr high)) = Behind (λ before. ⊎_elim (λ (low : s < set). absurd (omega (arith, low, high))) (λ (both : (s ≡ set) × (n < number + 1)). absurd (omega (arith, both.0, high))) before)

before_more : (set number s n : ℕ) → IsBefore s n set number → IsBefore s n set (number + 1)
before_more set number s n (inl low) = inl low
before_more set number s n (inr both) = inr (both.0, omega (arith, both.1))

not_itself : (set number : ℕ) → IsBefore set number set number → ⊥
not_itself set number (inl low) = omega (arith, low)
not_itself set number (inr both) = omega (arith, both.1)

at_itself : (set number : ℕ) → IsBefore set number set (number + 1)
at_itself set number = inr (refl, omega arith)

-- two kept versions have two names
names_apart : (S : State) → IsValid S → (s n t m : ℕ) (j k : KeptVersion) → version_of S s n ≡ Some j → version_of S t m ≡ Some k → (s ≡ t → n ≡ m → ⊥) → recipe_name s n ≢ recipe_name t m
names_apart S valid s n t m j k one two differ is =
    let a = version_high S s n j one in
    let b = version_high S t m k two in
    let c = latest_low S s valid in
    let d = latest_low S t valid in
    let e = recipe_same s n t m (omega (arith, a, c)) (omega (arith, b, d)) is in
    differ e.0 e.1

-- ---- one version more

module _ (u v w : View) (S : State) (other : Option Change) (set number : ℕ) (versions : List (ℕ × ℕ)) (recipes : ℕ) (gone : Gone u v S other set number versions recipes) (k : KeptVersion) (kept : version_of S set number ≡ Some k) where
  valid : IsValid S
  valid = valid_of v S gone.next gone.keeps

  -- its recipe is as it was at the start
  untouched : blob_at v.told.blobs (recipe_name set number) ≡ blob_at u.told.blobs (recipe_name set number)
  untouched = gone.rest set number k kept (not_itself set number)

  module _ (next : Option Change) (leaves : LeavesOne v w S gone.next next set number) where
    other_stays : (s n : ℕ) (j : KeptVersion) → version_of S s n ≡ Some j → (s ≡ set → n ≡ number → ⊥) → blob_at w.told.blobs (recipe_name s n) ≡ blob_at v.told.blobs (recipe_name s n)
    other_stays s n j is differ = leaves.others s n (version_high S s n j is) (names_apart S valid s n set number j k is kept differ)

    before_differs : (s n : ℕ) → IsBefore s n set number → s ≡ set → n ≡ number → ⊥
    before_differs s n (inl low) one two = omega (arith, low, one)
    before_differs s n (inr both) one two = omega (arith, both.1, two)

    behind_differs : (s n : ℕ) → (IsBefore s n set (number + 1) → ⊥) → s ≡ set → n ≡ number → ⊥
    behind_differs s n not one two = not (inr (one, omega (arith, two)))

    moments : LeavesNowIfTold u.told.history (IsNear S other) → LeavesOnlyIfTold u.told.history w.told.history (IsNear S other)
    moments now = then (IsNear S other) u.told.history v.told.history w.told.history (gone.any_moment now)
        (more (IsNear S gone.next) (IsNear S other) (near_before S other gone.next gone.next_other) v.told.history w.told.history (leaves.any_moment (gone.behind now)))

    changes : (next ≡ None) ⊎ (next ≡ other)
    changes = change_before other gone.next next gone.next_other leaves.next_other

    second_still : (s n : ℕ) (j : KeptVersion) → version_of S s n ≡ Some j → IsBefore s n set number → IsSecond w.told.blobs s n j
    second_still s n j is before = other_stays s n j is (before_differs s n before) ∙ gone.done s n j is before

    rest_still : (s n : ℕ) (j : KeptVersion) → version_of S s n ≡ Some j → (IsBefore s n set (number + 1) → ⊥) → blob_at w.told.blobs (recipe_name s n) ≡ blob_at u.told.blobs (recipe_name s n)
    rest_still s n j is not = other_stays s n j is (behind_differs s n not) ∙ gone.rest s n j is (λ before. not (before_more set number s n before))

    form_of : (s n : ℕ) (j : KeptVersion) → version_of S s n ≡ Some j → Compared set number s n → (blob_at w.told.blobs (recipe_name s n) ≡ blob_at u.told.blobs (recipe_name s n)) ⊎ IsSecond w.told.blobs s n j
    form_of s n j is (Before before) = inr (second_still s n j is before)
    form_of s n j is (Behind not) = inl (rest_still s n j is not)
    form_of s n j is (At one two) = own_form s n j one two is
      where
        own_form : (s n : ℕ) (j : KeptVersion) → s ≡ set → n ≡ number → version_of S s n ≡ Some j → (blob_at w.told.blobs (recipe_name s n) ≡ blob_at u.told.blobs (recipe_name s n)) ⊎ IsSecond w.told.blobs s n j
        own_form s n j one two = subst (λ (t : ℕ). version_of S t n ≡ Some j → (blob_at w.told.blobs (recipe_name t n) ≡ blob_at u.told.blobs (recipe_name t n)) ⊎ IsSecond w.told.blobs t n j) (sym one)
            (subst (λ (m : ℕ). version_of S set m ≡ Some j → (blob_at w.told.blobs (recipe_name set m) ≡ blob_at u.told.blobs (recipe_name set m)) ⊎ IsSecond w.told.blobs set m j) (sym two)
            (λ at. ⊎_elim (λ same. inl (same ∙ untouched)) (λ second. inr second) (leaves.own j at)))

  pub one_more : (put : Bool) → Went v w S gone.next set number put → Gone u w S other set (number + 1) (versions ++ (set, number) ∷ []) (recipes + (cond put 1 0))
  one_more put went = record {
    next = went.next;
    keeps = went.leaves.keeps;
    next_other = changes went.next went.leaves;
    done = λ s n j is before. second_at s n j is before (compare set number s n);
    rest = λ s n j is not. rest_still went.next went.leaves s n j is not;
    strays = λ q known. gone.strays q (went.leaves.strays q known);
    any_moment = λ now. moments went.next went.leaves now;
    behind = λ now. went.behind (gone.behind now);
    loads = gone.loads + went.loads;
    have = have_append u.told.blobs S versions ((set, number) ∷ []) recipes gone.loads (cond put 1 0) went.loads gone.have
        (have_moved v.told.blobs u.told.blobs S set number (cond put 1 0) went.loads (sym untouched) went.have);
    gets = went.gets ∙ ap (λ (g : ℕ). counted_up g went.loads) gone.gets ∙ counted_up_twice u.told.gets gone.loads went.loads;
  }
    where
      own_second : (s n : ℕ) (j : KeptVersion) → s ≡ set → n ≡ number → version_of S s n ≡ Some j → IsSecond w.told.blobs s n j
      own_second s n j one two = subst (λ (t : ℕ). version_of S t n ≡ Some j → IsSecond w.told.blobs t n j) (sym one)
          (subst (λ (m : ℕ). version_of S set m ≡ Some j → IsSecond w.told.blobs set m j) (sym two) (λ at. went.second j at))

      second_at : (s n : ℕ) (j : KeptVersion) → version_of S s n ≡ Some j → IsBefore s n set (number + 1) → Compared set number s n → IsSecond w.told.blobs s n j
      second_at s n j is before (Before first) = second_still went.next went.leaves s n j is first
      second_at s n j is before (At one two) = own_second s n j one two is
      second_at s n j is before (Behind not) = absurd (not before)

  pub stopped_here : (f : Fault) (rest : List (ℕ × ℕ)) → kept_versions S ≡ versions ++ (set, number) ∷ rest → Halted v w S gone.next set number f → HasEndedBy u w S other f
  stopped_here f rest are halted =
      let stopped = halted.stopped in
      record {
        next = stopped.next;
        keeps = stopped.leaves.keeps;
        next_other = changes stopped.next stopped.leaves;
        forms = λ s n j is. form_of stopped.next stopped.leaves s n j is (compare set number s n);
        strays = λ q known. gone.strays q (stopped.leaves.strays q known);
        any_moment = λ now. moments stopped.next stopped.leaves now;
        loads = gone.loads + stopped.loads;
        few = λ many least have.
            let parts = have_split u.told.blobs S versions ((set, number) ∷ rest) many least (subst (λ (l : List (ℕ × ℕ)). HaveFirst u.told.blobs S l many least) are have) in
            let first = have_same u.told.blobs S versions recipes gone.loads parts.0 parts.1 gone.have parts.4 in
            let head = have_head u.told.blobs S (set, number) rest parts.2 parts.3 parts.5 in
            let low = halted.few head.0 head.1 (have_moved u.told.blobs v.told.blobs S set number head.0 head.1 untouched head.2) in
            omega (arith, first, low, head.3, parts.6);
        gets = stopped.gets ∙ ap (λ (g : ℕ). counted_up g stopped.loads) gone.gets ∙ counted_up_twice u.told.gets gone.loads stopped.loads;
        damage = stopped.damage;
        sound = stopped.sound;
      }

-- ---- the start, and from set to set

pub at_start : (u : View) (S : State) (other : Option Change) → IsStateOf u S other → Gone u u S other 0 0 [] 0
at_start u S other here = record {
  next = other;
  keeps = here;
  next_other = inr refl;
  done = λ s n j is before. absurd (⊎_elim (λ (low : s < 0). let e : ⊥ = omega (arith, low) in e) (λ (both : (s ≡ 0) × (n < 0)). let e : ⊥ = omega (arith, both.1) in e) before);
  rest = λ s n j is not. refl;
  strays = λ q known. known;
  any_moment = λ now. stays (IsNear S other) u.told.history u.told.history refl now;
  behind = λ now. now;
  loads = 0;
  have = (refl, refl);
  gets = refl;
}

-- the kept versions of the sets before one, and those of that set below a number
abbrev pub up_to : State → ℕ → ℕ → List (ℕ × ℕ)
up_to S set number = versions_below S set ++ versions_from set (floor_of S set) (number - floor_of S set)

-- in a set, at a version that is kept or behind the latest
pub record InSet (u v : View) (S : State) (other : Option Change) (set number recipes : ℕ) : Type 0 where
  pub low : floor_of S set ≤ number
  pub high : number ≤ latest_of S set + 1
  pub gone : Gone u v S other set number (up_to S set number) recipes

-- the place is told in another way
module _ (u v : View) (S : State) (other : Option Change) (set number t m recipes : ℕ) (versions ws : List (ℕ × ℕ)) (same : versions ≡ ws)
    (there : (s n : ℕ) (j : KeptVersion) → version_of S s n ≡ Some j → IsBefore s n t m → IsBefore s n set number)
    (back : (s n : ℕ) (j : KeptVersion) → version_of S s n ≡ Some j → IsBefore s n set number → IsBefore s n t m) where
  replaced : Gone u v S other set number versions recipes → Gone u v S other t m ws recipes
  replaced gone = record {
    next = gone.next;
    keeps = gone.keeps;
    next_other = gone.next_other;
    done = λ s n j is before. gone.done s n j is (there s n j is before);
    rest = λ s n j is not. gone.rest s n j is (λ before. not (back s n j is before));
    strays = gone.strays;
    any_moment = gone.any_moment;
    behind = gone.behind;
    loads = gone.loads;
    have = subst (λ (l : List (ℕ × ℕ)). HaveFirst u.told.blobs S l recipes gone.loads) same gone.have;
    gets = gone.gets;
  }

pub enter_set : (u v : View) (S : State) (other : Option Change) (set recipes floor : ℕ) → floor ≡ floor_of S set → Gone u v S other set 0 (versions_below S set) recipes → InSet u v S other set floor recipes
enter_set u v S other set recipes floor is gone =
    let pos = floor_pos S set (valid_of v S gone.next gone.keeps) in
    record {
      low = omega (arith, is);
      high = omega (arith, is, pos);
      gone = replaced u v S other set 0 set floor recipes (versions_below S set) (up_to S set floor) lists there back gone;
    }
  where
    none : floor - floor_of S set ≡ 0
    none = omega (arith, is)

    lists : versions_below S set ≡ up_to S set floor
    lists = sym (ap (λ (i : ℕ). versions_below S set ++ versions_from set (floor_of S set) i) none ∙ append-nil (versions_below S set))

    there : (s n : ℕ) (j : KeptVersion) → version_of S s n ≡ Some j → IsBefore s n set floor → IsBefore s n set 0
    there s n j at (inl low) = inl low
    there s n j at (inr both) =
        let low = version_low S s n j at in
        let floors : floor_of S s ≡ floor = ap (floor_of S) both.0 ∙ sym is in
        absurd (omega (arith, low, both.1, floors))

    back : (s n : ℕ) (j : KeptVersion) → version_of S s n ≡ Some j → IsBefore s n set 0 → IsBefore s n set floor
    back s n j at (inl low) = inl low
    back s n j at (inr both) = absurd (omega (arith, both.1))

pub leave_set : (u v : View) (S : State) (other : Option Change) (set number recipes : ℕ) → latest_of S set < number → InSet u v S other set number recipes → Gone u v S other (set + 1) 0 (versions_below S (set + 1)) recipes
leave_set u v S other set number recipes over here = replaced u v S other set number (set + 1) 0 recipes (up_to S set number) (versions_below S (set + 1)) lists there back here.gone
  where
    many : number - floor_of S set ≡ length (dataset S set).versions
    many = let high = here.high in let pos = floor_pos S set (valid_of v S here.gone.next here.gone.keeps) in omega (arith, over, high, pos)

    lists : up_to S set number ≡ versions_below S (set + 1)
    lists = ap (λ (i : ℕ). versions_below S set ++ versions_from set (floor_of S set) i) many ∙ ap (versions_below S) (let e : suc set ≡ set + 1 = omega arith in e)

    there : (s n : ℕ) (j : KeptVersion) → version_of S s n ≡ Some j → IsBefore s n (set + 1) 0 → IsBefore s n set number
    there s n j at (inr both) = absurd (omega (arith, both.1))
    there s n j at (inl low) = ⊎_elim
        (λ below. inl below)
        (λ high.
        let same : s ≡ set = omega (arith, low, high) in
        let latest = version_high S s n j at in
        let one : latest_of S s ≡ latest_of S set = ap (latest_of S) same in
        inr (same, omega (arith, latest, one, over)))
        (below_or_not s set)

    back : (s n : ℕ) (j : KeptVersion) → version_of S s n ≡ Some j → IsBefore s n set number → IsBefore s n (set + 1) 0
    back s n j at (inl low) = inl (omega (arith, low))
    back s n j at (inr both) = inl (omega (arith, both.0))

-- the next version of the set
pub next_version : (u v w : View) (S : State) (other : Option Change) (set number recipes : ℕ) (put : Bool) (here : InSet u v S other set number recipes) → (k : KeptVersion) → version_of S set number ≡ Some k
    → Went v w S here.gone.next set number put → InSet u w S other set (number + 1) (recipes + (cond put 1 0))
next_version u v w S other set number recipes put here k kept went = record {
  low = (let low = here.low in omega (arith, low));
  high = (let high = version_high S set number k kept in omega (arith, high));
  gone = subst (λ (l : List (ℕ × ℕ)). Gone u w S other set (number + 1) l (recipes + (cond put 1 0))) lists
      (one_more u v w S other set number (up_to S set number) recipes here.gone k kept put went);
}
  where
    steps : suc (number - floor_of S set) ≡ number + 1 - floor_of S set
    steps = let low = here.low in omega (arith, low)

    place : floor_of S set + (number - floor_of S set) ≡ number
    place = let low = here.low in omega (arith, low)

    lists : up_to S set number ++ (set, number) ∷ [] ≡ up_to S set (number + 1)
    lists =
        append_assoc (versions_below S set) (versions_from set (floor_of S set) (number - floor_of S set)) ((set, number) ∷ [])
        ∙ ap (λ (m : ℕ). versions_below S set ++ (versions_from set (floor_of S set) (number - floor_of S set) ++ (set, m) ∷ [])) (sym place)
        ∙ ap (λ (i : ℕ). versions_below S set ++ versions_from set (floor_of S set) i) steps

-- the list of all kept versions goes on behind each of them

below_goes_on : (S : State) (a b : ℕ) → a ≤ b → (rest : List (ℕ × ℕ)) × (versions_below S b ≡ versions_below S a ++ rest)
below_goes_on S a zero low = ([], ap (versions_below S) (let e : 0 ≡ a = omega (arith, low) in e) ∙ sym (append-nil (versions_below S a)))
below_goes_on S a (suc b) low = by_last (λ more_low. below_goes_on S a b more_low) (below_or_not b a)
  where
    by_last : (a ≤ b → (rest : List (ℕ × ℕ)) × (versions_below S b ≡ versions_below S a ++ rest)) → (b < a) ⊎ (a ≤ b) → (rest : List (ℕ × ℕ)) × (versions_below S (suc b) ≡ versions_below S a ++ rest)
    by_last earlier (inl high) = ([], ap (versions_below S) (let e : suc b ≡ a = omega (arith, low, high) in e) ∙ sym (append-nil (versions_below S a)))
    by_last earlier (inr more_low) =
        let h = earlier more_low in (
          h.0 ++ versions_from b (floor_of S b) (length (dataset S b).versions),
          ap (λ (l : List (ℕ × ℕ)). l ++ versions_from b (floor_of S b) (length (dataset S b).versions)) h.1 ∙ append_assoc (versions_below S a) h.0 (versions_from b (floor_of S b) (length (dataset S b).versions)),
        )

kept_goes_on : (S : State) → IsValid S → (set number : ℕ) → set < length S.datasets → floor_of S set ≤ number → number ≤ latest_of S set → (rest : List (ℕ × ℕ)) × (kept_versions S ≡ up_to S set number ++ (set, number) ∷ rest)
kept_goes_on S valid set number below low high =
    let pos = floor_pos S set valid in
    let many : ℕ = length (dataset S set).versions in
    let from : ℕ = floor_of S set in
    let i : ℕ = number - floor_of S set in
    let one = below_goes_on S (suc set) (length S.datasets) (omega (arith, below)) in
    let two = from_goes_on set from (suc i) many (omega (arith, low, high, pos)) in
    let place : from + i ≡ number = omega (arith, low) in (
      two.0 ++ one.0,
      one.1
          ∙ ap (λ (l : List (ℕ × ℕ)). (versions_below S set ++ l) ++ one.0) two.1
          ∙ ap (λ (m : ℕ). (versions_below S set ++ ((versions_from set from i ++ (set, m) ∷ []) ++ two.0)) ++ one.0) place
          ∙ regroup (versions_below S set) (versions_from set from i) (set, number) two.0 one.0,
    )
  where
    regroup : (a b : List (ℕ × ℕ)) (x : ℕ × ℕ) (c d : List (ℕ × ℕ)) → (a ++ ((b ++ x ∷ []) ++ c)) ++ d ≡ (a ++ b) ++ x ∷ (c ++ d)
    regroup a b x c d =
        append_assoc a ((b ++ x ∷ []) ++ c) d
        ∙ ap (λ (l : List (ℕ × ℕ)). a ++ l) (append_assoc (b ++ x ∷ []) c d ∙ append_assoc b (x ∷ []) (c ++ d))
        ∙ sym (append_assoc a b (x ∷ (c ++ d)))

pub stops_in_set : (u v w : View) (S : State) (other : Option Change) (set number recipes : ℕ) (f : Fault) (here : InSet u v S other set number recipes) → set < length S.datasets → (k : KeptVersion) → version_of S set number ≡ Some k
    → Halted v w S here.gone.next set number f → HasEndedBy u w S other f
stops_in_set u v w S other set number recipes f here below k kept halted =
    let high = version_high S set number k kept in
    let goes = kept_goes_on S (valid_of v S here.gone.next here.gone.keeps) set number below here.low high in
    stopped_here u v w S other set number (up_to S set number) recipes here.gone k kept f goes.0 goes.1 halted

-- ---- the same in each state that is kept, from what the calls tell

abbrev pub InEach : View → (State → Option Change → Type 0) → Type 0
InEach u P = (S : State) (other : Option Change) → IsStateOf u S other → P S other

over_latest : (S : State) (s v : ℕ) → floor_of S s ≤ v → is_kept S s v ≡ false → latest_of S s < v
over_latest S s v low not = by_test (floor_of S s) v (latest_of S s) low not
  where
    by_test : (f v l : ℕ) → f ≤ v → (nat_le f v && nat_le v l) ≡ false → l < v
    by_test f v l low not = grind (arith, nat_tests)

kept_version : (v : View) (S : State) (other : Option Change) (set number : ℕ) → IsStateOf v S other → ((K : Core) → Keeps v K → true ≡ is_kept K.state set number) → (k : KeptVersion) × (version_of S set number ≡ Some k)
kept_version v S other set number is kept = version_there S set number (valid_of v S other is) (subst (λ (T : State). is_kept T set number ≡ true) is.state (sym (kept is.core is.keeps)))

module _ (u v : View) (set : ℕ) where
  pub enter_here : (recipes floor : ℕ) → ((K : Core) → Keeps v K → floor ≡ floor_of K.state set) → InEach u (λ S other. Gone u v S other set 0 (versions_below S set) recipes) → InEach u (λ S other. InSet u v S other set floor recipes)
  enter_here recipes floor floors gone S other here =
      let g = gone S other here in
      enter_set u v S other set recipes floor (floors g.keeps.core g.keeps.keeps ∙ ap (λ (T : State). floor_of T set) g.keeps.state) g

  pub leave_here : (number recipes : ℕ) → ((K : Core) → Keeps v K → false ≡ is_kept K.state set number) → InEach u (λ S other. InSet u v S other set number recipes) → InEach u (λ S other. Gone u v S other (set + 1) 0 (versions_below S (set + 1)) recipes)
  leave_here number recipes not each S other here =
      let g = each S other here in
      let is = g.gone.keeps in
      leave_set u v S other set number recipes (over_latest S set number g.low (subst (λ (T : State). is_kept T set number ≡ false) is.state (sym (not is.core is.keeps)))) g

  module _ (w : View) (number recipes : ℕ) (kept : (K : Core) → Keeps v K → true ≡ is_kept K.state set number) (each : InEach u (λ S other. InSet u v S other set number recipes)) where
    pub next_here : (put : Bool) → InEach v (λ S other. Went v w S other set number put) → InEach u (λ S other. InSet u w S other set (number + 1) (recipes + (cond put 1 0)))
    next_here put went S other here =
        let g = each S other here in
        let k = kept_version v S g.gone.next set number g.gone.keeps kept in
        next_version u v w S other set number recipes put g k.0 k.1 (went S g.gone.next g.gone.keeps)

    pub stop_here : (f : Fault) → set < 256 → InEach v (λ S other. Halted v w S other set number f) → InEach u (λ S other. HasEndedBy u w S other f)
    stop_here f below halted S other here =
        let g = each S other here in
        let is = g.gone.keeps in
        let k = kept_version v S g.gone.next set number is kept in
        let sets = (valid_of v S g.gone.next is).sets in
        stops_in_set u v w S other set number recipes f g (omega (arith, below, sets)) k.0 k.1 (halted S g.gone.next is)

-- all sets were gone through
pub all_sets : (u v : View) (number recipes : ℕ) → number ≡ 256 → InEach u (λ S other. Gone u v S other number 0 (versions_below S number) recipes) → InEach u (λ S other. AllDone u v S other recipes)
all_sets u v number recipes all gone S other here =
    let g = gone S other here in
    let sets = (valid_of v S g.next g.keeps).sets in
    subst (λ (n : ℕ). Gone u v S other n 0 (versions_below S n) recipes) (all ∙ sym sets) g

-- what an early return hands out
pub err_again : {T E : Type 0} (P : E → Type 0) (r : Result T E) (e : E) → IsErrAnd r (λ f. f ≡ e) → P e → IfErr r P
err_again P (Ok x) e is h = absurd is
err_again P (Err f) e is h = subst P (sym is) h

-- a latest version leaves room for its successor
pub kept_low : (v : View) (K : Core) (set number : ℕ) → Keeps v K → true ≡ is_kept K.state set number → number ≤ 4294967294
kept_low v K set number keeps kept =
    let k = version_there K.state set number keeps.core.state (sym kept) in
    let high = version_high K.state set number k.0 k.1 in
    let last = latest_low K.state set keeps.core.state in
    omega (arith, high, last)
