-- What loads leave of a keeper, and of the copy that they serve.
use Rattle.std.proofs.Common.{◌≡◌, ◌≢◌, inl, inr, ⊎_elim, ℕ, suc, ◌+◌, ◌<◌, ◌≤◌, true, IsTrue, List, [], ◌∷◌, ◌++◌, take, drop, length, map, Option, Some, None, Result, Ok, Err, All, refl, sym, ap, subst, ◌∙◌, arith, add-one, append_assoc}
use Rattle.std.specs.Prelude.{IfSome, IsSome, IsSomeAnd, IsErrAnd, IfErr, OnOk}
use Rattle.std.specs.List.{AllByRecursion}
use Rattle.std.proofs.lemmas.List.{take-append-drop, append-nil, length-append}
use Rattle.std.proofs.lemmas.List.Concat.{flat_map-append}
use Rattle.vault_types.specs.declared.Fault.{Fault}
use Rattle.vault_types.specs.declared.Fault.TheVariants as fault
use Rattle.vault_types.specs.declared.Kind.TheVariants as kind
use Rattle.vault_types.specs.declared.Spot.{Spot}
use Rattle.vault_types.specs.declared.Step.{Step}
use Rattle.vault_types.specs.declared.Step.TheVariants.{Load, Serve}
use Rattle.vault_types.specs.declared.Whole.{Whole}
use Rattle.vault_types.specs.declared.Why.TheVariants as why
use Rattle.vault_types.specs.Bytes.{spot_bytes}
use Rattle.vault_types.specs.Lists.{has}
use Rattle.vault_types.specs.Plans.{requests, serves, loads, rule_plan, IsLeast}
use Rattle.vault_types.specs.Shelf.{Blobs}
use Rattle.vault_types.specs.Tables.{Container}
use Rattle.vault_types.specs.Events.{Core, Pin}
use Rattle.vault_traits.specs.Counts.{counted, counted_up, Rose}
use Rattle.vault_traits.specs.Told.{SinkTold, Takes}
use Rattle.vault_traits.specs.Causes.{HasCauses, IsCause}
use Rattle.vault_types.specs.BlobDamage.{IsPayloadOf, IsPayloadDamage}
use Rattle.keeper_catalog.specs.View.{View, Keeps}
use Rattle.keeper_core.specs.Calls.{Lists, HasListed}
use Rattle.store_model.specs.Calls.{IsShortAt}
use Rattle.commit_laws.proofs.Listing.{all_append, all_right, all_weaker, all_of, all_at, contains_of}
use Rattle.state_laws.proofs.Members.{of_map, in_map}
use Rattle.restore_assembler.specs.Copying.{Copying, wanted, IsCovered, IsWanted, HasCopied, IsTakenAt, version_bytes}
use Rattle.restore_assembler.specs.Copying as copying
use Rattle.restore_assembler.specs.Payloads.{Covers, Fits}
use Rattle.vault_traits.proofs.Written.{takes_nothing}
use Rattle.serial_restore.specs.Going.{Stays, HasPinned, AreGiven, IsFull, IsFullAt, IsLoadOf, HasTakenFront, IsWrongSum, IsCopyFault, IsFoundOf, HasSum, LoadsOne, StopsAt, Underway, HasDone, IsCopied, IsRestoreStopped, IsAtMostLeast}
use Rattle.belady_cache.proofs.Steps.{loads_append}
use Rattle.serial_restore.proofs.Plans.{rule_loads, next_among, wanted_next, wanted_loads, one_loaded, loads_parts, front_serves, all_loaded, all_loads, at_most}

-- facts of a result

pub ok_from_four : {T E A B C D Q : Type 0} (r : Result T E) → (A → B → C → D → Q) → OnOk r A → OnOk r B → OnOk r C → OnOk r D → OnOk r Q
ok_from_four (Ok x) f a b c d = f a b c d
ok_from_four (Err e) f a b c d = tt

pub err_from_two : {T E : Type 0} (P Q R : E → Type 0) (r : Result T E) → ((e : E) → P e → Q e → R e) → IfErr r P → IfErr r Q → IfErr r R
err_from_two P Q R (Ok x) f p q = tt
err_from_two P Q R (Err e) f p q = f e p q

-- what an early return hands out
pub stopped_as : {T E : Type 0} (P : E → Type 0) (r : Result T E) (e : E) → IsErrAnd r (λ f. f ≡ e) → P e → IfErr r P
stopped_as P (Ok x) e is h = tt
stopped_as P (Err f) e is h = subst P (sym is) h

-- what stays

pub stays_same : (v : View) → Stays v v
stays_same v = record { memo = refl; index = refl; pins = refl; job = refl; pending = refl; blobs = refl; history = refl; later = omega arith; keeps = λ K keeps. keeps }

pub stays_then : (u v w : View) → Stays u v → Stays v w → Stays u w
stays_then u v w a b = record {
  memo = b.memo ∙ a.memo;
  index = b.index ∙ a.index;
  pins = b.pins ∙ a.pins;
  job = b.job ∙ a.job;
  pending = b.pending ∙ a.pending;
  blobs = b.blobs ∙ a.blobs;
  history = b.history ∙ a.history;
  later = omega (arith, a.later, b.later);
  keeps = λ K keeps. b.keeps K (a.keeps K keeps);
}

pub pinned_stays : (v w : View) (number : ℕ) (spots : List Spot) (K : Core) → Stays v w → HasPinned v number spots K → HasPinned w number spots K
pinned_stays v w number spots K stays pinned = record { keeps = stays.keeps K pinned.keeps; listed = pinned.listed }

given_stays : (v w : View) (number : ℕ) (spots : List Spot) (payloads : ℕ → List ℕ) → Stays v w → AreGiven v number spots payloads → AreGiven w number spots payloads
given_stays v w number spots payloads stays given = record {
  tells = subst (λ (b : Option Blobs). IsSome b) (sym stays.blobs) given.tells;
  core = given.core;
  pinned = pinned_stays v w number spots given.core stays given.pinned;
  are = given.are;
}

full_stays : (v w : View) (number : ℕ) (spots : List Spot) (id : ℕ) → Stays v w → IsFull w number spots id → IsFull v number spots id
full_stays v w number spots id stays full tells K c pinned lists =
    full (subst (λ (b : Option Blobs). IsSome b) (sym stays.blobs) tells) K c (pinned_stays v w number spots K stays pinned) lists

-- the container of a spot's id
pub listed_at : (pins : List Pin) (number : ℕ) (spots : List Spot) (id : ℕ) → AllByRecursion (HasListed pins number) spots → has id (map (λ s. s.id) spots) ≡ true → (c : Container) × Lists pins number id c
listed_at pins number spots id all h =
    let found = of_map (λ (s : Spot). s.id) spots id h in
    let at = all_at (HasListed pins number) spots found.0 all found.1 in
    (at.0, subst (λ (n : ℕ). Lists pins number n at.0) found.2 at.1)

-- faults

module _ (v w : View) (before now : SinkTold) (pins : List Pin) (number : ℕ) (whole : Option Whole) where
  load_fault : (id : ℕ) (c : Container) → Lists pins number id c → (f : Fault) → IsCause v.told.faults w.told.faults (IsPayloadDamage v.told.blobs c.table) f → IsCopyFault v w before now pins number whole f
  load_fault id c lists (fault.StoreFault n) h = h
  load_fault id c lists (fault.Damaged k n y) h = inr (id, c, lists, h)
  load_fault id c lists fault.Memory h = tt
  load_fault id c lists other h = absurd h

  give_fault : (f : Fault) → copying.IsOutputFault whole before now f → IsCopyFault v w before now pins number whole f
  give_fault (fault.WriteFault n) h = h
  give_fault (fault.Damaged kind.Recipe n (why.Whole want found)) h = inl h
  give_fault other h = absurd h

load_found : (bytes : List ℕ) (a b : ℕ) (told : Option Blobs) (c : Container) (f : Fault) → IsCause a b (IsPayloadDamage told c.table) f → IsFoundOf bytes f
load_found bytes a b told c (fault.Damaged kind.Recipe n (why.Whole want found)) h = absurd h
load_found bytes a b told c other h = tt

taken_found : (bytes : List ℕ) (before now : SinkTold) (f : Fault) → IsTakenAt bytes before now f → IsFoundOf bytes f
taken_found bytes before now (fault.Damaged kind.Recipe n (why.Whole want found)) h = h.0
taken_found bytes before now other h = tt

load_short : (bytes : List ℕ) (before now : Option (List ℕ)) (a b : ℕ) (told : Option Blobs) (c : Container) (f : Fault) → IsCause a b (IsPayloadDamage told c.table) f → IsShortAt bytes before now f
load_short bytes before now a b told c (fault.WriteFault n) h = absurd h
load_short bytes before now a b told c (fault.Damaged kind.Recipe n (why.Whole want found)) h = absurd h
load_short bytes before now a b told c other h = tt

taken_short : (bytes : List ℕ) (before now : SinkTold) (f : Fault) → IsTakenAt bytes before now f → IsShortAt bytes before.taken now.taken f
taken_short bytes before now (fault.WriteFault n) h =
    let parts : length (h.0 ++ h.1) ≡ length bytes = ap length h.2 in
    let sum : length (h.0 ++ h.1) ≡ length h.0 + length h.1 = length-append h.0 h.1 in
    let some : 0 < length h.1 = h.3 in
    (h.0, h.4, omega arith)
taken_short bytes before now (fault.Damaged kind.Recipe n (why.Whole want found)) h = h.1
taken_short bytes before now other h = tt

taken_front : (bytes : List ℕ) (before now : SinkTold) (f : Fault) → IsTakenAt bytes before now f → HasTakenFront before now bytes
taken_front bytes before now (fault.WriteFault n) h = record { front = h.0; rest = h.1; parts = h.2; taken = h.4 }
taken_front bytes before now (fault.Damaged k n (why.Whole want found)) h = record { front = bytes; rest = []; parts = simp append-nil; taken = h.1 }
taken_front bytes before now other h = absurd h

-- a count that rose from a later one rose
pub rose_from : (old before now : ℕ) → old ≤ before → Rose before now → Rose old now
rose_from old before now later rose = grind arith

later_fault : (u v w : View) (before mid now : SinkTold) (pins : List Pin) (number : ℕ) (one two : Option Whole) → Stays u v → before.faults ≤ mid.faults → two ≡ one → (f : Fault) → IsCopyFault v w mid now pins number two f → IsCopyFault u w before now pins number one f
later_fault u v w before mid now pins number one two stays later same (fault.StoreFault n) h = (h.0, rose_from u.told.faults v.told.faults w.told.faults stays.later h.1)
later_fault u v w before mid now pins number one two stays later same (fault.WriteFault n) h = (h.0, rose_from before.faults mid.faults now.faults later h.1)
later_fault u v w before mid now pins number one two stays later same (fault.Damaged k n y) h = ⊎_elim
    (λ wrong. inl (subst (λ (o : Option Whole). IsWrongSum o k n y) same wrong))
    (λ bad. inr (bad.0, bad.1, bad.2, subst (λ (b : Option Blobs). IsPayloadDamage b bad.1.table k n y) stays.blobs bad.3))
    h
later_fault u v w before mid now pins number one two stays later same fault.Memory h = tt
later_fault u v w before mid now pins number one two stays later same other h = absurd h

-- one load

module _ (v w : View) (number id : ℕ) (s : Copying) (next : wanted s ≡ Some id) (among : has id (map (λ q. q.id) s.spots) ≡ true) (K : Core) (pinned : HasPinned v number s.spots K) where
  the : (c : Container) × Lists K.pins number id c
  the = listed_at K.pins number s.spots id pinned.listed among

  pub load_needs : (J : Core) × (c : Container) × Keeps v J × Lists J.pins number id c
  unfolding the
  load_needs = (K, the.0, pinned.keeps, the.1)

  -- the payload that is loaded
  module _ (bytes : List ℕ) (whole : (J : Core) (c : Container) → Keeps v J → Lists J.pins number id c → IsPayloadOf c.table bytes) where
    fits_all : (spots : List Spot) → AllByRecursion (HasListed K.pins number) spots → AllByRecursion (Fits id bytes) spots
    fits_all spots all = all_weaker (HasListed K.pins number) (Fits id bytes) spots
        (λ spot listed same.
        let l : Lists K.pins number id listed.0 = subst (λ (n : ℕ). Lists K.pins number n listed.0) same listed.1 in
        let p = whole K listed.0 pinned.keeps l in
        let a = listed.2 in
        let b = p.len in
        omega (arith, a, b))
        all

    pub covered : IsCovered s bytes
    covered = at (wanted s) next
      where
        at : (o : Option ℕ) → o ≡ Some id → IsSomeAnd o (λ n. Covers n bytes s.spots)
        at None e = absurd (let f : ◌≡◌ {A = Option ℕ} None (Some id) = e in cc)
        at (Some n) e = let f : id ≡ n = cc in subst (λ (m : ℕ). Covers m bytes s.spots) f (fits_all s.spots pinned.listed)

    module _ (given : IsSome v.told.blobs → (J : Core) (c : Container) → Keeps v J → Lists J.pins number id c → c.payload ≡ Some bytes) where
      pub full_one : IsFull v number s.spots id
      full_one tells J c held lists = (bytes, given tells J c held.keeps lists, (whole J c held.keeps lists).len)

      pub wanted_one : (payloads : ℕ → List ℕ) → AreGiven v number s.spots payloads → IsWanted payloads s bytes
      wanted_one payloads are = at (wanted s) next
        where
          at : (o : Option ℕ) → o ≡ Some id → IfSome o (λ n. bytes ≡ payloads n)
          at None e = tt
          at (Some n) e =
              let f : id ≡ n = cc in
              let l = listed_at are.core.pins number s.spots id are.pinned.listed among in
              subst (λ (m : ℕ). bytes ≡ payloads m) f (sym (are.are id l.0 bytes l.1 (given are.tells are.core l.0 are.pinned.keeps l.1) (whole are.core l.0 are.pinned.keeps l.1).len))

  load_later : {T : Type 0} (r : Result T Fault) → ((J : Core) (c : Container) → Keeps v J → Lists J.pins number id c → HasCauses v.told.faults w.told.faults (IsPayloadDamage v.told.blobs c.table) r) → v.told.faults ≤ w.told.faults
  unfolding the
  load_later r causes = (causes K the.0 pinned.keeps the.1).later

  pub load_stays : {T : Type 0} (r : Result T Fault) → ((J : Core) → Keeps v J → Keeps w J) → (w.memo ≡ v.memo) × (w.index ≡ v.index) × (w.pins ≡ v.pins) × (w.job ≡ v.job) × (w.pending ≡ v.pending)
      → (w.told.blobs ≡ v.told.blobs) × (w.told.history ≡ v.told.history) × (w.told.gets ≡ counted v.told.gets)
      → ((J : Core) (c : Container) → Keeps v J → Lists J.pins number id c → HasCauses v.told.faults w.told.faults (IsPayloadDamage v.told.blobs c.table) r) → Stays v w
  load_stays r keeps same shelf causes = record {
    memo = same.0;
    index = same.1;
    pins = same.2;
    job = same.3;
    pending = same.4;
    blobs = shelf.0;
    history = shelf.1;
    later = load_later r causes;
    keeps = keeps;
  }

  module _ (before now : SinkTold) where
    -- the load failed
    pub stops_load : (stays : Stays v w) → w.told.gets ≡ counted v.told.gets → (f : Fault)
        → ((J : Core) (c : Container) → Keeps v J → Lists J.pins number id c → IsCause v.told.faults w.told.faults (IsPayloadDamage v.told.blobs c.table) f) → StopsAt v w number before before s f
    unfolding the
    stops_load stays gets f cause = record {
      stays = stays;
      later = omega arith;
      gets = gets;
      cause = λ J held.
          let l = listed_at J.pins number s.spots id held.listed among in
          load_fault v w before before J.pins number s.whole id l.0 l.1 f (cause J l.0 held.keeps l.1);
      front = λ payloads start given copied. record {
        front = version_bytes payloads (take s.done s.spots);
        rest = version_bytes payloads (drop s.done s.spots);
        parts = sym (flat_map-append (spot_bytes payloads) (take s.done s.spots) (drop s.done s.spots)) ∙ ap (version_bytes payloads) (take-append-drop s.done s.spots);
        taken = copied.taken;
      };
      found = λ payloads start given copied. load_found (version_bytes payloads s.spots) v.told.faults w.told.faults v.told.blobs the.0 f (cause K the.0 pinned.keeps the.1);
      short = λ payloads start given copied. load_short (version_bytes payloads s.spots) start.taken before.taken v.told.faults w.told.faults v.told.blobs the.0 f (cause K the.0 pinned.keeps the.1);
    }

    module _ (bytes : List ℕ) (wants : (payloads : ℕ → List ℕ) → AreGiven v number s.spots payloads → IsWanted payloads s bytes) where
      -- its payload was taken
      pub loads_one : {T : Type 0} (r : Result T Fault) (t : Copying) → Stays v w → w.told.gets ≡ counted v.told.gets → IsFull v number s.spots id → t.spots ≡ s.spots → t.whole ≡ s.whole
          → before.faults ≤ now.faults → OnOk r (loads t.steps + 1 ≡ loads s.steps) → OnOk r ((k : ℕ) × (t.steps ≡ drop k s.steps))
          → OnOk r ((payloads : ℕ → List ℕ) (start : SinkTold) → HasCopied payloads start before s → IsWanted payloads s bytes → HasCopied payloads start now t)
          → OnOk r ((payloads : ℕ → List ℕ) (start : SinkTold) → HasCopied payloads start before s → IsWanted payloads s bytes → wanted t ≡ None → HasSum payloads s.spots s.whole)
          → OnOk r (LoadsOne v w number id before now s t)
      loads_one r t stays gets full spots whole later = ok_from_four r (λ fewer behind copied sum. record {
        stays = stays;
        later = later;
        spots = spots;
        whole = whole;
        gets = gets;
        fewer = fewer;
        behind = behind;
        full = full;
        copied = λ payloads start given was. copied payloads start was (wants payloads given);
        sum = λ none payloads start given was. sum payloads start was (wants payloads given) none;
      })

      -- or the sink failed, or the sum is wrong
      pub stops_give : {T : Type 0} (r : Result T Fault) → Stays v w → before.faults ≤ now.faults → w.told.gets ≡ counted v.told.gets
          → IfErr r (copying.IsOutputFault s.whole before now)
          → IfErr r (λ f. (payloads : ℕ → List ℕ) (start : SinkTold) → HasCopied payloads start before s → IsWanted payloads s bytes → IsTakenAt (version_bytes payloads s.spots) start now f)
          → IfErr r (StopsAt v w number before now s)
      stops_give r stays later gets = err_from_two (copying.IsOutputFault s.whole before now) (λ f. (payloads : ℕ → List ℕ) (start : SinkTold) → HasCopied payloads start before s → IsWanted payloads s bytes → IsTakenAt (version_bytes payloads s.spots) start now f) (StopsAt v w number before now s) r
          (λ f cause taken. record {
            stays = stays;
            later = later;
            gets = gets;
            cause = λ J held. give_fault v w before now J.pins number s.whole f cause;
            front = λ payloads start given copied. taken_front (version_bytes payloads s.spots) start now f (taken payloads start copied (wants payloads given));
            found = λ payloads start given copied. taken_found (version_bytes payloads s.spots) start now f (taken payloads start copied (wants payloads given));
            short = λ payloads start given copied. taken_short (version_bytes payloads s.spots) start now f (taken payloads start copied (wants payloads given));
          })

-- some loads

counted_next : (g n m a b : ℕ) → a ≡ counted_up g n → b ≡ counted a → m ≡ n + 1 → b ≡ counted_up g m
counted_next g n m a b was is more = is ∙ ap counted was ∙ ap (counted_up g) (sym (more ∙ add-one n))

no_spots : (spots : List Spot) → length spots ≡ 0 → spots ≡ []
no_spots [] none = refl
no_spots (q ∷ spots) none = absurd (let e : suc (length spots) ≡ 0 = none in omega (arith, e))

module _ (v : View) (number : ℕ) (before : SinkTold) (s : Copying) where
  pub begins : ((payloads : ℕ → List ℕ) (told : SinkTold) → HasCopied payloads told told s) → Underway v v number before before s s
  begins fresh = record {
    stays = stays_same v;
    later = omega arith;
    spots = refl;
    whole = refl;
    done = [];
    parts = refl;
    gets = refl;
    full = tt;
    copied = λ payloads given. fresh payloads before;
    sum = inl refl;
  }

  module _ (w : View) (mid : SinkTold) (t : Copying) (way : Underway v w number before mid s t) where
    way_given : (payloads : ℕ → List ℕ) → AreGiven v number s.spots payloads → AreGiven w number t.spots payloads
    way_given payloads given = subst (λ (spots : List Spot). AreGiven w number spots payloads) (sym way.spots) (given_stays v w number s.spots payloads way.stays given)

    pub way_pinned : (K : Core) → HasPinned v number s.spots K → HasPinned w number t.spots K
    way_pinned K pinned = subst (λ (spots : List Spot). HasPinned w number spots K) (sym way.spots) (pinned_stays v w number s.spots K way.stays pinned)

    pub way_needs : (K : Core) × HasPinned v number s.spots K → (K : Core) × HasPinned w number t.spots K
    way_needs given = (given.0, way_pinned given.0 given.1)

    pub way_among : (id : ℕ) → AllByRecursion (IsLoadOf (map (λ q. q.id) s.spots)) s.steps → wanted t ≡ Some id → has id (map (λ q. q.id) t.spots) ≡ true
    way_among id all next =
        subst (λ (spots : List Spot). has id (map (λ q. q.id) spots) ≡ true) (sym way.spots)
        (next_among (map (λ q. q.id) s.spots) t.steps id (all_right (IsLoadOf (map (λ q. q.id) s.spots)) way.done t.steps (subst (λ (steps : List Step). AllByRecursion (IsLoadOf (map (λ q. q.id) s.spots)) steps) (sym way.parts) all)) (wanted_next t id next))

    module _ (x : View) (now : SinkTold) (id : ℕ) (next : wanted t ≡ Some id) where
      pub goes_on : (u : Copying) → LoadsOne w x number id mid now t u → Underway v x number before now s u
      goes_on u one = record {
        stays = stays_then v w x way.stays one.stays;
        later = omega (arith, way.later, one.later);
        spots = one.spots ∙ way.spots;
        whole = one.whole ∙ way.whole;
        done = way.done ++ take one.behind.0 t.steps;
        parts = append_assoc way.done (take one.behind.0 t.steps) u.steps ∙ ap (λ (steps : List Step). way.done ++ (take one.behind.0 t.steps ++ steps)) one.behind.1
            ∙ ap (λ (steps : List Step). way.done ++ steps) (take-append-drop one.behind.0 t.steps) ∙ way.parts;
        gets = counted_next v.told.gets (loads way.done) (loads (way.done ++ take one.behind.0 t.steps)) w.told.gets x.told.gets way.gets one.gets (loads_parts way.done t.steps u.steps one.behind.0 one.behind.1 one.fewer);
        full = all_append (IsFullAt v number s.spots) way.done (take one.behind.0 t.steps) way.full
            (one_loaded (IsFullAt v number s.spots) (λ e. tt) tt one.behind.0 t.steps id (wanted_next t id next)
            (full_stays v w number s.spots id way.stays (subst (λ (spots : List Spot). IsFull w number spots id) way.spots one.full))
            (subst (λ (steps : List Step). loads steps + 1 ≡ loads t.steps) one.behind.1 one.fewer));
        copied = λ payloads given. one.copied payloads before (way_given payloads given) (way.copied payloads given);
        sum = inr (λ none payloads given.
            subst (λ (o : Option Whole). HasSum payloads s.spots o) way.whole
            (subst (λ (spots : List Spot). HasSum payloads spots t.whole) way.spots
            (one.sum none payloads before (way_given payloads given) (way.copied payloads given))));
      }

      pub stops : (f : Fault) → StopsAt w x number mid now t f → IsRestoreStopped v x number before now s.spots s.whole (λ m. m ≤ loads s.steps) f
      stops f at = record {
        stays = stays_then v w x way.stays at.stays;
        later = omega (arith, way.later, at.later);
        loads = suc (loads way.done);
        few =
            let a = loads_append way.done t.steps in
            let b : loads (way.done ++ t.steps) ≡ loads s.steps = ap loads way.parts in
            let c = wanted_loads t id next in
            omega (arith, a, b, c);
        gets = at.gets ∙ ap counted way.gets;
        cause = λ K pinned. later_fault v w x before mid now K.pins number s.whole t.whole way.stays way.later way.whole f (at.cause K (way_pinned K pinned));
        front = λ payloads given. subst (λ (spots : List Spot). HasTakenFront before now (version_bytes payloads spots)) way.spots (at.front payloads before (way_given payloads given) (way.copied payloads given));
        found = λ payloads given. subst (λ (spots : List Spot). IsFoundOf (version_bytes payloads spots) f) way.spots (at.found payloads before (way_given payloads given) (way.copied payloads given));
        short = λ payloads given. subst (λ (spots : List Spot). IsShortAt (version_bytes payloads spots) before.taken now.taken f) way.spots (at.short payloads before (way_given payloads given) (way.copied payloads given));
      }

    pub ends : s.done ≡ 0 → wanted t ≡ None → t.done ≡ length t.spots → All (λ step. step ≢ Serve) t.steps → ((payloads : ℕ → List ℕ) (a b : SinkTold) → HasCopied payloads a b t → Takes a.taken b.taken (version_bytes payloads t.spots)) → HasDone v w number before mid s
    ends start none over served all = record {
      stays = way.stays;
      later = way.later;
      done = way.done;
      rest = t.steps;
      parts = way.parts;
      served = served;
      gets = way.gets;
      full = way.full;
      taken = λ payloads given. subst (λ (spots : List Spot). Takes before.taken mid.taken (version_bytes payloads spots)) way.spots (all payloads before mid (way.copied payloads given));
      sum = ⊎_elim (λ same. inl (no_spots s.spots (sym (subst (λ (r : Copying). r.done ≡ length r.spots) same over) ∙ start))) (λ sum. inr (sum none)) way.sum;
    }

-- all loads

module _ (v : View) (number : ℕ) (before : SinkTold) (spots : List Spot) (whole : Option Whole) (slots : ℕ) where
  -- no memory for the plan
  pub stops_early : (f : Fault) → f ≡ fault.Memory → IsRestoreStopped v v number before before spots whole (IsAtMostLeast (requests (map (λ q. q.id) spots)) slots) f
  stops_early f is = subst (λ (g : Fault). IsRestoreStopped v v number before before spots whole (IsAtMostLeast (requests (map (λ q. q.id) spots)) slots) g) (sym is) (record {
    stays = stays_same v;
    later = omega arith;
    loads = 0;
    few = λ n least. omega arith;
    gets = refl;
    cause = λ K pinned. tt;
    front = λ payloads given. record { front = []; rest = version_bytes payloads spots; parts = refl; taken = takes_nothing before.taken };
    found = λ payloads given. tt;
    short = λ payloads given. tt;
  })

  module _ (w : View) (now : SinkTold) (s : Copying) (steps : List Step) (n : ℕ) (same : s.spots ≡ spots) (are : s.steps ≡ steps) (count : n ≡ loads steps) (least : IsLeast (requests (map (λ q. q.id) spots)) slots n) where
    pub stops_late : s.whole ≡ whole → (f : Fault) → IsRestoreStopped v w number before now s.spots s.whole (λ m. m ≤ loads s.steps) f → IsRestoreStopped v w number before now spots whole (IsAtMostLeast (requests (map (λ q. q.id) spots)) slots) f
    stops_late wholes f at =
        let here : IsRestoreStopped v w number before now s.spots s.whole (IsAtMostLeast (requests (map (λ q. q.id) spots)) slots) f = record {
          stays = at.stays;
          later = at.later;
          loads = at.loads;
          few = at_most (requests (map (λ q. q.id) spots)) slots n at.loads least (let a = at.few in let b : loads s.steps ≡ loads steps = ap loads are in omega (arith, a, b, count));
          gets = at.gets;
          cause = at.cause;
          front = at.front;
          found = at.found;
          short = at.short;
        } in
        subst (λ (o : Option Whole). IsRestoreStopped v w number before now spots o (IsAtMostLeast (requests (map (λ q. q.id) spots)) slots) f) wholes
        (subst (λ (ss : List Spot). IsRestoreStopped v w number before now ss s.whole (IsAtMostLeast (requests (map (λ q. q.id) spots)) slots) f) same here)

    pub copied_all : s.whole ≡ whole → IsTrue (serves slots [] steps (requests (map (λ q. q.id) spots))) → HasDone v w number before now s → IsCopied v w number before now spots whole slots n
    copied_all wholes served done =
        let alone : IsTrue (serves slots [] done.done (requests (map (λ q. q.id) spots))) =
        front_serves slots [] done.done done.rest (requests (map (λ q. q.id) spots)) (subst (λ (ss : List Step). IsTrue (serves slots [] ss (requests (map (λ q. q.id) spots)))) (sym (done.parts ∙ are)) served) done.served in
        record {
          stays = done.stays;
          later = done.later;
          least = least;
          gets = done.gets ∙ ap (counted_up v.told.gets) (sym (all_loads (requests (map (λ q. q.id) spots)) slots n steps done.done done.rest least count (done.parts ∙ are) alone));
          full = all_of (λ q. IsFull v number spots q.id) spots (λ q there.
              subst (λ (ss : List Spot). IsFull v number ss q.id) same
              (all_at (IsFullAt v number s.spots) done.done (Load q.id) done.full (all_loaded slots done.done (map (λ q. q.id) spots) alone q.id (contains_of q.id (map (λ q. q.id) spots) (in_map (λ (q : Spot). q.id) spots q there)))));
          taken = λ payloads given.
              subst (λ (ss : List Spot). Takes before.taken now.taken (version_bytes payloads ss)) same (done.taken payloads (subst (λ (ss : List Spot). AreGiven v number ss payloads) (sym same) given));
          sum = ⊎_elim
              (λ none. inl (sym same ∙ none))
              (λ sum. inr (λ payloads given.
              subst (λ (o : Option Whole). HasSum payloads spots o) wholes
              (subst (λ (ss : List Spot). HasSum payloads ss s.whole) same
              (sum payloads (subst (λ (ss : List Spot). AreGiven v number ss payloads) (sym same) given)))))
              done.sum;
        }

-- what is asked of the calls

pub fewer_left : (a b : ℕ) → a + 1 ≡ b → a < b
fewer_left a b e = omega (arith, e)

module _ (slots : ℕ) (spots seen : List Spot) (reqs given : List ℕ) where
  requested : seen ≡ spots → reqs ≡ requests (map (λ s. s.id) seen) → given ≡ reqs → given ≡ requests (map (λ s. s.id) spots)
  requested see are give = give ∙ are ∙ ap (λ (ss : List Spot). requests (map (λ s. s.id) ss)) see

  pub plan_serves : (steps : List Step) → seen ≡ spots → reqs ≡ requests (map (λ s. s.id) seen) → given ≡ reqs → IsTrue (serves slots [] steps given) → IsTrue (serves slots [] steps (requests (map (λ s. s.id) spots)))
  unfolding requested
  plan_serves steps see are give served = subst (λ (qs : List ℕ). IsTrue (serves slots [] steps qs)) (requested see are give) served

  pub plan_rule : (steps : List Step) → seen ≡ spots → reqs ≡ requests (map (λ s. s.id) seen) → given ≡ reqs → steps ≡ rule_plan slots [] given → steps ≡ rule_plan slots [] (requests (map (λ s. s.id) spots))
  unfolding requested
  plan_rule steps see are give rule = rule ∙ ap (rule_plan slots []) (requested see are give)

  pub plan_least : (n : ℕ) → seen ≡ spots → reqs ≡ requests (map (λ s. s.id) seen) → given ≡ reqs → IsLeast given slots n → IsLeast (requests (map (λ s. s.id) spots)) slots n
  unfolding requested
  plan_least n see are give least = subst (λ (qs : List ℕ). IsLeast qs slots n) (requested see are give) least

pub loads_for : (slots : ℕ) (spots : List Spot) (s : Copying) (steps : List Step) → s.spots ≡ spots → s.steps ≡ steps → steps ≡ rule_plan slots [] (requests (map (λ q. q.id) spots)) → AllByRecursion (IsLoadOf (map (λ q. q.id) s.spots)) s.steps
loads_for slots spots s steps same are rule =
    subst (λ (ss : List Spot). AllByRecursion (IsLoadOf (map (λ q. q.id) ss)) s.steps) (sym same)
    (subst (λ (qs : List Step). AllByRecursion (IsLoadOf (map (λ q. q.id) spots)) qs) (sym are) (rule_loads (map (λ q. q.id) spots) slots steps rule))

pub pinned_for : (v : View) (number : ℕ) (spots : List Spot) (s : Copying) → s.spots ≡ spots → (K : Core) × HasPinned v number spots K → (K : Core) × HasPinned v number s.spots K
pinned_for v number spots s same pinned = (pinned.0, subst (λ (ss : List Spot). HasPinned v number ss pinned.0) (sym same) pinned.1)
