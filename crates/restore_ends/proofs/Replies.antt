-- The reply of a restore's assembler is what the copy on one thread comes to, from the keeper from behind the pin with counts of
-- its own.
use Rattle.std.proofs.Common.{◌≡◌, ◌≢◌, ◌⊎◌, inl, inr, ⊎_elim, ℕ, suc, ◌+◌, ◌<◌, ◌≤◌, IsTrue, List, [], ◌∷◌, ◌++◌, take, length, map, Option, Some, All, refl, sym, ap, subst, ◌∙◌, arith}
use Rattle.std.specs.Prelude.{Contains}
use Rattle.std.proofs.lemmas.List.{take-append-drop, append-nil, length-append}
use Rattle.std.proofs.lemmas.List.Elements.{Contains-append_left}
use Rattle.vault_types.specs.declared.Fault.{Fault}
use Rattle.vault_types.specs.declared.Fault.TheVariants as fault
use Rattle.vault_types.specs.declared.Kind.TheVariants as kind
use Rattle.vault_types.specs.declared.Why.TheVariants as why
use Rattle.vault_types.specs.declared.Spot.{Spot}
use Rattle.vault_types.specs.declared.Step.{Step}
use Rattle.vault_types.specs.declared.Step.TheVariants.{Load, Evict, Serve}
use Rattle.vault_types.specs.declared.Whole.{Whole}
use Rattle.vault_types.specs.Events.{Core, Pin}
use Rattle.vault_types.specs.Plans.{requests, serves, loads, IsLeast}
use Rattle.vault_traits.specs.Counts.{counted_up, Rose}
use Rattle.vault_traits.specs.Told.{SinkTold, Takes}
use Rattle.keeper_catalog.specs.View.{View, Keeps}
use Rattle.store_model.specs.Calls.{IsShortAt}
use Rattle.commit_laws.proofs.Listing.{all_of, has_of, contains_of}
use Rattle.state_laws.proofs.Members.{first_or_rest, in_map}
use Rattle.belady_cache.proofs.Steps.{loads_append, loads_cons}
use Rattle.restore_assembler.specs.Copying.{IsOutputFault, IsTakenAt, version_bytes}
use Rattle.serial_restore.specs.Going.{Stays, HasPinned, AreGiven, IsFull, HasTakenFront, IsCopyFault, IsFoundOf, HasSum, IsSummed, IsCopied, IsRestoreStopped, IsAtMostLeast}
use Rattle.serial_restore.proofs.Loads.{listed_at}
use Rattle.serial_restore.proofs.Plans.{front_serves, all_loaded, all_loads, at_most}
use Rattle.restore_stage.specs.declared.Loaded.{Loaded}
use Rattle.restore_stage.specs.declared.Loaded.TheVariants as loaded
use Rattle.restore_stage.specs.declared.Reply.{Reply}
use Rattle.restore_stage.specs.declared.Reply.TheVariants as reply
use Rattle.restore_stage.specs.Assembling.{Assembling, ids, load_ids, HasDone, HasCome, HasWritten, AreOf, IsOf}
use Rattle.restore_stage.specs.Assembling as stage
use Rattle.restore_turns.specs.Sent.{IsOwnPayload, IsLoadFault, IsSent, AreSent}
use Rattle.restore_turns.specs.Entry.{AreTried}
use Rattle.restore_turns.proofs.Loads.{own_full}
use Rattle.restore_turns.proofs.Turns.{ids_append}
use Rattle.restore_ends.proofs.Alone.{alone, alone_stays}

-- lists of items and of loads

pub loads_ids : (steps : List Step) → length (load_ids steps) ≡ loads steps
loads_ids [] = refl
loads_ids (Load c ∷ steps) = let h = loads_cons (Load c) steps in let i = loads_ids steps in omega (arith, h, i)
loads_ids (Evict c ∷ steps) = let h = loads_cons (Evict c) steps in let i = loads_ids steps in omega (arith, h, i)
loads_ids (Serve ∷ steps) = let h = loads_cons Serve steps in let i = loads_ids steps in omega (arith, h, i)

load_ids_append : (xs ys : List Step) → load_ids (xs ++ ys) ≡ load_ids xs ++ load_ids ys
load_ids_append [] ys = refl
load_ids_append (Load c ∷ xs) ys = ap (λ (is : List ℕ). c ∷ is) (load_ids_append xs ys)
load_ids_append (Evict c ∷ xs) ys = load_ids_append xs ys
load_ids_append (Serve ∷ xs) ys = load_ids_append xs ys

load_there : (steps : List Step) (c : ℕ) → Contains steps (Load c) → Contains (load_ids steps) c
load_there [] c there = absurd (omega (arith, there.1))
load_there (Load d ∷ steps) c there = ⊎_elim
    (λ (same : Load d ≡ Load c). let e : d ≡ c = cc in (0, omega arith, e))
    (λ rest. let h = load_there steps c rest in (suc h.0, omega (arith, h.1), h.2))
    (first_or_rest (Load d) steps (Load c) there)
load_there (Evict d ∷ steps) c there = ⊎_elim (λ (same : Evict d ≡ Load c). absurd (cc)) (λ rest. load_there steps c rest) (first_or_rest (Evict d) steps (Load c) there)
load_there (Serve ∷ steps) c there = ⊎_elim (λ (same : Serve ≡ Load c). absurd (cc)) (λ rest. load_there steps c rest) (first_or_rest Serve steps (Load c) there)

pub front_sent : (u : View) (number : ℕ) (spots : List Spot) (met : Option ℕ) (xs ys : List Loaded) → AreSent u number spots met (xs ++ ys) → AreSent u number spots met xs
front_sent u number spots met [] ys h = tt
front_sent u number spots met (x ∷ xs) ys h = (h.0, front_sent u number spots met xs ys h.1)

module _ (u : View) (number : ℕ) (spots : List Spot) (met : Option ℕ) where
  -- a payload that was sent under this id
  sent_at : (items : List Loaded) (id : ℕ) → AreSent u number spots met items → Contains (ids items) id → (bytes : List ℕ) × IsOwnPayload u number id bytes
  sent_at [] id all there = absurd (omega (arith, there.1))
  sent_at (loaded.Payload p ∷ items) id all there = ⊎_elim
      (λ (same : p.id ≡ id). (p.bytes.items, subst (λ (n : ℕ). IsOwnPayload u number n p.bytes.items) same all.0))
      (λ rest. sent_at items id all.1 rest)
      (first_or_rest p.id (ids items) id there)
  sent_at (loaded.Failed f ∷ items) id all there = sent_at items id all.1 there

  -- the items are payloads of these
  sent_of : (known : ℕ → List ℕ) (among : (id : ℕ) (bytes : List ℕ) → IsOwnPayload u number id bytes → Contains (map (λ s. s.id) spots) id → bytes ≡ known id)
      (items : List Loaded) → AreSent u number spots met items → ((id : ℕ) → Contains (ids items) id → Contains (map (λ s. s.id) spots) id) → AreOf known items
  sent_of known among [] all asked = tt
  sent_of known among (loaded.Payload p ∷ items) all asked = (
    among p.id p.bytes.items all.0 (asked p.id (0, omega arith, refl)),
    sent_of known among items all.1 (λ id there. asked id (suc there.0, omega (arith, there.1), there.2)),
  )
  sent_of known among (loaded.Failed f ∷ items) all asked = (tt, sent_of known among items all.1 asked)

  -- a fault that was sent
  pub fault_sent : (items : List Loaded) (f : Fault) → AreSent u number spots met items → Contains items (loaded.Failed f) → IsLoadFault u number spots met f
  fault_sent [] f all there = absurd (omega (arith, there.1))
  fault_sent (x ∷ items) f all there = ⊎_elim
      (λ (same : x ≡ loaded.Failed f). subst (λ (y : Loaded). IsSent u number spots met y) same all.0)
      (λ rest. fault_sent items f all.1 rest)
      (first_or_rest x items (loaded.Failed f) there)

-- facts of faults

load_cause : (u w : View) (before now : SinkTold) (number : ℕ) (spots : List Spot) (whole : Option Whole) (met : Option ℕ) (K : Core) → HasPinned u number spots K → ((m : ℕ) → met ≡ Some m → (w.told.faults ≡ m) × Rose u.told.faults m)
    → (f : Fault) → IsLoadFault u number spots met f → IsCopyFault u w before now K.pins number whole f
load_cause u w before now number spots whole met K pinned is (fault.StoreFault n) h = let m = is n h in (sym m.0, subst (Rose u.told.faults) (sym m.0) m.1)
load_cause u w before now number spots whole met K pinned is (fault.Damaged k n y) h = inr (h K pinned)
load_cause u w before now number spots whole met K pinned is fault.Memory h = tt
load_cause u w before now number spots whole met K pinned is other h = absurd h

give_cause : (u w : View) (before now : SinkTold) (pins : List Pin) (number : ℕ) (whole : Option Whole) (f : Fault) → IsOutputFault whole before now f → IsCopyFault u w before now pins number whole f
give_cause u w before now pins number whole (fault.WriteFault n) h = h
give_cause u w before now pins number whole (fault.Damaged kind.Recipe n (why.Whole want found)) h = inl h
give_cause u w before now pins number whole other h = absurd h

load_found : (u : View) (number : ℕ) (spots : List Spot) (met : Option ℕ) (bytes : List ℕ) (K : Core) → HasPinned u number spots K → (f : Fault) → IsLoadFault u number spots met f → IsFoundOf bytes f
load_found u number spots met bytes K pinned (fault.Damaged kind.Recipe n (why.Whole want found)) h = absurd (h K pinned).3
load_found u number spots met bytes K pinned other h = tt

taken_found : (bytes : List ℕ) (before now : SinkTold) (f : Fault) → IsTakenAt bytes before now f → IsFoundOf bytes f
taken_found bytes before now (fault.Damaged kind.Recipe n (why.Whole want found)) h = h.0
taken_found bytes before now other h = tt

load_short : (u : View) (number : ℕ) (spots : List Spot) (met : Option ℕ) (bytes : List ℕ) (before now : Option (List ℕ)) (K : Core) → HasPinned u number spots K → (f : Fault) → IsLoadFault u number spots met f → IsShortAt bytes before now f
load_short u number spots met bytes before now K pinned (fault.WriteFault n) h = absurd h
load_short u number spots met bytes before now K pinned (fault.Damaged kind.Recipe n (why.Whole want found)) h = absurd (h K pinned).3
load_short u number spots met bytes before now K pinned other h = tt

taken_short : (bytes : List ℕ) (before now : SinkTold) (f : Fault) → IsTakenAt bytes before now f → IsShortAt bytes before.taken now.taken f
taken_short bytes before now (fault.WriteFault n) h =
    let parts : length (h.0 ++ h.1) ≡ length bytes = ap length h.2 in
    let sum : length (h.0 ++ h.1) ≡ length h.0 + length h.1 = length-append h.0 h.1 in
    let some : 0 < length h.1 = h.3 in
    (h.0, h.4, omega arith)
taken_short bytes before now (fault.Damaged kind.Recipe n (why.Whole want found)) h = h.1
taken_short bytes before now other h = tt

some_left : (xs : List ℕ) → (xs ≢ []) → 1 ≤ length xs
some_left [] none = absurd (none refl)
some_left (x ∷ xs) some = omega arith

no_more : (xs : List ℕ) → length xs ≡ 0 → xs ≡ []
no_more [] none = refl
no_more (x ∷ xs) none = absurd (let e : suc (length xs) ≡ 0 = none in omega (arith, e))

-- the reply

module _ (u : View) (number : ℕ) (spots : List Spot) (whole : Option Whole) (slots : ℕ) (met : Option ℕ) (steps : List Step) (n : ℕ)
    (least : IsLeast (requests (map (λ s. s.id) spots)) slots n) (count : n ≡ loads steps)
    (asked : (id : ℕ) → Contains (load_ids steps) id → Contains (map (λ s. s.id) spots) id)
    (start : SinkTold) (b : Assembling) (spots_are : b.copying.spots ≡ spots) (whole_is : b.copying.whole ≡ whole) (later : start.faults ≤ b.sink.faults)
    (sent waiting : List Loaded) (line : b.loads.taken ++ waiting ≡ sent) (all : AreSent u number spots met sent) (got : ℕ) (tried : AreTried (load_ids steps) got sent)
    (faults : ℕ) (rise : u.told.faults ≤ faults) (met_is : (m : ℕ) → met ≡ Some m → (faults ≡ m) × Rose u.told.faults m) where
  taken_sent : AreSent u number spots met b.loads.taken
  taken_sent = front_sent u number spots met b.loads.taken waiting (subst (λ (items : List Loaded). AreSent u number spots met items) (sym line) all)

  ids_sent : ids sent ≡ ids b.loads.taken ++ ids waiting
  ids_sent = ap ids (sym line) ∙ ids_append b.loads.taken waiting

  taken_asked : (id : ℕ) → Contains (ids b.loads.taken) id → Contains (map (λ s. s.id) spots) id
  unfolding ids_sent
  taken_asked id there = asked id
      (subst (λ (is : List ℕ). Contains is id) tried.parts
      (Contains-append_left (ids sent) tried.left id
      (subst (λ (is : List ℕ). Contains is id) (sym ids_sent) (Contains-append_left (ids b.loads.taken) (ids waiting) id there))))

  taken_of : (payloads : ℕ → List ℕ) → AreGiven u number spots payloads → AreOf payloads b.loads.taken
  unfolding taken_sent taken_asked
  taken_of payloads given = sent_of u number spots met payloads
      (λ id bytes own there.
      let l = listed_at given.core.pins number spots id given.pinned.listed (has_of id (map (λ s. s.id) spots) there) in
      sym (given.are id l.0 bytes l.1 (own.own given.tells given.core l.0 given.pinned.keeps l.1) (own.whole given.core l.0 given.pinned.keeps l.1).len))
      b.loads.taken taken_sent taken_asked

  sent_length : length (ids sent) ≡ length (ids b.loads.taken) + length (ids waiting)
  unfolding ids_sent
  sent_length = ap length ids_sent ∙ length-append (ids b.loads.taken) (ids waiting)

  all_length : length (ids sent) + length tried.left ≡ n
  all_length = sym (length-append (ids sent) tried.left) ∙ ap length tried.parts ∙ loads_ids steps ∙ sym count

  few_got : got ≤ n
  unfolding all_length
  few_got = let a = all_length in ⊎_elim (λ (e : got ≡ length (ids sent)). omega (arith, a, e)) (λ e. let some = some_left tried.left e.1 in let f = e.0 in omega (arith, a, f, some)) tried.count

  abbrev behind : View
  behind = alone u (counted_up u.told.gets got) faults

  module _ (served : IsTrue (serves slots [] steps (requests (map (λ s. s.id) spots)))) (done : HasDone steps b) (none : All (λ step. step ≢ Serve) b.copying.steps) where
    front : List Step
    front = take done.behind.0 steps

    front_parts : front ++ b.copying.steps ≡ steps
    unfolding front
    front_parts = ap (λ (ss : List Step). take done.behind.0 steps ++ ss) done.behind.1 ∙ take-append-drop done.behind.0 steps

    front_alone : IsTrue (serves slots [] front (requests (map (λ s. s.id) spots)))
    unfolding front_parts
    front_alone = front_serves slots [] front b.copying.steps (requests (map (λ s. s.id) spots)) (subst (λ (ss : List Step). IsTrue (serves slots [] ss (requests (map (λ s. s.id) spots)))) (sym front_parts) served) none

    no_load : load_ids b.copying.steps ≡ []
    unfolding front_parts front_alone
    no_load =
        let a = all_loads (requests (map (λ s. s.id) spots)) slots n steps front b.copying.steps least count front_parts front_alone in
        let c = loads_append front b.copying.steps in
        let d : loads (front ++ b.copying.steps) ≡ loads steps = ap loads front_parts in
        let e = loads_ids b.copying.steps in
        no_more (load_ids b.copying.steps) (omega (arith, a, c, d, e, count))

    all_taken : ids b.loads.taken ≡ load_ids steps
    unfolding no_load
    all_taken = sym (append-nil (ids b.loads.taken)) ∙ ap (λ (is : List ℕ). ids b.loads.taken ++ is) (sym no_load) ∙ done.loaded

    all_got : got ≡ n
    unfolding all_taken sent_length all_length
    all_got =
        let a = all_length in
        let c = sent_length in
        let d : length (ids b.loads.taken) ≡ n = ap length all_taken ∙ loads_ids steps ∙ sym count in
        ⊎_elim (λ (e : got ≡ length (ids sent)). omega (arith, a, c, d, e)) (λ e. absurd (let some = some_left tried.left e.1 in omega (arith, a, c, d, some))) tried.count

    spot_full : (q : Spot) → Contains spots q → IsFull u number spots q.id
    unfolding front_parts front_alone all_taken taken_sent
    spot_full q there =
        let loaded = all_loaded slots front (map (λ s. s.id) spots) front_alone q.id (contains_of q.id (map (λ s. s.id) spots) (in_map (λ (q : Spot). q.id) spots q there)) in
        let among : Contains (load_ids steps) q.id = subst (λ (ss : List Step). Contains (load_ids ss) q.id) front_parts
        (subst (λ (is : List ℕ). Contains is q.id) (sym (load_ids_append front b.copying.steps)) (Contains-append_left (load_ids front) (load_ids b.copying.steps) q.id (load_there front q.id loaded))) in
        let own = sent_at u number spots met b.loads.taken q.id taken_sent (subst (λ (is : List ℕ). Contains is q.id) (sym all_taken) among) in
        own_full u number spots q.id own.0 own.1

    summed : ((payloads : ℕ → List ℕ) → AreGiven u number spots payloads → (spots ≡ []) ⊎ HasSum payloads spots whole) → (spots ≡ []) ⊎ IsSummed u number spots whole
    summed each = at spots refl
      where
        at : (qs : List Spot) → spots ≡ qs → (spots ≡ []) ⊎ IsSummed u number spots whole
        at [] is = inl is
        at (q ∷ qs) is = inr (λ payloads given. ⊎_elim (λ no_spot. absurd (let e : q ∷ qs ≡ [] = sym is ∙ no_spot in cc)) (λ h. h) (each payloads given))

    pub copied_alone : (bytes : ℕ) (more : List Reply) → ((known : ℕ → List ℕ) → AreOf known b.loads.taken → HasWritten known start b (reply.Written bytes ∷ more)) → IsCopied u behind number start b.sink spots whole slots n
    unfolding taken_of all_got spot_full summed
    copied_alone bytes more written = record {
      stays = alone_stays u (counted_up u.told.gets got) faults rise;
      later = later;
      least = least;
      gets = ap (counted_up u.told.gets) all_got;
      full = all_of (λ q. IsFull u number spots q.id) spots spot_full;
      taken = λ payloads given. subst (λ (ss : List Spot). Takes start.taken b.sink.taken (version_bytes payloads ss)) spots_are (written payloads (taken_of payloads given)).0;
      sum = summed (λ payloads given.
          subst (λ (o : Option Whole). (spots ≡ []) ⊎ HasSum payloads spots o) whole_is
          (subst (λ (ss : List Spot). (ss ≡ []) ⊎ HasSum payloads ss b.copying.whole) spots_are (written payloads (taken_of payloads given)).1));
    }

  pub stopped_alone : (f : Fault) (more : List Reply) → HasCome start steps b (reply.Failed f ∷ more) → ((known : ℕ → List ℕ) → AreOf known b.loads.taken → HasWritten known start b (reply.Failed f ∷ more))
      → IsRestoreStopped u behind number start b.sink spots whole (IsAtMostLeast (requests (map (λ s. s.id) spots)) slots) f
  unfolding taken_of taken_sent few_got
  stopped_alone f more come written = record {
    stays = alone_stays u (counted_up u.told.gets got) faults rise;
    later = later;
    loads = got;
    few = at_most (requests (map (λ s. s.id) spots)) slots n got least few_got;
    gets = refl;
    cause = λ K pinned. ⊎_elim
        (λ there. load_cause u behind start b.sink number spots whole met K pinned met_is f (fault_sent u number spots met b.loads.taken f taken_sent there))
        (λ cause. give_cause u behind start b.sink K.pins number whole f (subst (λ (o : Option Whole). IsOutputFault o start b.sink f) whole_is cause))
        come;
    front = λ payloads given. front_of payloads (written payloads (taken_of payloads given)).0;
    found = λ payloads given. ⊎_elim
        (λ there. load_found u number spots met (version_bytes payloads spots) given.core given.pinned f (fault_sent u number spots met b.loads.taken f taken_sent there))
        (λ h. taken_found (version_bytes payloads spots) start b.sink f (subst (λ (ss : List Spot). IsTakenAt (version_bytes payloads ss) start b.sink f) spots_are h))
        (written payloads (taken_of payloads given)).1;
    short = λ payloads given. ⊎_elim
        (λ there. load_short u number spots met (version_bytes payloads spots) start.taken b.sink.taken given.core given.pinned f (fault_sent u number spots met b.loads.taken f taken_sent there))
        (λ h. taken_short (version_bytes payloads spots) start b.sink f (subst (λ (ss : List Spot). IsTakenAt (version_bytes payloads ss) start b.sink f) spots_are h))
        (written payloads (taken_of payloads given)).1;
  }
    where
      front_of : (payloads : ℕ → List ℕ) → stage.TakesFront start b.sink (version_bytes payloads b.copying.spots) → HasTakenFront start b.sink (version_bytes payloads spots)
      front_of payloads h = record { front = h.front; rest = h.rest; parts = h.parts_are ∙ ap (version_bytes payloads) spots_are; taken = h.taken }

  -- a reply that no payload accounts for is answered as a lack of memory
  pub unwanted_alone : (more : List Reply) → ((known : ℕ → List ℕ) → AreOf known b.loads.taken → HasWritten known start b (reply.Unwanted ∷ more))
      → IsRestoreStopped u behind number start b.sink spots whole (IsAtMostLeast (requests (map (λ s. s.id) spots)) slots) fault.Memory
  unfolding taken_of few_got
  unwanted_alone more written = record {
    stays = alone_stays u (counted_up u.told.gets got) faults rise;
    later = later;
    loads = got;
    few = at_most (requests (map (λ s. s.id) spots)) slots n got least few_got;
    gets = refl;
    cause = λ K pinned. tt;
    front = λ payloads given. front_of payloads (written payloads (taken_of payloads given));
    found = λ payloads given. tt;
    short = λ payloads given. tt;
  }
    where
      front_of : (payloads : ℕ → List ℕ) → stage.TakesFront start b.sink (version_bytes payloads b.copying.spots) → HasTakenFront start b.sink (version_bytes payloads spots)
      front_of payloads h = record { front = h.front; rest = h.rest; parts = h.parts_are ∙ ap (version_bytes payloads) spots_are; taken = h.taken }
