-- The steps of a restore, one after another.
use Rattle.std.proofs.Common.{◌≡◌, ℕ, suc, ◌+◌, ◌<◌, ◌≤◌, Bool, true, false, IsTrue, not, cond, ◌==◌, eqb, List, [], ◌∷◌, ◌++◌, map, filter, flat_map, length, length-drop, drop, take, get_or, refl, sym, ap, subst, ◌∙◌, arith, append_assoc, Vec, Global}
use Rattle.std.specs.Prelude.{vec_capacity, is_some}
use Rattle.std.specs.List.{AllByRecursion}
use Rattle.std.proofs.lemmas.Bool.{false≢true}
use Rattle.std.proofs.lemmas.List.{drop_more, drop-drop}
use Rattle.std.proofs.lemmas.List.Sums.{length-filter, count_by-le-length}
use Rattle.vault_types.specs.declared.Spot.{Spot}
use Rattle.vault_types.specs.declared.Step.{Step}
use Rattle.vault_types.specs.declared.Step.TheVariants.{Load, Evict, Serve}
use Rattle.vault_types.specs.Lists.{has}
use Rattle.vault_types.specs.Plans.{requests, serves, is_load, loads as loads_of}
use Rattle.vault_types.specs.Bytes.{spot_bytes}
use Rattle.vault_traits.specs.Told.{SinkTold}
use Rattle.belady_cache.proofs.Steps.{serves_evict, serves_next, loads_cons}
use Rattle.restore_assembler.specs.declared.payload.Payload.{Payload}
use Rattle.restore_assembler.specs.declared.progress.Progress.{Progress}
use Rattle.restore_assembler.specs.Payloads.{ids_of, without_payload, AreCovering, AreKnown, Covers, run_length, first_id}
use Rattle.vault_traits.specs.CutOff.{IsCutOff}
use Rattle.restore_assembler.specs.Writing.{IsWrittenWithSum}
use Rattle.restore_assembler.specs.Progress.{left_spots, left_bytes, IsProgress, HasAdvanced, Advances, starts_with_load}
use Rattle.restore_assembler.proofs.Runs.{requests_run, run_parts}
use Rattle.restore_assembler.proofs.Written.{written_nothing, written_then, cut_off_then}

-- the steps that are left, where s is the next
pub next_step : (steps : List Step) (i : ℕ) (x s : Step) → i < length steps → x ≡ get_or steps i x → x ≡ s → drop i steps ≡ s ∷ drop (i + 1) steps
next_step steps i x s l read is = drop_more steps i x l ∙ ap (λ y. y ∷ drop (i + 1) steps) (sym read ∙ is)

serves_some : (slots : ℕ) (present : List ℕ) (steps : List Step) (q : ℕ) (reqs : List ℕ) → IsTrue (serves slots present steps (q ∷ reqs)) → 0 < length steps
serves_some slots present [] q reqs e = absurd (false≢true e)
serves_some slots present (s ∷ steps) q reqs e = omega arith

some_left : (spots : List Spot) (done : ℕ) → done < length spots → 0 < length (drop done spots)
some_left spots done l = omega (arith, length-drop done spots)

next_request : (p : Progress) → p.done < length p.spots.items → requests (map (λ s. s.id) (left_spots p)) ≡ first_id (left_spots p) ∷ requests (map (λ s. s.id) (drop (run_length (first_id (left_spots p)) (left_spots p)) (left_spots p)))
next_request p l = requests_run (left_spots p) (some_left p.spots.items p.done l)

-- where something is left to write there is a step
pub some_step : (p : Progress) → IsProgress p → p.done < length p.spots.items → p.step < length p.steps.items
some_step p going l =
    let some : 0 < length (drop p.step p.steps.items) = serves_some p.slots (ids_of p.present.items) (drop p.step p.steps.items) (first_id (left_spots p)) _
    (subst (λ (reqs : List ℕ). IsTrue (serves p.slots (ids_of p.present.items) (drop p.step p.steps.items) reqs)) (next_request p l) going.serves) in
    omega (arith, length-drop p.step p.steps.items)

-- what is served is present, and the steps behind it serve what is then left
pub served : (p : Progress) (rest : List Step) → IsProgress p → p.done < length p.spots.items → drop p.step p.steps.items ≡ Serve ∷ rest
    → IsTrue (has (first_id (left_spots p)) (ids_of p.present.items)) × IsTrue (serves p.slots (ids_of p.present.items) rest (requests (map (λ s. s.id) (drop (run_length (first_id (left_spots p)) (left_spots p)) (left_spots p)))))
served p rest going l is =
    serves_next p.slots (first_id (left_spots p)) (ids_of p.present.items) rest (requests (map (λ s. s.id) (drop (run_length (first_id (left_spots p)) (left_spots p)) (left_spots p))))
    (subst (λ (reqs : List ℕ). IsTrue (serves p.slots (ids_of p.present.items) (Serve ∷ rest) reqs)) (next_request p l)
    (subst (λ (steps : List Step). IsTrue (serves p.slots (ids_of p.present.items) steps (requests (map (λ s. s.id) (left_spots p))))) is going.serves))

-- the ids that are left after an eviction
ids_without : (id : ℕ) (present : List Payload) → ids_of (without_payload id present) ≡ filter (λ d. not (id == d)) (ids_of present)
ids_without id [] = refl
ids_without id (h ∷ present) = go (eqb id h.id) (ids_without id present)
  where
    go : (b : Bool) → ids_of (without_payload id present) ≡ filter (λ d. not (id == d)) (ids_of present)
        → ids_of (cond (not b) (h ∷ without_payload id present) (without_payload id present)) ≡ cond (not b) (h.id ∷ filter (λ d. not (id == d)) (ids_of present)) (filter (λ d. not (id == d)) (ids_of present))
    go true ih = ih
    go false ih = ap (λ ids. h.id ∷ ids) ih

all_filter : {X : Type 0} (P : X → Type 0) (t : X → Bool) (xs : List X) → AllByRecursion P xs → AllByRecursion P (filter t xs)
all_filter P t [] h = tt
all_filter P t (x ∷ xs) h = go (t x) h.0 (all_filter P t xs h.1)
  where
    go : (b : Bool) → P x → AllByRecursion P (filter t xs) → AllByRecursion P (cond b (x ∷ filter t xs) (filter t xs))
    go true here ih = (here, ih)
    go false here ih = ih

-- a step that is no load
abbrev one_load : Step → ℕ
one_load s = cond (is_load s) 1 0

other_step : (s : Step) (steps rest : List Step) → one_load s ≡ 0 → steps ≡ s ∷ rest → loads_of rest ≡ loads_of steps
other_step s steps rest none_here is =
    let whole : loads_of steps ≡ loads_of (s ∷ rest) = ap loads_of is in
    let parts : loads_of (s ∷ rest) ≡ one_load s + loads_of rest = loads_cons s rest in
    omega arith

-- an eviction
pub going_evicted : (p : Progress) (present : Vec Payload Global) (id : ℕ) → IsProgress p → drop p.step p.steps.items ≡ Evict id ∷ drop (p.step + 1) p.steps.items
    → present.items ≡ without_payload id p.present.items → vec_capacity present ≡ vec_capacity p.present → IsProgress (record p { present = present; step = p.step + 1 })
going_evicted p present id going is items capacity = record {
  within = going.within;
  few = omega (arith, ap length items, length-filter (λ (h : Payload). not (id == h.id)) p.present.items, count_by-le-length (λ (h : Payload). not (id == h.id)) p.present.items, going.few);
  room = omega (arith, going.room, capacity);
  covering = subst (λ (hs : List Payload). AreCovering p.spots.items hs) (sym items) (all_filter (λ h. Covers h.id h.bytes.items p.spots.items) (λ h. not (id == h.id)) p.present.items going.covering);
  serves =
      let reqs : List ℕ = requests (map (λ s. s.id) (left_spots p)) in
      let rest : List Step = drop (p.step + 1) p.steps.items in
      let left : IsTrue (serves p.slots (filter (λ d. not (id == d)) (ids_of p.present.items)) rest reqs) =
      (serves_evict p.slots id (ids_of p.present.items) rest reqs (subst (λ (steps : List Step). IsTrue (serves p.slots (ids_of p.present.items) steps reqs)) is going.serves)).1 in
      subst (λ (ids : List ℕ). IsTrue (serves p.slots ids rest reqs)) (sym (ap ids_of items ∙ ids_without id p.present.items)) left;
}

pub advances_evicted : (p : Progress) (present : Vec Payload Global) (id : ℕ) (told : SinkTold) → drop p.step p.steps.items ≡ Evict id ∷ drop (p.step + 1) p.steps.items → present.items ≡ without_payload id p.present.items → Advances p (record p { present = present; step = p.step + 1 }) told told
advances_evicted p present id told is items = record {
  spots = refl;
  steps = refl;
  slots = refl;
  behind = omega arith;
  loads = other_step (Evict id) (drop p.step p.steps.items) (drop (p.step + 1) p.steps.items) refl is;
  kept = refl;
  later = omega arith;
  known = λ payload known. subst (AreKnown payload) (sym items) (all_filter (λ h. h.bytes.items ≡ payload h.id) (λ h. not (id == h.id)) p.present.items known);
  copied = λ payload known. record { bytes = []; parts = refl; written = written_nothing told p.sum };
}

-- a request that is served
pub going_served : (p q : Progress) → IsProgress p → p.done < length p.spots.items → drop p.step p.steps.items ≡ Serve ∷ drop (p.step + 1) p.steps.items
    → q ≡ record p { done = q.done; sum = q.sum } → q.done ≡ p.done + run_length (first_id (left_spots p)) (left_spots p) → q.done ≤ length p.spots.items → IsProgress (record q { step = q.step + 1 })
going_served p q going l is stays done within =
    let m : Progress = record p { done = p.done + run_length (first_id (left_spots p)) (left_spots p); sum = q.sum } in
    let same : q ≡ m = stays ∙ ap (λ (n : ℕ). record p { done = n; sum = q.sum }) done in
    subst (λ (r : Progress). IsProgress (record r { step = r.step + 1 })) (sym same)
    (record {
      within = subst (λ (n : ℕ). n ≤ length p.spots.items) done within;
      few = going.few;
      room = going.room;
      covering = going.covering;
      serves = subst (λ (ss : List Spot). IsTrue (serves p.slots (ids_of p.present.items) (drop (p.step + 1) p.steps.items) (requests (map (λ s. s.id) ss))))
          (drop-drop (run_length (first_id (left_spots p)) (left_spots p)) p.done p.spots.items)
          (served p (drop (p.step + 1) p.steps.items) going l is).1;
    })

pub advances_served : (p q : Progress) (before now : SinkTold) → drop p.step p.steps.items ≡ Serve ∷ drop (p.step + 1) p.steps.items → q ≡ record p { done = q.done; sum = q.sum } → q.done ≡ p.done + run_length (first_id (left_spots p)) (left_spots p)
    → is_some q.sum ≡ is_some p.sum → before.faults ≤ now.faults
    → ((payload : ℕ → List ℕ) → AreKnown payload p.present.items → IsWrittenWithSum (flat_map (spot_bytes payload) (take (run_length (first_id (left_spots p)) (left_spots p)) (left_spots p))) before now p.sum q.sum)
    → Advances p (record q { step = q.step + 1 }) before now
advances_served p q before now is stays done kept later written = record {
  spots = ap (λ (r : Progress). r.spots.items) stays;
  steps = ap (λ (r : Progress). r.steps.items) stays;
  slots = ap (λ (r : Progress). r.slots) stays;
  behind = let same : q.step ≡ p.step = ap (λ (r : Progress). r.step) stays in omega arith;
  loads = ap (λ (r : Progress). loads_of (drop (r.step + 1) r.steps.items)) stays ∙ other_step Serve (drop p.step p.steps.items) (drop (p.step + 1) p.steps.items) refl is;
  kept = kept;
  later = later;
  known = λ payload known. subst (λ (r : Progress). AreKnown payload r.present.items) (sym stays) known;
  copied = λ payload known.
      let n : ℕ = run_length (first_id (left_spots p)) (left_spots p) in
      record {
        bytes = flat_map (spot_bytes payload) (take n (left_spots p));
        parts =
            let left : left_spots q ≡ drop n (left_spots p) = ap (λ (r : Progress). drop r.done r.spots.items) stays ∙ ap (λ (k : ℕ). drop k p.spots.items) done ∙ sym (drop-drop n p.done p.spots.items) in
            ap (λ ss. flat_map (spot_bytes payload) (take n (left_spots p)) ++ flat_map (spot_bytes payload) ss) left ∙ run_parts payload n (left_spots p);
        written = written payload known;
      };
}

-- one after another
pub advances_then : (p q r : Progress) (before mid now : SinkTold) → Advances p q before mid → Advances q r mid now → Advances p r before now
advances_then p q r before mid now a b = record {
  spots = b.spots ∙ a.spots;
  steps = b.steps ∙ a.steps;
  slots = b.slots ∙ a.slots;
  behind = omega (arith, a.behind, b.behind);
  loads = b.loads ∙ a.loads;
  kept = b.kept ∙ a.kept;
  later = omega (arith, a.later, b.later);
  known = λ payload known. b.known payload (a.known payload known);
  copied = λ payload known.
      let x : HasAdvanced payload p q before mid = a.copied payload known in
      let y : HasAdvanced payload q r mid now = b.copied payload (a.known payload known) in
      record {
        bytes = x.bytes ++ y.bytes;
        parts = append_assoc x.bytes y.bytes (left_bytes payload r) ∙ ap (λ z. x.bytes ++ z) y.parts ∙ x.parts;
        written = written_then x.bytes y.bytes before mid now p.sum q.sum r.sum x.written y.written;
      };
}

-- the sink failed after some steps
pub advances_cut_off : (p q : Progress) (payload : ℕ → List ℕ) (before mid now : SinkTold) → Advances p q before mid → AreKnown payload p.present.items
    → ((f : ℕ → List ℕ) → AreKnown f q.present.items → IsCutOff (left_bytes f q) mid now) → IsCutOff (left_bytes payload p) before now
advances_cut_off p q payload before mid now a known cut =
    let x : HasAdvanced payload p q before mid = a.copied payload known in
    subst (λ (bytes : List ℕ). IsCutOff bytes before now) x.parts
    (cut_off_then x.bytes (left_bytes payload q) before mid now p.sum q.sum x.written (cut payload (a.known payload known)))

pub load_starts : (steps : List Step) (i id : ℕ) → drop i steps ≡ Load id ∷ drop (i + 1) steps → IsTrue (starts_with_load (drop i steps))
load_starts steps i id is = ap starts_with_load is

-- a request that was cut off
pub going_cut_off : (p q : Progress) → IsProgress p → q ≡ record p { done = q.done; sum = q.sum } → q.done ≡ p.done → IsProgress q
going_cut_off p q going stays done =
    let m : Progress = record p { sum = q.sum } in
    let same : q ≡ m = stays ∙ ap (λ (n : ℕ). record p { done = n; sum = q.sum }) done in
    subst IsProgress (sym same) (record { within = going.within; few = going.few; room = going.room; covering = going.covering; serves = going.serves })

-- there is still a step
pub step_stays : (p q : Progress) → q ≡ record p { done = q.done; sum = q.sum } → p.step < length p.steps.items → q.step < length q.steps.items
step_stays p q stays l = subst (λ (r : Progress). r.step < length r.steps.items) (sym stays) l

-- where a load is next, a step is left
pub load_within : (p : Progress) (id : ℕ) → drop p.step p.steps.items ≡ Load id ∷ drop (p.step + 1) p.steps.items → p.step < length p.steps.items
load_within p id is =
    let long : length (drop p.step p.steps.items) ≡ suc (length (drop (p.step + 1) p.steps.items)) = ap length is in
    omega (arith, length-drop p.step p.steps.items)
