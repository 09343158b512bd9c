-- What was copied of a version, from one payload to the next.
use Rattle.std.proofs.Common.{◌≡◌, ◌≢◌, ◌⊎◌, inl, inr, ℕ, ◌+◌, ◌-◌, ◌<◌, ◌≤◌, List, [], ◌∷◌, ◌++◌, length, drop, Option, Some, None, refl, sym, ap, subst, ◌∙◌, arith, append_assoc, Vec, Global}
use Rattle.std.specs.Prelude.{Bool, true, false, IsTrue, not, ◌&&◌, ◌==◌, cond, nat_lt, vec_capacity, filter, map, All, is_some, IsNone, IfSome, Result, Ok, Err, OnOk}
use Rattle.std.proofs.lemmas.List.{append_cancel_right, take_all, drop_all, drop-drop}
use Rattle.std.proofs.lemmas.List.Elements.{All-from_recursion}
use Rattle.std.specs.List.{AllByRecursion}
use Rattle.std.proofs.lemmas.Bool.{cases_lt, ltb-true, lt-ltb, and_parts, false≢true, true≢false}
use Rattle.vault_types.specs.declared.Fp.{Fp}
use Rattle.vault_types.specs.declared.Spot.{Spot}
use Rattle.vault_types.specs.declared.Whole.{Whole}
use Rattle.vault_types.specs.declared.Step.{Step}
use Rattle.vault_types.specs.declared.Step.TheVariants.{Load, Evict, Serve}
use Rattle.vault_types.specs.Lists.{has}
use Rattle.vault_types.specs.Plans.{serves, requests}
use Rattle.vault_types.specs.declared.Fault.{Fault}
use Rattle.vault_types.specs.declared.Fault.TheVariants as fault
use Rattle.vault_types.specs.declared.Kind.TheVariants as kind
use Rattle.vault_types.specs.declared.Why.TheVariants as why
use Rattle.vault_types.specs.Names.{fp}
use Rattle.vault_traits.specs.Counts.{Rose}
use Rattle.vault_traits.specs.Told.{SinkTold, Takes}
use Rattle.vault_traits.specs.CutOff.{IsCutOff}
use Rattle.fingerprint_stage.specs.declared.running_sum.RunningSum.{RunningSum}
use Rattle.restore_assembler.specs.declared.payload.Payload.{Payload}
use Rattle.restore_assembler.specs.declared.progress.Progress.{Progress}
use Rattle.restore_assembler.specs.Payloads.{AreKnown, AreCovering, ids_of, first_id}
use Rattle.restore_assembler.specs.Writing.{IsSumOf}
use Rattle.restore_assembler.specs.Copying.{wanted, next_load, HasCopied, IsTakenAt, version_bytes, done_bytes}
use Rattle.restore_assembler.specs.Progress.{left_spots, left_bytes, starts_with_load, IsProgress, LoadsNext, HasAdvanced, Advances, seen_of}
use Rattle.restore_assembler.proofs.Runs.{run_parts, requests_run}
use Rattle.vault_traits.proofs.Written.{takes_then}

-- the payloads that are present once the wanted one is
pub known_loaded : (f : ℕ → List ℕ) (p q : Progress) (id : ℕ) (payload : Vec ℕ Global) → q.present.items ≡ record { id = id; bytes = payload } ∷ p.present.items
    → wanted (seen_of p) ≡ Some id → IfSome (wanted (seen_of p)) (λ i. payload.items ≡ f i) → AreKnown f p.present.items → AreKnown f q.present.items
known_loaded f p q id payload items wants given known =
    let here : payload.items ≡ f id = subst (λ (o : Option ℕ). IfSome o (λ i. payload.items ≡ f i)) wants given in
    subst (AreKnown f) (sym items) (here, known)

-- what is written and what is left is the version
all_parts : (f : ℕ → List ℕ) (p : Progress) → done_bytes f (seen_of p) ++ left_bytes f p ≡ version_bytes f p.spots.items
all_parts f p = run_parts f p.done p.spots.items

left_loaded : (f : ℕ → List ℕ) (p q : Progress) → q ≡ record p { present = q.present; step = p.step + 1 } → left_bytes f q ≡ left_bytes f p
left_loaded f p q stays = ap (left_bytes f) stays

pub has_copied_more : (f : ℕ → List ℕ) (before mid now : SinkTold) (p q r : Progress) → HasCopied f before mid (seen_of p) → q ≡ record p { present = q.present; step = p.step + 1 }
    → AreKnown f q.present.items → Advances q r mid now → HasCopied f before now (seen_of r)
has_copied_more f before mid now p q r copied stays known advances =
    let step : HasAdvanced f q r mid now = advances.copied f known in
    let spots : r.spots.items ≡ p.spots.items = advances.spots ∙ ap (λ (s : Progress). s.spots.items) stays in
    let so_far : List ℕ = done_bytes f (seen_of p) in
    let whole : (so_far ++ step.bytes) ++ left_bytes f r ≡ done_bytes f (seen_of r) ++ left_bytes f r =
    append_assoc so_far step.bytes (left_bytes f r)
    ∙ ap (λ z. so_far ++ z) (step.parts ∙ left_loaded f p q stays)
    ∙ all_parts f p ∙ ap (version_bytes f) (sym spots) ∙ sym (all_parts f r) in
    let same : so_far ++ step.bytes ≡ done_bytes f (seen_of r) = append_cancel_right (so_far ++ step.bytes) (done_bytes f (seen_of r)) (left_bytes f r) whole in
    let sum : IsSumOf q.sum so_far = subst (λ (s : Option RunningSum). IsSumOf s so_far) (sym (ap (λ (s : Progress). s.sum) stays)) copied.summed in
    record {
      known = advances.known f known;
      taken = subst (λ (bytes : List ℕ). Takes before.taken now.taken bytes) same (takes_then before.taken mid.taken now.taken so_far step.bytes copied.taken step.written.taken);
      summed = subst (λ (bytes : List ℕ). IsSumOf r.sum bytes) same (step.written.summed so_far sum);
    }

-- the sum is taken once all is written
pub has_copied_checked : (f : ℕ → List ℕ) (before now : SinkTold) (p q : Progress) → q ≡ record p { sum = q.sum } → (p.done < length p.spots.items → q.sum ≡ p.sum) → (length p.spots.items ≤ p.done → q.sum ≡ None)
    → HasCopied f before now (seen_of p) → HasCopied f before now (seen_of q)
has_copied_checked f before now p q stays early late copied =
    let sum : IsSumOf q.sum (done_bytes f (seen_of p)) = go (cases_lt p.done (length p.spots.items)) in
    subst (λ (r : Progress). HasCopied f before now (seen_of r)) (sym stays) (record { known = copied.known; taken = copied.taken; summed = sum })
  where
    go : (p.done < length p.spots.items) ⊎ (length p.spots.items ≤ p.done) → IsSumOf q.sum (done_bytes f (seen_of p))
    go (inl l) = subst (λ (s : Option RunningSum). IsSumOf s (done_bytes f (seen_of p))) (sym (early l)) copied.summed
    go (inr l) = subst (λ (s : Option RunningSum). IsSumOf s (done_bytes f (seen_of p))) (sym (late l)) tt

-- all the spots
all_done : (f : ℕ → List ℕ) (p : Progress) (spots : List Spot) → p.spots.items ≡ spots → length p.spots.items ≤ p.done → done_bytes f (seen_of p) ≡ version_bytes f spots
all_done f p spots same l = ap (version_bytes f) (take_all p.done p.spots.items l ∙ same)

pub whole_right : (f : ℕ → List ℕ) (before now : SinkTold) (p : Progress) (spots : List Spot) (whole : Option Whole) → p.spots.items ≡ spots → p.whole ≡ whole → length p.spots.items ≤ p.done → HasCopied f before now (seen_of p)
    → ((bytes : List ℕ) → IsSumOf p.sum bytes → IfSome p.whole (λ w. fp bytes ≡ w.want)) → IfSome whole (λ w. fp (version_bytes f spots) ≡ w.want)
whole_right f before now p spots whole same wanted_whole l copied right =
    subst (λ (o : Option Whole). IfSome o (λ w. fp (version_bytes f spots) ≡ w.want)) wanted_whole
    (right (version_bytes f spots) (subst (λ (bytes : List ℕ). IsSumOf p.sum bytes) (all_done f p spots same l) copied.summed))

pub whole_wrong : (f : ℕ → List ℕ) (before now : SinkTold) (p : Progress) (spots : List Spot) (number : ℕ) (want found : Fp) (e : Fault) → p.spots.items ≡ spots → length p.spots.items ≤ p.done → HasCopied f before now (seen_of p)
    → e ≡ fault.Damaged kind.Recipe number (why.Whole want found) → ((bytes : List ℕ) → IsSumOf p.sum bytes → found ≡ fp bytes) → IsTakenAt (version_bytes f spots) before now e
whole_wrong f before now p spots number want found e same l copied is summed =
    let done : done_bytes f (seen_of p) ≡ version_bytes f spots = all_done f p spots same l in
    subst (IsTakenAt (version_bytes f spots) before now) (sym is)
    (summed (version_bytes f spots) (subst (λ (bytes : List ℕ). IsSumOf p.sum bytes) done copied.summed), subst (λ (bytes : List ℕ). Takes before.taken now.taken bytes) done copied.taken)

-- the sink failed
pub taken_front : (f : ℕ → List ℕ) (before mid now : SinkTold) (p q : Progress) (n : ℕ) → HasCopied f before mid (seen_of p) → q ≡ record p { present = q.present; step = p.step + 1 }
    → IsCutOff (left_bytes f q) mid now → IsTakenAt (version_bytes f p.spots.items) before now (fault.WriteFault n)
taken_front f before mid now p q n copied stays cut =
    let so_far : List ℕ = done_bytes f (seen_of p) in (
      so_far ++ cut.front,
      cut.rest,
      append_assoc so_far cut.front cut.rest ∙ ap (λ z. so_far ++ z) (cut.parts ∙ left_loaded f p q stays) ∙ all_parts f p,
      cut.short,
      takes_then before.taken mid.taken now.taken so_far cut.front copied.taken cut.taken,
    )

pub on_ok_from : {T E P : Type 0} (r : Result T E) → P → OnOk r P
on_ok_from (Ok x) h = h
on_ok_from (Err e) h = tt

none≢some : (n : ℕ) → ◌≡◌ {A = Option ℕ} None (Some n) → ⊥
none≢some n e = cc

-- a payload is wanted only where something is left to write
pub rose_later : (a b : ℕ) → Rose a b → a ≤ b
rose_later a b rose = omega arith

pub wanted_some : (p : Progress) (id : ℕ) → wanted (seen_of p) ≡ Some id → p.done < length p.spots.items
wanted_some p id wants = go (nat_lt p.done (length p.spots.items)) refl wants
  where
    go : (b : Bool) → nat_lt p.done (length p.spots.items) ≡ b → cond b (next_load (drop p.step p.steps.items)) None ≡ Some id → p.done < length p.spots.items
    go true l e = ltb-true p.done (length p.spots.items) l
    go false l e = absurd (none≢some id e)

load≢serve : (c : ℕ) → ◌≡◌ {A = Step} (Load c) Serve → ⊥
load≢serve c e = cc

evict≢serve : (c : ℕ) → ◌≡◌ {A = Step} (Evict c) Serve → ⊥
evict≢serve c e = cc

-- where something is left to write the next step is a load, and its payload is wanted
pub none_left : (p : Progress) → LoadsNext p → wanted (seen_of p) ≡ None → length p.spots.items ≤ p.done
none_left p ready wants = go (cases_lt p.done (length p.spots.items))
  where
    first : (steps : List Step) → IsTrue (starts_with_load steps) → next_load steps ≡ None → ⊥
    first [] e h = false≢true e
    first (Load c ∷ steps) e h = none≢some c (sym h)
    first (Evict c ∷ steps) e h = false≢true e
    first (Serve ∷ steps) e h = false≢true e

    go : (p.done < length p.spots.items) ⊎ (length p.spots.items ≤ p.done) → length p.spots.items ≤ p.done
    go (inl l) = absurd (first (drop p.step p.steps.items) (ready l)
        (subst (λ (b : Bool). cond b (next_load (drop p.step p.steps.items)) None ≡ None) (lt-ltb p.done (length p.spots.items) l) wants))
    go (inr l) = l

pub none_late : (p : Progress) (o : Option ℕ) → LoadsNext p → o ≡ wanted (seen_of p) → IsNone o → length p.spots.items ≤ p.done
none_late p None ready is none = none_left p ready (sym is)
none_late p (Some id) ready is none = absurd (true≢false none)

-- nothing is served once all is written
no_serve : (slots : ℕ) (present : List ℕ) (steps : List Step) → IsTrue (serves slots present steps []) → AllByRecursion (λ s. s ≢ Serve) steps
no_serve slots present [] e = tt
no_serve slots present (Load c ∷ steps) e = ((λ h. load≢serve c h), no_serve slots (c ∷ present) steps (and_parts (not (has c present) && nat_lt (length present) slots) _ e).1)
no_serve slots present (Evict c ∷ steps) e = ((λ h. evict≢serve c h), no_serve slots (filter (λ d. not (c == d)) present) steps (and_parts (has c present) _ e).1)
no_serve slots present (Serve ∷ steps) e = absurd (false≢true e)

pub all_served : (p : Progress) → IsProgress p → length p.spots.items ≤ p.done → All (λ s. s ≢ Serve) (drop p.step p.steps.items)
all_served p going l =
    let steps : List Step = drop p.step p.steps.items in
    let none : left_spots p ≡ [] = drop_all p.done p.spots.items l in
    All-from_recursion (λ s. s ≢ Serve) steps (no_serve p.slots (ids_of p.present.items) steps
    (subst (λ (ss : List Spot). IsTrue (serves p.slots (ids_of p.present.items) steps (requests (map (λ s. s.id) ss)))) none going.serves))

-- the steps that are left are the last of those that were
pub steps_behind : (p q r : Progress) (before now : SinkTold) → q ≡ record p { present = q.present; step = p.step + 1 } → Advances q r before now → (k : ℕ) × (drop r.step r.steps.items ≡ drop k (drop p.step p.steps.items))
steps_behind p q r before now stays advances =
    let steps : r.steps.items ≡ p.steps.items = advances.steps ∙ ap (λ (s : Progress). s.steps.items) stays in
    let later : p.step + (r.step - p.step) ≡ r.step = omega (arith, advances.behind, ap (λ (s : Progress). s.step) stays) in
    (r.step - p.step, ap (drop r.step) steps ∙ ap (λ n. drop n p.steps.items) (sym later) ∙ sym (drop-drop (r.step - p.step) p.step p.steps.items))

-- a plan begins with a load
plan_starts : (slots : ℕ) (steps : List Step) (q : ℕ) (reqs : List ℕ) → IsTrue (serves slots [] steps (q ∷ reqs)) → IsTrue (starts_with_load steps)
plan_starts slots [] q reqs e = absurd (false≢true e)
plan_starts slots (Load c ∷ steps) q reqs e = refl
plan_starts slots (Evict c ∷ steps) q reqs e = absurd (false≢true e)
plan_starts slots (Serve ∷ steps) q reqs e = absurd (false≢true e)

plan_ready : (slots : ℕ) (plan : List Step) (spots : List Spot) → IsTrue (serves slots [] plan (requests (map (λ s. s.id) spots))) → 0 < length spots → IsTrue (starts_with_load plan)
plan_ready slots plan spots e l = plan_starts slots plan (first_id spots) _ (subst (λ (reqs : List ℕ). IsTrue (serves slots [] plan reqs)) (requests_run spots l) e)

pub new_ready : (slots : ℕ) (steps plan : List Step) (spots : List Spot) → steps ≡ plan → IsTrue (serves slots [] plan (requests (map (λ s. s.id) spots))) → 0 < length spots → IsTrue (starts_with_load steps)
new_ready slots steps plan spots is e l = subst (λ (ss : List Step). IsTrue (starts_with_load ss)) (sym is) (plan_ready slots plan spots e l)

-- nothing is present at first
pub new_going : (spots : Vec Spot Global) (steps : Vec Step Global) (slots : ℕ) (present : Vec Payload Global) (whole : Option Whole) (sum : Option RunningSum) (plan : List Step)
    → IsTrue (serves slots [] plan (requests (map (λ s. s.id) spots.items))) → steps.items ≡ plan → present.items ≡ [] → slots ≤ vec_capacity present
    → IsProgress (record { spots = spots; steps = steps; slots = slots; present = present; whole = whole; sum = sum; done = 0; step = 0 })
new_going spots steps slots present whole sum plan e is none room = record {
  within = omega arith;
  few = omega (arith, ap length none);
  room = room;
  covering = subst (λ (hs : List Payload). AreCovering spots.items hs) (sym none) tt;
  serves = subst (λ (hs : List Payload). IsTrue (serves slots (ids_of hs) steps.items (requests (map (λ s. s.id) spots.items)))) (sym none)
      (subst (λ (ss : List Step). IsTrue (serves slots [] ss (requests (map (λ s. s.id) spots.items)))) (sym is) e);
}

-- what stays from before a payload was loaded until all that it serves is written
pub spots_stay : (p q r : Progress) (before now : SinkTold) → q ≡ record p { present = q.present; step = p.step + 1 } → Advances q r before now → r.spots.items ≡ p.spots.items
spots_stay p q r before now stays advances = advances.spots ∙ ap (λ (s : Progress). s.spots.items) stays

pub whole_stays : (p q : Progress) (whole : Option Whole) → q ≡ record p { present = q.present; step = p.step + 1 } → whole ≡ q.whole → whole ≡ p.whole
whole_stays p q whole stays same = same ∙ ap (λ (s : Progress). s.whole) stays

pub summing_stays : (p q r : Progress) (before now : SinkTold) → q ≡ record p { present = q.present; step = p.step + 1 } → Advances q r before now → r.whole ≡ p.whole → is_some p.sum ≡ is_some p.whole → is_some r.sum ≡ is_some r.whole
summing_stays p q r before now stays advances whole summing = advances.kept ∙ ap (λ (s : Progress). is_some s.sum) stays ∙ summing ∙ ap is_some (sym whole)

pub late_stays : (r s : Progress) (spots : List Spot) → s ≡ record r { sum = s.sum } → r.spots.items ≡ spots → length spots ≤ s.done → length r.spots.items ≤ r.done
late_stays r s spots stays same late = omega (arith, late, ap length same, ap (λ (t : Progress). t.done) stays)

pub behind_checked : (r s : Progress) (steps : List Step) → s ≡ record r { sum = s.sum } → (k : ℕ) × (drop r.step r.steps.items ≡ drop k steps) → (k : ℕ) × (drop s.step s.steps.items ≡ drop k steps)
behind_checked r s steps stays behind = subst (λ (t : Progress). (k : ℕ) × (drop t.step t.steps.items ≡ drop k steps)) (sym stays) behind
