-- A restore that has replied: what it has come to, with counts of its own.
use Rattle.std.proofs.Common.{◌≡◌, ◌≤◌, ℕ, List, [], ◌∷◌, ◌++◌, length, map, Option, Some, None, Result, Ok, sym, ap, subst, ◌∙◌, refl, arith}
use Rattle.std.specs.Option.{option_map}
use Rattle.vault_types.specs.declared.Answer.{Answer}
use Rattle.vault_types.specs.declared.Answer.TheVariants.{Restored}
use Rattle.vault_types.specs.declared.Fault.{Fault}
use Rattle.vault_types.specs.declared.Fault.TheVariants as fault
use Rattle.vault_types.specs.declared.Spot.{Spot}
use Rattle.vault_types.specs.declared.Whole.{Whole}
use Rattle.vault_types.specs.Plans.{requests, loads}
use Rattle.vault_traits.specs.Counts.{counted_up, Rose}
use Rattle.restore_stage.specs.declared.Loaded.{Loaded}
use Rattle.restore_stage.specs.declared.Reply.{Reply}
use Rattle.restore_stage.specs.declared.Reply.TheVariants as reply
use Rattle.restore_stage.specs.Assembling.{Assembling, load_ids, reply_of, HasCome, HasWritten, AreOf, IsSame}
use Rattle.keeper_catalog.specs.View.{View}
use Rattle.serial_restore.specs.Going.{IsCopied, IsRestoreStopped, IsAtMostLeast}
use Rattle.serial_restore.specs.Restoring.{whole_of, HasGone}
use Rattle.restore_turns.specs.Entry.{IsEntry}
use Rattle.restore_turns.specs.Started.{IsPlanned}
use Rattle.restore_ends.specs.Results.{result_of, faults_at}
use Rattle.restore_ends.proofs.Alone.{alone}
use Rattle.restore_ends.proofs.Came.{stage_came, stage_wrote}
use Rattle.restore_ends.proofs.Gone.{copied_beside, stopped_beside}
use Rattle.restore_ends.proofs.Replies.{loads_ids, copied_alone, stopped_alone, unwanted_alone}

faults_rise : (before : ℕ) (met : Option ℕ) → ((m : ℕ) → met ≡ Some m → Rose before m) → before ≤ faults_at before met
faults_rise before None rose = omega arith
faults_rise before (Some m) rose = let r = rose m refl in grind arith

faults_are : (before : ℕ) (met : Option ℕ) → ((m : ℕ) → met ≡ Some m → Rose before m) → (m : ℕ) → met ≡ Some m → (faults_at before met ≡ m) × Rose before m
faults_are before None rose m is = absurd (let e : ◌≡◌ {A = Option ℕ} None (Some m) = is in cc)
faults_are before (Some k) rose m is = let e : k ≡ m = cc in (e, rose m is)

-- a is the first stage of the restore, and b the one that replied
module _ (v u now : View) (s n slots number : ℕ) (ids : List ℕ) (a b : Assembling) (got : ℕ) (met : Option ℕ) (sent waiting : List Loaded) (r : Reply) (more : List Reply)
    (t : IsPlanned v u s n slots number ids a.bytes a.copying) (taken : a.loads.taken ≡ []) (unsent : reply_of a ≡ []) (entry : IsEntry u now number a.copying.spots ids got met sent) (same : IsSame a b) (line : b.loads.taken ++ waiting ≡ sent) (replied : reply_of b ≡ r ∷ more) where
  pub came : HasCome a.sink a.copying.steps b (r ∷ more)
  came = stage_came a b same taken unsent r more replied

  wrote : (known : ℕ → List ℕ) → AreOf known b.loads.taken → HasWritten known a.sink b (r ∷ more)
  wrote = stage_wrote a b same taken unsent r more replied slots t.plan.done t.plan.served t.plan.copied

  e : IsEntry u now number a.copying.spots (load_ids a.copying.steps) got met sent
  e = subst (λ (is : List ℕ). IsEntry u now number a.copying.spots is got met sent) t.plan.ids_are entry

  abbrev pub faults : ℕ
  faults = faults_at u.told.faults met

  pub rise : u.told.faults ≤ faults
  rise = faults_rise u.told.faults met entry.rose

  met_is : (m : ℕ) → met ≡ Some m → (faults ≡ m) × Rose u.told.faults m
  met_is = faults_are u.told.faults met entry.rose

  -- what the restore would have left of the keeper, had it been alone: behind its pin, and at its end
  abbrev pub w : View
  w = alone u (counted_up u.told.gets got) faults

  abbrev pub x : View
  x = alone v (counted_up v.told.gets got) faults

  copied_of : IsCopied u w number a.sink b.sink a.copying.spots a.copying.whole slots (loads a.copying.steps) → IsCopied u w t.pin.no a.sink b.sink t.pin.spots.items (option_map (whole_of s n) t.pin.whole) slots (loads a.copying.steps)
  copied_of h =
      subst (λ (k : ℕ). IsCopied u w k a.sink b.sink t.pin.spots.items (option_map (whole_of s n) t.pin.whole) slots (loads a.copying.steps)) (sym t.number_is)
      (subst (λ (o : Option Whole). IsCopied u w number a.sink b.sink t.pin.spots.items o slots (loads a.copying.steps)) t.plan.whole_is
      (subst (λ (qs : List Spot). IsCopied u w number a.sink b.sink qs a.copying.whole slots (loads a.copying.steps)) t.plan.spots_are h))

  stopped_of : (f : Fault) → IsRestoreStopped u w number a.sink b.sink a.copying.spots a.copying.whole (IsAtMostLeast (requests (map (λ q. q.id) a.copying.spots)) slots) f
      → IsRestoreStopped u w t.pin.no a.sink b.sink t.pin.spots.items (option_map (whole_of s n) t.pin.whole) (IsAtMostLeast (requests (map (λ q. q.id) t.pin.spots.items)) slots) f
  stopped_of f h =
      subst (λ (k : ℕ). IsRestoreStopped u w k a.sink b.sink t.pin.spots.items (option_map (whole_of s n) t.pin.whole) (IsAtMostLeast (requests (map (λ q. q.id) t.pin.spots.items)) slots) f) (sym t.number_is)
      (subst (λ (o : Option Whole). IsRestoreStopped u w number a.sink b.sink t.pin.spots.items o (IsAtMostLeast (requests (map (λ q. q.id) t.pin.spots.items)) slots) f) t.plan.whole_is
      (subst (λ (qs : List Spot). IsRestoreStopped u w number a.sink b.sink qs a.copying.whole (IsAtMostLeast (requests (map (λ q. q.id) qs)) slots) f) t.plan.spots_are h))

  -- all bytes were written
  pub ran_through : (bytes : ℕ) → r ≡ reply.Written bytes → IsCopied u w t.pin.no a.sink b.sink t.pin.spots.items (option_map (whole_of s n) t.pin.whole) slots (loads a.copying.steps)
  unfolding came wrote e rise met_is copied_of
  ran_through bytes is =
      let c = subst (λ (y : Reply). HasCome a.sink a.copying.steps b (y ∷ more)) is came in
      let h = λ (known : ℕ → List ℕ) (of : AreOf known b.loads.taken). subst (λ (y : Reply). HasWritten known a.sink b (y ∷ more)) is (wrote known of) in
      copied_of (copied_alone u number a.copying.spots a.copying.whole slots met a.copying.steps (loads a.copying.steps) t.plan.least refl e.asked a.sink b same.spots same.whole same.later sent waiting line e.all got e.tried faults rise met_is t.plan.served c.0 c.1 bytes more h)

  -- the answer to that
  pub ran_answer : (bytes : ℕ) → r ≡ reply.Written bytes → Ok (Restored s n t.pin.length (loads a.copying.steps)) ≡ result_of s n ids r
  unfolding came
  ran_answer bytes is =
      let c = subst (λ (y : Reply). HasCome a.sink a.copying.steps b (y ∷ more)) is came in
      let long : length ids ≡ loads a.copying.steps = ap length t.plan.ids_are ∙ loads_ids a.copying.steps in
      let size : bytes ≡ t.pin.length = c.2 ∙ same.bytes ∙ t.bytes_are in
      ap (λ (l : ℕ). Ok (Restored s n l (loads a.copying.steps))) (sym size) ∙ ap (λ (l : ℕ). Ok (Restored s n bytes l)) (sym long) ∙ ap (result_of s n ids) (sym is)

  -- it stopped
  pub ran_into : (f : Fault) → r ≡ reply.Failed f → IsRestoreStopped u w t.pin.no a.sink b.sink t.pin.spots.items (option_map (whole_of s n) t.pin.whole) (IsAtMostLeast (requests (map (λ q. q.id) t.pin.spots.items)) slots) f
  unfolding came wrote e rise met_is stopped_of
  ran_into f is =
      let c = subst (λ (y : Reply). HasCome a.sink a.copying.steps b (y ∷ more)) is came in
      let h = λ (known : ℕ → List ℕ) (of : AreOf known b.loads.taken). subst (λ (y : Reply). HasWritten known a.sink b (y ∷ more)) is (wrote known of) in
      stopped_of f (stopped_alone u number a.copying.spots a.copying.whole slots met a.copying.steps (loads a.copying.steps) t.plan.least refl e.asked a.sink b same.spots same.whole same.later sent waiting line e.all got e.tried faults rise met_is f more c h)

  pub ran_off : r ≡ reply.Unwanted → IsRestoreStopped u w t.pin.no a.sink b.sink t.pin.spots.items (option_map (whole_of s n) t.pin.whole) (IsAtMostLeast (requests (map (λ q. q.id) t.pin.spots.items)) slots) fault.Memory
  unfolding wrote e rise met_is stopped_of
  ran_off is =
      let h = λ (known : ℕ → List ℕ) (of : AreOf known b.loads.taken). subst (λ (y : Reply). HasWritten known a.sink b (y ∷ more)) is (wrote known of) in
      stopped_of fault.Memory (unwanted_alone u number a.copying.spots a.copying.whole slots met a.copying.steps (loads a.copying.steps) t.plan.least refl e.asked a.sink b same.spots same.whole same.later sent waiting line e.all got e.tried faults rise met_is more h)

  -- that is what the call on one thread would have come to
  pub ran : HasGone v x a.sink b.sink s n slots (result_of s n ids r)
  unfolding ran_through ran_answer ran_into ran_off rise
  ran = at r refl
    where
      at : (y : Reply) → r ≡ y → HasGone v x a.sink b.sink s n slots (result_of s n ids r)
      at (reply.Written bytes) is =
          subst (λ (z : Result Answer Fault). HasGone v x a.sink b.sink s n slots z) (ran_answer bytes is)
          (copied_beside v u a.sink b.sink s n slots t.core t.range t.pin t.pinned got faults rise (loads a.copying.steps) (ran_through bytes is))
      at (reply.Failed f) is =
          subst (λ (y : Reply). HasGone v x a.sink b.sink s n slots (result_of s n ids y)) (sym is)
          (stopped_beside v u a.sink b.sink s n slots t.core t.range t.pin t.pinned got faults rise f (ran_into f is))
      at reply.Unwanted is =
          subst (λ (y : Reply). HasGone v x a.sink b.sink s n slots (result_of s n ids y)) (sym is)
          (stopped_beside v u a.sink b.sink s n slots t.core t.range t.pin t.pinned got faults rise fault.Memory (ran_off is))
