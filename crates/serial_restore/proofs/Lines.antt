-- A restore's line, from what the restore comes to.
use Rattle.std.proofs.Common.{◌≡◌, ◌≢◌, ◌⊎◌, inl, inr, ⊎_elim, ◌≤◌, ◌<◌, ◌&&◌, ◌||◌, ℕ, Bool, true, false, not, nat_eq, IsTrue, List, [], ◌∷◌, length, map, Option, Some, None, refl, sym, ◌∙◌, ap, subst, arith}
use Rattle.std.specs.Prelude.{IsSome, IsSomeAnd, IfSome, IfOk, IfErr, Result, Ok, Err, Contains, MatchOption, if◌then◌else◌, ◌==◌}
use Rattle.std.specs.Option.{option_map_or}
use Rattle.std.proofs.lemmas.List.{append-nil}
use Rattle.vault_types.specs.declared.Limits.{Limits}
use Rattle.vault_types.specs.declared.Name.{Name}
use Rattle.vault_types.specs.declared.Fp.{Fp}
use Rattle.vault_types.specs.declared.Table.{Table}
use Rattle.vault_types.specs.declared.Kind.TheVariants as kind
use Rattle.vault_types.specs.declared.Why.{Why}
use Rattle.vault_types.specs.declared.Why.TheVariants as why
use Rattle.vault_types.specs.declared.Fault.{Fault}
use Rattle.vault_types.specs.declared.Fault.TheVariants as fault
use Rattle.vault_types.specs.declared.Answer.{Answer}
use Rattle.vault_types.specs.declared.Answer.TheVariants.{Restored, Refused}
use Rattle.vault_types.specs.declared.Line.TheVariants.{Restore}
use Rattle.vault_types.specs.Bytes.{bytes_of}
use Rattle.vault_types.specs.Names.{fp, same_fp}
use Rattle.vault_types.proofs.FillLemmas.{same_fps}
use Rattle.vault_types.specs.Events.{Core, Change, IsNear, with_pins, Pin}
use Rattle.vault_types.specs.Plans.{requests, IsLeast}
use Rattle.vault_types.specs.Refusals.{is_of_state, may_refuse, refuses_by_state, IsExact}
use Rattle.vault_types.specs.Script.{row_ids, after, is_refused, IsDone}
use Rattle.vault_types.specs.Shelf.{Blobs, blob_at, recipe_name}
use Rattle.vault_types.specs.State.{State, IsValid, KeptVersion, version_of, is_kept, floor_of, latest_of}
use Rattle.vault_traits.specs.Counts.{Rose}
use Rattle.vault_traits.specs.Crash.{History, LeavesNowIfTold, LeavesOnlyIfTold}
use Rattle.vault_traits.specs.Told.{SinkTold}
use Rattle.vault_traits.proofs.Maps.{same_blobs}
use Rattle.vault_traits.proofs.Moments.{ends, more}
use Rattle.vault_traits.proofs.Written.{takes_nothing}
use Rattle.keeper_catalog.specs.View.{View, Keeps, HasCore}
use Rattle.commit_laws.proofs.Listing.{itself, same_number}
use Rattle.vault_types.specs.BlobDamage.{IsPayloadDamage}
use Rattle.state_laws.proofs.Members.{clash, or_left}
use Rattle.keeper_core.specs.Calls.{IsPinDamage}
use Rattle.keeper_core.proofs.Replacings.{version_there}
use Rattle.store_model.specs.Calls.{RestoresLine, HasWritten, IsShortAt, writes_all}
use Rattle.store_model.specs.Causes.{CausesRise, fits, may_be_wrong, counts_of_sink}
use Rattle.store_model.specs.Complete.{IsWell, IsWellAnswered}
use Rattle.store_model.specs.Leaves.{Gets}
use Rattle.store_model.specs.Steps.{StepsOn, StraysStep, BearsStep, StandsWith, answer_of}
use Rattle.store_model.specs.Table.{MeansLine, ShowsDamage}
use Rattle.script_laws.proofs.Following.{near_with}
use Rattle.script_laws.proofs.Forms.{still_forms}
use Rattle.script_laws.proofs.LineLemmas.{unmoved, not_kept_means, not_kept_is}
use Rattle.vault_types.specs.declared.Pending.TheVariants as pending
use Rattle.keeper_core.specs.Keeping.{IsStateWith, IsKnownStray}
use Rattle.keeper_core.proofs.BetweenLines.{changed_of, images_of}
use Rattle.serial_restore.specs.Going.{IsAtMostLeast, HasTakenFront}
use Rattle.serial_restore.specs.Restoring.{IsRestoreFault, IsBadPayloadOf, IsWrongSumOf, IsLeft, HasGone}
use Rattle.serial_restore.proofs.Damages.{undamaged, shown}
use Rattle.serial_restore.proofs.Goings.{not_kept_gone}

both : {a b : Bool} → a ≡ true → b ≡ true → (a && b) ≡ true
both h j = rw (h, j) refl

-- ---- an answer of its kind, with its cause

kind_done : (limits : Limits) (s n slots bytes loads : ℕ) (a : Answer) → a ≡ Restored s n bytes loads → IsTrue (fits limits (Restore s n [] slots) a)
kind_done limits s n slots bytes loads a is = subst (λ (b : Answer). IsTrue (fits limits (Restore s n [] slots) b)) (sym is) (both (itself s) (itself n))

pin_number : (told : Option Blobs) (S : State) (s n i : ℕ) (y : Why) → IsPinDamage told S s n kind.Recipe i y → i ≡ (recipe_name s n).number
pin_number told S s n i (why.BadRow j) h = h.0
pin_number told S s n i y h = h.0

sum_number : (told : Option Blobs) (S : State) (s n i : ℕ) (y : Why) → IsWrongSumOf told S s n kind.Recipe i y → i ≡ (recipe_name s n).number
sum_number told S s n i (why.Whole want found) h = h.0
sum_number told S s n i y h = absurd h

-- what may be wrong in a restore
other_sum : (want found : Fp) → found ≢ want → not (same_fp want found) ≡ true
other_sum want found apart = by (same_fp want found) refl
  where
    by : (b : Bool) → same_fp want found ≡ b → not b ≡ true
    by true e = absurd (apart (sym (same_fps want found e)))
    by false e = refl

other_length : (want found : ℕ) → found ≢ want → not (nat_eq want found) ≡ true
other_length want found apart = by (nat_eq want found) refl
  where
    by : (b : Bool) → nat_eq want found ≡ b → not b ≡ true
    by true e = absurd (apart (same_number want found e))
    by false e = refl

pin_wrong : (told : Option Blobs) (S : State) (s n i : ℕ) (y : Why) → IsPinDamage told S s n kind.Recipe i y → IsTrue (may_be_wrong kind.Recipe y)
pin_wrong told S s n i (why.BadRow j) h = refl
pin_wrong told S s n i why.Absent h = refl
pin_wrong told S s n i why.Spelling h = refl
pin_wrong told S s n i other h = absurd h.1

sum_wrong : (told : Option Blobs) (S : State) (s n i : ℕ) (y : Why) → IsWrongSumOf told S s n kind.Recipe i y → IsTrue (may_be_wrong kind.Recipe y)
sum_wrong told S s n i (why.Whole want found) h = other_sum want found h.1
sum_wrong told S s n i other h = absurd h

pub recipe_wrong : (told : Option Blobs) (S : State) (s n i : ℕ) (y : Why) → IsPinDamage told S s n kind.Recipe i y ⊎ (IsBadPayloadOf told S s n kind.Recipe i y ⊎ IsWrongSumOf told S s n kind.Recipe i y) → IsTrue (may_be_wrong kind.Recipe y)
recipe_wrong told S s n i y h = ⊎_elim (λ pin. pin_wrong told S s n i y pin) (λ e. ⊎_elim (λ bad. absurd bad.2) (λ wrong. sum_wrong told S s n i y wrong) e) h

payload_wrong : (told : Option Blobs) (t : Table) (i : ℕ) (y : Why) → IsPayloadDamage told t kind.Payload i y → IsTrue (may_be_wrong kind.Payload y)
payload_wrong told t i why.Absent h = refl
payload_wrong told t i (why.Length want found) h = other_length want found h.1.2.2
payload_wrong told t i (why.Sum want found) h = other_sum want found h.1.2.3
payload_wrong told t i other h = absurd h.1.2

pub payload_bad : (told : Option Blobs) (S : State) (s n i : ℕ) (y : Why) → IsPinDamage told S s n kind.Payload i y ⊎ (IsBadPayloadOf told S s n kind.Payload i y ⊎ IsWrongSumOf told S s n kind.Payload i y) → IsTrue (may_be_wrong kind.Payload y)
payload_bad told S s n i y h = ⊎_elim (λ pin. absurd pin) (λ e. ⊎_elim (λ bad. payload_wrong told bad.0.table i y bad.2) (λ wrong. absurd wrong) e) h

damage_number : (told : Option Blobs) (S : State) (s n i : ℕ) (y : Why) → IsPinDamage told S s n kind.Recipe i y ⊎ (IsBadPayloadOf told S s n kind.Recipe i y ⊎ IsWrongSumOf told S s n kind.Recipe i y) → i ≡ (recipe_name s n).number
damage_number told S s n i y h = ⊎_elim (λ pin. pin_number told S s n i y pin) (λ e. ⊎_elim (λ bad. absurd bad.2) (λ wrong. sum_number told S s n i y wrong) e) h

module _ (v x : View) (before now : SinkTold) (S : State) (s n slots : ℕ) where
  kind_err : (limits : Limits) (f : Fault) → IsRestoreFault v x before now S s n f → IsTrue (fits limits (Restore s n [] slots) (Refused f))
  kind_err limits (fault.NotKept t m a b) h = subst (λ (g : Fault). IsTrue (fits limits (Restore s n [] slots) (Refused g))) (sym h.1) (both (itself s) (itself n))
  kind_err limits (fault.StoreFault i) h = refl
  kind_err limits (fault.WriteFault i) h = refl
  kind_err limits (fault.Damaged kind.Recipe i y) h =
      or_left ((i == (recipe_name s n).number) && may_be_wrong kind.Recipe y) false
      (both (ap (λ (m : ℕ). m == (recipe_name s n).number) (damage_number v.told.blobs S s n i y h) ∙ itself (recipe_name s n).number) (recipe_wrong v.told.blobs S s n i y h))
  kind_err limits (fault.Damaged kind.Payload i y) h =
      or_left (may_be_wrong kind.Payload y) false (payload_bad v.told.blobs S s n i y h)
  kind_err limits (fault.Damaged kind.Table i y) h = absurd (⊎_elim (λ pin. pin) (λ e. ⊎_elim (λ bad. bad.2) (λ wrong. wrong) e) h)
  kind_err limits (fault.Damaged kind.Floor i y) h = absurd (⊎_elim (λ pin. pin) (λ e. ⊎_elim (λ bad. bad.2) (λ wrong. wrong) e) h)
  kind_err limits fault.Memory h = refl
  kind_err limits other h = absurd h

  module _ (later : v.told.faults ≤ x.told.faults) (sink : before.faults ≤ now.faults) where
    abbrev Rises : Answer → Type 0
    Rises a = CausesRise (counts_of_sink v.told before) (counts_of_sink x.told now) (a ∷ [])

    causes_done : (bytes loads : ℕ) (a : Answer) → a ≡ Restored s n bytes loads → Rises a
    causes_done bytes loads a is = subst (λ (b : Answer). Rises b) (sym is) (record { store = later; place = omega arith; read = omega arith; write = sink })

    causes_err : (f : Fault) → IsRestoreFault v x before now S s n f → Rises (Refused f)
    causes_err (fault.NotKept t m a b) h = record { store = later; place = omega arith; read = omega arith; write = sink }
    causes_err (fault.StoreFault i) h = record { store = h; place = omega arith; read = omega arith; write = sink }
    causes_err (fault.WriteFault i) h = record { store = later; place = omega arith; read = omega arith; write = (subst (λ (k : ℕ). Rose before.faults k) (sym h.0) h.1, omega (arith, h.0)) }
    causes_err (fault.Damaged k i y) h = record { store = later; place = omega arith; read = omega arith; write = sink }
    causes_err fault.Memory h = record { store = later; place = omega arith; read = omega arith; write = sink }
    causes_err other h = absurd h

-- ---- the table of answers

module _ (limits : Limits) (S : State) (s n slots : ℕ) where
  exact_kept : (a : Answer) → is_kept S s n ≡ true → refuses_by_state a ≡ false → IsExact limits S (Restore s n [] slots) a
  exact_kept a kept is = subst (λ (b : Bool). MatchOption (if b then None else Some (fault.NotKept s n (floor_of S s) (latest_of S s))) (refuses_by_state a ≡ false) (λ f. a ≡ Refused f)) (sym kept) is

  refused_means : (f : Fault) → is_kept S s n ≡ true → is_of_state f ≡ false → IsTrue (is_of_state f || may_refuse limits S (Restore s n [] slots) f) → ShowsDamage S (Restore s n [] slots) (Refused f) → MeansLine limits (λ _. []) S (Restore s n [] slots) (Refused f)
  refused_means f kept is may damage = record { done = inl refl; exact = exact_kept (Refused f) kept is; refused = may; limit = tt; damage = damage }

  -- a crash around a restore
  bears : (other : Option Change) (a : Answer) (old new : Option History) → after (λ _. []) S (Restore s n [] slots) a ≡ S → LeavesOnlyIfTold old new (IsNear S other) → BearsStep (λ _. []) S other (Restore s n [] slots) a other old new
  bears other a old new is leaves = record {
    any_moment = more (IsNear S other) (λ c. StandsWith S other c ⊎ StandsWith (after (λ _. []) S (Restore s n [] slots) a) other c) (λ c near. inl (near_with S other c near)) old new leaves;
    behind = subst (λ (T : State). LeavesNowIfTold new (IsNear T other)) (sym is) (ends (IsNear S other) old new leaves);
  }

-- ---- the line

module _ (v x : View) (ps : List Pin) (before now : SinkTold) (s n slots : ℕ) (limits : Limits) where
  -- what the line comes to, from this state
  abbrev Goes : View → State → Option Change → Answer → Type 0
  Goes w S other a =
      (next : Option Change) × IsStateWith w ps (after (λ _. []) S (Restore s n [] slots) a) next
      × StepsOn limits (λ _. []) S other (Restore s n [] slots) a next (IsKnownStray v) (IsKnownStray w) v.told w.told

  goes_from : (S : State) (other : Option Change) (a : Answer) (is : IsStateWith v ps S other) → Goes x is.core.state is.core.other a → Goes x S other a
  goes_from S other a is goes = subst (λ (T : State). Goes x T other a) is.state (subst (λ (o : Option Change). Goes x is.core.state o a) is.change goes)

  module _ (K : Core) (keeps : Keeps v K) (no_job : K.job ≡ None) (pinned : K.pins ≡ ps) (told : IsSome v.told.blobs) (changed : IfSome K.other (λ h. IsValid h.state)) (images : v.pending ≡ pending.Not → LeavesNowIfTold v.told.history (IsNear K.state K.other)) where
    state_is : IsLeft v x s n → IsStateWith x ps K.state K.other
    state_is left =
        let stayed = left.state K keeps in
        record { core = with_pins K.pins stayed.strays K; keeps = stayed.keeps; state = refl; change = refl; job = no_job; pins = pinned; told = left.tells told; changed = changed; images = λ e. ends (IsNear K.state K.other) _ _ (left.any_moment K keeps (images (keeps.pending ∙ sym stayed.keeps.pending ∙ e))) }

    module _ (k : KeptVersion) (there : version_of K.state s n ≡ Some k) (kept : is_kept K.state s n ≡ true) where
      rows_are : row_ids K.state s n ≡ map (λ r. r.id) k.rows
      rows_are = ap (λ (o : Option KeptVersion). option_map_or (λ j. map (λ r. r.id) j.rows) o []) there

      no_more : (a : Answer) → IsLeft v x s n → StraysStep limits K.state (Restore s n [] slots) a (IsKnownStray v) (IsKnownStray x) v.told x.told
      no_more a left =
          let stayed = left.state K keeps in
          record {
            later = left.later;
            others = [];
            few = λ below. omega arith;
            each = λ q known. inl (subst (λ (l : List Name). Contains l q) (sym keeps.memo.strays)
                (stayed.within told (subst (λ (o : Option KeptVersion). IsSome o) (sym there) refl) q (subst (λ (l : List Name). Contains l q) stayed.keeps.memo.strays known)));
          }

      done_goes : (a : Answer) → HasGone v x before now s n slots (Ok a) → Goes x K.state K.other a
      done_goes a gone =
          let is = gone.ok told K k keeps there in
          let least = subst (λ (ids : List ℕ). IsLeast (requests ids) slots is.loads) (sym rows_are) is.least in
          let done : IsDone (λ _. []) K.state (Restore s n [] slots) (Restored s n (length (bytes_of K.state s n)) is.loads) = (kept, is.loads, least, refl) in
          subst (λ (b : Answer). Goes x K.state K.other b) (sym is.is) (
            K.other,
            state_is gone.left,
            record {
              means = record { done = inr done; exact = exact_kept limits K.state s n slots (Restored s n (length (bytes_of K.state s n)) is.loads) kept refl; refused = tt; limit = tt; damage = subst (λ (o : Option KeptVersion). IsSomeAnd o (λ j. fp (bytes_of K.state s n) ≡ j.sum)) (sym there) is.sum };
              complete = λ well. inl done;
              next_other = inr (inl (inr refl, refl));
              gets = (is.loads, is.gets, least);
              strays = no_more (Restored s n (length (bytes_of K.state s n)) is.loads) gone.left;
              crash = λ images. bears limits K.state s n slots K.other (Restored s n (length (bytes_of K.state s n)) is.loads) v.told.history x.told.history refl (gone.left.any_moment K keeps images);
              settles = λ done. cc;
              forms = still_forms K.state v.told.blobs x.told.blobs (λ t m j below is. (gone.left.state K keeps).recipes t m);
            },
          )

      refused_goes : (f : Fault) → HasGone v x before now s n slots (Err f) → MeansLine limits (λ _. []) K.state (Restore s n [] slots) (Refused f)
          → (IsWell limits (λ _. []) K.state (Restore s n [] slots ∷ []) → IsWellAnswered limits (λ _. []) K.state (Restore s n [] slots) (Refused f))
          → ((m : ℕ) → IsAtMostLeast (requests (row_ids K.state s n)) slots m → Gets K.state (Restore s n [] slots) (Refused f) m) → Goes x K.state K.other (Refused f)
      refused_goes f gone means complete few =
          let is = gone.err told K k keeps there in (
            K.other,
            state_is gone.left,
            record {
              means = means;
              complete = complete;
              next_other = inr (inl (inl refl, refl));
              gets = (is.loads, is.gets, few is.loads (subst (λ (ids : List ℕ). IsAtMostLeast (requests ids) slots is.loads) (sym rows_are) is.few));
              strays = no_more (Refused f) gone.left;
              crash = λ images. bears limits K.state s n slots K.other (Refused f) v.told.history x.told.history refl (gone.left.any_moment K keeps images);
              settles = λ done. cc;
              forms = still_forms K.state v.told.blobs x.told.blobs (λ t m j below is. (gone.left.state K keeps).recipes t m);
            },
          )

      err_goes : s < length K.state.datasets → (f : Fault) → IsRestoreFault v x before now K.state s n f → HasGone v x before now s n slots (Err f) → Goes x K.state K.other (Refused f)
      err_goes below (fault.NotKept t m a b) h gone = clash (is_kept K.state s n) kept h.0
      err_goes below (fault.StoreFault i) h gone = refused_goes (fault.StoreFault i) gone (refused_means limits K.state s n slots (fault.StoreFault i) kept refl refl tt) (λ well. inr (inr (inr refl))) (λ m few. few)
      err_goes below (fault.WriteFault i) h gone = refused_goes (fault.WriteFault i) gone (refused_means limits K.state s n slots (fault.WriteFault i) kept refl refl tt) (λ well. inr (inr (inr refl))) (λ m few. few)
      err_goes below (fault.Damaged d i y) h gone =
          let is = shown v K keeps told s n below k there d i y h in
          refused_goes (fault.Damaged d i y) gone (refused_means limits K.state s n slots (fault.Damaged d i y) kept refl is.0 is.1) (λ well. absurd (undamaged K.state well.sound s n d i y is.1)) (λ m few. few)
      err_goes below fault.Memory h gone = refused_goes fault.Memory gone (refused_means limits K.state s n slots fault.Memory kept refl refl tt) (λ well. inr (inr (inl refl))) (λ m few. few)
      err_goes below other h gone = absurd h

      kept_goes : s < length K.state.datasets → (result : Result Answer Fault) → HasGone v x before now s n slots result → Goes x K.state K.other (answer_of result)
      kept_goes below (Ok a) gone = done_goes a gone
      kept_goes below (Err f) gone = err_goes below f (gone.cause K keeps) gone

    -- a version that is not kept
    not_kept_goes : (result : Result Answer Fault) → is_kept K.state s n ≡ false → result ≡ Err (fault.NotKept s n (floor_of K.state s) (latest_of K.state s)) → x ≡ v → Goes x K.state K.other (answer_of result)
    not_kept_goes result kept is same =
        subst (λ (w : View). Goes w K.state K.other (answer_of result)) (sym same)
        (subst (λ (r : Result Answer Fault). Goes v K.state K.other (answer_of r)) (sym is) (
          K.other,
          record { core = K; keeps = keeps; state = refl; change = refl; job = no_job; pins = pinned; told = told; changed = changed; images = images },
          unmoved limits (λ _. []) K.state K.other (Restore s n [] slots) (fault.NotKept s n (floor_of K.state s) (latest_of K.state s)) (IsKnownStray v) v.told
              (not_kept_means limits (λ _. []) K.state s n [] slots (floor_of K.state s) (latest_of K.state s) (sym kept) refl refl)
              (inr (inl (fault.NotKept s n (floor_of K.state s) (latest_of K.state s), not_kept_is limits K.state s n [] slots (floor_of K.state s) (latest_of K.state s) (sym kept) refl refl, refl))) refl,
        ))

-- ---- what is written

module _ (v x : View) (before now : SinkTold) (s n slots : ℕ) (K : Core) (keeps : Keeps v K) (told : IsSome v.told.blobs) where
  refused_written : (f : Fault) → HasTakenFront before now (bytes_of K.state s n) → IsShortAt (bytes_of K.state s n) before.taken now.taken f → HasWritten K.state s n (Refused f) before.taken now.taken
  refused_written (fault.Damaged kind.Recipe i (why.Whole want found)) front all = (bytes_of K.state s n, ([], append-nil (bytes_of K.state s n)), all, λ done. refl)
  refused_written other front all = (front.front, (front.rest, front.parts), front.taken, λ done. absurd (let e : false ≡ true = done in cc))

  kept_written : (k : KeptVersion) → version_of K.state s n ≡ Some k → (result : Result Answer Fault) → HasGone v x before now s n slots result → HasWritten K.state s n (answer_of result) before.taken now.taken
  kept_written k there (Ok a) gone = (bytes_of K.state s n, ([], append-nil (bytes_of K.state s n)), (gone.ok told K k keeps there).taken, λ done. refl)
  kept_written k there (Err f) gone = refused_written f (gone.err told K k keeps there).front (gone.short told K k keeps there)

  not_kept_written : (result : Result Answer Fault) (f : Fault) → writes_all (Refused f) ≡ false → result ≡ Err f → now ≡ before → HasWritten K.state s n (answer_of result) before.taken now.taken
  not_kept_written result f few is same =
      subst (λ (w : SinkTold). HasWritten K.state s n (answer_of result) before.taken w.taken) (sym same)
      (subst (λ (r : Result Answer Fault). HasWritten K.state s n (answer_of r) before.taken before.taken) (sym is)
      ([], (bytes_of K.state s n, refl), takes_nothing before.taken, λ done. absurd (let e : false ≡ true = sym few ∙ done in cc)))

-- ---- the whole

same_told : (a b : Option Blobs) → IsSome a → IsSome b → ((q : Name) → blob_at b q ≡ blob_at a q) → b ≡ a
same_told None b one two is = absurd (let e : false ≡ true = one in cc)
same_told (Some m) None one two is = absurd (let e : false ≡ true = two in cc)
same_told (Some m) (Some n) one two is = ap (λ (c : Blobs). Some c) (same_blobs n m is)

pub restores : (v x : View) (before now : SinkTold) (s n slots : ℕ) (result : Result Answer Fault) → HasCore v → s < 256
    → ((K : Core) → Keeps v K → is_kept K.state s n ≡ false → result ≡ Err (fault.NotKept s n (floor_of K.state s) (latest_of K.state s)))
    → ((K : Core) → Keeps v K → is_kept K.state s n ≡ false → (x ≡ v) × (now ≡ before))
    → HasGone v x before now s n slots result → (ps : List Pin) → RestoresLine (IsStateWith v ps) (IsStateWith x ps) (IsKnownStray v) (IsKnownStray x) s n slots v.told x.told before now result
restores v x before now s n slots result core range exact still gone ps = record {
  done = done result gone.kind;
  kind = λ limits. fitting limits result gone.kind gone.cause;
  causes = rising result gone.kind gone.cause;
  steps = λ S other limits here. goes_from v x ps before now s n slots limits S other (answer_of result) here (steps_in limits here.core here.keeps here.job here.pins here.told (changed_of v S other here) (images_of v S other here) (is_kept here.core.state s n) refl);
  blobs = λ S other here. blobs_in here.core here.keeps here.told (is_kept here.core.state s n) refl;
  written = λ S other here. subst (λ (T : State). HasWritten T s n (answer_of result) before.taken now.taken) here.state (written_in here.core here.keeps here.told (is_kept here.core.state s n) refl);
  short = λ S other here. subst (λ (T : State). IfErr result (IsShortAt (bytes_of T s n) before.taken now.taken)) here.state (short_in here.core here.keeps here.told (is_kept here.core.state s n) refl);
}
  where
    done : (r : Result Answer Fault) → IfOk r (λ a. (bytes loads : ℕ) × (a ≡ Restored s n bytes loads)) → IfOk r (λ a. is_refused a ≡ false)
    done (Ok a) is = ap (λ (b : Answer). is_refused b) is.2
    done (Err f) is = tt

    fitting : (limits : Limits) (r : Result Answer Fault) → IfOk r (λ a. (bytes loads : ℕ) × (a ≡ Restored s n bytes loads)) → IfErr r (λ f. (K : Core) → Keeps v K → IsRestoreFault v x before now K.state s n f) → IsTrue (fits limits (Restore s n [] slots) (answer_of r))
    fitting limits (Ok a) is cause = kind_done limits s n slots is.0 is.1 a is.2
    fitting limits (Err f) is cause = kind_err v x before now core.0.state s n slots limits f (cause core.0 core.1)

    rising : (r : Result Answer Fault) → IfOk r (λ a. (bytes loads : ℕ) × (a ≡ Restored s n bytes loads)) → IfErr r (λ f. (K : Core) → Keeps v K → IsRestoreFault v x before now K.state s n f)
        → CausesRise (counts_of_sink v.told before) (counts_of_sink x.told now) (answer_of r ∷ [])
    rising (Ok a) is cause = causes_done v x before now core.0.state s n slots gone.left.later gone.sink is.0 is.1 a is.2
    rising (Err f) is cause = causes_err v x before now core.0.state s n slots gone.left.later gone.sink f (cause core.0 core.1)

    steps_in : (limits : Limits) (K : Core) → Keeps v K → K.job ≡ None → K.pins ≡ ps → IsSome v.told.blobs → IfSome K.other (λ h. IsValid h.state) → (v.pending ≡ pending.Not → LeavesNowIfTold v.told.history (IsNear K.state K.other)) → (b : Bool) → is_kept K.state s n ≡ b → Goes v x ps before now s n slots limits x K.state K.other (answer_of result)
    steps_in limits K keeps no_job pinned told changed images true kept =
        let k = version_there K.state s n keeps.core.state kept in
        kept_goes v x ps before now s n slots limits K keeps no_job pinned told changed images k.0 k.1 kept (let sets = keeps.core.state.sets in omega (arith, range, sets)) result gone
    steps_in limits K keeps no_job pinned told changed images false kept = not_kept_goes v x ps before now s n slots limits K keeps no_job pinned told changed images result kept (exact K keeps kept) (still K keeps kept).0

    blobs_in : (K : Core) → Keeps v K → IsSome v.told.blobs → (b : Bool) → is_kept K.state s n ≡ b → x.told.blobs ≡ v.told.blobs
    blobs_in K keeps told true kept =
        let k = version_there K.state s n keeps.core.state kept in
        same_told v.told.blobs x.told.blobs told (gone.left.tells told) ((gone.left.state K keeps).blobs told (subst (λ (o : Option KeptVersion). IsSome o) (sym k.1) refl))
    blobs_in K keeps told false kept = ap (λ (w : View). w.told.blobs) (still K keeps kept).0

    written_in : (K : Core) → Keeps v K → IsSome v.told.blobs → (b : Bool) → is_kept K.state s n ≡ b → HasWritten K.state s n (answer_of result) before.taken now.taken
    written_in K keeps told true kept =
        let k = version_there K.state s n keeps.core.state kept in
        kept_written v x before now s n slots K keeps told k.0 k.1 result gone
    written_in K keeps told false kept = not_kept_written v x before now s n slots K keeps told result (fault.NotKept s n (floor_of K.state s) (latest_of K.state s)) refl (exact K keeps kept) (still K keeps kept).1

    short_at : (K : Core) → (IsSome v.told.blobs → (k : KeptVersion) → version_of K.state s n ≡ Some k → IfErr result (IsShortAt (bytes_of K.state s n) before.taken now.taken)) → IsSome v.told.blobs → (b : Bool) → is_kept K.state s n ≡ b → Keeps v K
        → IfErr result (IsShortAt (bytes_of K.state s n) before.taken now.taken)
    short_at K of_kept told true kept keeps =
        let k = version_there K.state s n keeps.core.state kept in
        of_kept told k.0 k.1
    short_at K of_kept told false kept keeps = subst (λ (r : Result Answer Fault). IfErr r (IsShortAt (bytes_of K.state s n) before.taken now.taken)) (sym (exact K keeps kept)) tt

    short_in : (K : Core) → Keeps v K → IsSome v.told.blobs → (b : Bool) → is_kept K.state s n ≡ b → IfErr result (IsShortAt (bytes_of K.state s n) before.taken now.taken)
    short_in K keeps told b kept = short_at K (λ tells k there. of_result result gone.short tells k there) told b kept keeps
      where
        of_result : (r : Result Answer Fault) → IfErr r (λ f. (IsSome v.told.blobs) → (J : Core) (k : KeptVersion) → Keeps v J → version_of J.state s n ≡ Some k → IsShortAt (bytes_of J.state s n) before.taken now.taken f) → IsSome v.told.blobs → (k : KeptVersion) → version_of K.state s n ≡ Some k
            → IfErr r (IsShortAt (bytes_of K.state s n) before.taken now.taken)
        of_result (Ok a) short tells k there = tt
        of_result (Err f) short tells k there = short tells K k keeps there

-- the two ends of a restore

pub not_kept_line : (v : View) (told : SinkTold) (s n slots floor latest : ℕ) → HasCore v → s < 256 → ((K : Core) → Keeps v K → false ≡ is_kept K.state s n) → ((K : Core) → Keeps v K → floor ≡ floor_of K.state s) → ((K : Core) → Keeps v K → latest ≡ latest_of K.state s)
    → (ps : List Pin) → RestoresLine (IsStateWith v ps) (IsStateWith v ps) (IsKnownStray v) (IsKnownStray v) s n slots v.told v.told told told (Err (fault.NotKept s n floor latest))
not_kept_line v told s n slots floor latest core range kept low high =
    let gone = not_kept_gone v told s n slots floor latest kept low high in
    restores v v told told s n slots (Err (fault.NotKept s n floor latest)) core range (λ K keeps other. ap (λ (f : Fault). Err f) (gone.cause K keeps).1) (λ K keeps other. (refl, refl)) gone

pub kept_line : (v x : View) (before now : SinkTold) (s n slots : ℕ) (result : Result Answer Fault) → HasCore v → s < 256 → ((K : Core) → Keeps v K → true ≡ is_kept K.state s n) → HasGone v x before now s n slots result
    → (ps : List Pin) → RestoresLine (IsStateWith v ps) (IsStateWith x ps) (IsKnownStray v) (IsKnownStray x) s n slots v.told x.told before now result
kept_line v x before now s n slots result core range kept gone =
    restores v x before now s n slots result core range (λ K keeps other. clash (is_kept K.state s n) (sym (kept K keeps)) other) (λ K keeps other. clash (is_kept K.state s n) (sym (kept K keeps)) other) gone
