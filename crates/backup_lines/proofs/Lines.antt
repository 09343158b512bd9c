-- A backup's line, from what a backup ensures.
use Rattle.std.proofs.Common.{◌≡◌, ◌⊎◌, inl, inr, ⊎_elim, ◌≤◌, ◌<◌, ◌+◌, ◌-◌, ◌*◌, ◌^◌, ℕ, Bool, true, false, IsTrue, List, [], ◌∷◌, length, Option, None, refl, sym, ◌∙◌, ap, subst, arith}
use Rattle.std.specs.Prelude.{IsSome, IsSomeAnd, IfSome, unwrap_or, Result, Ok, Err, Contains}
use Rattle.std.proofs.lemmas.List.Elements.{Contains-push}
use Rattle.vault_types.specs.declared.JobConfig.{JobConfig}
use Rattle.vault_types.specs.declared.Limits.{Limits}
use Rattle.vault_types.specs.declared.Name.{Name}
use Rattle.vault_types.specs.declared.Fault.{Fault}
use Rattle.vault_types.specs.declared.Fault.TheVariants as fault
use Rattle.vault_types.specs.declared.Answer.{Answer}
use Rattle.vault_types.specs.declared.Answer.TheVariants.{Refused}
use Rattle.vault_types.specs.declared.Line.{Line}
use Rattle.vault_types.specs.declared.Line.TheVariants.{Backup}
use Rattle.vault_types.specs.Cuts.{cuts}
use Rattle.vault_types.specs.Shelf.{recipe_name, Stands}
use Rattle.vault_types.specs.State.{State, IsValid, is_full, latest_of, next_of}
use Rattle.vault_types.specs.Backup.{backup, stored}
use Rattle.vault_types.specs.Events.{Core, Change, Pin, IsNear, after_refused}
use Rattle.vault_types.specs.Script.{Sources, after, is_refused, is_store_fault}
use Rattle.vault_traits.specs.Counts.{Rose}
use Rattle.vault_traits.specs.Crash.{History, LeavesNowIfTold, LeavesOnlyIfTold}
use Rattle.vault_traits.specs.Told.{SourceTold}
use Rattle.vault_traits.proofs.Moments.{more, more_now}
use Rattle.vault_types.specs.JobRanges.{IsCuttable}
use Rattle.keeper_catalog.specs.View.{View, Keeps, HasCore}
use Rattle.keeper_core.specs.Calls.{IsShelfFault}
use Rattle.store_model.specs.Calls.{BacksUpLine, AreTooManyBytes}
use Rattle.store_model.specs.Causes.{CausesRise, counts_of_source, fits}
use Rattle.store_model.specs.Complete.{IsWell, IsWellAnswered}
use Rattle.store_model.specs.Steps.{BearsStep, IsNextOther, StandsWith, StepsOn, answer_of}
use Rattle.store_model.specs.Table.{MeansLine}
use Rattle.store_model.specs.Recipes.{KeepsForms}
use Rattle.script_laws.proofs.Following.{near_with}
use Rattle.script_laws.proofs.Forms.{grown_forms, still_forms}
use Rattle.script_laws.proofs.LineLemmas.{unmoved, full_is, full_means, not_full_means}
use Rattle.vault_types.specs.declared.Pending.TheVariants as pending
use Rattle.keeper_core.specs.Keeping.{IsStateWith, IsKnownStray}
use Rattle.keeper_core.proofs.BetweenLines.{changed_of, images_of}
use Rattle.backup_lines.proofs.Reading.{IsAll, is_all, whole_read, too_many}
use Rattle.backup_jobs.specs.Backup.{BacksUp, IsBackupRefused, IsBackupFault, IsCauseOf, MayBeHalf, after_backup, full_fault}
use Rattle.backup_lines.proofs.Refusals.{own_number, kind_err, cause_err, exact_other, many_means}

-- ---- what a crash leaves

module _ (sources : Sources) (S : State) (other : Option Change) (line : Line) where
  done_bears : (answer : Answer) (T : State) (old new : Option History) → T ≡ after sources S line answer → LeavesOnlyIfTold old new (λ c. IsNear S other c ⊎ Stands c T) → LeavesNowIfTold new (λ c. Stands c T)
      → BearsStep sources S other line answer None old new
  done_bears answer T old new is leaves behind = record {
    any_moment = more (λ c. IsNear S other c ⊎ Stands c T) (λ c. StandsWith S other c ⊎ StandsWith (after sources S line answer) None c)
        (λ c near. ⊎_elim (λ k. inl (near_with S other c k)) (λ stands. inr (inl (subst (Stands c) is stands))) near) old new leaves;
    behind = more_now (λ c. Stands c T) (IsNear (after sources S line answer) None) (λ c stands. inl (subst (Stands c) is stands)) new behind;
  }

  refused_bears : (f : Fault) (next : Option Change) (old new : Option History) → LeavesOnlyIfTold old new (λ c. IsNear S other c ⊎ IsNear S next c) → LeavesNowIfTold new (IsNear S next) → BearsStep sources S other line (Refused f) next old new
  refused_bears f next old new leaves behind = record {
    any_moment = more (λ c. IsNear S other c ⊎ IsNear S next c) (λ c. StandsWith S other c ⊎ StandsWith S next c)
        (λ c near. ⊎_elim (λ h. inl (near_with S other c h)) (λ h. inr (near_with S next c h)) near) old new leaves;
    behind = behind;
  }

-- ---- the line, in a state that is kept

module _ (u v : View) (ps : List Pin) (s : ℕ) (config : JobConfig) (limits : Limits) (from to : SourceTold) (x : List ℕ) where
  abbrev line : Line
  line = Backup s [] config

  -- what the line comes to
  abbrev Goes : View → State → Option Change → Answer → Type 0
  Goes w S other a =
      (next : Option Change) × IsStateWith w ps (after (λ _. x) S line a) next
      × StepsOn limits (λ _. x) S other line a next (IsKnownStray u) (IsKnownStray w) u.told w.told

  goes_from : (S : State) (other : Option Change) (a : Answer) (is : IsStateWith u ps S other) → Goes v is.core.state is.core.other a → Goes v S other a
  goes_from S other a is goes = subst (λ (T : State). Goes v T other a) is.state (subst (λ (o : Option Change). Goes v is.core.state o a) is.change goes)

  module _ (can : IsCuttable config.cutting) (K : Core) (keeps : Keeps u K) (pinned : K.pins ≡ ps) (told : IsSome u.told.blobs) (changed : IfSome K.other (λ h. IsValid h.state)) (images : u.pending ≡ pending.Not → LeavesNowIfTold u.told.history (IsNear K.state K.other)) where
    -- it was done
    done_goes : (a : Answer) (h : BacksUp s config limits u v from to (Ok a)) → IsAll from.left x h.read → Goes v K.state K.other a
    done_goes a h left = subst (λ (b : Answer). Goes v K.state K.other b) (sym is) (
      None,
      record { core = after_backup s h.read config v.memo.strays v.pending K; keeps = h.done K keeps; state = same; change = refl; job = refl; pins = pinned; told = h.tells told; changed = tt; images = λ e. more_now (λ c. Stands c (backup K.state s h.read config)) (IsNear (after (λ _. x) K.state line (stored K.state s x config)) None) (λ c stands. inl (subst (Stands c) same stands)) v.told.history (h.crash_after K keeps) },
      record {
        means = record {
          done = inr refl;
          exact = exact_other limits K.state s config (stored K.state s x config) (not_full (is_full K.state s limits) refl) refl;
          refused = tt;
          limit = record { too_many = λ n e. absurd (no_refusal n e); done = λ e. subst (λ (z : List ℕ). length (cuts z config.cutting) ≤ limits.chunks) whole h.few };
          damage = tt;
        };
        complete = λ all. inl refl;
        next_other = inl refl;
        gets = (0, h.gets, refl);
        strays = record { later = h.store_later; others = []; few = λ below. omega arith; each = λ n known. inl (h.strays n known) };
        crash = λ images. done_bears (λ _. x) K.state K.other line (stored K.state s x config) (backup K.state s h.read config) u.told.history v.told.history same (h.crash K keeps images) (h.crash_after K keeps);
        settles = λ done. more_now (λ c. Stands c (backup K.state s h.read config)) (λ c. Stands c (after (λ _. x) K.state line (stored K.state s x config))) (λ c stands. subst (Stands c) same stands) v.told.history (h.crash_after K keeps);
        forms = subst (λ (T : State). KeepsForms K.state T u.told.blobs v.told.blobs) same
            (grown_forms K.state s h.read config u.told.blobs v.told.blobs keeps.core.state (h.recipes K keeps) (λ k is. h.second told K k keeps is));
      },
    )
      where
        whole : h.read ≡ x
        whole = whole_read from to x h.read left h.given h.to_the_end

        same : backup K.state s h.read config ≡ backup K.state s x config
        same = ap (λ (z : List ℕ). backup K.state s z config) whole

        is : a ≡ stored K.state s x config
        is = h.answer K keeps ∙ ap (λ (z : List ℕ). stored K.state s z config) whole

        not_full : (b : Bool) → is_full K.state s limits ≡ b → is_full K.state s limits ≡ false
        not_full false e = e
        not_full true e = let clash : ◌≡◌ {A = Result Answer Fault} (Ok a) (Err (full_fault s K.state)) = (h.full K keeps e).0 in cc

        no_refusal : (n : ℕ) → stored K.state s x config ≡ Refused (fault.TooMany n) → ⊥
        no_refusal n e = let clash : false ≡ true = ap is_refused e in cc

    -- the set is full
    full_goes : (f : Fault) → is_full K.state s limits ≡ true → K.job ≡ None → BacksUp s config limits u v from to (Err f) → Goes v K.state K.other (Refused f)
    full_goes f full no_job h = subst (λ (w : View). Goes w K.state K.other (Refused f)) (sym (h.full K keeps full).1) (subst (λ (g : Fault). Goes u K.state K.other (Refused g)) (sym (is (h.full K keeps full).0)) (
      K.other,
      record { core = K; keeps = keeps; state = refl; change = refl; job = no_job; pins = pinned; told = told; changed = changed; images = images },
      unmoved limits (λ _. x) K.state K.other line (full_fault s K.state) (IsKnownStray u) u.told
          (full_means limits (λ _. x) K.state s [] config (latest_of K.state s) (next_of K.state) (sym full) refl refl)
          (inr (inl (full_fault s K.state, full_is limits K.state s [] config (latest_of K.state s) (next_of K.state) (sym full) refl refl, refl)))
          refl,
    ))
      where
        is : ◌≡◌ {A = Result Answer Fault} (Err f) (Err (full_fault s K.state)) → f ≡ full_fault s K.state
        is e = cc

    -- it is refused by another fault
    other_goes : (f : Fault) (h : BacksUp s config limits u v from to (Err f)) → IsAll from.left x h.read → MeansLine limits (λ _. x) K.state line (Refused f) → (IsWell limits (λ _. x) K.state (line ∷ []) → IsWellAnswered limits (λ _. x) K.state line (Refused f))
        → (others : List Name) → (v.told.faults < 2 ^ 64 - 1 → length others ≤ 2 * (v.told.faults - u.told.faults)) → (IsShelfFault f → Contains others (recipe_name s (latest_of K.state s + 1)))
        → Goes v K.state K.other (Refused f)
    other_goes f h left means complete others few among = (
      r.other,
      record { core = after_refused r.other None v.memo.strays v.pending K; keeps = r.keeps; state = refl; change = refl; job = refl; pins = pinned; told = h.tells told; changed = r.changed changed; images = r.settled images },
      record {
        means = means;
        complete = complete;
        next_other = next_of_half r.half;
        gets = (0, h.gets, refl);
        strays = record {
          later = h.store_later;
          others = others;
          few = few;
          each = λ n known. ⊎_elim (λ old. inl (inl old))
              (λ new. ⊎_elim (λ numbered. inl (inr numbered)) (λ recipe. inr (subst (λ (q : Name). Contains others q) (sym recipe.0) (among recipe.1))) new) (r.strays n known);
        };
        crash = λ images. refused_bears (λ _. x) K.state K.other line f r.other u.told.history v.told.history (r.any_moment images) (r.behind images);
        settles = λ done. cc;
        forms = still_forms K.state u.told.blobs v.told.blobs (h.recipes K keeps);
      },
    )
      where
        r : IsBackupRefused s config limits h.read u v from to K f
        r = h.refused K keeps

        failed : IsShelfFault f → IsTrue (is_store_fault (Refused f))
        failed shelf = subst (λ (g : Fault). IsTrue (is_store_fault (Refused g))) (sym shelf.1) refl

        is_state : IsSomeAnd r.other (λ k. k.state ≡ backup K.state s h.read config) → h.read ≡ x → IsSomeAnd r.other (λ k. k.state ≡ backup K.state s x config)
        is_state some whole = subst (λ (z : List ℕ). IsSomeAnd r.other (λ k. k.state ≡ backup K.state s z config)) whole some

        next_of_half : MayBeHalf s config h.read from to K f r.other → IsNextOther (λ _. x) K.state K.other line (Refused f) r.other
        next_of_half (inl same) = inr (inl (inl refl, same.0))
        next_of_half (inr (inl none)) = inl none
        next_of_half (inr (inr done)) = inr (inr (failed done.2, refl, is_state done.0 (whole_read from to x h.read left h.given done.1)))

    abbrev no_names : List Name
    no_names = []

    none_few : (n m : ℕ) → n < 2 ^ 64 - 1 → length no_names ≤ 2 * (n - m)
    none_few n m below = omega arith

    one_few : (q : Name) (n m k : ℕ) → Rose m k → k ≤ n → n < 2 ^ 64 - 1 → length (q ∷ []) ≤ 2 * (n - m)
    one_few q n m k rose later below = omega (arith, rose)

    by_fault : (f : Fault) → is_full K.state s limits ≡ false → (h : BacksUp s config limits u v from to (Err f)) → IsAll from.left x h.read → IsBackupFault config limits u.told.faults v.told.faults from to h.read f → Goes v K.state K.other (Refused f)
    by_fault fault.Memory full h left why =
        other_goes fault.Memory h left (not_full_means limits (λ _. x) K.state s [] config fault.Memory (sym full) refl (λ k e. cc) refl) (λ all. inr (inr (inl refl)))
        no_names (none_few v.told.faults u.told.faults) (λ shelf. let clash : fault.Memory ≡ fault.StoreFault shelf.0 = shelf.1 in cc)
    by_fault (fault.StoreFault n) full h left why =
        other_goes (fault.StoreFault n) h left (not_full_means limits (λ _. x) K.state s [] config (fault.StoreFault n) (sym full) refl (λ k e. cc) refl) (λ all. inr (inr (inr refl)))
        (recipe_name s (latest_of K.state s + 1) ∷ []) (one_few (recipe_name s (latest_of K.state s + 1)) v.told.faults u.told.faults n why.0 why.1) (λ shelf. Contains-push [] (recipe_name s (latest_of K.state s + 1)))
    by_fault (fault.ReadFault n) full h left why =
        other_goes (fault.ReadFault n) h left (not_full_means limits (λ _. x) K.state s [] config (fault.ReadFault n) (sym full) refl (λ k e. cc) refl) (λ all. inr (inr (inr refl)))
        no_names (none_few v.told.faults u.told.faults) (λ shelf. let clash : fault.ReadFault n ≡ fault.StoreFault shelf.0 = shelf.1 in cc)
    by_fault (fault.TooMany n) full h left why =
        let many : limits.chunks < length (cuts x config.cutting) = too_many from to x h.read left h.given config limits u.told.faults v.told.faults n can why in
        other_goes (fault.TooMany n) h left (many_means limits x K.state s config n full why.0 many) (λ all. absurd (omega (arith, all.few.0, many)))
        no_names (none_few v.told.faults u.told.faults) (λ shelf. let clash : fault.TooMany n ≡ fault.StoreFault shelf.0 = shelf.1 in cc)
    by_fault fault.Usage full h left why = absurd why
    by_fault (fault.NotKept a b c d) full h left why = absurd why
    by_fault (fault.WriteFault n) full h left why = absurd why
    by_fault (fault.Damaged a b c) full h left why = absurd why
    by_fault (fault.LastVersion a b c) full h left why = absurd why
    by_fault (fault.PlaceFault n) full h left why = absurd why
    by_fault (fault.BadLine n) full h left why = absurd why
    by_fault (fault.ScriptTooLong n) full h left why = absurd why
    by_fault (fault.Full a b c) full h left why = absurd why

    refused_goes : (f : Fault) → K.job ≡ None → (h : BacksUp s config limits u v from to (Err f)) → IsAll from.left x h.read → Goes v K.state K.other (Refused f)
    refused_goes f no_job h left = by_test (is_full K.state s limits) refl
      where
        by_test : (b : Bool) → is_full K.state s limits ≡ b → Goes v K.state K.other (Refused f)
        by_test true full = full_goes f full no_job h
        by_test false full = by_fault f full h left (⊎_elim (λ is. absurd (let clash : false ≡ true = sym full ∙ is.0 in cc)) (λ why. why) (h.causes K keeps))

-- ---- the whole

kind_done : (limits : Limits) (S : State) (s : ℕ) (x : List ℕ) (config : JobConfig) (a : Answer) → a ≡ stored S s x config → IsTrue (fits limits (Backup s [] config) a)
kind_done limits S s x config a is = subst (λ (b : Answer). IsTrue (fits limits (Backup s [] config) b)) (sym is) (own_number s)

causes_done : (u v : View) (from to : SourceTold) (S : State) (s : ℕ) (x : List ℕ) (config : JobConfig) (a : Answer) → a ≡ stored S s x config → u.told.faults ≤ v.told.faults → from.faults ≤ to.faults
    → CausesRise (counts_of_source u.told from) (counts_of_source v.told to) (a ∷ [])
causes_done u v from to S s x config a is store source =
    subst (λ (b : Answer). CausesRise (counts_of_source u.told from) (counts_of_source v.told to) (b ∷ [])) (sym is) (record { store = store; place = omega arith; read = source; write = omega arith })

-- too many bytes were read
many_read : (s : ℕ) (config : JobConfig) (limits : Limits) (u v : View) (from to : SourceTold) (read : List ℕ) (K : Core) (n : ℕ) → IsCauseOf s config limits u v from to read K (fault.TooMany n) → AreTooManyBytes limits config read to
many_read s config limits u v from to read K n (inl full) = absurd (let clash : fault.TooMany n ≡ fault.Full s (latest_of K.state s) (next_of K.state) = full.1 in cc)
many_read s config limits u v from to read K n (inr why) = why.1

not_refused : (a : Answer) (f : Fault) → ◌≡◌ {A = Result Answer Fault} (Ok a) (Err f) → ⊥
not_refused a f e = cc

same_fault : (f g : Fault) → ◌≡◌ {A = Result Answer Fault} (Err f) (Err g) → f ≡ g
same_fault f g e = cc

-- what a backup ensures of its line whatever the steps are told of
module _ (Before After : State → Option Change → Type 0) (u v : View) (s : ℕ) (config : JobConfig) (limits : Limits) (from to : SourceTold) (core : HasCore u) where
  abbrev Stepping : (read : List ℕ) → Answer → Type 0
  Stepping read a = (S : State) (other : Option Change) → Before S other
      → (next : Option Change) × After (after (λ _. unwrap_or from.left read) S (Backup s [] config) a) next
      × StepsOn limits (λ _. unwrap_or from.left read) S other (Backup s [] config) a next (IsKnownStray u) (IsKnownStray v) u.told v.told

  backs_up_with : (result : Result Answer Fault) → (h : BacksUp s config limits u v from to result) → Stepping h.read (answer_of result) → BacksUpLine Before After (IsKnownStray u) (IsKnownStray v) limits s config u.told v.told from to result
  backs_up_with (Ok a) h steps = record {
    read = h.read;
    given = h.given;
    within = h.within;
    too_many = λ n e. absurd (not_refused a (fault.TooMany n) e);
    done = ap is_refused (h.answer core.0 core.1);
    kind = kind_done limits core.0.state s h.read config a (h.answer core.0 core.1);
    causes = causes_done u v from to core.0.state s h.read config a (h.answer core.0 core.1) h.store_later h.source_later;
    steps = steps;
    to_the_end = h.to_the_end;
  }
  backs_up_with (Err f) h steps = record {
    read = h.read;
    given = h.given;
    within = h.within;
    too_many = λ n e. many_read s config limits u v from to h.read core.0 n (subst (IsCauseOf s config limits u v from to h.read core.0) (same_fault f (fault.TooMany n) e) (h.causes core.0 core.1));
    done = tt;
    kind = kind_err limits s config u v from to h.read core.0 f (h.causes core.0 core.1);
    causes = cause_err s config limits u v from to h.read h.store_later h.source_later core.0 f (h.causes core.0 core.1);
    steps = steps;
    to_the_end = tt;
  }

-- the steps in a state that is kept with some pins
line_goes : (u v : View) (s : ℕ) (config : JobConfig) (limits : Limits) (from to : SourceTold) (result : Result Answer Fault) → IsCuttable config.cutting → (h : BacksUp s config limits u v from to result)
    → (ps : List Pin) (S : State) (other : Option Change) → IsStateWith u ps S other → Goes u v ps s config limits from to (unwrap_or from.left h.read) v S other (answer_of result)
line_goes u v s config limits from to (Ok a) can h ps S other here = goes_from u v ps s config limits from to (unwrap_or from.left h.read) S other a here
    (done_goes u v ps s config limits from to (unwrap_or from.left h.read) can here.core here.keeps here.pins here.told (changed_of u S other here) (images_of u S other here) a h (is_all from.left h.read))
line_goes u v s config limits from to (Err f) can h ps S other here = goes_from u v ps s config limits from to (unwrap_or from.left h.read) S other (Refused f) here
    (refused_goes u v ps s config limits from to (unwrap_or from.left h.read) can here.core here.keeps here.pins here.told (changed_of u S other here) (images_of u S other here) f here.job h (is_all from.left h.read))

pub backs_up_line : (u v : View) (s : ℕ) (config : JobConfig) (limits : Limits) (from to : SourceTold) (result : Result Answer Fault) → HasCore u → IsCuttable config.cutting → BacksUp s config limits u v from to result
    → (ps : List Pin) → BacksUpLine (IsStateWith u ps) (IsStateWith v ps) (IsKnownStray u) (IsKnownStray v) limits s config u.told v.told from to result
backs_up_line u v s config limits from to result core can h ps =
    backs_up_with (IsStateWith u ps) (IsStateWith v ps) u v s config limits from to core result h (line_goes u v s config limits from to result can h ps)

-- the bytes that were read are the same with any pins
pub backs_up_beside : (u v : View) (s : ℕ) (config : JobConfig) (limits : Limits) (from to : SourceTold) (result : Result Answer Fault) → HasCore u → IsCuttable config.cutting → BacksUp s config limits u v from to result
    → BacksUpLine (λ S other. (ps : List Pin) × IsStateWith u ps S other) (λ S other. (ps : List Pin) × IsStateWith v ps S other) (IsKnownStray u) (IsKnownStray v) limits s config u.told v.told from to result
backs_up_beside u v s config limits from to result core can h =
    backs_up_with (λ S other. (ps : List Pin) × IsStateWith u ps S other) (λ S other. (ps : List Pin) × IsStateWith v ps S other) u v s config limits from to core result h
    (λ S other here. let goes = line_goes u v s config limits from to result can h here.0 S other here.1 in (goes.0, (here.0, goes.1), goes.2))
