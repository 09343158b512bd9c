-- A recipe that is put again, by where it ends.
use Rattle.std.proofs.Common.{◌≡◌, ◌⊎◌, inl, inr, ⊎_elim, ℕ, ◌<◌, ◌≤◌, ◌==◌, length, List, [], Option, Some, None, refl, sym, ◌∙◌, ap, subst, arith}
use Rattle.std.specs.Prelude.{Ok, Err, IsSome, IfSome, IsTrue, if◌then◌else◌}
use Rattle.vault_types.specs.declared.Fault.{Fault}
use Rattle.vault_types.specs.declared.Fault.TheVariants as fault
use Rattle.vault_types.specs.declared.Fp.{Fp}
use Rattle.vault_types.specs.declared.Pending.{Pending}
use Rattle.vault_types.specs.declared.Pending.TheVariants.{Not, FailedFor}
use Rattle.vault_types.specs.declared.Recipe.{Recipe}
use Rattle.vault_types.specs.Names.{fp}
use Rattle.vault_types.specs.State.{State, KeptVersion, latest_of, version_of, is_kept, recipe_of}
use Rattle.vault_types.specs.Blobs.{SpellsRecipe, recipe_bytes, recipe_bytes_2}
use Rattle.vault_types.specs.BlobDamage.{IsRecipeDamage}
use Rattle.vault_types.specs.Shelf.{Blobs, Stands, recipe_name, blob_at, Has}
use Rattle.vault_types.specs.Events.{Core, IsNear, Held, after_mend, after_refused}
use Rattle.vault_traits.specs.Told.{ShelfTold}
use Rattle.vault_traits.specs.Shelf.{blobs_with, IsAsBefore}
use Rattle.vault_traits.specs.Causes.{HasCauses, IsCause, IsStoreFault, IsUndamaged}
use Rattle.vault_traits.specs.Crash.{History, LeavesNowIfTold, LeavesOnlyIfTold}
use Rattle.vault_traits.proofs.Moments.{then, ends, more}
use Rattle.state_laws.specs.Parts.{HeldIfTold}
use Rattle.state_laws.proofs.Changing.{told_same, told_more, near_alone, version_high}
use Rattle.keeper_parts.proofs.Telling.{tells_same}
use Rattle.keeper_catalog.specs.View.{View, Keeps, HasCore}
use Rattle.keeper_jobs.proofs.Seeing.{alone, not_failed}
use Rattle.keeper_open.proofs.Gathering.{causes_again}
use Rattle.recipe_replacement.specs.Replacing.{IsRecipeOfIfTold, waits_after}
use Rattle.keeper_core.specs.Mends.{MendsFirst}
use Rattle.keeper_core.specs.Replacing.{IsDueAfter, Replaces}
use Rattle.keeper_core.proofs.Keeping.{same_keeps}
use Rattle.keeper_core.proofs.Mendings.{mended_leaves}
use Rattle.keeper_core.proofs.Removing.{mended_now}
use Rattle.keeper_core.proofs.Refusing.{shelf_fault}
use Rattle.keeper_core.proofs.Replacings.{version_there, damage_before, says, of_state, spelled, refused_keeps, waits_why, near_wider, others_stay, own_or_second, told_put}

-- which mending is due behind a refusal

due_none : (f : Fault) (s : ℕ) (before now : Pending) → now ≡ Not → IsDueAfter f s before now
due_none (fault.StoreFault n) s before now none = inr (inl none)
due_none fault.Usage s before now none = none
due_none (fault.NotKept a b c d) s before now none = none
due_none (fault.ReadFault n) s before now none = none
due_none (fault.WriteFault n) s before now none = none
due_none (fault.Damaged k n w) s before now none = none
due_none fault.Memory s before now none = none
due_none (fault.TooMany n) s before now none = none
due_none (fault.LastVersion a b c) s before now none = none
due_none (fault.PlaceFault n) s before now none = none
due_none (fault.BadLine n) s before now none = none
due_none (fault.ScriptTooLong n) s before now none = none
due_none (fault.Full a b c) s before now none = none

due_put : (f : Fault) (q : Recipe) (s : ℕ) (before mid now : Pending) → mid ≡ Not → q.set ≡ s → now ≡ waits_after f q mid → IsDueAfter f s before now
due_put (fault.StoreFault n) q s before mid now none set is = inr (inr (is ∙ ap FailedFor set))
due_put fault.Usage q s before mid now none set is = is ∙ none
due_put (fault.NotKept a b c d) q s before mid now none set is = is ∙ none
due_put (fault.ReadFault n) q s before mid now none set is = is ∙ none
due_put (fault.WriteFault n) q s before mid now none set is = is ∙ none
due_put (fault.Damaged k n w) q s before mid now none set is = is ∙ none
due_put fault.Memory q s before mid now none set is = is ∙ none
due_put (fault.TooMany n) q s before mid now none set is = is ∙ none
due_put (fault.LastVersion a b c) q s before mid now none set is = is ∙ none
due_put (fault.PlaceFault n) q s before mid now none set is = is ∙ none
due_put (fault.BadLine n) q s before mid now none set is = is ∙ none
due_put (fault.ScriptTooLong n) q s before mid now none set is = is ∙ none
due_put (fault.Full a b c) q s before mid now none set is = is ∙ none

module _ {T : Type 0} (u m : View) (s n : ℕ) where
  -- the mending failed
  pub unmended_replaces : (f : Fault) → MendsFirst {T = T} u m (Err f) → Replaces {T = T} s n u m (Err f)
  unmended_replaces f mends =
      let failed = shelf_fault u.told.faults m.told.faults f mends.causes.each in
      record {
        ok = tt;
        spelled = tt;
        err = λ K keeps.
            let behind = mends.err K keeps in
            (K.other, subst (λ (p : Pending). Keeps m (after_refused K.other K.job K.strays p K)) (sym behind.pending) behind, inr refl);
        others = λ K keeps t v low apart. mends.recipes K keeps t v low;
        own = λ K k keeps at. inl (mends.recipes K keeps s n (version_high K.state s n k at));
        tells = mends.tells;
        any_moment = mends.any_moment;
        acknowledged = tt;
        settled = λ K keeps now over.
            let was : u.pending ≡ Not = sym mends.waits ∙ over in
            mended_now K u.pending u.told.history m.told.history (λ e. alone K keeps.core.other Not (sym keeps.pending ∙ e) not_failed) (mends.any_moment K keeps (now was)) (λ due. absurd (due was));
        due = subst (λ (g : Fault). IsDueAfter g s u.pending m.pending) (sym failed.1) (inl mends.waits);
        not_due = tt;
        same = (mends.memo, mends.index, mends.pins, mends.job);
        gets = mends.gets;
        causes = record {
          later = mends.causes.later;
          each = subst (λ (g : Fault). IsCause u.told.faults m.told.faults (IsRecipeDamage u.told.blobs s n) g) (sym failed.1) (subst (λ (g : Fault). IsStoreFault u.told.faults m.told.faults g) failed.1 mends.causes.each);
        };
      }

  module _ (x : T) (mends : MendsFirst u m (Ok x)) (below : s < 256) (kept : (K : Core) → Keeps u K → IsTrue (is_kept K.state s n)) (mid : ShelfTold) (stays : IsAsBefore m.told mid) where
    abbrev mended_to : Core → Core
    mended_to K = after_mend K.strays K

    read_held : (K : Core) → Keeps u K → HeldIfTold mid.blobs (mended_to K)
    read_held K keeps = told_same (λ b. Held b (mended_to K)) m.told.blobs mid.blobs stays.blobs (mends.ok K keeps).held

    blob_stays : (K : Core) → Keeps u K → (t v : ℕ) → v ≤ latest_of K.state t → blob_at mid.blobs (recipe_name t v) ≡ blob_at u.told.blobs (recipe_name t v)
    blob_stays K keeps t v low = ap (λ (b : Option Blobs). blob_at b (recipe_name t v)) stays.blobs ∙ mends.recipes K keeps t v low

    goes_on : IsSome u.told.blobs → IsSome mid.blobs
    goes_on tells = tells_same m.told.blobs mid.blobs stays.blobs (mends.tells tells)

    moment : (K : Core) → Keeps u K → LeavesNowIfTold u.told.history (IsNear K.state K.other) → LeavesOnlyIfTold u.told.history mid.history (IsNear K.state K.other)
    moment K keeps here = subst (λ (h : Option History). LeavesOnlyIfTold u.told.history h (IsNear K.state K.other)) (sym stays.history) (mends.any_moment K keeps here)

    leaves : (K : Core) → Keeps u K → (u.pending ≡ Not → LeavesNowIfTold u.told.history (IsNear K.state K.other)) → LeavesNowIfTold mid.history (IsNear K.state None)
    leaves K keeps now = subst (λ (h : Option History). LeavesNowIfTold h (IsNear K.state None)) (sym stays.history) (mended_leaves u m x mends K keeps now)

    -- the recipe could not be read
    abbrev unread : View
    unread = record { told = mid; memo = m.memo; index = m.index; pins = m.pins; job = m.job; pending = m.pending }

    unread_keeps : (K : Core) → Keeps u K → Keeps unread (mended_to K)
    unread_keeps K keeps = same_keeps m (mended_to K) (mends.ok K keeps) mid m.pending refl (read_held K keeps)

    pub unread_core : HasCore unread
    unread_core = (mended_to mends.core.0, unread_keeps mends.core.0 mends.core.1)

    pub unread_replaces : {U : Type 0} (f : Fault) → mid.gets ≡ m.told.gets → HasCauses {T = U} m.told.faults mid.faults (IsRecipeDamage m.told.blobs s n) (Err f) → Replaces {T = T} s n u unread (Err f)
    unread_replaces f gets causes =
        let K : Core = mends.core.0 in
        let keeps = mends.core.1 in
        let version = version_there K.state s n keeps.core.state (kept K keeps) in
        let behind = mends.ok K keeps in
        record {
          ok = tt;
          spelled = tt;
          err = λ J here. (None, subst (λ (p : Pending). Keeps unread (after_refused None J.job J.strays p J)) (sym mends.over) (unread_keeps J here), inl refl);
          others = λ J here t v low apart. blob_stays J here t v low;
          own = λ J k here at. inl (blob_stays J here s n (version_high J.state s n k at));
          tells = goes_on;
          any_moment = moment;
          acknowledged = tt;
          settled = λ J here now over. leaves J here now;
          due = due_none f s u.pending m.pending mends.over;
          not_due = tt;
          same = (mends.memo, mends.index, mends.pins, mends.job);
          gets = gets ∙ mends.gets;
          causes = causes_again u.told.faults m.told.faults mid.faults (IsRecipeDamage m.told.blobs s n) (IsRecipeDamage u.told.blobs s n) mends.causes.later causes.later
              (damage_before (mended_to K) behind.core s n version.0 (omega (arith, below, keeps.core.state.sets)) version.1 m.told.blobs u.told.blobs mends.tells behind.held) f causes.each (Err f) refl;
        }

    -- it was put
    module _ (w : Fp) (whole : IsSome u.told.blobs → (K : Core) (k : KeptVersion) → Keeps u K → version_of K.state s n ≡ Some k → w ≡ k.sum)
        (r q : Recipe) (found : (bytes : List ℕ) × Has m.told.blobs (recipe_name s n) (Some bytes) × SpellsRecipe s n bytes r) (is : q ≡ record r { whole = Some (if length r.rows == 0 then fp [] else w) })
        (told : ShelfTold) (waits : Pending) (at_most : (told.blobs ≡ mid.blobs) ⊎ (told.blobs ≡ blobs_with mid.blobs (recipe_name q.set q.version) (Some (recipe_bytes q))))
        (holds : (K : Core) → K.other ≡ None → IsRecipeOfIfTold mid.blobs K.state q → HeldIfTold mid.blobs K → HeldIfTold told.blobs K)
        (put_moment : (A : State) → IsRecipeOfIfTold mid.blobs A q → LeavesNowIfTold mid.history (IsNear A None) → LeavesOnlyIfTold mid.history told.history (IsNear A None)) where
      abbrev put : View
      put = record { told = told; memo = m.memo; index = m.index; pins = m.pins; job = m.job; pending = waits }

      whole_here : (K : Core) → Keeps u K → IsSome m.told.blobs → (k : KeptVersion) → version_of K.state s n ≡ Some k → w ≡ k.sum
      whole_here K keeps tells k at = whole (mends.told tells) K k keeps at

      put_says : (K : Core) (k : KeptVersion) → Keeps u K → version_of K.state s n ≡ Some k → IsSome mid.blobs → q ≡ recipe_of s n k
      put_says K k keeps at = says m (mended_to K) (mends.ok K keeps) s n below (kept K keeps) w (whole_here K keeps) r q found is mid.blobs stays.blobs k at

      put_of : (K : Core) → Keeps u K → IsRecipeOfIfTold mid.blobs K.state q
      put_of K keeps = of_state m (mended_to K) (mends.ok K keeps) s n below (kept K keeps) w (whole_here K keeps) r q found is mid.blobs stays.blobs

      set_here : q.set ≡ s
      set_here = ap (λ (p : Recipe). p.set) is ∙ found.2.set

      number_here : q.version ≡ n
      number_here = ap (λ (p : Recipe). p.version) is ∙ found.2.number

      put_held : (K : Core) → Keeps u K → HeldIfTold told.blobs (mended_to K)
      put_held K keeps = holds (mended_to K) refl (put_of K keeps) (read_held K keeps)

      put_others : (K : Core) → Keeps u K → (t v : ℕ) → v ≤ latest_of K.state t → (recipe_name t v ≡ recipe_name s n → ⊥) → blob_at told.blobs (recipe_name t v) ≡ blob_at u.told.blobs (recipe_name t v)
      put_others K keeps t v low apart = others_stay s n t v q mid.blobs told.blobs set_here number_here apart at_most ∙ blob_stays K keeps t v low

      put_own : (K : Core) (k : KeptVersion) → Keeps u K → version_of K.state s n ≡ Some k
          → (blob_at told.blobs (recipe_name s n) ≡ blob_at u.told.blobs (recipe_name s n)) ⊎ (blob_at told.blobs (recipe_name s n) ≡ Some (recipe_bytes_2 k.sum (recipe_of s n k)))
      put_own K k keeps at = ⊎_elim (λ same. inl (same ∙ blob_stays K keeps s n (version_high K.state s n k at))) (λ second. inr second)
          (own_or_second s n k q mid.blobs told.blobs (put_says K k keeps at) set_here number_here at_most)

      put_leaves : (K : Core) → Keeps u K → LeavesNowIfTold u.told.history (IsNear K.state K.other) → LeavesOnlyIfTold u.told.history told.history (IsNear K.state K.other)
      put_leaves K keeps here = (then) (IsNear K.state K.other) _ _ _ (moment K keeps here)
          (more (IsNear K.state None) (IsNear K.state K.other) (near_wider K.state K.other) _ _ (put_moment K.state (put_of K keeps) (leaves K keeps (λ e. here))))

      put_settled : (K : Core) → Keeps u K → (u.pending ≡ Not → LeavesNowIfTold u.told.history (IsNear K.state K.other)) → LeavesNowIfTold told.history (IsNear K.state None)
      put_settled K keeps now = ends (IsNear K.state None) _ _ (put_moment K.state (put_of K keeps) (leaves K keeps now))

      -- the put or the settle failed
      module _ (f : Fault) (due : waits ≡ waits_after f q m.pending) where
        unput_keeps : (K : Core) → Keeps u K → Keeps put (after_refused None K.job K.strays waits K)
        unput_keeps K keeps = refused_keeps m (mended_to K) (mends.ok K keeps) told waits s below (waits_why f q s m.pending waits mends.over set_here due) (put_held K keeps)

        pub unput_core : HasCore put
        unput_core = (_, unput_keeps mends.core.0 mends.core.1)

        pub unput_replaces : mid.gets ≡ m.told.gets → m.told.faults ≤ mid.faults → told.gets ≡ mid.gets → HasCauses {T = T} mid.faults told.faults IsUndamaged (Err f) → Replaces {T = T} s n u put (Err f)
        unput_replaces gets later put_gets causes = record {
          ok = tt;
          spelled = tt;
          err = λ K keeps. (None, unput_keeps K keeps, inl refl);
          others = put_others;
          own = put_own;
          tells = λ tells. told_put q mid.blobs told.blobs at_most (goes_on tells);
          any_moment = put_leaves;
          acknowledged = tt;
          settled = λ K keeps now over. put_settled K keeps now;
          due = due_put f q s u.pending m.pending waits mends.over set_here due;
          not_due = tt;
          same = (mends.memo, mends.index, mends.pins, mends.job);
          gets = put_gets ∙ gets ∙ mends.gets;
          causes = causes_again u.told.faults mid.faults told.faults IsUndamaged (IsRecipeDamage u.told.blobs s n) (omega (arith, mends.causes.later, later)) causes.later (λ k number why h. absurd h) f causes.each (Err f) refl;
        }

      -- it is done
      module _ (over : waits ≡ m.pending) where
        done_keeps : (K : Core) → Keeps u K → Keeps put (mended_to K)
        done_keeps K keeps = same_keeps m (mended_to K) (mends.ok K keeps) told waits over (put_held K keeps)

        pub done_core : HasCore put
        done_core = (mended_to mends.core.0, done_keeps mends.core.0 mends.core.1)

        pub done_replaces : mid.gets ≡ m.told.gets → m.told.faults ≤ mid.faults → told.gets ≡ mid.gets → mid.faults ≤ told.faults
            → told.blobs ≡ blobs_with mid.blobs (recipe_name q.set q.version) (Some (recipe_bytes q))
            → ((A : State) → IsRecipeOfIfTold mid.blobs A q → IfSome mid.blobs (λ b. Stands b A) → LeavesNowIfTold told.history (IsNear A None)) → (y : T) → Replaces {T = T} s n u put (Ok y)
        done_replaces gets later put_gets put_later written sure y = record {
          ok = done_keeps;
          spelled = λ K k keeps at. spelled s n k q mid.blobs told.blobs (put_says K k keeps at) set_here number_here written;
          err = tt;
          others = put_others;
          own = put_own;
          tells = λ tells. told_put q mid.blobs told.blobs at_most (goes_on tells);
          any_moment = put_leaves;
          acknowledged = λ K keeps. sure K.state (put_of K keeps) (told_more (λ b. Held b (mended_to K)) (λ b. Stands b K.state) mid.blobs (λ b h. near_alone K.state b h.near) (read_held K keeps));
          settled = λ K keeps now none. put_settled K keeps now;
          due = tt;
          not_due = over ∙ mends.over;
          same = (mends.memo, mends.index, mends.pins, mends.job);
          gets = put_gets ∙ gets ∙ mends.gets;
          causes = record { later = omega (arith, mends.causes.later, later, put_later); each = tt };
        }
