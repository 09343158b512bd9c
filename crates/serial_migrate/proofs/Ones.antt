-- One version: its restore, the put of its recipe, and what both come to.
use Rattle.std.proofs.Common.{◌≡◌, ◌⊎◌, inl, inr, ⊎_elim, ℕ, ◌≤◌, ◌<◌, true, false, IsTrue, length, map, List, [], ◌∷◌, ◌++◌, Option, Some, None, refl, sym, ap, subst, ◌∙◌, arith}
use Rattle.std.specs.Prelude.{IsSome, IfSome, IfOk, IfErr, OnOk, OnErr, Result, Ok, Err, Contains, is_some}
use Rattle.std.specs.Option.{option_map, option_map_or}
use Rattle.vault_types.specs.declared.Answer.{Answer}
use Rattle.vault_types.specs.declared.Answer.TheVariants.{Refused}
use Rattle.vault_types.specs.declared.Fault.{Fault}
use Rattle.vault_types.specs.declared.Fault.TheVariants as fault
use Rattle.vault_types.specs.declared.Fp.{Fp}
use Rattle.vault_types.specs.declared.Kind.{Kind}
use Rattle.vault_types.specs.declared.Kind.TheVariants as kind
use Rattle.vault_types.specs.declared.Name.{Name}
use Rattle.vault_types.specs.declared.Why.{Why}
use Rattle.vault_types.specs.declared.Why.TheVariants as why
use Rattle.vault_types.specs.Names.{fp}
use Rattle.vault_types.specs.State.{State, IsValid, KeptVersion, latest_of, is_kept, version_of, recipe_of}
use Rattle.vault_types.specs.Blobs.{recipe_bytes_1, recipe_bytes_2}
use Rattle.vault_types.specs.Bytes.{bytes_of, IsSound}
use Rattle.vault_types.specs.Shelf.{Blobs, blob_at, recipe_name, Has}
use Rattle.vault_types.specs.Events.{Core, Change, IsNear, with_pins, after_mend, after_refused}
use Rattle.vault_types.specs.Plans.{requests, IsLeast}
use Rattle.vault_types.specs.Script.{row_ids}
use Rattle.vault_traits.specs.Counts.{counted_up, Rose}
use Rattle.vault_traits.specs.Crash.{History, LeavesNowIfTold, LeavesOnlyIfTold}
use Rattle.vault_traits.specs.Told.{SinkTold}
use Rattle.vault_traits.proofs.Moments.{then, ends, more_now, stays}
use Rattle.vault_traits.specs.Causes.{IsCause}
use Rattle.vault_types.specs.BlobDamage.{IsRecipeDamage}
use Rattle.keeper_catalog.specs.Catalog.{Memo}
use Rattle.keeper_catalog.specs.View.{View, Keeps, HasCore}
use Rattle.commit_laws.proofs.Listing.{some_same, none_some}
use Rattle.state_laws.proofs.Members.{clash}
use Rattle.keeper_core.specs.Calls.{IsWholeOf, IsPinDamage}
use Rattle.keeper_core.specs.Replacing.{IsRefused, Replaces}
use Rattle.keeper_core.proofs.Replacings.{version_there, near_wider}
use Rattle.store_model.specs.Complete.{is_counted}
use Rattle.vault_types.specs.RecipeForms.{IsSecond}
use Rattle.store_model.specs.Migrating.{IsInFirstFormat, HaveFirst, ShowsKeptDamage}
use Rattle.keeper_core.specs.Keeping.{IsStateOf}
use Rattle.keeper_core.proofs.BetweenLines.{changed_of, images_of}
use Rattle.serial_restore.specs.Restoring.{IsRestoreFault, HasStayed, IsRestored, IsCut, WhereTold}
use Rattle.serial_restore.proofs.Damages.{undamaged, shown}
use Rattle.serial_restore.proofs.Lines.{recipe_wrong, payload_bad}
use Rattle.serial_migrate.specs.Going.{IsLaterOf, IsMigrateFault, LeavesOne, LoadsLeast, Summed, PutAgain, Stopped, Went, Halted, without_write}
use Rattle.serial_migrate.proofs.Alike.{kept_alike, one_state, told_back}
use Rattle.serial_migrate.proofs.Counts.{first_or_second, least_same}

-- what holds of the core's state and change holds of the state and the change that are kept
pub of_core : (v : View) (S : State) (other : Option Change) (P : State → Option Change → Type 0) (here : IsStateOf v S other) → P here.core.state here.core.other → P S other
of_core v S other P here p = subst (λ (T : State). P T other) here.state (subst (λ (o : Option Change). P here.core.state o) here.change p)

rows_of : (S : State) (s n : ℕ) (k : KeptVersion) → version_of S s n ≡ Some k → row_ids S s n ≡ map (λ r. r.id) k.rows
rows_of S s n k is = ap (λ (o : Option KeptVersion). option_map_or (λ j. map (λ r. r.id) j.rows) o []) is

-- blobs that tell a name
pub told_at : (b : Option Blobs) (q : Name) (x : Option (List ℕ)) → IsSome b → Has b q x → blob_at b q ≡ x
told_at None q x some has = absurd (let e : false ≡ true = some in cc)
told_at (Some m) q x some has = has

none_there : (o : Option Fp) → o ≡ None → IsSome o → ⊥
none_there None is some = absurd (let e : false ≡ true = some in cc)
none_there (Some x) is some = none_some x (sym is)

-- a fault over a sound state
abbrev IsFine : Fault → Type 0
IsFine f = (f ≡ fault.Memory) ⊎ IsTrue (is_counted (Refused f))

-- ---- a restore

-- what a restore ensures
pub record IsRestore (u w : View) (before now : SinkTold) (s n : ℕ) (result : Result Answer Fault) : Type 0 where
  pub core : HasCore u
  pub range : s < 256
  pub kept : (K : Core) → Keeps u K → is_kept K.state s n ≡ true
  pub cause : IfErr result (λ f. (K : Core) → Keeps u K → IsRestoreFault u w before now K.state s n f)
  pub state : (K : Core) → Keeps u K → HasStayed u w K s n
  pub any_moment : (K : Core) → Keeps u K → LeavesNowIfTold u.told.history (IsNear K.state K.other) → LeavesOnlyIfTold u.told.history w.told.history (IsNear K.state K.other)
  pub ok : IfOk result (λ answer. WhereTold u s n (λ K k. IsRestored u w before now K s n k 16 answer))
  pub err : OnErr result (WhereTold u s n (λ K k. IsCut u w before now K s n k 16))

module _ (u w : View) (before now : SinkTold) (s n : ℕ) (result : Result Answer Fault) (r : IsRestore u w before now s n result) where
  below : (K : Core) → Keeps u K → s < length K.state.datasets
  below K keeps = let range = r.range in let sets = keeps.core.state.sets in omega (arith, range, sets)

  version_is : (K : Core) → Keeps u K → (k : KeptVersion) × (version_of K.state s n ≡ Some k)
  version_is K keeps = version_there K.state s n keeps.core.state (r.kept K keeps)

  -- the version is kept behind it too
  pub kept_later : (J : Core) → Keeps w J → is_kept J.state s n ≡ true
  kept_later J also =
      let K : Core = r.core.0 in
      let stayed = r.state K r.core.1 in
      kept_alike w J (with_pins K.pins stayed.strays K) also stayed.keeps s n ∙ r.kept K r.core.1

  tells : IsSome u.told.blobs → IsSome w.told.blobs
  tells some =
      let K : Core = r.core.0 in
      let k = version_is K r.core.1 in
      told_back w.told.blobs u K s n k.0 r.core.1 (below K r.core.1) k.1 (sym ((r.state K r.core.1).recipes s n)) some

  told_before : IsSome w.told.blobs → IsSome u.told.blobs
  told_before some =
      let K : Core = r.core.0 in
      let stayed = r.state K r.core.1 in
      let k = version_is K r.core.1 in
      told_back u.told.blobs w (with_pins K.pins stayed.strays K) s n k.0 stayed.keeps (below K r.core.1) k.1 (stayed.recipes s n) some

  module _ (S : State) (other : Option Change) (here : IsStateOf u S other) where
    stayed_here : HasStayed u w here.core s n
    stayed_here = r.state here.core here.keeps

    leaves : LeavesOne u w S other other s n
    leaves = record {
      keeps = record { core = with_pins here.core.pins stayed_here.strays here.core; keeps = stayed_here.keeps; state = here.state; change = here.change; job = here.job; pins = here.pins; told = tells here.told; changed = here.changed; images = λ e. ends (IsNear S other) _ _ (of_core u S other (λ T o. LeavesNowIfTold u.told.history (IsNear T o) → LeavesOnlyIfTold u.told.history w.told.history (IsNear T o)) here (r.any_moment here.core here.keeps) (here.images (here.keeps.pending ∙ sym stayed_here.keeps.pending ∙ e))) };
      next_other = inr refl;
      others = λ t m low apart. stayed_here.recipes t m;
      own = λ k at. inl (stayed_here.recipes s n);
      strays = λ q known. subst (λ (l : List Name). Contains l q) (sym here.keeps.memo.strays)
          (stayed_here.within here.told (subst (λ (o : Option KeptVersion). IsSome o) (sym (version_is here.core here.keeps).1) refl) q (subst (λ (l : List Name). Contains l q) stayed_here.keeps.memo.strays known));
      any_moment = of_core u S other (λ T o. LeavesNowIfTold u.told.history (IsNear T o) → LeavesOnlyIfTold u.told.history w.told.history (IsNear T o)) here (r.any_moment here.core here.keeps);
    }

    loads_of : (P : List ℕ → Type 0) → P (map (λ q. q.id) (version_is here.core here.keeps).0.rows) → P (row_ids S s n)
    loads_of P p = subst (λ (T : State). P (row_ids T s n)) here.state (subst P (sym (rows_of here.core.state s n (version_is here.core here.keeps).0 (version_is here.core here.keeps).1)) p)

  pub summed_here : (answer : Answer) → result ≡ Ok answer → (S : State) (other : Option Change) → IsStateOf u S other → Summed u w S other s n
  summed_here answer is S other here =
      let k = version_is here.core here.keeps in
      let done = subst (λ (x : Result Answer Fault). IfOk x (λ a. WhereTold u s n (λ K j. IsRestored u w before now K s n j 16 a))) is r.ok here.told here.core k.0 here.keeps k.1 in
      record {
        leaves = leaves S other here;
        same = (stayed_here S other here).recipes;
        loads = record { loads = done.loads; least = loads_of S other here (λ ids. IsLeast (requests ids) 16 done.loads) done.least; gets = done.gets };
      }

  -- the sum of what was taken is that of the version
  pub whole_here : (answer : Answer) → result ≡ Ok answer → (x : List ℕ) → before.taken ≡ Some [] → now.taken ≡ Some x → IsSome w.told.blobs → (J : Core) (j : KeptVersion) → Keeps w J → version_of J.state s n ≡ Some j → fp x ≡ j.sum
  whole_here answer is x first last some J j also at =
      let K : Core = r.core.0 in
      let keeps = r.core.1 in
      let stayed = r.state K keeps in
      let same : J.state ≡ K.state = one_state w J (with_pins K.pins stayed.strays K) also stayed.keeps some in
      let there : version_of K.state s n ≡ Some j = subst (λ (T : State). version_of T s n ≡ Some j) same at in
      let done = subst (λ (y : Result Answer Fault). IfOk y (λ a. WhereTold u s n (λ K k. IsRestored u w before now K s n k 16 a))) is r.ok (told_before some) K j keeps there in
      let taken : now.taken ≡ Some (bytes_of K.state s n) = done.taken ∙ ap (λ (o : Option (List ℕ)). option_map (λ y. y ++ bytes_of K.state s n) o) first in
      ap fp (some_same x (bytes_of K.state s n) (sym last ∙ taken)) ∙ done.sum

  stopped_as : (f : Fault) → result ≡ Err f → (g : Fault) → (S : State) (other : Option Change) → IsStateOf u S other → ShowsKeptDamage S (Refused g) → (IsSound S → IsFine g) → Stopped u w S other s n g
  stopped_as f is g S other here damage sound =
      let k = version_is here.core here.keeps in
      let cut = subst (λ (x : Result Answer Fault). OnErr x (WhereTold u s n (λ K j. IsCut u w before now K s n j 16))) is r.err here.told here.core k.0 here.keeps k.1 in
      record {
        next = other;
        leaves = leaves S other here;
        loads = cut.loads;
        few = loads_of S other here (λ ids. (least : ℕ) → IsLeast (requests ids) 16 least → cut.loads ≤ least) cut.few;
        gets = cut.gets;
        damage = damage;
        sound = sound;
      }

  cause_is : (f : Fault) → result ≡ Err f → (K : Core) → Keeps u K → IsRestoreFault u w before now K.state s n f
  cause_is f is = subst (λ (x : Result Answer Fault). IfErr x (λ g. (K : Core) → Keeps u K → IsRestoreFault u w before now K.state s n g)) is r.cause

  -- what the shelf's answers show of damage
  damage_here : (d : Kind) (i : ℕ) (y : Why) (S : State) (other : Option Change) (here : IsStateOf u S other) → IsRestoreFault u w before now here.core.state s n (fault.Damaged d i y) → ShowsKeptDamage S (Refused (fault.Damaged d i y))
  damage_here d i y S other here h =
      let k = version_is here.core here.keeps in
      let is = shown u here.core here.keeps here.told s n (below here.core here.keeps) k.0 k.1 d i y h in
      subst (λ (T : State). ShowsKeptDamage T (Refused (fault.Damaged d i y))) here.state (s, n, k.0, k.1, is.0, is.1)

  pub stopped_here : (f : Fault) → result ≡ Err f → (S : State) (other : Option Change) → IsStateOf u S other → Stopped u w S other s n (without_write f)
  stopped_here (fault.StoreFault i) is S other here = stopped_as (fault.StoreFault i) is (fault.StoreFault i) S other here tt (λ sound. inr refl)
  stopped_here (fault.WriteFault i) is S other here = stopped_as (fault.WriteFault i) is fault.Memory S other here tt (λ sound. inl refl)
  stopped_here (fault.Damaged d i y) is S other here =
      let damage = damage_here d i y S other here (cause_is (fault.Damaged d i y) is here.core here.keeps) in
      stopped_as (fault.Damaged d i y) is (fault.Damaged d i y) S other here damage (λ sound. absurd (undamaged S sound damage.0 damage.1 d i y damage.5))
  stopped_here fault.Memory is S other here = stopped_as fault.Memory is fault.Memory S other here tt (λ sound. inl refl)
  stopped_here (fault.NotKept a b c e) is S other here =
      clash (is_kept here.core.state s n) (r.kept here.core here.keeps) (cause_is (fault.NotKept a b c e) is here.core here.keeps).0
  stopped_here f is S other here = absurd (cause_is f is here.core here.keeps)

  pub fault_here : (f : Fault) → result ≡ Err f → IsMigrateFault u w (without_write f)
  fault_here (fault.StoreFault i) is = cause_is (fault.StoreFault i) is r.core.0 r.core.1
  fault_here (fault.WriteFault i) is = tt
  fault_here (fault.Damaged kind.Recipe i y) is = recipe_wrong u.told.blobs r.core.0.state s n i y (cause_is (fault.Damaged kind.Recipe i y) is r.core.0 r.core.1)
  fault_here (fault.Damaged kind.Payload i y) is = payload_bad u.told.blobs r.core.0.state s n i y (cause_is (fault.Damaged kind.Payload i y) is r.core.0 r.core.1)
  fault_here (fault.Damaged kind.Table i y) is = absurd (⊎_elim (λ pin. pin) (λ e. ⊎_elim (λ bad. bad.2) (λ wrong. wrong) e) (cause_is (fault.Damaged kind.Table i y) is r.core.0 r.core.1))
  fault_here (fault.Damaged kind.Floor i y) is = absurd (⊎_elim (λ pin. pin) (λ e. ⊎_elim (λ bad. bad.2) (λ wrong. wrong) e) (cause_is (fault.Damaged kind.Floor i y) is r.core.0 r.core.1))
  fault_here fault.Memory is = tt
  fault_here (fault.NotKept a b c e) is = clash (is_kept r.core.0.state s n) (r.kept r.core.0 r.core.1) (cause_is (fault.NotKept a b c e) is r.core.0 r.core.1).0
  fault_here f is = absurd (cause_is f is r.core.0 r.core.1)

-- from the clauses of the call

pub kept_after : (u w : View) (s n : ℕ) → HasCore u → ((K : Core) → Keeps u K → is_kept K.state s n ≡ true) → ((K : Core) → Keeps u K → HasStayed u w K s n) → (J : Core) → Keeps w J → is_kept J.state s n ≡ true
kept_after u w s n core kept state J also =
    let K : Core = core.0 in
    let stayed = state K core.1 in
    kept_alike w J (with_pins K.pins stayed.strays K) also stayed.keeps s n ∙ kept K core.1

-- ---- a read of a recipe, and a put

pin_of_recipe : (told : Option Blobs) (S : State) (s n : ℕ) (d : Kind) (i : ℕ) (y : Why) → IsRecipeDamage told s n d i y → IsPinDamage told S s n d i y
pin_of_recipe told S s n kind.Recipe i (why.BadRow j) h = absurd h.1
pin_of_recipe told S s n kind.Recipe i y h = h
pin_of_recipe told S s n d i y h = absurd h

-- a fault of a read or of a put, which read the recipe
module _ (u w : View) (s n : ℕ) (range : s < 256) (kept : (K : Core) → Keeps u K → is_kept K.state s n ≡ true) where
  read_damage : (d : Kind) (i : ℕ) (y : Why) (S : State) (other : Option Change) → IsStateOf u S other → IsRecipeDamage u.told.blobs s n d i y → ShowsKeptDamage S (Refused (fault.Damaged d i y))
  read_damage d i y S other here h =
      let k = version_there here.core.state s n here.keeps.core.state (kept here.core here.keeps) in
      let sets = here.keeps.core.state.sets in
      let is = shown u here.core here.keeps here.told s n (omega (arith, range, sets)) k.0 k.1 d i y (inl (pin_of_recipe u.told.blobs here.core.state s n d i y h)) in
      subst (λ (T : State). ShowsKeptDamage T (Refused (fault.Damaged d i y))) here.state (s, n, k.0, k.1, is.0, is.1)

  pub read_shows : (f : Fault) → IsCause u.told.faults w.told.faults (IsRecipeDamage u.told.blobs s n) f → (S : State) (other : Option Change) → IsStateOf u S other → ShowsKeptDamage S (Refused f) × (IsSound S → IsFine f)
  read_shows (fault.StoreFault i) h S other here = (tt, λ sound. inr refl)
  read_shows (fault.Damaged d i y) h S other here =
      let damage = read_damage d i y S other here h in
      (damage, λ sound. absurd (undamaged S sound damage.0 damage.1 d i y damage.5))
  read_shows fault.Memory h S other here = (tt, λ sound. inl refl)
  read_shows f h S other here = absurd h

  pub read_fault : (f : Fault) → IsCause u.told.faults w.told.faults (IsRecipeDamage u.told.blobs s n) f → IsMigrateFault u w f
  read_fault (fault.StoreFault i) h = (subst (Rose u.told.faults) (sym h.0) h.1, omega (arith, h.0))
  read_fault (fault.Damaged kind.Recipe i why.Absent) h = refl
  read_fault (fault.Damaged kind.Recipe i why.Spelling) h = refl
  read_fault (fault.Damaged kind.Recipe i y) h = absurd h.1
  read_fault (fault.Damaged kind.Table i y) h = absurd h
  read_fault (fault.Damaged kind.Payload i y) h = absurd h
  read_fault (fault.Damaged kind.Floor i y) h = absurd h
  read_fault fault.Memory h = tt
  read_fault f h = absurd h

-- behind a restore
module _ {T : Type 0} (u w x : View) (s n : ℕ) (r : Result T Fault) (p : Replaces s n w x r) (S : State) (other : Option Change) (summed : Summed u w S other s n) where
  abbrev mid : IsStateOf w S other
  mid = summed.leaves.keeps

  abbrev K : Core
  K = mid.core

  leaves_with : (next : Option Change) → IsStateOf x S next → (next ≡ None) ⊎ (next ≡ other) → LeavesOne u x S other next s n
  leaves_with next keeps changes = record {
    keeps = keeps;
    next_other = changes;
    others = λ t m low apart. p.others K mid.keeps t m (subst (λ (T : State). m ≤ latest_of T t) (sym mid.state) low) apart ∙ summed.same t m;
    own = λ k at. ⊎_elim
        (λ same. inl (same ∙ summed.same s n))
        (λ second. inr second)
        (p.own K k mid.keeps (subst (λ (T : State). version_of T s n ≡ Some k) (sym mid.state) at));
    strays = λ q known. summed.leaves.strays q (subst (λ (m : Memo). Contains m.strays q) p.same.0 known);
    any_moment = λ now.
        let first = summed.leaves.any_moment now in
        then (IsNear S other) u.told.history w.told.history x.told.history first
        (of_core w S other (λ T o. LeavesNowIfTold w.told.history (IsNear T o) → LeavesOnlyIfTold w.told.history x.told.history (IsNear T o)) mid (p.any_moment K mid.keeps) (ends (IsNear S other) u.told.history w.told.history first));
  }

  loads_with : LoadsLeast u x S s n
  loads_with = record { loads = summed.loads.loads; least = summed.loads.least; gets = p.gets ∙ summed.loads.gets }

  pub put_done : ((J : Core) → Keeps w J → Keeps x (after_mend J.strays J)) → ((J : Core) (k : KeptVersion) → Keeps w J → version_of J.state s n ≡ Some k → Has x.told.blobs (recipe_name s n) (Some (recipe_bytes_2 k.sum (recipe_of s n k))))
      → ((J : Core) → Keeps w J → LeavesNowIfTold x.told.history (IsNear J.state None)) → PutAgain u x S other s n
  put_done ok spelled acknowledged =
      let told = p.tells mid.told in
      record {
        leaves = leaves_with None (record { core = after_mend K.strays K; keeps = ok K mid.keeps; state = mid.state; change = refl; job = mid.job; pins = mid.pins; told = told; changed = tt; images = λ e. subst (λ (T : State). LeavesNowIfTold x.told.history (IsNear T None)) mid.state (acknowledged K mid.keeps) }) (inl refl);
        second = λ k at. told_at x.told.blobs (recipe_name s n) (Some (recipe_bytes_2 k.sum (recipe_of s n k))) told
            (spelled K k mid.keeps (subst (λ (T : State). version_of T s n ≡ Some k) (sym mid.state) at));
        loads = loads_with;
        behind = λ now. subst (λ (T : State). LeavesNowIfTold x.told.history (IsNear T None)) mid.state (acknowledged K mid.keeps);
      }

  pub put_stopped : (f : Fault) → ((J : Core) → Keeps w J → IsRefused x J) → ShowsKeptDamage S (Refused f) × (IsSound S → IsFine f) → Stopped u x S other s n f
  put_stopped f err shows =
      let refused = err K mid.keeps in
      record {
        next = refused.0;
        leaves = leaves_with refused.0
            (record { core = after_refused refused.0 K.job K.strays x.pending K; keeps = refused.1; state = mid.state; change = refl; job = mid.job; pins = mid.pins; told = p.tells mid.told; changed = of_half refused.0 refused.2; images = λ e. more_now (IsNear S None) (IsNear S refused.0) (near_wider S refused.0) x.told.history (subst (λ (T : State). LeavesNowIfTold x.told.history (IsNear T None)) mid.state (p.settled K mid.keeps (images_of w S other mid) e)) })
            (⊎_elim (λ none. inl none) (λ same. inr (same ∙ mid.change)) refused.2);
        loads = summed.loads.loads;
        few = λ least is. let same = least_same (requests (row_ids S s n)) 16 least summed.loads.loads is summed.loads.least in omega (arith, same);
        gets = p.gets ∙ summed.loads.gets;
        damage = shows.0;
        sound = shows.1;
      }
    where
      of_half : (o : Option Change) → (o ≡ None) ⊎ (o ≡ K.other) → IfSome o (λ h. IsValid h.state)
      of_half o (inl none) = subst (λ (q : Option Change). IfSome q (λ h. IsValid h.state)) (sym none) tt
      of_half o (inr same) = subst (λ (q : Option Change). IfSome q (λ h. IsValid h.state)) (sym same) (changed_of w S other mid)

-- a call behind another one
pub later_of : (u v w : View) → IsLaterOf u v → IsLaterOf v w → IsLaterOf u w
later_of u v w one two = record { later = (let a = one.later in let b = two.later in omega (arith, a, b)); job = two.job ∙ one.job; pins = two.pins ∙ one.pins }

pub fault_of : (u v w : View) (f : Fault) → u.told.faults ≤ v.told.faults → IsMigrateFault v w f → IsMigrateFault u w f
fault_of u v w (fault.StoreFault i) low h = (let rose = h.0 in omega (arith, rose, low), h.1)
fault_of u v w (fault.Damaged kind.Recipe i y) low h = h
fault_of u v w (fault.Damaged kind.Payload i y) low h = h
fault_of u v w fault.Memory low h = tt
fault_of u v w f low h = absurd h

-- in each state that is kept, from the results of the calls
module _ (u w x : View) (s n : ℕ) where
  pub put_results : {T : Type 0} (r : Result T Fault) → Replaces s n w x r → ((S : State) (other : Option Change) → IsStateOf u S other → Summed u w S other s n) → OnOk r ((S : State) (other : Option Change) → IsStateOf u S other → PutAgain u x S other s n)
  put_results (Ok y) p each = λ S other here. put_done u w x s n (Ok y) p S other (each S other here) p.ok p.spelled p.acknowledged
  put_results (Err f) p each = tt

  pub put_refusals : {T : Type 0} (r : Result T Fault) → Replaces s n w x r → ((S : State) (other : Option Change) → IsStateOf u S other → Summed u w S other s n) → s < 256 → ((K : Core) → Keeps w K → is_kept K.state s n ≡ true)
      → IfErr r (λ f. (S : State) (other : Option Change) → IsStateOf u S other → Stopped u x S other s n f)
  put_refusals (Ok y) p each range kept = tt
  put_refusals (Err f) p each range kept = λ S other here.
      let summed = each S other here in
      put_stopped u w x s n (Err f) p S other summed f p.err (read_shows w x s n range kept f p.causes.each S other summed.leaves.keeps)

  pub put_faults : {T : Type 0} (r : Result T Fault) → Replaces s n w x r → u.told.faults ≤ w.told.faults → s < 256 → ((K : Core) → Keeps w K → is_kept K.state s n ≡ true) → IfErr r (IsMigrateFault u x)
  put_faults (Ok y) p low range kept = tt
  put_faults (Err f) p low range kept = fault_of u w x f low (read_fault w x s n range kept f p.causes.each)

-- a whole that is not there
pub no_whole : (o : Option Fp) → is_some o ≡ false → IsSome o → ⊥
no_whole None not some = absurd (let e : false ≡ true = some in cc)
no_whole (Some x) not some = absurd (let e : true ≡ false = not in cc)

-- ---- the whole of one version

-- what a read of the recipe ensures in every case
pub record IsRead (u v : View) : Type 0 where
  pub keeps : (K : Core) → Keeps u K → Keeps v K
  pub same : (v.memo ≡ u.memo) × (v.index ≡ u.index) × (v.pins ≡ u.pins) × (v.job ≡ u.job) × (v.pending ≡ u.pending)
  pub shelf : (v.told.blobs ≡ u.told.blobs) × (v.told.history ≡ u.told.history) × (v.told.gets ≡ u.told.gets)

module _ (u v : View) (s n : ℕ) (read : IsRead u v) (S : State) (other : Option Change) (here : IsStateOf u S other) where
  pub read_state : IsStateOf v S other
  read_state = record { core = here.core; keeps = read.keeps here.core here.keeps; state = here.state; change = here.change; job = here.job; pins = here.pins; told = subst (λ (b : Option Blobs). IsSome b) (sym read.shelf.0) here.told; changed = here.changed; images = λ e. subst (λ (h : Option History). LeavesNowIfTold h (IsNear S other)) (sym read.shelf.1) (here.images (sym read.same.4 ∙ e)) }

  blob_read : (q : Name) → blob_at v.told.blobs q ≡ blob_at u.told.blobs q
  blob_read q = ap (λ (b : Option Blobs). blob_at b q) read.shelf.0

  read_leaves : LeavesOne u v S other other s n
  read_leaves = record {
    keeps = read_state;
    next_other = inr refl;
    others = λ t m low apart. blob_read (recipe_name t m);
    own = λ k at. inl (blob_read (recipe_name s n));
    strays = λ q known. subst (λ (m : Memo). Contains m.strays q) read.same.0 known;
    any_moment = λ now. stays (IsNear S other) u.told.history v.told.history read.shelf.1 now;
  }

  pub read_halted : (f : Fault) → ShowsKeptDamage S (Refused f) × (IsSound S → IsFine f) → Halted u v S other s n f
  read_halted f shows = record {
    stopped = record { next = other; leaves = read_leaves; loads = 0; few = λ least is. omega arith; gets = read.shelf.2; damage = shows.0; sound = shows.1 };
    few = λ recipes least have. omega arith;
  }

  kept_here : (kept : (K : Core) → Keeps u K → is_kept K.state s n ≡ true) → (k : KeptVersion) × (version_of here.core.state s n ≡ Some k) × (version_of S s n ≡ Some k)
  kept_here kept =
      let k = version_there here.core.state s n here.keeps.core.state (kept here.core here.keeps) in
      (k.0, k.1, subst (λ (T : State). version_of T s n ≡ Some k.0) here.state k.1)

  -- the recipe is in the second format
  pub read_second : (whole : Option Fp) → (kept : (K : Core) → Keeps u K → is_kept K.state s n ≡ true) → IsSome whole
      → (IsSome u.told.blobs → (K : Core) (k : KeptVersion) → Keeps u K → version_of K.state s n ≡ Some k → IsWholeOf u.told.blobs s n k whole) → Went u v S other s n false
  read_second whole kept some says =
      let k = kept_here kept in
      let second : (j : KeptVersion) → version_of S s n ≡ Some j → IsSecond u.told.blobs s n j =
      λ j at. ⊎_elim
      (λ is. told_at u.told.blobs (recipe_name s n) (Some (recipe_bytes_2 j.sum (recipe_of s n j))) here.told is.1)
      (λ is. absurd (none_there whole is.0 some))
      (says here.told here.core j here.keeps (subst (λ (T : State). version_of T s n ≡ Some j) (sym here.state) at)) in
      record {
        next = other;
        leaves = read_leaves;
        second = λ j at. blob_read (recipe_name s n) ∙ second j at;
        loads = 0;
        have = inl ((k.0, k.2, second k.0 k.2), (refl, refl));
        gets = read.shelf.2;
        behind = λ now. subst (λ (h : Option History). LeavesNowIfTold h (IsNear S other)) (sym read.shelf.1) now;
      }

  -- it is in the first, and was put again
  first_is : (whole : Option Fp) → (IsSome whole → ⊥) → (IsSome u.told.blobs → (K : Core) (k : KeptVersion) → Keeps u K → version_of K.state s n ≡ Some k → IsWholeOf u.told.blobs s n k whole)
      → (j : KeptVersion) → version_of S s n ≡ Some j → IsInFirstFormat u.told.blobs s n j
  first_is whole none says j at = ⊎_elim
      (λ is. absurd (none (subst (λ (o : Option Fp). IsSome o) (sym is.0) refl)))
      (λ is. told_at u.told.blobs (recipe_name s n) (Some (recipe_bytes_1 (recipe_of s n j))) here.told is.1)
      (says here.told here.core j here.keeps (subst (λ (T : State). version_of T s n ≡ Some j) (sym here.state) at))

  module _ (w : View) where
    whole_leaves : (next : Option Change) → LeavesOne v w S other next s n → LeavesOne u w S other next s n
    whole_leaves next leaves = record {
      keeps = leaves.keeps;
      next_other = leaves.next_other;
      others = λ t m low apart. leaves.others t m low apart ∙ blob_read (recipe_name t m);
      own = λ k at. ⊎_elim (λ same. inl (same ∙ blob_read (recipe_name s n))) (λ second. inr second) (leaves.own k at);
      strays = λ q known. read_leaves.strays q (leaves.strays q known);
      any_moment = λ now. then (IsNear S other) u.told.history v.told.history w.told.history (read_leaves.any_moment now) (leaves.any_moment (ends (IsNear S other) u.told.history v.told.history (read_leaves.any_moment now)));
    }

    pub read_put : (whole : Option Fp) → (kept : (K : Core) → Keeps u K → is_kept K.state s n ≡ true) → (IsSome whole → ⊥)
        → (IsSome u.told.blobs → (K : Core) (k : KeptVersion) → Keeps u K → version_of K.state s n ≡ Some k → IsWholeOf u.told.blobs s n k whole) → PutAgain v w S other s n → Went u w S other s n true
    read_put whole kept none says put =
        let k = kept_here kept in
        record {
          next = None;
          leaves = whole_leaves None put.leaves;
          second = put.second;
          loads = put.loads.loads;
          have = inr (0, put.loads.loads, 0, record { version = k.0; kept = k.2; first = first_is whole none says k.0 k.2; loads = put.loads.least }, (refl, refl), refl, omega arith);
          gets = put.loads.gets ∙ ap (λ (g : ℕ). counted_up g put.loads.loads) read.shelf.2;
          behind = λ now. put.behind (ends (IsNear S other) u.told.history v.told.history (read_leaves.any_moment now));
        }

    pub put_halted : (whole : Option Fp) → (IsSome whole → ⊥)
        → (IsSome u.told.blobs → (K : Core) (k : KeptVersion) → Keeps u K → version_of K.state s n ≡ Some k → IsWholeOf u.told.blobs s n k whole) → (f : Fault) → Stopped v w S other s n f → Halted u w S other s n f
    put_halted whole none says f stopped = record {
      stopped = record {
        next = stopped.next;
        leaves = whole_leaves stopped.next stopped.leaves;
        loads = stopped.loads;
        few = stopped.few;
        gets = stopped.gets ∙ ap (λ (g : ℕ). counted_up g stopped.loads) read.shelf.2;
        damage = stopped.damage;
        sound = stopped.sound;
      };
      few = λ recipes least have. bound recipes least have;
    }
      where
        bound : (recipes least : ℕ) → HaveFirst u.told.blobs S ((s, n) ∷ []) recipes least → stopped.loads ≤ least
        bound recipes least (inl have) = absurd (first_or_second u.told.blobs s n have.0.0 have.0.0 (first_is whole none says have.0.0 have.0.1) have.0.2)
        bound recipes least (inr have) = let low = stopped.few have.1 have.3.loads in omega (arith, low, have.6)
