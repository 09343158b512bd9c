-- What single lines do.
use Rattle.std.specs.Str.{bytes_eq}
use Rattle.std.specs.Option.{option_map}
use Rattle.vault_types.proofs.FillLemmas.{bytes_eq-same}
use Rattle.vault_types.specs.Bytes.{bytes_of}
use Rattle.vault_types.specs.Words.{is_one_of}
use Rattle.std.proofs.Common.{◌≡◌, ◌≢◌, ◌++◌, ◌||◌, ◌&&◌, ◌⊎◌, inl, inr, ◌≤◌, ℕ, Bool, true, false, IsTrue, List, [], ◌∷◌, Option, Some, None, refl, sym, ◌∙◌, ap, subst, arith}
use Rattle.std.specs.Prelude.{MatchOption, if◌then◌else◌, IfSome}
use Rattle.std.specs.List.{cons_option}
use Rattle.vault_types.specs.declared.Limits.{Limits}
use Rattle.vault_types.specs.declared.JobConfig.{JobConfig}
use Rattle.vault_types.specs.declared.Name.{Name}
use Rattle.vault_types.specs.declared.Fault.{Fault}
use Rattle.vault_types.specs.declared.Fault.TheVariants as fault
use Rattle.vault_types.specs.declared.Kind.TheVariants as kind
use Rattle.vault_types.specs.declared.Why.TheVariants as why
use Rattle.vault_types.specs.declared.Answer.{Answer}
use Rattle.vault_types.specs.declared.Answer.TheVariants.{Restored, Refused}
use Rattle.vault_types.specs.declared.Line.{Line}
use Rattle.vault_types.specs.declared.Line.TheVariants.{Backup, Restore, Delete}
use Rattle.vault_types.specs.State.{State, is_full, is_kept, floor_of, latest_of, next_of}
use Rattle.vault_types.specs.Script.{Sources, is_refused, changes}
use Rattle.vault_types.specs.Refusals.{due_refusal, is_of_state, refuses_by_state, IsExact}
use Rattle.vault_traits.specs.Counts.{added, RiseFrom}
use Rattle.vault_types.specs.Events.{Change, IsNear}
use Rattle.vault_types.specs.Shelf.{Blobs}
use Rattle.vault_traits.specs.Told.{ShelfTold, Files}
use Rattle.vault_traits.specs.Files.{AreKept, ChangesOnly, IsEmptied, IsThere}
use Rattle.vault_traits.proofs.Moments.{stays, more_now}
use Rattle.store_model.specs.Causes.{CausesRise, fits, place_number, read_number, write_number}
use Rattle.store_model.specs.Table.{MeansLine, MayBeAnswer, ShowsDamage}
use Rattle.store_model.specs.Leaves.{Gets}
use Rattle.store_model.specs.Complete.{IsWellAnswered}
use Rattle.store_model.specs.Outputs.{OnFiles, KeepsOthers, HasFront, IsOutput, IsOutputOf}
use Rattle.store_model.specs.Strays.{MayStayBehind}
use Rattle.store_model.specs.Steps.{StepsOn, StandsWith, read_numbered, write_numbered}
use Rattle.store_model.specs.Calls.{HasWritten, writes_all}
use Rattle.script_laws.proofs.Following.{near_with}
use Rattle.script_laws.proofs.Forms.{same_forms}

-- ---- a refusal that moves nothing

pub unmoved : (limits : Limits) (sources : Sources) (S : State) (other : Option Change) (line : Line) (f : Fault) (Known : Name → Type 0) (shelf : ShelfTold) → MeansLine limits sources S line (Refused f) → IsWellAnswered limits sources S line (Refused f) → Gets S line (Refused f) 0
    → StepsOn limits sources S other line (Refused f) other Known Known shelf shelf
unmoved limits sources S other line f Known shelf means complete gets = record {
  means = means;
  complete = λ all. complete;
  next_other = inr (inl (inl refl, refl));
  gets = (0, refl, gets);
  strays = record { later = omega arith; others = []; few = λ below. omega arith; each = λ n stray. inl (behind line n stray) };
  crash = λ images. record {
    any_moment = stays Either _ _ refl (more_now (IsNear S other) Either (λ m near. inl (near_with S other m near)) _ images);
    behind = images;
  };
  settles = λ is. absurd (refused (changes line) is);
  forms = same_forms S shelf.blobs;
}
  where
    Either : Blobs → Type 0
    Either m = StandsWith S other m ⊎ StandsWith S other m

    refused : (c : Bool) → IsTrue (c && false) → ⊥
    refused true is = let clash : false ≡ true = is in cc
    refused false is = let clash : false ≡ true = is in cc

    behind : (l : Line) (n : Name) → Known n → MayStayBehind limits S l (Refused f) Known n
    behind (Backup s name config) n stray = inl stray
    behind (Restore s v name cache) n stray = stray
    behind (Delete s through) n stray = stray

-- ---- refusals by the state

by_due : (limits : Limits) (S : State) (line : Line) (f : Fault) (due : Option Fault) → due_refusal limits S line ≡ due → MatchOption due (is_of_state f ≡ false) (λ g. Refused f ≡ Refused g) → IsExact limits S line (Refused f)
by_due limits S line f due is here = subst (λ (o : Option Fault). MatchOption o (is_of_state f ≡ false) (λ g. Refused f ≡ Refused g)) (sym is) here

full_due : (limits : Limits) (S : State) (s : ℕ) (name : List ℕ) (config : JobConfig) (b : Bool) → b ≡ is_full S s limits
    → due_refusal limits S (Backup s name config) ≡ (if b then Some (fault.Full s (latest_of S s) (next_of S)) else None)
full_due limits S s name config b is = ap (λ (c : Bool). if c then Some (fault.Full s (latest_of S s) (next_of S)) else None) (sym is)

kept_due : (limits : Limits) (S : State) (s v : ℕ) (name : List ℕ) (cache : ℕ) (b : Bool) → b ≡ is_kept S s v
    → due_refusal limits S (Restore s v name cache) ≡ (if b then None else Some (fault.NotKept s v (floor_of S s) (latest_of S s)))
kept_due limits S s v name cache b is = ap (λ (c : Bool). if c then None else Some (fault.NotKept s v (floor_of S s) (latest_of S s))) (sym is)

pub full_is : (limits : Limits) (S : State) (s : ℕ) (name : List ℕ) (config : JobConfig) (latest next : ℕ) → true ≡ is_full S s limits → latest ≡ latest_of S s → next ≡ next_of S
    → due_refusal limits S (Backup s name config) ≡ Some (fault.Full s latest next)
full_is limits S s name config latest next full l n =
    full_due limits S s name config true full ∙ ap (λ (k : ℕ). Some (fault.Full s k (next_of S))) (sym l) ∙ ap (λ (k : ℕ). Some (fault.Full s latest k)) (sym n)

pub not_kept_is : (limits : Limits) (S : State) (s v : ℕ) (name : List ℕ) (cache floor latest : ℕ) → false ≡ is_kept S s v → floor ≡ floor_of S s → latest ≡ latest_of S s
    → due_refusal limits S (Restore s v name cache) ≡ Some (fault.NotKept s v floor latest)
not_kept_is limits S s v name cache floor latest kept l n =
    kept_due limits S s v name cache false kept ∙ ap (λ (k : ℕ). Some (fault.NotKept s v k (latest_of S s))) (sym l) ∙ ap (λ (k : ℕ). Some (fault.NotKept s v floor k)) (sym n)

pub full_means : (limits : Limits) (sources : Sources) (S : State) (s : ℕ) (name : List ℕ) (config : JobConfig) (latest next : ℕ) → true ≡ is_full S s limits → latest ≡ latest_of S s → next ≡ next_of S
    → MeansLine limits sources S (Backup s name config) (Refused (fault.Full s latest next))
full_means limits sources S s name config latest next full l n = record {
  done = inl refl;
  exact = by_due limits S (Backup s name config) _ _ (full_due limits S s name config true full) (ap (λ (k : ℕ). Refused (fault.Full s k next)) l ∙ ap (λ (k : ℕ). Refused (fault.Full s (latest_of S s) k)) n);
  refused = refl;
  limit = record { too_many = λ k e. absurd (other k e); done = λ e. cc };
  damage = tt;
}
  where
    other : (k : ℕ) → Refused (fault.Full s latest next) ≡ Refused (fault.TooMany k) → ⊥
    other k e = cc

pub not_full_means : (limits : Limits) (sources : Sources) (S : State) (s : ℕ) (name : List ℕ) (config : JobConfig) (f : Fault) → false ≡ is_full S s limits → is_of_state f ≡ false → ((k : ℕ) → Refused f ≡ Refused (fault.TooMany k) → ⊥) → MayBeAnswer limits S (Backup s name config) (Refused f)
    → MeansLine limits sources S (Backup s name config) (Refused f)
not_full_means limits sources S s name config f full other few may = record {
  done = inl refl;
  exact = by_due limits S (Backup s name config) f _ (full_due limits S s name config false full) other;
  refused = may;
  limit = record { too_many = λ k e. absurd (few k e); done = λ e. cc };
  damage = tt;
}

pub not_kept_means : (limits : Limits) (sources : Sources) (S : State) (s v : ℕ) (name : List ℕ) (cache floor latest : ℕ) → false ≡ is_kept S s v → floor ≡ floor_of S s → latest ≡ latest_of S s
    → MeansLine limits sources S (Restore s v name cache) (Refused (fault.NotKept s v floor latest))
not_kept_means limits sources S s v name cache floor latest kept l n = record {
  done = inl refl;
  exact = by_due limits S (Restore s v name cache) _ _ (kept_due limits S s v name cache false kept) (ap (λ (k : ℕ). Refused (fault.NotKept s v k latest)) l ∙ ap (λ (k : ℕ). Refused (fault.NotKept s v (floor_of S s) k)) n);
  refused = refl;
  limit = tt;
  damage = tt;
}

pub place_means : (limits : Limits) (sources : Sources) (S : State) (s v : ℕ) (name : List ℕ) (cache n : ℕ) → true ≡ is_kept S s v → MeansLine limits sources S (Restore s v name cache) (Refused (fault.PlaceFault n))
place_means limits sources S s v name cache n kept = record { done = inl refl; exact = by_due limits S (Restore s v name cache) (fault.PlaceFault n) _ (kept_due limits S s v name cache true kept) refl; refused = refl; limit = tt; damage = tt }

pub memory_means : (limits : Limits) (sources : Sources) (S : State) (s v : ℕ) (name : List ℕ) (cache : ℕ) → true ≡ is_kept S s v → MeansLine limits sources S (Restore s v name cache) (Refused fault.Memory)
memory_means limits sources S s v name cache kept = record { done = inl refl; exact = by_due limits S (Restore s v name cache) fault.Memory _ (kept_due limits S s v name cache true kept) refl; refused = refl; limit = tt; damage = tt }

-- ---- other sources, another name, another number

may_backup : (limits : Limits) (S : State) (s : ℕ) (name : List ℕ) (config : JobConfig) (a : Answer) → MayBeAnswer limits S (Backup s [] config) a → MayBeAnswer limits S (Backup s name config) a
may_backup limits S s name config (Refused f) h = same f h
  where
    same : (f : Fault) → MayBeAnswer limits S (Backup s [] config) (Refused f) → MayBeAnswer limits S (Backup s name config) (Refused f)
    same fault.Usage h = h
    same f h = h
may_backup limits S s name config a h = h

may_restore : (limits : Limits) (S : State) (s v : ℕ) (name : List ℕ) (cache : ℕ) (a : Answer) → MayBeAnswer limits S (Restore s v [] cache) a → MayBeAnswer limits S (Restore s v name cache) a
may_restore limits S s v name cache (Refused f) h = same f h
  where
    same : (f : Fault) → MayBeAnswer limits S (Restore s v [] cache) (Refused f) → MayBeAnswer limits S (Restore s v name cache) (Refused f)
    same fault.Usage h = h
    same f h = h
may_restore limits S s v name cache a h = h

pub as_backup : (limits : Limits) (sources : Sources) (S : State) (other next : Option Change) (s : ℕ) (name : List ℕ) (config : JobConfig) (answer : Answer) (Known Behind : Name → Type 0) (old new : ShelfTold)
    → StepsOn limits (λ _. sources name) S other (Backup s [] config) answer next Known Behind old new → StepsOn limits sources S other (Backup s name config) answer next Known Behind old new
as_backup limits sources S other next s name config answer Known Behind old new st = record {
  means = record { done = st.means.done; exact = st.means.exact; refused = may_backup limits S s name config answer st.means.refused; limit = st.means.limit; damage = tt };
  complete = λ all. st.complete (record { sound = all.sound; no_clash = all.no_clash; few = all.few });
  next_other = st.next_other;
  gets = st.gets;
  strays = record { later = st.strays.later; others = st.strays.others; few = st.strays.few; each = st.strays.each };
  crash = λ images. let both = st.crash images in record { any_moment = both.any_moment; behind = both.behind };
  settles = st.settles;
  forms = st.forms;
}

pub as_delete : (limits : Limits) (sources : Sources) (S : State) (other next : Option Change) (s n : ℕ) (answer : Answer) (Known Behind : Name → Type 0) (old new : ShelfTold)
    → StepsOn limits (λ _. []) S other (Delete s n) answer next Known Behind old new → StepsOn limits sources S other (Delete s n) answer next Known Behind old new
as_delete limits sources S other next s n answer Known Behind old new st = record {
  means = record { done = st.means.done; exact = st.means.exact; refused = st.means.refused; limit = tt; damage = tt };
  complete = λ all. st.complete (record { sound = all.sound; no_clash = all.no_clash; few = all.few });
  next_other = st.next_other;
  gets = st.gets;
  strays = record { later = st.strays.later; others = st.strays.others; few = st.strays.few; each = st.strays.each };
  crash = λ images. let both = st.crash images in record { any_moment = both.any_moment; behind = both.behind };
  settles = st.settles;
  forms = st.forms;
}

pub as_restore : (limits : Limits) (sources : Sources) (S : State) (other next : Option Change) (s v : ℕ) (name : List ℕ) (cache : ℕ) (answer : Answer) (Known Behind : Name → Type 0) (old new : ShelfTold)
    → StepsOn limits (λ _. []) S other (Restore s v [] cache) answer next Known Behind old new → StepsOn limits sources S other (Restore s v name cache) answer next Known Behind old new
as_restore limits sources S other next s v name cache answer Known Behind old new st = record {
  means = record { done = st.means.done; exact = st.means.exact; refused = may_restore limits S s v name cache answer st.means.refused; limit = tt; damage = damage answer st.means.damage };
  complete = λ all. st.complete (record { sound = all.sound; no_clash = all.no_clash; few = all.few });
  next_other = st.next_other;
  gets = (st.gets.0, st.gets.1, gets answer st.gets.0 st.gets.2);
  strays = record { later = st.strays.later; others = st.strays.others; few = st.strays.few; each = st.strays.each };
  crash = λ images. let both = st.crash images in record { any_moment = both.any_moment; behind = both.behind };
  settles = st.settles;
  forms = st.forms;
}
  where
    damage : (a : Answer) → ShowsDamage S (Restore s v [] cache) a → ShowsDamage S (Restore s v name cache) a
    damage a h = h

    gets : (a : Answer) (n : ℕ) → Gets S (Restore s v [] cache) a n → Gets S (Restore s v name cache) a n
    gets a n h = h

renumber_exact : (limits : Limits) (S : State) (s : ℕ) (name : List ℕ) (config : JobConfig) (n m : ℕ) → IsExact limits S (Backup s name config) (Refused (fault.ReadFault n)) → IsExact limits S (Backup s name config) (Refused (fault.ReadFault m))
renumber_exact limits S s name config n m h = by (is_full S s limits) h
  where
    by : (b : Bool) → MatchOption (if b then Some (fault.Full s (latest_of S s) (next_of S)) else None) (refuses_by_state (Refused (fault.ReadFault n)) ≡ false) (λ f. Refused (fault.ReadFault n) ≡ Refused f)
        → MatchOption (if b then Some (fault.Full s (latest_of S s) (next_of S)) else None) (refuses_by_state (Refused (fault.ReadFault m)) ≡ false) (λ f. Refused (fault.ReadFault m) ≡ Refused f)
    by true e = cc
    by false e = refl

renumber_read : (limits : Limits) (sources : Sources) (S : State) (other next : Option Change) (s : ℕ) (name : List ℕ) (config : JobConfig) (n m : ℕ) (Known Behind : Name → Type 0) (old new : ShelfTold)
    → StepsOn limits sources S other (Backup s name config) (Refused (fault.ReadFault n)) next Known Behind old new → StepsOn limits sources S other (Backup s name config) (Refused (fault.ReadFault m)) next Known Behind old new
renumber_read limits sources S other next s name config n m Known Behind old new st = record {
  means = record { done = inl refl; exact = renumber_exact limits S s name config n m st.means.exact; refused = refl; limit = record { too_many = λ k e. absurd (another k e); done = λ e. cc }; damage = tt };
  complete = λ all. inr (inr (inr refl));
  next_other = st.next_other;
  gets = st.gets;
  strays = record { later = st.strays.later; others = st.strays.others; few = st.strays.few; each = st.strays.each };
  crash = λ images. let both = st.crash images in record { any_moment = both.any_moment; behind = both.behind };
  settles = st.settles;
  forms = st.forms;
}
  where
    another : (k : ℕ) → Refused (fault.ReadFault m) ≡ Refused (fault.TooMany k) → ⊥
    another k e = cc

pub read_steps : (limits : Limits) (sources : Sources) (S : State) (other next : Option Change) (s : ℕ) (name : List ℕ) (config : JobConfig) (f : Fault) (m : ℕ) (Known Behind : Name → Type 0) (old new : ShelfTold)
    → StepsOn limits sources S other (Backup s name config) (Refused f) next Known Behind old new → StepsOn limits sources S other (Backup s name config) (Refused (read_numbered m f)) next Known Behind old new
read_steps limits sources S other next s name config (fault.ReadFault n) m Known Behind old new st = renumber_read limits sources S other next s name config n m Known Behind old new st
read_steps limits sources S other next s name config f m Known Behind old new st = st

pub read_kind : (limits : Limits) (s : ℕ) (name : List ℕ) (config : JobConfig) (f : Fault) (m : ℕ) → IsTrue (fits limits (Backup s [] config) (Refused f)) → IsTrue (fits limits (Backup s name config) (Refused (read_numbered m f)))
read_kind limits s name config (fault.ReadFault n) m h = refl
read_kind limits s name config f m h = h

-- ---- counts

none_counted : (o : Option ℕ) (p q : ℕ) → RiseFrom 0 (cons_option o []) 0 → p ≤ q → RiseFrom p (cons_option o []) q
none_counted None p q rise le = le
none_counted (Some n) p q rise le = absurd (omega (arith, rise.0, rise.1))

-- what a call over the shelf alone counts, over places that are left alone
pub causes_alone : (a : Answer) (s0 s1 p r w : ℕ) → CausesRise (record { store = s0; place = 0; read = 0; write = 0 }) (record { store = s1; place = 0; read = 0; write = 0 }) (a ∷ [])
    → CausesRise (record { store = s0; place = p; read = r; write = w }) (record { store = s1; place = p; read = r; write = w }) (a ∷ [])
causes_alone a s0 s1 p r w c = record {
  store = c.store;
  place = none_counted (place_number a) p p c.place (omega arith);
  read = none_counted (read_number a) r r c.read (omega arith);
  write = none_counted (write_number a) w w c.write (omega arith);
}

read_counted : (o : Option ℕ) (k r0 r1 : ℕ) → RiseFrom 0 (cons_option o []) k → r1 ≡ added r0 k → o ≡ None → RiseFrom r0 (cons_option o []) r1
read_counted None k r0 r1 rise is none = omega arith
read_counted (Some n) k r0 r1 rise is none = absurd (no none)
  where
    no : Some n ≡ None → ⊥
    no e = cc

-- what a backup counts, over places whose reader is closed behind it
pub causes_source : (a : Answer) (s0 s1 p0 p1 r0 r1 w0 w1 k : ℕ) → CausesRise (record { store = s0; place = 0; read = 0; write = 0 }) (record { store = s1; place = 0; read = k; write = 0 }) (a ∷ [])
    → p0 ≤ p1 → w0 ≤ w1 → r1 ≡ added r0 k → read_number a ≡ None → CausesRise (record { store = s0; place = p0; read = r0; write = w0 }) (record { store = s1; place = p1; read = r1; write = w1 }) (a ∷ [])
causes_source a s0 s1 p0 p1 r0 r1 w0 w1 k c le wle is none = record {
  store = c.store;
  place = none_counted (place_number a) p0 p1 c.place le;
  read = read_counted (read_number a) k r0 r1 c.read is none;
  write = none_counted (write_number a) w0 w1 c.write wle;
}

pub causes_read : (f : Fault) (s0 s1 p0 p1 r0 r1 w0 w1 k : ℕ) → CausesRise (record { store = s0; place = 0; read = 0; write = 0 }) (record { store = s1; place = 0; read = k; write = 0 }) (Refused f ∷ [])
    → p0 ≤ p1 → w0 ≤ w1 → r1 ≡ added r0 k → CausesRise (record { store = s0; place = p0; read = r0; write = w0 }) (record { store = s1; place = p1; read = r1; write = w1 }) (Refused (read_numbered r1 f) ∷ [])
causes_read (fault.ReadFault n) s0 s1 p0 p1 r0 r1 w0 w1 k c le wle is = record { store = c.store; place = le; read = (omega (arith, c.read.0, c.read.1), omega arith); write = wle }
causes_read f s0 s1 p0 p1 r0 r1 w0 w1 k c le wle is = causes_source _ s0 s1 p0 p1 r0 r1 w0 w1 k c le wle is refl

pub done_no_read : (a : Answer) → is_refused a ≡ false → read_number a ≡ None
done_no_read (Refused f) e = cc
done_no_read a h = refl

pub kind_backup : (limits : Limits) (s : ℕ) (name : List ℕ) (config : JobConfig) (a : Answer) → IsTrue (fits limits (Backup s [] config) a) → IsTrue (fits limits (Backup s name config) a)
kind_backup limits s name config (Refused f) h = read_same f h
  where
    read_same : (f : Fault) → IsTrue (fits limits (Backup s [] config) (Refused f)) → IsTrue (fits limits (Backup s name config) (Refused f))
    read_same fault.Usage h = h
    read_same f h = h
kind_backup limits s name config a h = h

-- ---- files that are kept

pub kept_files : (line : Line) (a b : Option Files) → AreKept a b → OnFiles a b (KeepsOthers (line ∷ []))
kept_files line None None h = tt
kept_files line None (Some y) h = h
kept_files line (Some x) None h = h
kept_files line (Some x) (Some y) h = λ name none. h name

pub kept_twice : (a b c : Option Files) → AreKept a b → AreKept b c → AreKept a c
kept_twice None None c h k = k
kept_twice None (Some y) c h k = absurd h
kept_twice (Some x) None c h k = absurd h
kept_twice (Some x) (Some y) None h k = k
kept_twice (Some x) (Some y) (Some z) h k = λ name. k name ∙ h name

pub same_files : (a : Option Files) → AreKept a a
same_files None = tt
same_files (Some x) = λ name. refl

pub no_output : (a b : Option Files) → AreKept a b → OnFiles a b (λ x y. Unit {0})
no_output None None h = tt
no_output None (Some y) h = h
no_output (Some x) None h = h
no_output (Some x) (Some y) h = tt

-- ---- restores

pub kind_restore : (limits : Limits) (s v : ℕ) (name : List ℕ) (cache : ℕ) (a : Answer) → IsTrue (fits limits (Restore s v [] cache) a) → IsTrue (fits limits (Restore s v name cache) a)
kind_restore limits s v name cache (Refused f) h = same f h
  where
    same : (f : Fault) → IsTrue (fits limits (Restore s v [] cache) (Refused f)) → IsTrue (fits limits (Restore s v name cache) (Refused f))
    same fault.Usage h = h
    same f h = h
kind_restore limits s v name cache a h = h

pub write_kind : (limits : Limits) (s v : ℕ) (name : List ℕ) (cache : ℕ) (f : Fault) (m : ℕ) → IsTrue (fits limits (Restore s v name cache) (Refused f)) → IsTrue (fits limits (Restore s v name cache) (Refused (write_numbered m f)))
write_kind limits s v name cache (fault.WriteFault n) m h = refl
write_kind limits s v name cache f m h = h

renumber_write_exact : (limits : Limits) (S : State) (s v : ℕ) (name : List ℕ) (cache n m : ℕ) → IsExact limits S (Restore s v name cache) (Refused (fault.WriteFault n)) → IsExact limits S (Restore s v name cache) (Refused (fault.WriteFault m))
renumber_write_exact limits S s v name cache n m h = by (is_kept S s v) h
  where
    by : (b : Bool) → MatchOption (if b then None else Some (fault.NotKept s v (floor_of S s) (latest_of S s))) (refuses_by_state (Refused (fault.WriteFault n)) ≡ false) (λ f. Refused (fault.WriteFault n) ≡ Refused f)
        → MatchOption (if b then None else Some (fault.NotKept s v (floor_of S s) (latest_of S s))) (refuses_by_state (Refused (fault.WriteFault m)) ≡ false) (λ f. Refused (fault.WriteFault m) ≡ Refused f)
    by true e = refl
    by false e = cc

pub write_steps : (limits : Limits) (sources : Sources) (S : State) (other next : Option Change) (s v : ℕ) (name : List ℕ) (cache : ℕ) (f : Fault) (m : ℕ) (Known Behind : Name → Type 0) (old new : ShelfTold)
    → StepsOn limits sources S other (Restore s v name cache) (Refused f) next Known Behind old new → StepsOn limits sources S other (Restore s v name cache) (Refused (write_numbered m f)) next Known Behind old new
write_steps limits sources S other next s v name cache (fault.WriteFault n) m Known Behind old new st = record {
  means = record { done = inl refl; exact = renumber_write_exact limits S s v name cache n m st.means.exact; refused = refl; limit = tt; damage = tt };
  complete = λ all. inr (inr (inr refl));
  next_other = st.next_other;
  gets = st.gets;
  strays = record { later = st.strays.later; others = st.strays.others; few = st.strays.few; each = st.strays.each };
  crash = λ images. let both = st.crash images in record { any_moment = both.any_moment; behind = both.behind };
  settles = st.settles;
  forms = st.forms;
}
write_steps limits sources S other next s v name cache f m Known Behind old new st = st

-- what a restore counts, over places whose writer is closed behind it
pub causes_sink : (a : Answer) (s0 s1 p0 p1 r0 r1 w0 w1 k : ℕ) → CausesRise (record { store = s0; place = 0; read = 0; write = 0 }) (record { store = s1; place = 0; read = 0; write = k }) (a ∷ [])
    → p0 ≤ p1 → r0 ≤ r1 → w1 ≡ added w0 k → write_number a ≡ None → CausesRise (record { store = s0; place = p0; read = r0; write = w0 }) (record { store = s1; place = p1; read = r1; write = w1 }) (a ∷ [])
causes_sink a s0 s1 p0 p1 r0 r1 w0 w1 k c le rle is none = record {
  store = c.store;
  place = none_counted (place_number a) p0 p1 c.place le;
  read = none_counted (read_number a) r0 r1 c.read rle;
  write = read_counted (write_number a) k w0 w1 c.write is none;
}

pub causes_write : (f : Fault) (s0 s1 p0 p1 r0 r1 w0 w1 k : ℕ) → CausesRise (record { store = s0; place = 0; read = 0; write = 0 }) (record { store = s1; place = 0; read = 0; write = k }) (Refused f ∷ [])
    → p0 ≤ p1 → r0 ≤ r1 → w1 ≡ added w0 k → CausesRise (record { store = s0; place = p0; read = r0; write = w0 }) (record { store = s1; place = p1; read = r1; write = w1 }) (Refused (write_numbered w1 f) ∷ [])
causes_write (fault.WriteFault n) s0 s1 p0 p1 r0 r1 w0 w1 k c le rle is = record { store = c.store; place = le; read = rle; write = (omega (arith, c.write.0, c.write.1), omega arith) }
causes_write f s0 s1 p0 p1 r0 r1 w0 w1 k c le rle is = causes_sink _ s0 s1 p0 p1 r0 r1 w0 w1 k c le rle is refl

pub done_no_write : (a : Answer) → is_refused a ≡ false → write_number a ≡ None
done_no_write (Refused f) e = cc
done_no_write a h = refl

-- one name changes
not_among : (name other : List ℕ) → is_one_of (name ∷ []) other ≡ false → other ≢ name
not_among name other none same = by (bytes_eq other name) none (ap (bytes_eq other) (sym same) ∙ bytes_eq-same other)
  where
    by : (b : Bool) → (b || false) ≡ false → b ≡ true → ⊥
    by true e is = cc
    by false e is = cc

pub changes_files : (s v : ℕ) (name text : List ℕ) (cache : ℕ) (a b : Option Files) (Becomes : Option (List ℕ) → Option (List ℕ) → Type 0) → text ≡ name → ChangesOnly a b text Becomes → OnFiles a b (KeepsOthers (Restore s v name cache ∷ []))
changes_files s v name text cache None None Becomes same h = tt
changes_files s v name text cache None (Some y) Becomes same h = h
changes_files s v name text cache (Some x) None Becomes same h = h
changes_files s v name text cache (Some x) (Some y) Becomes same h = λ other none. h.1 other (λ is. not_among name other none (is ∙ same))

pub changes_twice : (a b c : Option Files) (name : List ℕ) (B C D : Option (List ℕ) → Option (List ℕ) → Type 0) → ((x y z : Option (List ℕ)) → B x y → C y z → D x z) → ChangesOnly a b name B → ChangesOnly b c name C → ChangesOnly a c name D
changes_twice None None None name B C D both h k = tt
changes_twice None None (Some z) name B C D both h k = k
changes_twice None (Some y) c name B C D both h k = absurd h
changes_twice (Some x) None c name B C D both h k = absurd h
changes_twice (Some x) (Some y) None name B C D both h k = k
changes_twice (Some x) (Some y) (Some z) name B C D both h k = (both (x name) (y name) (z name) h.0 k.0, λ other apart. k.1 other apart ∙ h.1 other apart)

pub is_there : (a b : Option Files) (name : List ℕ) → ChangesOnly a b name IsEmptied → IsThere b name
is_there None None name h = tt
is_there None (Some y) name h = absurd h
is_there (Some x) None name h = tt
is_there (Some x) (Some y) name h = rw h.0 refl

-- an output behind a change of its name
pub output_of_change : (S : State) (s v : ℕ) (name text : List ℕ) (cache : ℕ) (answer : Answer) (a b : Option Files) (Becomes : Option (List ℕ) → Option (List ℕ) → Type 0) → text ≡ name → ChangesOnly a b text Becomes
    → ((f : Files) → a ≡ Some f → (x y : Option (List ℕ)) → Becomes x y → IsOutput (bytes_of S s v) answer x y) → OnFiles a b (IsOutputOf S (Restore s v name cache) answer)
output_of_change S s v name text cache answer None None Becomes same h out = tt
output_of_change S s v name text cache answer None (Some y) Becomes same h out = h
output_of_change S s v name text cache answer (Some x) None Becomes same h out = h
output_of_change S s v name text cache answer (Some x) (Some y) Becomes same h out = subst (λ (n : List ℕ). IsOutput (bytes_of S s v) answer (x n) (y n)) same (out x refl (x text) (y text) h.0)

-- what a writer took is the output
pub written_output : (limits : Limits) (S : State) (s v : ℕ) (cache : ℕ) (answer : Answer) (old new before now : Option (List ℕ)) (s0 s1 k0 k1 : ℕ) → true ≡ is_kept S s v
    → IsTrue (fits limits (Restore s v [] cache) answer) → CausesRise (record { store = s0; place = 0; read = 0; write = k0 }) (record { store = s1; place = 0; read = 0; write = k1 }) (answer ∷ [])
    → IsExact limits S (Restore s v [] cache) answer → HasWritten S s v answer old new → old ≡ Some [] → IfSome new (λ bytes. now ≡ Some bytes) → IsOutput (bytes_of S s v) answer before now
written_output limits S s v cache answer old new before now s0 s1 k0 k1 kept fit causes exact written empty is = by answer fit causes.place (no_due answer exact) (λ done. written.3 done)
  where
    front : List ℕ
    front = written.0

    taken : new ≡ Some front
    taken = written.2 ∙ ap (λ (o : Option (List ℕ)). option_map (λ x. x ++ front) o) empty

    now_is : now ≡ Some front
    now_is = subst (λ (o : Option (List ℕ)). IfSome o (λ bytes. now ≡ Some bytes)) taken is

    no_due : (a : Answer) → IsExact limits S (Restore s v [] cache) a → refuses_by_state a ≡ false
    no_due a h = subst (λ (b : Bool). MatchOption (if b then None else Some (fault.NotKept s v (floor_of S s) (latest_of S s))) (refuses_by_state a ≡ false) (λ f. a ≡ Refused f)) (sym kept) h

    some_front : HasFront (bytes_of S s v) now
    some_front = (front, written.1, now_is)

    by : (a : Answer) → IsTrue (fits limits (Restore s v [] cache) a) → RiseFrom 0 (cons_option (place_number a) []) 0 → refuses_by_state a ≡ false → (IsTrue (writes_all a) → front ≡ bytes_of S s v) → IsOutput (bytes_of S s v) a before now
    by (Restored t w bytes loads) fit place due done = now_is ∙ ap (λ (x : List ℕ). Some x) (done refl)
    by (Refused (fault.NotKept a b c d)) fit place due done = cc
    by (Refused (fault.PlaceFault n)) fit place due done = absurd (omega (arith, place.0, place.1))
    by (Refused (fault.Damaged kind.Recipe b (why.Whole want found))) fit place due done = now_is ∙ ap (λ (x : List ℕ). Some x) (done refl)
    by (Refused fault.Memory) fit place due done = inr some_front
    by (Refused f) fit place due done = some_front
    by a fit place due done = cc

pub numbered_output : (bytes : List ℕ) (f : Fault) (m : ℕ) (before now : Option (List ℕ)) → IsOutput bytes (Refused f) before now → IsOutput bytes (Refused (write_numbered m f)) before now
numbered_output bytes (fault.WriteFault n) m before now h = h
numbered_output bytes f m before now h = h

pub same_output : (S : State) (s v : ℕ) (name : List ℕ) (cache : ℕ) (f : ℕ × ℕ) (a : Option Files) → OnFiles a a (IsOutputOf S (Restore s v name cache) (Refused (fault.NotKept s v f.0 f.1)))
same_output S s v name cache f None = tt
same_output S s v name cache f (Some x) = refl

-- no payload is got
pub no_gets : (S : State) (s v cache : ℕ) → Gets S (Restore s v [] cache) (Refused fault.Memory) 0
no_gets S s v cache least is = omega arith
