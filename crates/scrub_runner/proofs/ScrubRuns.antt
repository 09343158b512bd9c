-- A scrub behind an opening.
use Rattle.std.proofs.Common.{◌≡◌, ◌⊎◌, inl, inr, true, false, ℕ, ◌≤◌, List, [], ◌∷◌, length, Option, Some, None, refl, sym, ap, ◌∙◌, subst, arith}
use Rattle.std.specs.Prelude.{IsTrue, IsSome, Contains, Ok, Err}
use Rattle.std.proofs.lemmas.Bool.{false≢true}
use Rattle.vault_types.specs.declared.Kind.{Kind}
use Rattle.vault_types.specs.declared.Kind.TheVariants as kind
use Rattle.vault_types.specs.declared.Why.{Why}
use Rattle.vault_types.specs.declared.Why.TheVariants as why
use Rattle.vault_types.specs.declared.Fault.{Fault}
use Rattle.vault_types.specs.declared.Fault.TheVariants as fault
use Rattle.vault_types.specs.declared.Answer.{Answer}
use Rattle.vault_types.specs.declared.Answer.TheVariants.{Refused}
use Rattle.vault_types.specs.Tables.{Container, IsTable}
use Rattle.vault_types.specs.State.{State}
use Rattle.vault_types.specs.Blobs.{table_bytes}
use Rattle.vault_types.specs.Shelf.{Blobs, table_name, Has}
use Rattle.vault_types.specs.BlobDamage.{IsTableWhy, IsTableDamage}
use Rattle.vault_types.specs.Events.{Core}
use Rattle.vault_traits.specs.Counts.{Rose, counted_up}
use Rattle.vault_traits.specs.Causes.{IsCause}
use Rattle.vault_traits.specs.Told.{ShelfTold}
use Rattle.state_laws.specs.Parts.{HeldIfTold}
use Rattle.payload_health.specs.declared.Findings.{Findings}
use Rattle.payload_health.specs.Findings.{findings_in}
use Rattle.commit_laws.proofs.Listing.{all_at}
use Rattle.commit_laws.proofs.Pinned.{held_has}
use Rattle.store_model.specs.Causes.{CausesRise, counts_of_shelf}
use Rattle.store_model.specs.Complete.{is_counted}
use Rattle.store_model.specs.Early.{HasOpened, IsSameBut}
use Rattle.store_model.specs.Leaves.{Begins}
use Rattle.store_model.specs.World.{World, IsPrinted, report_text, status_after}
use Rattle.command_runner.specs.Going.{GoesOn}
use Rattle.keeper_catalog.specs.View.{View, Keeps, HasCore}
use Rattle.keeper_core.specs.Keeping.{IsStateOf}
use Rattle.scrub.specs.Scrubbing.{Scrubs, IsScrubDamage}
use Rattle.scrub_model.specs.Scrubbing.{EndsScrub, RunsScrub, answer_to, may_refuse_scrub}
use Rattle.scrub_model.proofs.Sound.{sound_good}

-- the table of a named container is damaged: then it is not there, or is something else

table_why : (told : Option Blobs) (id : ℕ) (number : ℕ) (w : Why) → IsTableWhy told id w → IsTrue (may_refuse_scrub (fault.Damaged kind.Table number w))
table_why told id number why.Absent is = refl
table_why told id number why.Spelling is = refl
table_why told id number other is = absurd is

damage_kind : (told : Option Blobs) (id : ℕ) (k : Kind) (number : ℕ) (w : Why) → IsTableDamage told id k number w → IsTrue (may_refuse_scrub (fault.Damaged k number w))
damage_kind told id kind.Table number w is = table_why told id number w is.1
damage_kind told id other number w is = absurd is

refusal_kind : (u v : View) (f : Fault) → HasCore u → IsCause u.told.faults v.told.faults (IsScrubDamage u) f → IsTrue (may_refuse_scrub f)
refusal_kind u v (fault.StoreFault n) core cause = refl
refusal_kind u v (fault.Damaged k number w) core cause = let d = cause core.0 core.1 in damage_kind u.told.blobs d.0.table.id k number w d.2
refusal_kind u v fault.Memory core cause = refl
refusal_kind u v other core cause = absurd cause

-- over a shelf that tells its blobs none is damaged

held_why : (m : Blobs) (K : Core) (keeps : HeldIfTold (Some m) K) (w : Why) (c : Container) → IsTable c.table → Has (Some m) (table_name c.table.id) (Some (table_bytes c.table)) → IsTableWhy (Some m) c.table.id w → ⊥
held_why m K held why.Absent c rules has none = let clash : ◌≡◌ {A = Option (List ℕ)} None (Some (table_bytes c.table)) = sym none ∙ has in cc
held_why m K held why.Spelling c rules has other =
    let same : ◌≡◌ {A = Option (List ℕ)} (Some other.0) (Some (table_bytes c.table)) = sym other.1 ∙ has in
    other.2 c.table (record { number = refl; rules = rules; spelled = cc })
held_why m K held w c rules has other = absurd other

none_damaged : (v : View) (K : Core) → Keeps v K → IsSome v.told.blobs → (c : Container) → Contains K.state.containers c → (k : Kind) (number : ℕ) (w : Why) → IsTableDamage v.told.blobs c.table.id k number w → ⊥
none_damaged v K keeps tells c among k number w damage = step v.told.blobs tells keeps.held k damage
  where
    step : (b : Option Blobs) → IsSome b → HeldIfTold b K → (k : Kind) → IsTableDamage b c.table.id k number w → ⊥
    step None some held k damage = false≢true some
    step (Some m) some held kind.Table damage =
        held_why m K held w c (all_at (λ (d : Container). IsTable d.table) K.state.containers c keeps.core.state.tables among) (held_has K keeps.core m held c among).table damage.1
    step (Some m) some held other damage = absurd damage

refusal_undamaged : (u v : View) (f : Fault) (K : Core) → Keeps u K → IsSome u.told.blobs → IsCause u.told.faults v.told.faults (IsScrubDamage u) f → (f ≡ fault.Memory) ⊎ IsTrue (is_counted (Refused f))
refusal_undamaged u v (fault.StoreFault n) K keeps tells cause = inr refl
refusal_undamaged u v (fault.Damaged k number w) K keeps tells cause = let d = cause K keeps in absurd (none_damaged u K keeps tells d.0 d.1 k number w d.2)
refusal_undamaged u v fault.Memory K keeps tells cause = inl refl
refusal_undamaged u v other K keeps tells cause = absurd cause

rose_earlier : (old before now : ℕ) → old ≤ before → Rose before now → Rose old now
rose_earlier old before now low rose = omega arith

refusal_causes : (before now : ShelfTold) (u v : View) (f : Fault) → before.faults ≤ u.told.faults → now.faults ≡ v.told.faults → u.told.faults ≤ v.told.faults → IsCause u.told.faults v.told.faults (IsScrubDamage u) f
    → CausesRise (counts_of_shelf before) (counts_of_shelf now) (Refused f ∷ [])
refusal_causes before now u v (fault.StoreFault n) low same later cause =
    record { store = (rose_earlier before.faults u.told.faults n low (subst (λ (m : ℕ). Rose u.told.faults m) (sym cause.0) cause.1), omega (arith, same, cause.0)); place = omega arith; read = omega arith; write = omega arith }
refusal_causes before now u v (fault.Damaged k number w) low same later cause = record { store = omega (arith, low, same, later); place = omega arith; read = omega arith; write = omega arith }
refusal_causes before now u v fault.Memory low same later cause = record { store = omega (arith, low, same, later); place = omega arith; read = omega arith; write = omega arith }
refusal_causes before now u v other low same later cause = absurd cause

module _ (before now : World) (u v : View) (same : IsSameBut before.shelf u.told) (begins : (S : State) → Begins before.shelf S → IsStateOf u S None) (closed : now.shelf ≡ v.told) (input : now.input ≡ before.input) (places : now.places ≡ before.places) where
  faults_now : now.shelf.faults ≡ v.told.faults
  faults_now = ap (λ (t : ShelfTold). t.faults) closed

  gets_now : (n m : ℕ) → n ≡ m → v.told.gets ≡ counted_up u.told.gets n → now.shelf.gets ≡ counted_up before.shelf.gets m
  gets_now n m e got = ap (λ (t : ShelfTold). t.gets) closed ∙ got ∙ ap (λ (k : ℕ). counted_up k n) same.gets ∙ ap (counted_up before.shelf.gets) e

  module _ (f : Option Fault) where
    pub done_run : (found : Findings) → Scrubs u v (Ok found) → EndsScrub found before.out now.out before.report now.report f → RunsScrub before now (answer_to found ∷ []) f
    done_run found s ends = record {
      course = inl (
        found,
        refl,
        record {
          means = means;
          sound = λ S start sound. ap (λ (g : Findings). g.damaged) (means S start) ∙ sound_good S sound;
          gets = λ S start. let is = begins S start in gets_now (length is.core.state.containers) (length S.containers) (ap (λ (T : State). length T.containers) is.state) (s.gets is.core is.keeps);
          ends = ends;
        },
      );
      blobs = ap (λ (t : ShelfTold). t.blobs) closed ∙ s.stays.blobs ∙ same.blobs;
      history = ap (λ (t : ShelfTold). t.history) closed ∙ s.stays.history ∙ same.history;
      later = let a = same.later in let b = s.causes.later in omega (arith, a, b, faults_now);
      input = input;
      places = places;
    }
      where
        means : (S : State) → Begins before.shelf S → found ≡ findings_in S.containers
        means S start =
            let is = begins S start in
            let read = s.found is.core is.keeps in
            read.2 ∙ ap findings_in (read.1.1 is.told) ∙ ap (λ (T : State). findings_in T.containers) is.state

    pub refused_run : (e : Fault) → HasCore u → Scrubs u v (Err e) → IsPrinted (report_text (Refused e ∷ [])) before.out now.out f → now.report ≡ before.report → RunsScrub before now (Refused e ∷ []) f
    refused_run e core s printed report = record {
      course = inr (
        e,
        refl,
        record {
          kind = refusal_kind u v e core s.causes.each;
          causes = refusal_causes before.shelf now.shelf u v e same.later faults_now s.causes.later s.causes.each;
          undamaged = λ S start. let is = begins S start in refusal_undamaged u v e is.core is.keeps is.told s.causes.each;
          gets = λ S start.
              let is = begins S start in
              let few = s.few is.core is.keeps in
              (few.0, subst (λ (T : State). few.0 ≤ length T.containers) is.state few.1, gets_now few.0 few.0 refl few.2);
          printed = printed;
          report = report;
        },
      );
      blobs = ap (λ (t : ShelfTold). t.blobs) closed ∙ s.stays.blobs ∙ same.blobs;
      history = ap (λ (t : ShelfTold). t.history) closed ∙ s.stays.history ∙ same.history;
      later = let a = same.later in let b = s.causes.later in omega (arith, a, b, faults_now);
      input = input;
      places = places;
    }

-- the run as it goes on behind the opening
module _ (before now : World) (k u v : View) (opened : HasOpened before.shelf) (keeper : u ≡ k) (same : IsSameBut before.shelf k.told) (begins : (S : State) → Begins before.shelf S → IsStateOf k S None) (closed : now.shelf ≡ v.told) (input : now.input ≡ before.input) (places : now.places ≡ before.places)
    (answers : List Answer) (f : Option Fault) (status : ℕ) (status_is : status ≡ status_after answers f) where
  u_same : IsSameBut before.shelf u.told
  u_same = subst (λ (w : View). IsSameBut before.shelf w.told) (sym keeper) same

  u_begins : (S : State) → Begins before.shelf S → IsStateOf u S None
  u_begins S start = subst (λ (w : View). IsStateOf w S None) (sym keeper) (begins S start)

  goes : RunsScrub before now answers f → GoesOn RunsScrub before now answers f status
  goes runs = record { course = inr (record { opened = opened; runs = runs }); status_is = status_is }

  pub goes_done : (found : Findings) → answers ≡ answer_to found ∷ [] → Scrubs u v (Ok found) → EndsScrub found before.out now.out before.report now.report f → GoesOn RunsScrub before now answers f status
  goes_done found is s ends = goes (subst (λ (l : List Answer). RunsScrub before now l f) (sym is) (done_run before now u v u_same u_begins closed input places f found s ends))

  pub goes_refused : (e : Fault) → answers ≡ Refused e ∷ [] → HasCore u → Scrubs u v (Err e) → IsPrinted (report_text answers) before.out now.out f → now.report ≡ before.report → GoesOn RunsScrub before now answers f status
  goes_refused e is core s printed report = goes (subst (λ (l : List Answer). RunsScrub before now l f) (sym is)
      (refused_run before now u v u_same u_begins closed input places f e core s (subst (λ (l : List Answer). IsPrinted (report_text l) before.out now.out f) is printed) report))
