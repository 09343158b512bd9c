-- What stays where all but counts is as before.
use Rattle.std.proofs.Common.{ℕ, ◌≤◌, Option, map, sym, ◌∙◌, subst, arith}
use Rattle.std.specs.Prelude.{Err}
use Rattle.vault_types.specs.declared.Kind.{Kind}
use Rattle.vault_types.specs.declared.Why.{Why}
use Rattle.vault_types.specs.declared.Fault.{Fault}
use Rattle.vault_types.specs.declared.Fault.TheVariants as fault
use Rattle.vault_types.specs.Tables.{Container}
use Rattle.vault_types.specs.Shelf.{Blobs}
use Rattle.vault_types.specs.BlobDamage.{IsTableDamage}
use Rattle.vault_types.specs.Events.{Core}
use Rattle.vault_traits.specs.Counts.{Rose}
use Rattle.vault_traits.specs.Causes.{IsCause, HasCauses}
use Rattle.fp_index.specs.Index.{IsIndexOf}
use Rattle.restore_pins.specs.Pins.{AreListsOf}
use Rattle.state_laws.specs.Parts.{HeldIfTold}
use Rattle.keeper_catalog.specs.Catalog.{Memo, IsMemoOf}
use Rattle.keeper_catalog.specs.View.{View, Keeps}
use Rattle.scrub.specs.Scrubbing.{Stays, IsScrubDamage}

pub stays_keeps : (u v : View) (K : Core) → Stays u v → Keeps u K → Keeps v K
stays_keeps u v K s k = record {
  core = k.core;
  held = subst (λ (b : Option Blobs). HeldIfTold b K) (sym s.blobs) k.held;
  memo = subst (λ (m : Memo). IsMemoOf m K) (sym s.memo) k.memo;
  index = subst (λ i. IsIndexOf i (map (λ (c : Container). c.table) K.state.containers)) (sym s.index) k.index;
  pins = subst (λ p. AreListsOf p K.pins) (sym s.pins) k.pins;
  alike = k.alike;
  pinned = k.pinned;
  job = s.job ∙ k.job;
  pending = s.pending ∙ k.pending;
}

pub stays_on : (u v w : View) → Stays u v → Stays v w → Stays u w
stays_on u v w s t = record {
  blobs = t.blobs ∙ s.blobs;
  history = t.history ∙ s.history;
  memo = t.memo ∙ s.memo;
  index = t.index ∙ s.index;
  pins = t.pins ∙ s.pins;
  job = t.job ∙ s.job;
  pending = t.pending ∙ s.pending;
}

pub rose_from : (old before now : ℕ) → old ≤ before → Rose before now → Rose old now
rose_from old before now low rose = omega arith

pub cause_from : (old before now : ℕ) (P Q : Kind → ℕ → Why → Type 0) (f : Fault) → old ≤ before → ((k : Kind) (n : ℕ) (w : Why) → P k n w → Q k n w) → IsCause before now P f → IsCause old now Q f
cause_from old before now P Q (fault.StoreFault n) low more cause = (cause.0, rose_from old before now low cause.1)
cause_from old before now P Q (fault.Damaged k n w) low more cause = more k n w cause
cause_from old before now P Q fault.Memory low more cause = tt
cause_from old before now P Q other low more cause = absurd cause

pub damage_from : (u v : View) → Stays u v → (k : Kind) (n : ℕ) (w : Why) → IsScrubDamage v k n w → IsScrubDamage u k n w
damage_from u v s k n w damage K keeps =
    let d = damage K (stays_keeps u v K s keeps) in
    (d.0, d.1, subst (λ (b : Option Blobs). IsTableDamage b d.0.table.id k n w) s.blobs d.2)

pub refused_from : {T U : Type 0} (u v : View) (now : ℕ) (f : Fault) → Stays u v → u.told.faults ≤ v.told.faults → HasCauses {T = T} v.told.faults now (IsScrubDamage v) (Err f) → HasCauses {T = U} u.told.faults now (IsScrubDamage u) (Err f)
refused_from u v now f s low causes = record { later = omega (arith, low, causes.later); each = cause_from u.told.faults v.told.faults now (IsScrubDamage v) (IsScrubDamage u) f low (damage_from u v s) causes.each }
