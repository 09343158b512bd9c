-- Why a restore was refused, from why its calls were.
use Rattle.std.proofs.Common.{◌≡◌, ◌⊎◌, inl, inr, ⊎_elim, ℕ, ◌≤◌, false, true, List, Option, Some, None, refl, sym, ap, subst, ◌∙◌, arith}
use Rattle.std.specs.Prelude.{IfSome, IsSome}
use Rattle.std.specs.Option.{option_map}
use Rattle.vault_types.specs.declared.Fault.{Fault}
use Rattle.vault_types.specs.declared.Fault.TheVariants as fault
use Rattle.vault_types.specs.declared.Fp.{Fp}
use Rattle.vault_types.specs.declared.Kind.{Kind}
use Rattle.vault_types.specs.declared.Kind.TheVariants as kind
use Rattle.vault_types.specs.declared.Whole.{Whole}
use Rattle.vault_types.specs.declared.Why.{Why}
use Rattle.vault_types.specs.declared.Why.TheVariants as why
use Rattle.vault_types.specs.Bytes.{bytes_of}
use Rattle.vault_types.specs.Events.{Pin}
use Rattle.vault_types.specs.Shelf.{Blobs}
use Rattle.vault_types.specs.State.{State, KeptVersion, version_of}
use Rattle.vault_types.specs.Tables.{Container}
use Rattle.vault_traits.specs.Counts.{Rose}
use Rattle.vault_traits.specs.Told.{SinkTold}
use Rattle.vault_traits.specs.Causes.{IsCause}
use Rattle.vault_types.specs.BlobDamage.{IsPayloadDamage}
use Rattle.keeper_catalog.specs.View.{View}
use Rattle.commit_laws.proofs.Listing.{none_some}
use Rattle.keeper_core.specs.Calls.{Lists, IsPinDamage}
use Rattle.serial_restore.specs.Going.{IsCopyFault, IsWrongSum, IsFoundOf}
use Rattle.serial_restore.specs.Restoring.{whole_of, IsRestoreFault, IsWrongSumOf, IsOfVersion}
use Rattle.serial_restore.proofs.Loads.{rose_from}

-- why a pin was refused
pub pin_fault : (v u : View) (before now : SinkTold) (S : State) (s n : ℕ) (f : Fault) → IsCause v.told.faults u.told.faults (IsPinDamage v.told.blobs S s n) f → IsRestoreFault v u before now S s n f
pin_fault v u before now S s n (fault.StoreFault i) h = (subst (Rose v.told.faults) (sym h.0) h.1, omega (arith, h.0))
pin_fault v u before now S s n (fault.Damaged k i w) h = inl h
pin_fault v u before now S s n fault.Memory h = tt
pin_fault v u before now S s n other h = absurd h

-- a version over told blobs, or none
pub told_version : (b : Option Blobs) (o : Option KeptVersion) → (IsSome b × (k : KeptVersion) × (o ≡ Some k)) ⊎ (IsSome b → (k : KeptVersion) → o ≡ Some k → ⊥)
told_version None o = inr (λ some k e. absurd (let clash : false ≡ true = some in cc))
told_version (Some m) None = inr (λ some k e. none_some k e)
told_version (Some m) (Some k) = inl (refl, k, refl)

same_want : (a b : Whole) → ◌≡◌ {A = Option Whole} (Some a) (Some b) → a ≡ b
same_want a b e = cc

no_want : (a : Whole) → ◌≡◌ {A = Option Whole} None (Some a) → ⊥
no_want a e = cc

-- why a copy stopped
module _ (v u w x : View) (before now : SinkTold) (S : State) (s n : ℕ) (sum : Option Fp) where
  wrong_sum : (k : Kind) (i : ℕ) (y : Why) → IsWrongSum (option_map (whole_of s n) sum) k i y
      → (IsSome v.told.blobs → (j : KeptVersion) → version_of S s n ≡ Some j → IfSome sum (λ want. want ≡ j.sum) × IsFoundOf (bytes_of S s n) (fault.Damaged k i y))
      → IsWrongSumOf v.told.blobs S s n k i y
  wrong_sum kind.Recipe i (why.Whole want found) h shows = at sum h.0 (λ tells j kept. (shows tells j kept).0)
    where
      at : (o : Option Fp) → option_map (whole_of s n) o ≡ Some (record { number = i; want = want }) → (IsSome v.told.blobs → (j : KeptVersion) → version_of S s n ≡ Some j → IfSome o (λ y. y ≡ j.sum)) → IsWrongSumOf v.told.blobs S s n kind.Recipe i (why.Whole want found)
      at None e are = absurd (no_want (record { number = i; want = want }) e)
      at (Some y) e are =
          let same = same_want (whole_of s n y) (record { number = i; want = want }) e in (
            sym (ap (λ (q : Whole). q.number) same),
            h.1,
            (λ tells j kept. (sym (ap (λ (q : Whole). q.want) same) ∙ are tells j kept, (shows tells j kept).1)),
          )
  wrong_sum k i y h shows = absurd h

  pub copy_fault : (pins : List Pin) (number : ℕ) → ((id : ℕ) (c : Container) → Lists pins number id c → IsOfVersion v.told.blobs S s n c) → u.told.blobs ≡ v.told.blobs → v.told.faults ≤ u.told.faults → w.told.faults ≤ x.told.faults → (f : Fault)
      → (IsSome v.told.blobs → (j : KeptVersion) → version_of S s n ≡ Some j → IfSome sum (λ want. want ≡ j.sum) × IsFoundOf (bytes_of S s n) f)
      → IsCopyFault u w before now pins number (option_map (whole_of s n) sum) f → IsRestoreFault v x before now S s n f
  copy_fault pins number of blobs early late (fault.StoreFault i) shows h = (subst (Rose v.told.faults) (sym h.0) (rose_from v.told.faults u.told.faults w.told.faults early h.1), omega (arith, h.0, late))
  copy_fault pins number of blobs early late (fault.WriteFault i) shows h = h
  copy_fault pins number of blobs early late (fault.Damaged k i y) shows h = ⊎_elim
      (λ wrong. inr (inr (wrong_sum k i y wrong shows)))
      (λ bad. inr (inl (bad.1, of bad.0 bad.1 bad.2, subst (λ (b : Option Blobs). IsPayloadDamage b bad.1.table k i y) blobs bad.3)))
      h
  copy_fault pins number of blobs early late fault.Memory shows h = tt
  copy_fault pins number of blobs early late other shows h = absurd h
