-- What was read of a source.
use Rattle.std.proofs.Common.{◌≡◌, ◌⊎◌, inl, inr, ⊎_elim, refl, ◌<◌, ◌≤◌, ◌+◌, ◌++◌, ℕ, List, [], length, length-append, append-nil, Option, Some, None, sym, ◌∙◌, ap, subst, arith}
use Rattle.std.specs.Prelude.{IfSome, unwrap_or}
use Rattle.std.specs.Option.{option_map}
use Rattle.vault_types.specs.declared.Cutting.{Cutting}
use Rattle.vault_types.specs.declared.JobConfig.{JobConfig}
use Rattle.vault_types.specs.declared.Limits.{Limits}
use Rattle.vault_types.specs.declared.Fault.TheVariants as fault
use Rattle.vault_types.specs.Lists.{parts, rest}
use Rattle.vault_types.specs.Cuts.{cuts, settled, settled_len, unsettled, only_bytes}
use Rattle.vault_types.proofs.PartsLemmas.{parts-append}
use Rattle.vault_traits.specs.Told.{SourceTold, Gives, IsAtEnd}
use Rattle.vault_types.specs.JobRanges.{IsCuttable}
use Rattle.vault_types.proofs.CutLemmas.{settled_len-stable}
use Rattle.backup_jobs.specs.Backup.{IsBackupFault}
use Rattle.backup_jobs.proofs.Limits.{too_many_bytes}

-- the settled chunks of a front are no more than the chunks of the whole
settled_few : (c : Cutting) → IsCuttable c → (x y : List ℕ) → length (settled x c) ≤ length (cuts (x ++ y) c)
settled_few c can x y =
    let len = settled_len c in
    let all : settled (x ++ y) c ≡ settled x c ++ parts len (rest len x ++ y) = parts-append len (settled_len-stable c can) x y in
    let front : length (settled (x ++ y) c) ≡ length (settled x c) + length (parts len (rest len x ++ y)) = ap length all ∙ length-append (settled x c) (parts len (rest len x ++ y)) in
    let whole : length (cuts (x ++ y) c) ≡ length (settled (x ++ y) c) + length (only_bytes (unsettled (x ++ y) c)) = length-append (settled (x ++ y) c) (only_bytes (unsettled (x ++ y) c)) in
    omega arith

-- all was read where the end is reached
whole_of : (x read : List ℕ) (left : Option (List ℕ)) → Some x ≡ option_map (λ y. read ++ y) left → IfSome left (λ y. y ≡ []) → read ≡ x
whole_of x read None given end = let clash : ◌≡◌ {A = Option (List ℕ)} (Some x) None = given in cc
whole_of x read (Some y) given end =
    let all : x ≡ read ++ y = cc in sym (all ∙ ap (λ z. read ++ z) end ∙ append-nil read)

front_of : (x read : List ℕ) (left : Option (List ℕ)) → Some x ≡ option_map (λ y. read ++ y) left → (y : List ℕ) × (x ≡ read ++ y)
front_of x read None given = let clash : ◌≡◌ {A = Option (List ℕ)} (Some x) None = given in cc
front_of x read (Some y) given = (y, cc)

-- the bytes x are those that were left, or where that is not told those that were given
abbrev pub IsAll : Option (List ℕ) → List ℕ → List ℕ → Type 0
IsAll left x read = (left ≡ Some x) ⊎ (read ≡ x)

pub is_all : (left : Option (List ℕ)) (read : List ℕ) → IsAll left (unwrap_or left read) read
is_all None read = inr refl
is_all (Some x) read = inl refl

module _ (from to : SourceTold) (x read : List ℕ) (left : IsAll from.left x read) (given : Gives from.left to.left read) where
  pub whole_read : IsAtEnd to → read ≡ x
  whole_read end = ⊎_elim (λ told. whole_of x read to.left (sym told ∙ given) end) (λ same. same) left

  behind_read : (y : List ℕ) × (x ≡ read ++ y)
  behind_read = ⊎_elim (λ told. front_of x read to.left (sym told ∙ given)) (λ same. ([], sym same ∙ sym (append-nil read))) left

  -- too many chunks of what was read are too many of the whole
  pub too_many : (config : JobConfig) (limits : Limits) (before now n : ℕ) → IsCuttable config.cutting → IsBackupFault config limits before now from to read (fault.TooMany n) → limits.chunks < length (cuts x config.cutting)
  too_many config limits before now n can why = ⊎_elim
      (λ more.
      let front = behind_read in
      let many : limits.chunks < length (cuts (read ++ front.0) config.cutting) = omega (arith, more, settled_few config.cutting can read front.0) in
      subst (λ (z : List ℕ). limits.chunks < length (cuts z config.cutting)) (sym front.1) many)
      (λ others. ⊎_elim
      (λ more. subst (λ (z : List ℕ). limits.chunks < length (cuts z config.cutting)) (whole_read more.0) more.1)
      (λ bytes.
      let front = behind_read in
      let all : length x ≡ length (read ++ front.0) = ap length front.1 in
      too_many_bytes config.cutting x limits.chunks can (omega (arith, bytes, all, length-append read front.0)))
      others)
      why.1
