-- Fingerprints are compared as their bytes.
use Rattle.std.proofs.Common.{◌≡◌, true, false, refl, sym, ap, ◌∙◌, subst}
use Rattle.std.specs.Cmp.{IsEquivalence}
use Rattle.vault_types.specs.declared.Fp.{Fp}
use Rattle.vault_types.specs.Names.{same_fp}
use Rattle.vault_types.proofs.FillLemmas.{same_fps, bytes_eq-same}

pub same-refl : (f : Fp) → same_fp f f ≡ true
same-refl f = bytes_eq-same f.0

pub same-symm : (f g : Fp) → same_fp f g ≡ same_fp g f
same-symm f g = elim (same_fp f g) as (λ b. same_fp f g ≡ b → b ≡ same_fp g f) [
  | true ↦ λ e. let P : Fp → Type 0 = λ k. true ≡ same_fp k f in subst P (same_fps f g e) (sym (same-refl f))
  | false ↦ λ e.
      elim (same_fp g f) as (λ b. same_fp g f ≡ b → false ≡ b) [
        | true ↦ λ i. sym e ∙ (let P : Fp → Type 0 = λ k. same_fp k g ≡ true in subst P (same_fps g f i) (same-refl g))
        | false ↦ λ i. refl
      ] refl
] refl

pub same-congr : (f g h : Fp) → same_fp f g ≡ true → same_fp f h ≡ same_fp g h
same-congr f g h e = ap (λ k. same_fp k h) (same_fps f g e)

pub same-equivalence : IsEquivalence same_fp
same-equivalence = record { refl = same-refl; symm = same-symm; congr = same-congr }
