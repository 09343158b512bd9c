-- Fingerprints are compared as their bytes, and rows are few.
use Rattle.std.proofs.Common.{◌≡◌, ◌≤◌, Bool, true, false, List, [], ◌∷◌, length, refl, ap, ◌∙◌, arith}
use Rattle.std.specs.List.{AllByRecursion}
use Rattle.std.proofs.lemmas.List.Sums.{sum_by-cons}
use Rattle.vault_types.specs.declared.Fp.{Fp}
use Rattle.vault_types.specs.declared.TableRow.{TableRow}
use Rattle.vault_types.specs.declared.Table.{Table}
use Rattle.vault_types.specs.Names.{same_fp}
use Rattle.vault_types.specs.Tables.{payload_len, IsTable}
use Rattle.vault_types.proofs.FillLemmas.{same_fps, bytes_eq-same}

pub same_is : (f g : Fp) → f ≡ g → same_fp f g ≡ true
same_is f g e = ap (λ (h : Fp). same_fp h g) e ∙ bytes_eq-same g.0

pub other_is : (f g : Fp) → (f ≡ g → ⊥) → same_fp f g ≡ false
other_is f g apart = step (same_fp f g) refl
  where
    step : (b : Bool) → same_fp f g ≡ b → b ≡ false
    step true e = absurd (apart (same_fps f g e))
    step false e = refl

few : (rows : List TableRow) → AllByRecursion (λ r. (1 ≤ r.len) × (r.len ≤ 65536)) rows → length rows ≤ payload_len rows
few [] lens = omega arith
few (r ∷ rows) lens = omega (arith, few rows lens.1, lens.0.0, sum_by-cons (λ (q : TableRow). q.len) r rows)

pub few_rows : (t : Table) → IsTable t → length t.rows ≤ 4194304
few_rows t rules = omega (arith, few t.rows rules.lens, rules.total)
