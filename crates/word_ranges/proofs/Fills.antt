-- The script of `fill`: its settings are in their ranges, and its names are apart.
use Rattle.std.proofs.Common.{◌≡◌, ◌≢◌, ◌≤◌, ◌<◌, ◌+◌, ◌/◌, ◌^◌, ℕ, zero, suc, Bool, true, false, ◌||◌, IsTrue, ◌++◌, List, [], ◌∷◌, map, codes, refl, sym, subst, arith, ◌∙◌, append_assoc}
use Rattle.std.specs.Prelude.{decimal}
use Rattle.std.specs.List.{AllByRecursion, list_any, range_with_len}
use Rattle.std.specs.Str.{bytes_eq}
use Rattle.std.specs.Cmp.Lexicographic.{bytes_decides}
use Rattle.std.proofs.lemmas.Fmt.{decimal_injective}
use Rattle.std.proofs.lemmas.List.{append-nil}
use Rattle.std.proofs.lemmas.List.Folds.{list_any-append}
use Rattle.vault_types.specs.declared.Line.{Line}
use Rattle.vault_types.specs.declared.Line.TheVariants.{Backup, Restore, Delete}
use Rattle.vault_types.specs.Generator.{fill_config, fill_lines}
use Rattle.vault_types.specs.Words.{is_one_of, may_follow}
use Rattle.vault_types.specs.JobRanges.{IsInRange}
use Rattle.store_model.specs.Outputs.{AreApartFrom, AreApartLines}
use Rattle.store_model.specs.Ranges.{IsLineInRange}

abbrev source : ℕ → List ℕ
source v = codes "gen-" ++ decimal v

abbrev output : ℕ → List ℕ
output v = codes "out-" ++ decimal v

abbrev backup : ℕ → Line
backup v = Backup 0 (source v) fill_config

abbrev restore : ℕ → Line
restore v = Restore 0 v (output v) 16

abbrev delete : ℕ → Line
delete versions = Delete 0 (versions / 2)

-- ---- the ranges

config_in_range : IsInRange fill_config
config_in_range = record { cutting = (omega arith, omega arith, omega arith); container_low = omega arith; container_high = omega arith }

backups_in_range : (vs : List ℕ) (rest : List Line) → AllByRecursion IsLineInRange rest → AllByRecursion IsLineInRange (map backup vs ++ rest)
unfolding config_in_range
backups_in_range [] rest h = h
backups_in_range (v ∷ vs) rest h = (config_in_range, backups_in_range vs rest h)

restores_in_range : (vs : List ℕ) (rest : List Line) → AllByRecursion IsLineInRange rest → AllByRecursion IsLineInRange (map restore vs ++ rest)
restores_in_range [] rest h = h
restores_in_range (v ∷ vs) rest h = ((omega arith, omega arith), restores_in_range vs rest h)

-- the script, from its first line on
script : (versions : ℕ) → map backup (range_with_len 1 versions) ++ (map restore (range_with_len 1 versions) ++ delete versions ∷ []) ≡ fill_lines versions
script versions = sym (append_assoc (map backup (range_with_len 1 versions)) (map restore (range_with_len 1 versions)) (delete versions ∷ []))

pub fill_in_range : (versions : ℕ) → AllByRecursion IsLineInRange (fill_lines versions)
fill_in_range versions = subst (λ (lines : List Line). AllByRecursion IsLineInRange lines) (script versions)
    (backups_in_range (range_with_len 1 versions) (map restore (range_with_len 1 versions) ++ delete versions ∷ []) (restores_in_range (range_with_len 1 versions) (delete versions ∷ []) (tt, tt)))

-- ---- the names

same_tail : (a b : List ℕ) → codes "out-" ++ a ≡ codes "out-" ++ b → a ≡ b
same_tail a b e = cc

-- outputs of different versions are different names
other_output : (u v : ℕ) → u < 2 ^ 64 → v < 2 ^ 64 → u ≢ v → bytes_eq (output u) (output v) ≡ false
other_output u v low high other = by (bytes_eq (output u) (output v)) refl
  where
    by : (b : Bool) → bytes_eq (output u) (output v) ≡ b → bytes_eq (output u) (output v) ≡ false
    by true is = absurd (other (decimal_injective u v low high (same_tail (decimal u) (decimal v) ((bytes_decides (output u) (output v)).0 is))))
    by false is = is

-- and no source
no_source : (v : ℕ) (us : List ℕ) → is_one_of (map source us) (output v) ≡ false
no_source v [] = refl
no_source v (u ∷ us) = no_source v us

or_false : (a b : Bool) → a ≡ false → b ≡ false → (a || b) ≡ false
or_false a b h j = rw (h, j) refl

new_output : (sources outputs : List (List ℕ)) (v : ℕ) → is_one_of sources (output v) ≡ false → is_one_of outputs (output v) ≡ false → IsTrue (may_follow sources outputs (restore v))
new_output sources outputs v h j = rw (h, j) refl

-- backups in front of lines that are apart from them
backups_apart : (sources : List (List ℕ)) (vs : List ℕ) (rest : List Line) → AreApartFrom (sources ++ map source vs) [] rest → AreApartFrom sources [] (map backup vs ++ rest)
backups_apart sources [] rest h = subst (λ (l : List (List ℕ)). AreApartFrom l [] rest) (append-nil sources) h
backups_apart sources (v ∷ vs) rest h =
    (refl, backups_apart (sources ++ source v ∷ []) vs rest (subst (λ (l : List (List ℕ)). AreApartFrom l [] rest) (sym (append_assoc sources (source v ∷ []) (map source vs))) h))

-- restores of versions from a on, whose outputs are no names so far
restores_apart : (sources outputs : List (List ℕ)) (a n : ℕ) (rest : List Line) → a + n < 2 ^ 64 → ((v : ℕ) → is_one_of sources (output v) ≡ false) → ((v : ℕ) → a ≤ v → v < a + n → is_one_of outputs (output v) ≡ false)
    → ((more : List (List ℕ)) → AreApartFrom sources more rest) → AreApartFrom sources outputs (map restore (range_with_len a n) ++ rest)
restores_apart sources outputs a zero rest bound apart fresh h = h outputs
restores_apart sources outputs a (suc n) rest bound apart fresh h = (
  new_output sources outputs a (apart a) (fresh a (omega arith) (omega arith)),
  subst (λ (l : List (List ℕ)). AreApartFrom l (outputs ++ output a ∷ []) (map restore (range_with_len (a + 1) n) ++ rest)) (sym (append-nil sources))
      (restores_apart sources (outputs ++ output a ∷ []) (a + 1) n rest (omega arith) apart
      (λ v low high.
      let other : v ≢ a = omega arith in
      list_any-append (bytes_eq (output v)) outputs (output a ∷ [])
      ∙ or_false (is_one_of outputs (output v)) _ (fresh v (omega arith) (omega arith)) (or_false (bytes_eq (output v) (output a)) false (other_output v a (omega arith) (omega arith) other) refl))
      h),
)

pub fill_apart : (versions : ℕ) → versions ≤ 64 → AreApartLines (fill_lines versions)
fill_apart versions few = subst (λ (lines : List Line). AreApartLines lines) (script versions)
    (backups_apart [] (range_with_len 1 versions) (map restore (range_with_len 1 versions) ++ delete versions ∷ [])
    (restores_apart (map source (range_with_len 1 versions)) [] 1 versions (delete versions ∷ []) (omega arith) (λ v. no_source v (range_with_len 1 versions)) (λ v low high. refl) (λ more. (refl, tt))))
