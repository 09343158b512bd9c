-- The numbers of allowed settings lie in their ranges, and the settings of a backup.
use Rattle.std.proofs.Common.{◌≡◌, ◌≤◌, ◌<◌, ℕ, Bool, true, false, not, cond, ◌&&◌, ◌||◌, nat_le, nat_lt, List, [], ◌∷◌, Option, Some, None, unwrap_or, codes, inl, inr, sym, subst, arith}
use Rattle.std.specs.List.{list_all, list_any}
use Rattle.std.specs.Str.{bytes_eq}
use Rattle.std.specs.Cmp.Lexicographic.{bytes_decides}
use Rattle.std.proofs.lemmas.Bool.{and_parts, or_cases, cases_Bool, leb-true, false≢true}
use Rattle.std.proofs.lemmas.Bool.Decides.{nat_tests}
use Rattle.vault_types.specs.declared.Cutting.TheVariants.{Fixed, Ae}
use Rattle.vault_types.specs.Words.{Allowed, Number, Word, Kinds, Settings, number, number_in, in_range, is_allowed, is_value, allows, agrees, job_agrees, config_in, is_word}
use Rattle.vault_types.specs.JobRanges.{IsInRange, IsCuttable}

-- a number in a range, as two orders
abbrev pub IsWithin : ℕ → ℕ → ℕ → Type 0
IsWithin low high n = (low ≤ n) × (n ≤ high)

-- what a kind allows lies in the range
abbrev pub lies_in : ℕ → ℕ → Allowed → Bool
lies_in low high (Number l h) = nat_le low l && nat_le h high
lies_in low high (Word texts) = false

-- so does what each kind of that name allows
abbrev pub keeps : List ℕ → ℕ → ℕ → Kinds → Bool
keeps name low high kinds = list_all (λ k. not (bytes_eq k.0 name) || lies_in low high k.1) kinds

wider : (o : Option ℕ) (l h low high d : ℕ) → low ≤ l → h ≤ high → in_range l h o ≡ true → IsWithin low high (unwrap_or o d)
wider None l h low high d p q g = absurd (false≢true g)
wider (Some m) l h low high d p q g =
    let parts = and_parts (nat_le l m) (nat_le m h) g in
    (omega (arith, leb-true l m parts.0), omega (arith, leb-true m h parts.1))

allowed_within : (a : Allowed) (v : List ℕ) (low high d : ℕ) → lies_in low high a ≡ true → is_allowed a v ≡ true → IsWithin low high (unwrap_or (number v) d)
allowed_within (Number l h) v low high d p g =
    let parts = and_parts (nat_le low l) (nat_le h high) p in
    wider (number v) l h low high d (leb-true low l parts.0) (leb-true h high parts.1) g
allowed_within (Word texts) v low high d p g = absurd (false≢true p)

kept : (b t : Bool) → (not b || t) ≡ true → b ≡ true → t ≡ true
kept true t p e = p
kept false t p e = absurd (false≢true e)

kinds_within : (kinds : Kinds) (name v : List ℕ) (low high d : ℕ) → keeps name low high kinds ≡ true → list_any (λ k. bytes_eq k.0 name && is_allowed k.1 v) kinds ≡ true → IsWithin low high (unwrap_or (number v) d)
kinds_within [] name v low high d h g = absurd (false≢true g)
kinds_within (k ∷ kinds) name v low high d h g =
    let parts = and_parts (not (bytes_eq k.0 name) || lies_in low high k.1) (keeps name low high kinds) h in
    elim (or_cases (bytes_eq k.0 name && is_allowed k.1 v) (list_any (λ k. bytes_eq k.0 name && is_allowed k.1 v) kinds) g) [
      | inl e ↦
          let both = and_parts (bytes_eq k.0 name) (is_allowed k.1 v) e in
          allowed_within k.1 v low high d (kept (bytes_eq k.0 name) (lies_in low high k.1) parts.0 both.0) both.1
      | inr e ↦ kinds_within kinds name v low high d parts.1 e
    ]

-- a number in allowed settings is in the range that their kinds keep, where its default is
pub settings_within : (kinds : Kinds) (s : Settings) (name : List ℕ) (low high d : ℕ) → keeps name low high kinds ≡ true → IsWithin low high d → list_all (allows kinds) s ≡ true → IsWithin low high (number_in s name d)
settings_within kinds [] name low high d h w g = w
settings_within kinds (p ∷ s) name low high d h w g =
    let parts = and_parts (allows kinds p) (list_all (allows kinds) s) g in
    elim (cases_Bool (bytes_eq name p.0)) [
      | inl e ↦
          let same : name ≡ p.0 = (bytes_decides name p.0).0 e in
          let any = (and_parts (is_value p.1) _ parts.0).1 in
          rw e (kinds_within kinds name p.1 low high d h (subst (λ (m : List ℕ). list_any (λ k. bytes_eq k.0 m && is_allowed k.1 p.1) kinds ≡ true) (sym same) any))
      | inr e ↦ rw e (settings_within kinds s name low high d h w parts.1)
    ]

-- kinds that keep the numbers of a backup in their ranges
pub record KeepJob (kinds : Kinds) : Type 0 where
  pub size : keeps (codes "size") 1 65536 kinds ≡ true
  pub container : keeps (codes "container") 1 4194304 kinds ≡ true
  pub window : keeps (codes "window") 1 65535 kinds ≡ true
  pub max : keeps (codes "max") 2 65536 kinds ≡ true

module _ (kinds : Kinds) (job : KeepJob kinds) (s : Settings) (each : list_all (allows kinds) s ≡ true) where
  size_within : IsWithin 1 65536 (number_in s (codes "size") 4096)
  size_within = settings_within kinds s (codes "size") 1 65536 4096 job.size (omega arith, omega arith) each

  container_within : IsWithin 1 4194304 (number_in s (codes "container") 4194304)
  container_within = settings_within kinds s (codes "container") 1 4194304 4194304 job.container (omega arith, omega arith) each

  window_within : IsWithin 1 65535 (number_in s (codes "window") 4096)
  window_within = settings_within kinds s (codes "window") 1 65535 4096 job.window (omega arith, omega arith) each

  max_within : IsWithin 2 65536 (number_in s (codes "max") 65536)
  max_within = settings_within kinds s (codes "max") 2 65536 65536 job.max (omega arith, omega arith) each

  cuttable : (t : Bool) (container : ℕ) → agrees (cond t (Fixed (number_in s (codes "size") 4096)) (Ae (number_in s (codes "window") 4096) (number_in s (codes "max") 65536))) container ≡ true
      → IsCuttable (cond t (Fixed (number_in s (codes "size") 4096)) (Ae (number_in s (codes "window") 4096) (number_in s (codes "max") 65536)))
  cuttable true container e = size_within
  cuttable false container e =
      let both = and_parts (nat_lt (number_in s (codes "window") 4096) (number_in s (codes "max") 65536)) (nat_le (number_in s (codes "max") 65536) container) e in
      (window_within.0, less (number_in s (codes "window") 4096) (number_in s (codes "max") 65536) both.0, max_within.1)
    where
      less : (m n : ℕ) → nat_lt m n ≡ true → m < n
      less m n h = grind (arith, nat_tests)

  pub job_in_range : job_agrees s ≡ true → IsInRange (config_in s)
  job_in_range e = record { cutting = cuttable (is_word s (codes "chunk") (codes "fixed")) (number_in s (codes "container") 4194304) e; container_low = container_within.0; container_high = container_within.1 }
