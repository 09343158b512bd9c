-- The numbers among allowed settings fit their types.
use Rattle.std.proofs.Common.{◌≡◌, ◌<◌, ◌≤◌, ◌^◌, ℕ, true, false, ◌&&◌, nat_le, List, [], ◌∷◌, Option, Some, None, is_some, unwrap_or, codes, inl, inr, sym, subst, arith}
use Rattle.std.specs.List.{list_all, list_any}
use Rattle.std.specs.Str.{bytes_eq}
use Rattle.std.specs.Cmp.Lexicographic.{bytes_decides}
use Rattle.std.proofs.lemmas.Bool.{and_parts, or_parts, or_cases, cases_Bool, not-true, leb-true, false≢true}
use Rattle.vault_types.specs.Words.{Allowed, Number, Word, Kinds, Settings, number, number_in, in_range, is_allowed, is_value, allows, are_allowed, names_differ}
use Rattle.script_words.specs.Settings.{greatest_value, is_at_most, kinds_fit, NumbersFit}

no_number : (o : Option ℕ) (n : ℕ) → is_some o ≡ false → unwrap_or o 0 ≤ n
no_number None n h = omega arith
no_number (Some m) n h = absurd (false≢true (sym h))

range_number : (o : Option ℕ) (low high n : ℕ) → nat_le high n ≡ true → in_range low high o ≡ true → unwrap_or o 0 ≤ n
range_number None low high n h g = absurd (false≢true g)
range_number (Some m) low high n h g =
    omega (arith, leb-true high n h, leb-true m high (and_parts (nat_le low m) (nat_le m high) g).1)

word_number : (texts : List (List ℕ)) (v : List ℕ) → list_any (λ t. is_some (number t)) texts ≡ false → list_any (bytes_eq v) texts ≡ true → is_some (number v) ≡ false
word_number [] v h g = absurd (false≢true g)
word_number (t ∷ texts) v h g =
    let parts = or_parts (is_some (number t)) (list_any (λ t. is_some (number t)) texts) h in
    elim (or_cases (bytes_eq v t) (list_any (bytes_eq v) texts) g) [
      | inl e ↦ subst (λ (w : List ℕ). is_some (number w) ≡ false) (sym ((bytes_decides v t).0 e)) parts.0
      | inr e ↦ word_number texts v parts.1 e
    ]

allowed_number : (a : Allowed) (v : List ℕ) (n : ℕ) → is_at_most n a ≡ true → is_allowed a v ≡ true → unwrap_or (number v) 0 ≤ n
allowed_number (Number low high) v n h g = range_number (number v) low high n h g
allowed_number (Word texts) v n h g = no_number (number v) n (word_number texts v (not-true (list_any (λ t. is_some (number t)) texts) h) g)

kind_number : (k name v : List ℕ) (a : Allowed) → is_at_most (greatest_value k) a ≡ true → (bytes_eq k name && is_allowed a v) ≡ true → unwrap_or (number v) 0 ≤ greatest_value name
kind_number k name v a h g =
    let parts = and_parts (bytes_eq k name) (is_allowed a v) g in
    let e : k ≡ name = (bytes_decides k name).0 parts.0 in
    subst (λ (m : List ℕ). unwrap_or (number v) 0 ≤ greatest_value m) e (allowed_number a v (greatest_value k) h parts.1)

kinds_number : (kinds : Kinds) (name v : List ℕ) → kinds_fit kinds ≡ true → list_any (λ k. bytes_eq k.0 name && is_allowed k.1 v) kinds ≡ true → unwrap_or (number v) 0 ≤ greatest_value name
kinds_number [] name v h g = absurd (false≢true g)
kinds_number (k ∷ kinds) name v h g =
    let parts = and_parts (is_at_most (greatest_value k.0) k.1) (kinds_fit kinds) h in
    elim (or_cases (bytes_eq k.0 name && is_allowed k.1 v) (list_any (λ k. bytes_eq k.0 name && is_allowed k.1 v) kinds) g) [
      | inl e ↦ kind_number k.0 name v k.1 parts.0 e
      | inr e ↦ kinds_number kinds name v parts.1 e
    ]

settings_number : (kinds : Kinds) (s : Settings) (name : List ℕ) → kinds_fit kinds ≡ true → list_all (allows kinds) s ≡ true → number_in s name 0 ≤ greatest_value name
settings_number kinds [] name h g = omega arith
settings_number kinds (p ∷ s) name h g =
    let parts = and_parts (allows kinds p) (list_all (allows kinds) s) g in
    elim (cases_Bool (bytes_eq name p.0)) [
      | inl e ↦
          let same : name ≡ p.0 = (bytes_decides name p.0).0 e in
          let here = kinds_number kinds p.0 p.1 h (and_parts (is_value p.1) _ parts.0).1 in
          rw e (subst (λ (m : List ℕ). unwrap_or (number p.1) 0 ≤ greatest_value m) (sym same) here)
      | inr e ↦ rw e (settings_number kinds s name h parts.1)
    ]

small : (name : List ℕ) (n : ℕ) → n ≤ greatest_value name → bytes_eq name (codes "seed") ≡ false → n < 2 ^ 32
small name n h e =
    elim (cases_Bool (bytes_eq name (codes "set"))) [
      | inl f ↦ let g : n ≤ 255 = rw (e, f) at h in omega arith
      | inr f ↦ let g : n ≤ 4294967295 = rw (e, f) at h in omega arith
    ]

pub fits : (kinds : Kinds) (s : Settings) → kinds_fit kinds ≡ true → are_allowed kinds s ≡ true → NumbersFit s
fits kinds s h g =
    let each = (and_parts (names_differ s) (list_all (allows kinds) s) g).1 in
    let set : number_in s (codes "set") 0 ≤ 255 = settings_number kinds s (codes "set") h each in
    let seed : number_in s (codes "seed") 0 ≤ 18446744073709551615 = settings_number kinds s (codes "seed") h each in
    record {
      each = λ name e. small name (number_in s name 0) (settings_number kinds s name h each) e;
      set = omega arith;
      seed = omega arith;
    }
