-- The names and the words of a script's line.
use Rattle.std.proofs.Common.{◌≡◌, ◌<◌, ◌≤◌, ◌-◌, suc, map, take, Bor, IfOk, Result, Ok, Err, zero, ℕ, List, [], ◌∷◌, true, false, ◌&&◌, ◌||◌, nat_lt, nat_le, ◌==◌, if◌then◌else◌, codes, Option, None, drop, length, get_or, refl, sym, ◌∙◌, inl, inr, arith}
use Rattle.std.specs.List.{list_all}
use Rattle.std.specs.Str.{bytes_eq, IsUtf8}
use Rattle.std.specs.Char.{is_ascii_digit, is_ascii_lowercase, is_ascii_uppercase}
use Rattle.std.proofs.lemmas.Bool.{eqb-true, and_parts, or_cases, leb-true, lt-ltb}
use Rattle.std.proofs.lemmas.List.{length-map, take_rest}
use Rattle.std.proofs.lemmas.Str.{IsUtf8-from_ascii}
use Rattle.vault_types.specs.Words as spec
use Rattle.vault_types.specs.declared.Line.{Line}

in_range_small : (low high b : ℕ) → high < 128 → (nat_le low b && nat_le b high) ≡ true → b < 128
in_range_small low high b h e = omega (arith, leb-true b high (and_parts (nat_le low b) (nat_le b high) e).1)

letter_small : (b : ℕ) → spec.is_letter_or_digit b ≡ true → b < 128
letter_small b h = elim (or_cases (is_ascii_digit b || is_ascii_lowercase b) (is_ascii_uppercase b) h) [
  | inl e ↦ elim (or_cases (is_ascii_digit b) (is_ascii_lowercase b) e) [
    | inl f ↦ in_range_small 48 57 b (omega arith) f
    | inr f ↦ in_range_small 97 122 b (omega arith) f
  ]
  | inr e ↦ in_range_small 65 90 b (omega arith) e
]

name_byte_small : (b : ℕ) → spec.is_name_byte b ≡ true → b < 128
name_byte_small b h = elim (or_cases (spec.is_letter_or_digit b || (b == 46) || (b == 95)) (b == 45) h) [
  | inl e ↦ elim (or_cases (spec.is_letter_or_digit b || (b == 46)) (b == 95) e) [
    | inl f ↦ elim (or_cases (spec.is_letter_or_digit b) (b == 46) f) [
      | inl g ↦ letter_small b g
      | inr g ↦ omega (arith, eqb-true b 46 g)
    ]
    | inr f ↦ omega (arith, eqb-true b 95 f)
  ]
  | inr e ↦ omega (arith, eqb-true b 45 e)
]

ascii_at : (t : List ℕ) → list_all spec.is_name_byte t ≡ true → (i : ℕ) → get_or t i 0 < 128
ascii_at [] h i = omega arith
ascii_at (b ∷ bs) h zero = name_byte_small b (and_parts (spec.is_name_byte b) (list_all spec.is_name_byte bs) h).0
ascii_at (b ∷ bs) h (suc i) = ascii_at bs (and_parts (spec.is_name_byte b) (list_all spec.is_name_byte bs) h).1 i

pub name_is_utf8 : (t : List ℕ) → spec.is_name t ≡ true → IsUtf8 t
name_is_utf8 t h = IsUtf8-from_ascii t (ascii_at t (and_parts (spec.begins_well t && nat_le (length t) 64) (list_all spec.is_name_byte t) h).1)

pub short_line : (ws : List (List ℕ)) → length ws < 2 → spec.line_with ws ≡ None
short_line [] h = refl
short_line (w ∷ []) h = refl
short_line (w ∷ a ∷ ws) h = absurd (omega arith)

abbrev pub texts : List (Bor (List ℕ)) → List (List ℕ)
texts words = map (λ w. w.now) words

abbrev pub at : List (Bor (List ℕ)) → ℕ → List ℕ
at words i = (get_or words i (record { ref_ptr = (0, 0); now = [] })).now

abbrev pub from : ℕ → List (Bor (List ℕ)) → List (List ℕ)
from i words = texts (take (length words - i) (drop i words))

pub no_line : (words : List (Bor (List ℕ))) → length words < 2 → None ≡ spec.line_with (texts words)
no_line words h = sym (short_line (texts words) (omega (arith, length-map words (λ w. w.now))))

line_is_long : (words : List (Bor (List ℕ))) → 2 ≤ length words → spec.line_with (texts words)
    ≡ (if bytes_eq (at words 0) (codes "backup") then spec.backup_line (at words 1) (texts (drop 2 words))
    else if bytes_eq (at words 0) (codes "delete") then spec.delete_line (at words 1) (texts (drop 2 words))
    else if nat_lt 2 (length words) && bytes_eq (at words 0) (codes "restore") then spec.restore_line (at words 1) (at words 2) (texts (drop 3 words))
    else None)
line_is_long [] h = absurd (omega arith)
line_is_long (w ∷ []) h = absurd (omega arith)
line_is_long (w ∷ a ∷ []) h = refl
line_is_long (w ∷ a ∷ b ∷ ws) h =
    let l : 2 < length (w ∷ a ∷ b ∷ ws) = omega arith in
    rw (lt-ltb 2 (length (w ∷ a ∷ b ∷ ws)) l) refl

pub is_backup : (words : List (Bor (List ℕ))) → 2 ≤ length words → bytes_eq (at words 0) (codes "backup") ≡ true
    → spec.backup_line (at words 1) (from 2 words) ≡ spec.line_with (texts words)
is_backup words h e = rw (take_rest words 2) (sym (line_is_long words h ∙ rw e refl))

pub is_delete : (words : List (Bor (List ℕ))) → 2 ≤ length words → bytes_eq (at words 0) (codes "backup") ≡ false → bytes_eq (at words 0) (codes "delete") ≡ true
    → spec.delete_line (at words 1) (from 2 words) ≡ spec.line_with (texts words)
is_delete words h e f = rw (take_rest words 2) (sym (line_is_long words h ∙ rw (e, f) refl))

pub is_restore : (words : List (Bor (List ℕ))) → 3 ≤ length words → bytes_eq (at words 0) (codes "backup") ≡ false → bytes_eq (at words 0) (codes "delete") ≡ false
    → bytes_eq (at words 0) (codes "restore") ≡ true → spec.restore_line (at words 1) (at words 2) (from 3 words) ≡ spec.line_with (texts words)
is_restore words h e f g = rw (take_rest words 3) (sym (line_is_long words (omega arith) ∙ rw (e, f, g, lt-ltb 2 (length words) (omega arith)) refl))

pub is_none : (words : List (Bor (List ℕ))) → 2 ≤ length words → bytes_eq (at words 0) (codes "backup") ≡ false → bytes_eq (at words 0) (codes "delete") ≡ false
    → (nat_lt 2 (length words) && bytes_eq (at words 0) (codes "restore")) ≡ false → None ≡ spec.line_with (texts words)
is_none words h e f g = sym (line_is_long words h ∙ rw (e, f, g) refl)

pub as_line : {E : Type 0} (r : Result (Option Line) E) (x y : Option Line) → x ≡ y → IfOk r (λ l. l ≡ x) → IfOk r (λ l. l ≡ y)
as_line (Ok o) x y e h = h ∙ e
as_line (Err f) x y e h = h
