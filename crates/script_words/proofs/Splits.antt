-- The parts of a text, and its lines.
use Rattle.std.proofs.Common.{◌≡◌, ◌<◌, ◌≤◌, ◌+◌, suc, ◌-◌, ℕ, List, [], ◌∷◌, ◌++◌, nat_eq, ◌==◌, take, drop, length, refl, ap, sym, ◌∙◌, inl, inr, arith, append_assoc, length-drop}
use Rattle.std.proofs.lemmas.List.{drop-drop, drop_all, take_all}
use Rattle.std.specs.List.{position_or_len}
use Rattle.std.proofs.lemmas.Bool.{cases_Bool, cases_lt, eqb-true, eqb-false, eq-eqb, ne_eqb}
use Rattle.vault_types.specs.Words as spec

abbrev pub place : ℕ → List ℕ → ℕ
place c t = position_or_len (nat_eq c) t

eq_turned : (a b : ℕ) → (a == b) ≡ nat_eq b a
eq_turned a b = elim (cases_Bool (nat_eq b a)) [
  | inl e ↦ rw e (eq-eqb a b (sym (eqb-true b a e)))
  | inr e ↦ rw e (ne_eqb a b (λ h. eqb-false b a e (sym h)))
]

pub split_more : (c : ℕ) (t : List ℕ) → place c t < length t → spec.split_at_byte c t ≡ take (place c t) t ∷ spec.split_at_byte c (drop (place c t + 1) t)
split_more c [] h = absurd (omega arith)
split_more c (b ∷ bs) h = elim (cases_Bool (nat_eq c b)) [
  | inl e ↦ let f = eq_turned b c ∙ e in rw (f, e) refl
  | inr e ↦
      let f = eq_turned b c ∙ e in
      let g : 1 + place c bs < suc (length bs) = rw e at h in
      let more = split_more c bs (omega arith) in
      let s : 1 + place c bs ≡ suc (place c bs) = omega arith in
      let r : suc (place c bs) + 1 ≡ suc (place c bs + 1) = omega arith in
      rw (f, e, more) (rw (s, r) refl)
]

pub split_last : (c : ℕ) (t : List ℕ) → length t ≤ place c t → spec.split_at_byte c t ≡ t ∷ []
split_last c [] h = refl
split_last c (b ∷ bs) h = elim (cases_Bool (nat_eq c b)) [
  | inl e ↦ let g : suc (length bs) ≤ 0 = rw e at h in absurd (omega arith)
  | inr e ↦
      let f = eq_turned b c ∙ e in
      let g : suc (length bs) ≤ 1 + place c bs = rw e at h in
      rw (f, split_last c bs (omega arith)) refl
]

pub split_step : (c : ℕ) (text : List ℕ) (start end : ℕ) (xs : List (List ℕ)) → end ≡ start + place c (drop start text) → end < length text
    → spec.split_at_byte c text ≡ xs ++ spec.split_at_byte c (drop start text)
    → spec.split_at_byte c text ≡ (xs ++ take (end - start) (drop start text) ∷ []) ++ spec.split_at_byte c (drop (end + 1) text)
split_step c text start end xs e h so_far =
    let t = drop start text in
    let inside : place c t < length t = omega (arith, length-drop start text) in
    let n : end - start ≡ place c t = omega arith in
    let m : start + (place c t + 1) ≡ end + 1 = omega arith in
    so_far ∙ ap (λ ys. xs ++ ys) (split_more c t inside)
    ∙ rw (n, drop-drop (place c t + 1) start text, m) (sym (append_assoc xs (take (place c t) t ∷ []) (spec.split_at_byte c (drop (end + 1) text))))

pub split_end : (c : ℕ) (text : List ℕ) (start end : ℕ) (xs : List (List ℕ)) → end ≡ start + place c (drop start text) → end ≡ length text
    → spec.split_at_byte c text ≡ xs ++ spec.split_at_byte c (drop start text)
    → spec.split_at_byte c text ≡ xs ++ take (end - start) (drop start text) ∷ []
split_end c text start end xs e h so_far =
    let t = drop start text in
    let n : length t ≤ end - start = omega (arith, length-drop start text) in
    so_far ∙ ap (λ ys. xs ++ ys) (split_last c t (omega (arith, length-drop start text)))
    ∙ rw (take_all (end - start) t n) refl

split_some : (c : ℕ) (t : List ℕ) → (q : List ℕ) × ((qs : List (List ℕ)) × (spec.split_at_byte c t ≡ q ∷ qs))
split_some c t = elim (cases_lt (place c t) (length t)) [
  | inl h ↦ (take (place c t) t, (spec.split_at_byte c (drop (place c t + 1) t), split_more c t h))
  | inr h ↦ (t, ([], split_last c t h))
]

more_parts : (p q : List ℕ) (qs : List (List ℕ)) → spec.without_empty_last (p ∷ q ∷ qs) ≡ p ∷ spec.without_empty_last (q ∷ qs)
more_parts [] q qs = refl
more_parts (b ∷ bs) q qs = refl

before_parts : (p : List ℕ) (c : ℕ) (t : List ℕ) → spec.without_empty_last (p ∷ spec.split_at_byte c t) ≡ p ∷ spec.without_empty_last (spec.split_at_byte c t)
before_parts p c t = let s = split_some c t in rw s.1.1 (more_parts p s.0 s.1.0)

last_part : (t : List ℕ) → 0 < length t → spec.without_empty_last (t ∷ []) ≡ t ∷ []
last_part [] h = absurd (omega arith)
last_part (b ∷ bs) h = refl

-- the first line of a text, and the lines of what follows it
pub lines_more : (t : List ℕ) → 0 < length t → spec.lines_of t ≡ take (place 10 t) t ∷ spec.lines_of (drop (place 10 t + 1) t)
lines_more t some = elim (cases_lt (place 10 t) (length t)) [
  | inl h ↦ ap spec.without_empty_last (split_more 10 t h) ∙ before_parts (take (place 10 t) t) 10 (drop (place 10 t + 1) t)
  | inr h ↦
      let all : take (place 10 t) t ≡ t = take_all (place 10 t) t h in
      let none : drop (place 10 t + 1) t ≡ [] = drop_all (place 10 t + 1) t (omega arith) in
      rw (all, none) (ap spec.without_empty_last (split_last 10 t h) ∙ last_part t some)
]
