-- How many of some ids are among others, and what a load and an eviction change of it.
use Rattle.std.proofs.Common.{◌≡◌, ℕ, suc, ◌+◌, ◌<◌, ◌≤◌, Bool, true, false, not, cond, ◌||◌, eqb, List, [], ◌∷◌, length, filter, refl, sym, ap, ◌∙◌, arith}
use Rattle.std.proofs.lemmas.Bool.{cond_both, eqb-true, eqb-false, eq-eqb, ne_eqb, or_parts, false≢true}
use Rattle.vault_types.specs.Lists.{has}

-- the ids but for x
abbrev pub without : ℕ → List ℕ → List ℕ
without x ids = filter (λ y. not (eqb x y)) ids

abbrev pub one_if : Bool → ℕ
one_if true = 1
one_if false = 0

-- how many of the ids are among soon
abbrev pub near : List ℕ → List ℕ → ℕ
near soon [] = 0
near soon (x ∷ ids) = one_if (has x soon) + near soon ids

-- how often x stands in the ids
abbrev pub times : ℕ → List ℕ → ℕ
times x [] = 0
times x (y ∷ ids) = one_if (eqb x y) + times x ids

pub one_if-le : (b : Bool) → one_if b ≤ 1
one_if-le true = omega arith
one_if-le false = omega arith

pub one_if_yes : (b : Bool) → b ≡ true → one_if b ≡ 1
one_if_yes b e = ap one_if e

pub one_if_no : (b : Bool) → b ≡ false → one_if b ≡ 0
one_if_no b e = ap one_if e

pub near-le-length : (soon ids : List ℕ) → near soon ids ≤ length ids
near-le-length soon [] = omega arith
near-le-length soon (x ∷ ids) = omega (arith, near-le-length soon ids, one_if-le (has x soon))

-- the ids but for x
pub near-without-le : (soon ids : List ℕ) (x : ℕ) → near soon (without x ids) ≤ near soon ids
near-without-le soon [] x = omega arith
near-without-le soon (y ∷ ids) x =
    let ih : near soon (without x ids) ≤ near soon ids = near-without-le soon ids x in
    cond_both (not (eqb x y)) _ _ (λ zs. near soon zs ≤ one_if (has y soon) + near soon ids)
    (λ e. omega (arith, ih)) (λ e. omega (arith, ih))

pub length-without-le : (ids : List ℕ) (x : ℕ) → length (without x ids) ≤ length ids
length-without-le [] x = omega arith
length-without-le (y ∷ ids) x =
    let ih : length (without x ids) ≤ length ids = length-without-le ids x in
    cond_both (not (eqb x y)) _ _ (λ zs. length zs ≤ suc (length ids)) (λ e. omega (arith, ih)) (λ e. omega (arith, ih))

pub times-without-le : (ids : List ℕ) (x z : ℕ) → times z (without x ids) ≤ times z ids
times-without-le [] x z = omega arith
times-without-le (y ∷ ids) x z =
    let ih : times z (without x ids) ≤ times z ids = times-without-le ids x z in
    cond_both (not (eqb x y)) _ _ (λ zs. times z zs ≤ one_if (eqb z y) + times z ids)
    (λ e. omega (arith, ih)) (λ e. omega (arith, ih))

-- what an eviction takes is at most what stood there
near_without_step : (b : Bool) (soon ids : List ℕ) (y n t : ℕ) → n ≤ near soon ids + t → one_if (has y soon) + n ≤ near soon (cond (not b) (y ∷ ids) ids) + (one_if b + t)
near_without_step true soon ids y n t h = omega (arith, one_if-le (has y soon))
near_without_step false soon ids y n t h = omega arith

pub near_without : (soon ids : List ℕ) (x : ℕ) → near soon ids ≤ near soon (without x ids) + times x ids
near_without soon [] x = omega arith
near_without soon (y ∷ ids) x =
    near_without_step (eqb x y) soon (without x ids) y (near soon ids) (times x ids) (near_without soon ids x)

-- an id that is not near can go at no loss
pub near_without_far : (soon ids : List ℕ) (x : ℕ) → has x soon ≡ false → near soon (without x ids) ≡ near soon ids
near_without_far soon [] x far = refl
near_without_far soon (y ∷ ids) x far =
    let ih : near soon (without x ids) ≡ near soon ids = near_without_far soon ids x far in
    go (eqb x y) refl ih
  where
    go : (b : Bool) → eqb x y ≡ b → near soon (without x ids) ≡ near soon ids → near soon (cond (not b) (y ∷ without x ids) (without x ids)) ≡ one_if (has y soon) + near soon ids
    go true e ih = let none : one_if (has y soon) ≡ 0 = ap (λ z. one_if (has z soon)) (sym (eqb-true x y e)) ∙ one_if_no (has x soon) far in omega arith
    go false e ih = omega arith

pub times_none : (ids : List ℕ) (x : ℕ) → has x ids ≡ false → times x ids ≡ 0
times_none [] x e = refl
times_none (y ∷ ids) x e =
    let parts : (eqb x y ≡ false) × (has x ids ≡ false) = or_parts _ _ e in
    let none : one_if (eqb x y) ≡ 0 = one_if_no (eqb x y) parts.0 in
    omega (arith, times_none ids x parts.1)

pub times_some : (ids : List ℕ) (x : ℕ) → has x ids ≡ true → 1 ≤ times x ids
times_some [] x e = absurd (false≢true e)
times_some (y ∷ ids) x e = go (eqb x y) (λ h. times_some ids x h) e
  where
    go : (b : Bool) → (has x ids ≡ true → 1 ≤ times x ids) → (b || has x ids) ≡ true → 1 ≤ one_if b + times x ids
    go true ih h = omega arith
    go false ih h = omega (arith, ih h)

-- what is there as often as it was, and what is gone
pub length_without : (ids : List ℕ) (x : ℕ) → length (without x ids) + times x ids ≡ length ids
length_without [] x = refl
length_without (y ∷ ids) x = go (eqb x y) (length_without ids x)
  where
    go : (b : Bool) → length (without x ids) + times x ids ≡ length ids → length (cond (not b) (y ∷ without x ids) (without x ids)) + (one_if b + times x ids) ≡ suc (length ids)
    go true ih = omega arith
    go false ih = omega arith

pub times_without_self : (ids : List ℕ) (x : ℕ) → times x (without x ids) ≡ 0
times_without_self [] x = refl
times_without_self (y ∷ ids) x = go (eqb x y) refl (times_without_self ids x)
  where
    go : (b : Bool) → eqb x y ≡ b → times x (without x ids) ≡ 0 → times x (cond (not b) (y ∷ without x ids) (without x ids)) ≡ 0
    go true e ih = ih
    go false e ih = omega (arith, one_if_no (eqb x y) e)

pub times_without_other : (ids : List ℕ) (x z : ℕ) → eqb z x ≡ false → times z (without x ids) ≡ times z ids
times_without_other [] x z ne = refl
times_without_other (y ∷ ids) x z ne = go (eqb x y) refl (times_without_other ids x z ne)
  where
    go : (b : Bool) → eqb x y ≡ b → times z (without x ids) ≡ times z ids → times z (cond (not b) (y ∷ without x ids) (without x ids)) ≡ one_if (eqb z y) + times z ids
    go true e ih = let none : one_if (eqb z y) ≡ 0 = ap (λ w. one_if (eqb z w)) (sym (eqb-true x y e)) ∙ one_if_no (eqb z x) ne in omega arith
    go false e ih = omega arith

-- an id that is among them leaves at least one place
pub length_without_among : (ids : List ℕ) (x : ℕ) → has x ids ≡ true → length (without x ids) < length ids
length_without_among ids x e = omega (arith, length_without ids x, times_some ids x e)

-- one more near id
pub near_cons_in : (soon ids : List ℕ) (r : ℕ) → has r soon ≡ true → near (r ∷ soon) ids ≡ near soon ids
near_cons_in soon [] r e = refl
near_cons_in soon (x ∷ ids) r e = go (eqb x r) refl (near_cons_in soon ids r e)
  where
    go : (b : Bool) → eqb x r ≡ b → near (r ∷ soon) ids ≡ near soon ids → one_if (b || has x soon) + near (r ∷ soon) ids ≡ one_if (has x soon) + near soon ids
    go true h ih = let one : one_if (has x soon) ≡ 1 = ap (λ z. one_if (has z soon)) (eqb-true x r h) ∙ one_if_yes (has r soon) e in omega arith
    go false h ih = omega arith

near_cons_out_step : (r x : ℕ) (b : Bool) (soon : List ℕ) → has r soon ≡ false → eqb x r ≡ b → one_if (b || has x soon) ≡ one_if (has x soon) + one_if (eqb r x)
near_cons_out_step r x true soon e h =
    let same : x ≡ r = eqb-true x r h in
    let none : one_if (has x soon) ≡ 0 = ap (λ z. one_if (has z soon)) same ∙ one_if_no (has r soon) e in
    let one : one_if (eqb r x) ≡ 1 = one_if_yes (eqb r x) (eq-eqb r x (sym same)) in
    omega arith
near_cons_out_step r x false soon e h =
    let none : one_if (eqb r x) ≡ 0 = one_if_no (eqb r x) (ne_eqb r x (λ same. eqb-false x r h (sym same))) in
    omega arith

pub near_cons_out : (soon ids : List ℕ) (r : ℕ) → has r soon ≡ false → near (r ∷ soon) ids ≡ near soon ids + times r ids
near_cons_out soon [] r e = refl
near_cons_out soon (x ∷ ids) r e =
    let step : one_if (eqb x r || has x soon) ≡ one_if (has x soon) + one_if (eqb r x) = near_cons_out_step r x (eqb x r) soon e refl in
    omega (arith, near_cons_out soon ids r e)

-- x is among the ids that it is put before, as is each of them
pub has_first : (x : ℕ) (ids : List ℕ) → has x (x ∷ ids) ≡ true
has_first x ids = ap (λ b. b || has x ids) (eq-eqb x x refl)

pub has_later : (x : ℕ) (ids : List ℕ) (y : ℕ) → has y ids ≡ true → has y (x ∷ ids) ≡ true
has_later x ids y e = go (eqb y x)
  where
    go : (b : Bool) → (b || has y ids) ≡ true
    go true = refl
    go false = e

-- all are near
pub near_all : (soon ids : List ℕ) → ((x : ℕ) → has x ids ≡ true → has x soon ≡ true) → near soon ids ≡ length ids
near_all soon [] h = refl
near_all soon (x ∷ ids) h =
    let one : one_if (has x soon) ≡ 1 = one_if_yes (has x soon) (h x (has_first x ids)) in
    let ih : near soon ids ≡ length ids = near_all soon ids (λ y e. h y (has_later x ids y e)) in
    omega arith
