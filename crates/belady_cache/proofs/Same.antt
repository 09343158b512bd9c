-- Two lists with the same ids in any order, and what a load and an eviction leave of them.
use Rattle.std.proofs.Common.{◌≡◌, ℕ, suc, ◌+◌, Bool, true, false, not, cond, ◌==◌, eqb, List, [], ◌∷◌, ◌++◌, length, map, refl, sym, ap, ◌∙◌, arith}
use Rattle.std.proofs.lemmas.Bool.{eqb-true, eqb-false, eq-eqb, ne_eqb}
use Rattle.vault_types.specs.Lists.{has}
use Rattle.belady_cache.proofs.Counts.{without, one_if, one_if_yes, one_if_no, times, times_none, times_some, length_without, times_without_self, times_without_other}

-- the same ids, each as often
pub record Same (present ids : List ℕ) : Type 0 where
  pub long : length present ≡ length ids
  pub often : (x : ℕ) → times x present ≡ times x ids

pub eqb_sym : (x y : ℕ) → eqb x y ≡ eqb y x
eqb_sym x y = go (eqb y x) refl
  where
    go : (b : Bool) → eqb y x ≡ b → eqb x y ≡ b
    go true e = eq-eqb x y (sym (eqb-true y x e))
    go false e = ne_eqb x y (λ same. eqb-false y x e (sym same))

has_by_times : (x : ℕ) (b c : Bool) (xs ys : List ℕ) → has x xs ≡ b → has x ys ≡ c → times x xs ≡ times x ys → b ≡ c
has_by_times x true true xs ys p q e = refl
has_by_times x true false xs ys p q e = absurd (omega (arith, times_some xs x p, times_none ys x q))
has_by_times x false true xs ys p q e = absurd (omega (arith, times_none xs x p, times_some ys x q))
has_by_times x false false xs ys p q e = refl

pub has_same : (present ids : List ℕ) (x : ℕ) → Same present ids → has x present ≡ has x ids
has_same present ids x same = has_by_times x (has x present) (has x ids) present ids refl refl (same.often x)

-- ids with r in the place of e
abbrev pub swapped : ℕ → ℕ → List ℕ → List ℕ
swapped e r ids = map (λ y. cond (y == e) r y) ids

length-swapped : (e r : ℕ) (ids : List ℕ) → length (swapped e r ids) ≡ length ids
length-swapped e r [] = refl
length-swapped e r (y ∷ ids) = ap suc (length-swapped e r ids)

-- one that stands there once
times_swapped_step : (b c : Bool) (e r x y : ℕ) (ids : List ℕ) → eqb y e ≡ b → eqb x r ≡ c → times x (swapped e r ids) ≡ times x (without e ids) + cond c (times e ids) 0
    → one_if (eqb x (cond b r y)) + times x (swapped e r ids) ≡ times x (cond (not b) (y ∷ without e ids) (without e ids)) + cond c (one_if b + times e ids) 0
times_swapped_step true true e r x y ids p q ih = omega (arith, one_if_yes (eqb x r) q)
times_swapped_step true false e r x y ids p q ih = omega (arith, one_if_no (eqb x r) q)
times_swapped_step false true e r x y ids p q ih = omega arith
times_swapped_step false false e r x y ids p q ih = omega arith

times-swapped : (e r x : ℕ) (ids : List ℕ) → times x (swapped e r ids) ≡ times x (without e ids) + cond (eqb x r) (times e ids) 0
times-swapped e r x [] = none (eqb x r)
  where
    none : (b : Bool) → times x [] ≡ times x [] + cond b (times e []) 0
    none true = refl
    none false = refl
times-swapped e r x (y ∷ ids) =
    times_swapped_step (eqb y e) (eqb x r) e r x y ids refl refl (times-swapped e r x ids)
    ∙ ap (λ b. times x (cond (not b) (y ∷ without e ids) (without e ids)) + cond (eqb x r) (one_if b + times e ids) 0) (eqb_sym y e)

times_swapped_once : (e r x : ℕ) (ids : List ℕ) → times e ids ≡ 1 → times x (swapped e r ids) ≡ one_if (eqb x r) + times x (without e ids)
times_swapped_once e r x ids once = times-swapped e r x ids ∙ go (eqb x r)
  where
    go : (b : Bool) → times x (without e ids) + cond b (times e ids) 0 ≡ one_if b + times x (without e ids)
    go true = omega arith
    go false = omega arith

times_without_same : (e x : ℕ) (present ids : List ℕ) → times x present ≡ times x ids → times x (without e present) ≡ times x (without e ids)
times_without_same e x present ids same = go (eqb x e) refl
  where
    go : (b : Bool) → eqb x e ≡ b → times x (without e present) ≡ times x (without e ids)
    go true h =
        let p : times x (without e present) ≡ 0 = ap (λ z. times z (without e present)) (eqb-true x e h) ∙ times_without_self present e in
        let q : times x (without e ids) ≡ 0 = ap (λ z. times z (without e ids)) (eqb-true x e h) ∙ times_without_self ids e in
        p ∙ sym q
    go false h = times_without_other present e x h ∙ same ∙ sym (times_without_other ids e x h)

-- an eviction of e, and a load into its slot
pub same_swapped : (present ids : List ℕ) (e r : ℕ) → times e present ≡ 1 → Same present ids → Same (r ∷ without e present) (swapped e r ids)
same_swapped present ids e r once same = record {
  long = omega (arith, length-swapped e r ids, length_without present e, same.long);
  often = λ x. omega (arith, times_swapped_once e r x ids (sym (same.often e) ∙ once), times_without_same e x present ids (same.often x));
}

-- a load into a free slot
times-push : (ids : List ℕ) (r x : ℕ) → times x (ids ++ r ∷ []) ≡ one_if (eqb x r) + times x ids
times-push [] r x = refl
times-push (y ∷ ids) r x = omega (arith, times-push ids r x)

length-push : (ids : List ℕ) (r : ℕ) → length (ids ++ r ∷ []) ≡ suc (length ids)
length-push [] r = refl
length-push (y ∷ ids) r = ap suc (length-push ids r)

pub same_push : (present ids : List ℕ) (r : ℕ) → Same present ids → Same (r ∷ present) (ids ++ r ∷ [])
same_push present ids r same = record {
  long = omega (arith, length-push ids r, same.long);
  often = λ x. omega (arith, times-push ids r x, same.often x);
}
