-- The holders of one call, of which the last is taken.
use Rattle.std.proofs.Common.{◌≡◌, zero, suc, ◌+◌, Bool, true, false, ◌||◌, List, [], ◌∷◌, ◌++◌, length, All, sym, refl, ap, ◌∙◌, subst, arith, length-append}
use Rattle.std.specs.List.{list_any}
use Rattle.std.proofs.lemmas.List.Folds.{list_any-append}
use Rattle.stop_word.specs.Holders.{HolderState, AreAllHolders}

module _ {X : Type 0} (P : X → Type 0) where
  cons : (y : X) (ys : List X) → P y → All P ys → All P (y ∷ ys)
  cons y ys p all zero d h = p
  cons y ys p all (suc k) d h = all k d (omega arith)

  pub init : (ys : List X) (x : X) → All P (ys ++ x ∷ []) → All P ys × P x
  init [] x all = ((λ k d h. absurd (omega arith)), all 0 x (omega arith))
  init (y ∷ ys) x all = let r = init ys x (λ k d h. all (suc k) d (omega arith)) in (cons y ys (all 0 y (omega arith)) r.0, r.1)

-- where all are of one family, and as many as it has, so are those before the last
pub before_last : (xs ys : List HolderState) (x : HolderState) → AreAllHolders xs → xs ≡ ys ++ x ∷ [] → (1 + length ys ≡ x.family.count) × All (λ h. h.family ≡ x.family) ys
before_last [] ys x w e = absurd w
before_last (h ∷ hs) ys x w e = let r = init (λ k. k.family ≡ h.family) ys x (subst (λ (l : List HolderState). All (λ k. k.family ≡ h.family) l) e w.1) in
    let long : length (h ∷ hs) ≡ length ys + 1 = ap length e ∙ length-append ys (x ∷ []) in (
      omega (arith, long, w.0, ap (λ f. f.count) r.1),
      (λ k d b. r.0 k d b ∙ sym r.1),
    )

or_swap : (a b : Bool) → (a || b) ≡ (b || a)
or_swap true true = refl
or_swap true false = refl
or_swap false true = refl
or_swap false false = refl

or_three : (a b c : Bool) → ((a || b) || c) ≡ (a || (c || b))
or_three true b c = refl
or_three false b c = or_swap b c

-- the last is counted first
pub any_last : (p : HolderState → Bool) (xs ys : List HolderState) (x : HolderState) (a : Bool) → xs ≡ ys ++ x ∷ [] → ((a || p x) || list_any p ys) ≡ (a || list_any p xs)
any_last p xs ys x a e = or_three a (p x) (list_any p ys) ∙ ap (λ b. a || b) (sym (ap (list_any p) e ∙ list_any-append p ys (x ∷ []) ∙ ap (λ b. list_any p ys || b) (one (p x)))) where
  one : (b : Bool) → (b || false) ≡ b
  one true = refl
  one false = refl
