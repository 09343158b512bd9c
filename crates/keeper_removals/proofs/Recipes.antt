-- The names of recipes below a floor, from the last one on.
use Rattle.std.proofs.Common.{◌≡◌, ◌⊎◌, inl, inr, ⊎_elim, ℕ, ◌<◌, ◌≤◌, ◌-◌, Bool, true, false, List, [], ◌∷◌, ◌++◌, refl, sym, ◌∙◌, ap, subst, arith, append_assoc}
use Rattle.std.specs.Prelude.{Contains, nat_eq}
use Rattle.std.proofs.lemmas.Bool.Decides.{nat_tests}
use Rattle.std.proofs.lemmas.List.{append-nil}
use Rattle.std.proofs.lemmas.List.Elements.{Contains-append_left, Contains-append_right, Contains-append_cases}
use Rattle.vault_types.specs.declared.Name.{Name}
use Rattle.vault_types.specs.Shelf.{recipe_name}
use Rattle.state_laws.proofs.Members.{here, no_member, first_or_rest}
use Rattle.keeper_removals.specs.Removals.{LeavesRecipes}

pub recipes_none : (s v : ℕ) (strays : List Name) → LeavesRecipes s v v strays strays
recipes_none s v strays = record { added = []; strays_are = sym (append-nil strays); only = λ q there. absurd (no_member q there); gone = λ w low high. absurd (omega arith) }

same_or_above : (v w : ℕ) → v - 1 ≤ w → (w ≡ v - 1) ⊎ (v ≤ w)
same_or_above v w low = step (nat_eq w (v - 1)) refl
  where
    step : (b : Bool) → nat_eq w (v - 1) ≡ b → (w ≡ v - 1) ⊎ (v ≤ w)
    step true e = inl (let h : w ≡ v - 1 = grind (arith, nat_tests) in h)
    step false e = inr (let h : v ≤ w = grind (arith, nat_tests) in h)

pub recipes_more : (s v to : ℕ) (strays after more : List Name) → 0 < v → v ≤ to → LeavesRecipes s v to strays after → more ≡ after ++ recipe_name s (v - 1) ∷ [] → LeavesRecipes s (v - 1) to strays more
recipes_more s v to strays after more some high a is = record {
  added = a.added ++ recipe_name s (v - 1) ∷ [];
  strays_are = is ∙ ap (λ (l : List Name). l ++ recipe_name s (v - 1) ∷ []) a.strays_are ∙ append_assoc strays a.added (recipe_name s (v - 1) ∷ []);
  only = λ q there. ⊎_elim
      (λ old. let w = a.only q old in (w.0, omega (arith, w.1), w.2, w.3))
      (λ new. (v - 1, omega arith, omega arith, sym (⊎_elim (λ same. same) (λ none. absurd (no_member q none)) (first_or_rest (recipe_name s (v - 1)) [] q new))))
      (Contains-append_cases a.added (recipe_name s (v - 1) ∷ []) q there);
  gone = λ w low below. ⊎_elim
      (λ same. subst (λ (x : ℕ). Contains (a.added ++ recipe_name s (v - 1) ∷ []) (recipe_name s x)) (sym same) (Contains-append_right a.added (recipe_name s (v - 1) ∷ []) (recipe_name s (v - 1)) (here (recipe_name s (v - 1)) [])))
      (λ above. Contains-append_left a.added (recipe_name s (v - 1) ∷ []) (recipe_name s w) (a.gone w above below))
      (same_or_above v w low);
}
