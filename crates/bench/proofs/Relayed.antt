-- What a stage passes on, and what comes out of a row of two.
use Rattle.std.proofs.Common.{◌≡◌, ℕ, Bool, true, false, not, true≢false, List, [], ◌∷◌, ◌++◌, Option, Some, None, refl, sym, ap, ◌∙◌, append_assoc}
use Rattle.std.specs.Prelude.{is_some}
use Rattle.vault_types.specs.Stages.{IsFront}
use Rattle.bench.specs.Relay.{has_end}

pub has_end-snoc : (xs : List (Option ℕ)) (x : Option ℕ) (is_end : Bool) → has_end xs ≡ false → is_some x ≡ not is_end → is_end ≡ has_end (xs ++ x ∷ [])
has_end-snoc [] None true e t = refl
has_end-snoc [] None false e t = absurd (true≢false (sym t))
has_end-snoc [] (Some n) true e t = absurd (true≢false t)
has_end-snoc [] (Some n) false e t = refl
has_end-snoc (None ∷ xs) x b e t = absurd (true≢false e)
has_end-snoc (Some n ∷ xs) x b e t = has_end-snoc xs x b e t

module _ {T : Type 0} where
  pub IsFront-then : (xs ys zs : List T) → IsFront xs ys → IsFront ys zs → IsFront xs zs
  IsFront-then xs ys zs f g = (f.0 ++ g.0, sym (append_assoc xs f.0 g.0) ∙ ap (λ l. l ++ g.0) f.1 ∙ g.1)
