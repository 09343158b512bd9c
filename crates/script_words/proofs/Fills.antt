-- Lines made for one version after the other.
use Rattle.std.proofs.Common.{◌≡◌, ◌+◌, ℕ, List, [], ◌∷◌, ◌++◌, map, ap, sym, ◌∙◌, append_assoc, arith}
use Rattle.std.specs.List.{range_with_len}
use Rattle.std.proofs.lemmas.List.FromFn.{map-range_with_len_more}
use Rattle.vault_types.specs.declared.Line.{Line}

pub made_more : (f : ℕ → Line) (before now new : List Line) (line : Line) (n : ℕ) → now ≡ before ++ map f (range_with_len 1 n) → line ≡ f (n + 1)
    → new ≡ now ++ line ∷ [] → new ≡ before ++ map f (range_with_len 1 (n + 1))
made_more f before now new line n h e p =
    let last : 1 + n ≡ n + 1 = omega arith in
    p ∙ ap (λ (ls : List Line). ls ++ line ∷ []) h ∙ append_assoc before (map f (range_with_len 1 n)) (line ∷ [])
    ∙ ap (λ (l : Line). before ++ (map f (range_with_len 1 n) ++ l ∷ [])) e
    ∙ ap (λ (ls : List Line). before ++ ls) (sym (map-range_with_len_more f 1 n (n + 1) last))
