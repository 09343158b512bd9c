-- A chain of lines that goes on from line to line.
use Rattle.std.proofs.Common.{◌≡◌, ◌<◌, ◌+◌, ℕ, suc, List, [], ◌∷◌, ◌++◌, length, drop, get_or, refl, sym, ◌∙◌, ap, subst, append_assoc, add-one}
use Rattle.std.proofs.Math.Seq.{drop-cons, drop-length}
use Rattle.std.proofs.lemmas.List.{append-nil}
use Rattle.vault_types.specs.declared.Answer.{Answer}
use Rattle.vault_types.specs.declared.Line.{Line}
use Rattle.store_model.specs.Steps.{Chain}

-- whatever goes on from now over the lines that are left, goes on from the start over all of them
pub record Chained {M : Type 0} (Step : M → Line → Answer → M → Type 0) (start : M) (lines : List Line) (i : ℕ) (answers : List Answer) (now : M) : Type 0 where
  pub rest : (more : List Answer) (end : M) → Chain Step now (drop i lines) more end → Chain Step start lines (answers ++ more) end

module _ {M : Type 0} (Step : M → Line → Answer → M → Type 0) (start : M) (lines : List Line) where
  pub chain_begins : Chained Step start lines 0 [] start
  chain_begins = record { rest = λ more end chain. chain }

  pub chain_goes_on : (i : ℕ) (answers : List Answer) (now mid : M) (line : Line) (answer : Answer) → i < length lines → line ≡ get_or lines i line
      → Chained Step start lines i answers now → Step now line answer mid → Chained Step start lines (i + 1) (answers ++ answer ∷ []) mid
  chain_goes_on i answers now mid line answer within is chained step = record {
    rest = λ more end chain.
        let front : drop i lines ≡ line ∷ drop (i + 1) lines = drop-cons lines i line within ∙ ap (λ (x : Line). x ∷ drop (suc i) lines) (sym is) ∙ ap (λ (k : ℕ). line ∷ drop k lines) (sym (add-one i)) in
        subst (λ (xs : List Answer). Chain Step start lines xs end) (sym (append_assoc answers (answer ∷ []) more))
        (chained.rest (answer ∷ more) end (subst (λ (ls : List Line). Chain Step now ls (answer ∷ more) end) (sym front) (mid, step, chain)));
  }

  pub chain_ends : (i : ℕ) (answers : List Answer) (now : M) → i ≡ length lines → Chained Step start lines i answers now → Chain Step start lines answers now
  chain_ends i answers now is chained =
      let none : drop i lines ≡ [] = ap (λ (k : ℕ). drop k lines) is ∙ drop-length lines in
      subst (λ (xs : List Answer). Chain Step start lines xs now) (append-nil answers)
      (chained.rest [] now (subst (λ (ls : List Line). Chain Step now ls [] now) (sym none) refl))
