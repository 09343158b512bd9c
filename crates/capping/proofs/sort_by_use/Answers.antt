use Rattle.std.proofs.Common.{ℕ, get_or, ◌+◌, sym, ◌∙◌, rules}
use Rattle.std.specs.declared.cmp.Reverse.{Reverse}
use Rattle.std.proofs.lemmas.List.Sorted.{answers_always}
use Rattle.capping.proofs.Ranking.{used-more}
use Rattle.capping.proofs.sort_by_use.Goals as goal

abbrev key : ℕ × ℕ → Reverse ℕ × ℕ
key p = (record { 0 = p.1 }, p.0)

pub returns-clause-sorted : goal.returns-clause-sorted
returns-clause-sorted c = λ k d low high.
    let p : ℕ × ℕ = get_or c.sort_unstable_by_key.new.self.items (k + 1) d in
    let q : ℕ × ℕ = get_or c.sort_unstable_by_key.new.self.items k d in
    sym (used-more p.1 p.0 q.1 q.0) ∙ c.sort_unstable_by_key.ensures.sorted key (answers_always _ _ _ (λ f a r g h. search rules)) k d low high
