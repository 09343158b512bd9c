use Rattle.std.proofs.Common.{refl, sym, ap}
use Rattle.std.specs.Prelude.{nat_eq}
use Rattle.std.specs.List.{list_any}
use Rattle.std.proofs.lemmas.List.Sorted.{IsNonDecreasingBy-from_sort, list_any-IsPermutation}
use Rattle.vault_types.specs.Names.{same_fp}
use Rattle.rewrite_stage.proofs.decider.Decider.new.Goals as goal

pub invariant_of-result : goal.invariant_of-result
invariant_of-result c = IsNonDecreasingBy-from_sort (λ x. x) c.sort_unstable.new.self.items c.sort_unstable.ensures.sorted

pub returns-clause-nothing : goal.returns-clause-nothing
returns-clause-nothing c = record {
  config = refl;
  sparse = λ n. sym (list_any-IsPermutation (nat_eq n) c.args.sparse.items c.sort_unstable.new.self.items c.sort_unstable.ensures.permutation);
  written = λ f. ap (list_any (same_fp f)) c.new.ensures.empty;
}
