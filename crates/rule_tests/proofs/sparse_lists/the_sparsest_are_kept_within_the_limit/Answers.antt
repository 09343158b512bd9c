use Rattle.std.proofs.Common.{refl}
use Rattle.std.specs.List.{IsDistinct}
use Rattle.rule_tests.proofs.sparse_lists.the_sparsest_are_kept_within_the_limit.Goals as goal

pub list_of-requires-clause-named : goal.list_of-requires-clause-named
unfolding IsDistinct
list_of-requires-clause-named g c = record { once = ((refl, (refl, tt)), ((refl, tt), (tt, tt))); same = λ n. refl }
