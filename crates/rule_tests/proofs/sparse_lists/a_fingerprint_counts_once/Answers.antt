use Rattle.std.proofs.Common.{refl}
use Rattle.std.specs.List.{IsDistinct}
use Rattle.rule_tests.proofs.sparse_lists.a_fingerprint_counts_once.Goals as goal

pub list_of-requires-clause-named : goal.list_of-requires-clause-named
unfolding IsDistinct
list_of-requires-clause-named g c = record { once = (tt, tt); same = λ n. refl }

pub list_of-requires-2-clause-named : goal.list_of-requires-2-clause-named
unfolding IsDistinct
list_of-requires-2-clause-named g c = record { once = (tt, tt); same = λ n. refl }
