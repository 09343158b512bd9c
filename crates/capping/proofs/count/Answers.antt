use Rattle.std.proofs.Common.{◌≡◌, ℕ, ◌≤◌, List, ◌∷◌, [], ◌++◌, take, length, sym, subst, arith, length-take-le}
use Rattle.capping.specs.Counts.{HasCounted}
use Rattle.capping.proofs.Counting.{ids_in, ids_more-some, ids_more-none, few_ids}
use Rattle.capping.proofs.count.Goals as goal
use Rattle.capping.proofs.count.Goals.{in-Some+in_ok-count_one, in_default}

pub loop-old-preserved : goal.loop-old-preserved
loop-old-preserved c = elim c.match-old.branch [
  | in-Some+in_ok-count_one w ↦
      let before : List ℕ = ids_in (take c.loop-old.old-index c.args.segment.now) in
      let few : length before ≤ length (take c.loop-old.old-index c.args.segment.now) = few_ids _ in
      let short : length (take c.loop-old.old-index c.args.segment.now) ≡ c.loop-old.old-index = length-take-le c.loop-old.old-index c.args.segment.now (omega arith) in
      let news : HasCounted w.count_one.new.times.entries (before ++ w.in-Some.id ∷ []) = w.in_ok-count_one.ensures before c.loop-old.invariant (omega arith) in
      subst (λ ids. HasCounted c.match-old.times.entries ids) (sym (ids_more-some c.args.segment.now c.loop-old.old-index w.in-Some.id c.loop-old-test.true w.in-Some.is))
      (subst (λ m. HasCounted m.entries (before ++ w.in-Some.id ∷ [])) (sym w.times-is) news)
  | in_default w ↦
      subst (λ ids. HasCounted c.match-old.times.entries ids) (sym (ids_more-none c.args.segment.now c.loop-old.old-index c.loop-old-test.true w.in_default.is))
      (subst (λ m. HasCounted m.entries (ids_in (take c.loop-old.old-index c.args.segment.now))) (sym w.times-is) c.loop-old.invariant)
]
