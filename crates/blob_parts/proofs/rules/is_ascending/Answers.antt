use Rattle.std.proofs.Common.{◌≡◌, ◌-◌, ◌+◌, ℕ, suc, subst, sym, arith, drop}
use Rattle.vault_types.specs.Lists.{IsAscending}
use Rattle.blob_parts.proofs.RuleLemmas.{ascending_next, ascending_before, ascending_end}
use Rattle.blob_parts.proofs.rules.is_ascending.Goals as goal

pub loop-i-preserved : goal.loop-i-preserved
loop-i-preserved c =
    let ns = c.args.ids.now in
    let i = c.loop-i.i in
    let e : suc (i - 1) ≡ i = omega arith in
    let k : i ≡ i + 1 - 1 = omega arith in
    record {
      past = omega arith;
      forth = λ is. subst (λ (j : ℕ). IsAscending (drop j ns)) k (ascending_next ns (i - 1) i e (omega arith) (c.loop-i.invariant.forth is));
      back = λ is. c.loop-i.invariant.back (ascending_before ns (i - 1) i e c.loop-i-test.true (omega arith) (subst (λ (j : ℕ). IsAscending (drop j ns)) (sym k) is));
    }

pub returns-clause-yes : goal.returns-clause-yes
returns-clause-yes c done = c.loop-i.invariant.back (ascending_end c.args.ids.now (c.loop-i.i - 1) (omega arith))
