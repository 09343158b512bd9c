use Rattle.std.proofs.Common.{List, ℕ, sym, subst}
use Rattle.vault_types.specs.Names.{IsFp}
use Rattle.vault_types.proofs.SumLemmas.{fp-is_fp}
use Rattle.keeper_driver.proofs.sum.Goals as goal

pub returns-clause-rules : goal.returns-clause-rules
returns-clause-rules c = subst (λ (x : List ℕ). IsFp (record { 0 = x })) (sym c.digest.ensures) (fp-is_fp c.args.bytes.now)
