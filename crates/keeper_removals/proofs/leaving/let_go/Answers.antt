use Rattle.std.proofs.Common.{◌≡◌, ◌++◌, ◌∷◌, [], cond, ℕ, None, arith}
use Rattle.std.specs.Prelude.{nat_eq}
use Rattle.std.proofs.lemmas.Grind.{common_steps}
use Rattle.std.proofs.lemmas.Bool.Decides.{nat_tests}
use Rattle.vault_types.specs.Shelf.{table_name, payload_name}
use Rattle.keeper_catalog.specs.Catalog.{table_at}
use Rattle.keeper_removals.proofs.Gone.{leaves_one}
use Rattle.keeper_removals.proofs.leaving.let_go.Goals as goal

pub returns-clause-left : goal.returns-clause-left
returns-clause-left c =
    let tables : (k : ℕ) → table_at c.remove.new.self.entries k ≡ cond (nat_eq k c.args.id) None (table_at c.args.tables.now.entries k) = λ k. grind (arith, common_steps, nat_tests) in
    let strays : c.push-2.new.self.items ≡ (c.args.strays.now.items ++ payload_name c.args.id ∷ []) ++ table_name c.args.id ∷ [] = grind (arith, common_steps) in
    leaves_one _ _ _ _ _ tables strays
