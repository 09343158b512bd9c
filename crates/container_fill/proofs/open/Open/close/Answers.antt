use Rattle.std.proofs.Common.{◌≤◌, ℕ, List, length, sym, subst}
use Rattle.container_fill.proofs.OpenLemmas.{seen_as}
use Rattle.container_fill.proofs.open.Open.close.Goals as goal

pub returns-clause-some : goal.returns-clause-some
returns-clause-some c =
    let P : List (List ℕ) → Type 0 = λ cs. 1 ≤ length cs in
    subst P c.self.view_is (subst P (sym (seen_as c.self.inside.rows.items c.self.inside.payload.items c.self.invariant)) c.self.invariant.some)
