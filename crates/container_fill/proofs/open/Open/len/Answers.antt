use Rattle.std.proofs.Common.{◌≡◌, ◌≤◌, ℕ, List, length, rules, ◌∙◌, ap, sym, subst}
use Rattle.container_fill.specs.Opened.{bytes_in}
use Rattle.container_fill.proofs.OpenLemmas.{payload-len, seen_as}
use Rattle.container_fill.proofs.open.Open.len.Goals as goal

pub returns-clause-is : goal.returns-clause-is
returns-clause-is c =
    let inside : length c.self.inside.payload.items ≡ bytes_in c.args.self.now =
    payload-len c.self.inside.rows.items c.self.inside.payload.items c.self.invariant ∙ ap bytes_in c.self.view_is in
    let whole : c.len.result ≡ length c.self.inside.payload.items = search rules in
    whole ∙ inside

pub returns-clause-most : goal.returns-clause-most
returns-clause-most c =
    let P : List (List ℕ) → Type 0 = λ cs. bytes_in cs ≤ 4194304 in
    subst P c.self.view_is (subst P (sym (seen_as c.self.inside.rows.items c.self.inside.payload.items c.self.invariant)) c.self.invariant.total)
