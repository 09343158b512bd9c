use Rattle.std.proofs.Common.{ℕ, Option, Some, sym, subst, ap, ◌∙◌, arith}
use Rattle.std.specs.Prelude.{option_map}
use Rattle.std.specs.Option.{option_copied}
use Rattle.vault_types.specs.declared.Table.{Table}
use Rattle.vault_types.specs.Tables.{Container, payload_len}
use Rattle.keeper_catalog.specs.View.{View, Keeps}
use Rattle.commit_laws.proofs.Listing.{some_same, none_some}
use Rattle.keeper_core.proofs.Naming.{none_named, one_named}
use Rattle.keeper_core.proofs.keeper.Keeper.payload_len.Goals as goal

pub returns-then-not-named : goal.returns-then-not-named
returns-then-not-named g c K keeps =
    let k = subst (λ (v : View). Keeps v K) (sym c.self.view_is) keeps in
    sym (ap (λ (o : Option Container). option_map (λ (d : Container). payload_len d.table.rows) o) (none_named _ K k c.args.id c.named.result c.named.ensures c.if-not-named.true))

pub payload_len-requires : goal.payload_len-requires
payload_len-requires g c =
    let k = c.self.invariant.0 in
    let one = one_named _ k.0 k.1 c.args.id c.named.result c.named.ensures c.if-not-named.false in
    let same = some_same c.in-Some.table.now one.0.table (ap option_copied (sym c.in-Some.is) ∙ c.get.ensures.value ∙ one.2) in
    omega (arith, one.3.total, ap (λ (t : Table). payload_len t.rows) same, ap payload_len c.as_slice.ensures)

pub unreachable-requires : goal.unreachable-requires
unreachable-requires g c =
    let k = c.self.invariant.0 in
    let one = one_named _ k.0 k.1 c.args.id c.named.result c.named.ensures c.if-not-named.false in
    none_some one.0.table (ap option_copied (sym c.in-None.is) ∙ c.get.ensures.value ∙ one.2)

pub returns : goal.returns
returns g c K keeps =
    let k = subst (λ (v : View). Keeps v K) (sym c.self.view_is) keeps in
    let one = one_named _ K k c.args.id c.named.result c.named.ensures c.if-not-named.false in
    let same = some_same c.in-Some.table.now one.0.table (ap option_copied (sym c.in-Some.is) ∙ c.get.ensures.value ∙ one.2) in
    ap (λ (n : ℕ). Some n) (c.payload_len.ensures ∙ ap payload_len c.as_slice.ensures ∙ ap (λ (t : Table). payload_len t.rows) same)
    ∙ sym (ap (λ (o : Option Container). option_map (λ (d : Container). payload_len d.table.rows) o) one.1)
