use Rattle.std.proofs.Common.{◌≡◌, List, rules, subst, sym}
use Rattle.std.specs.BTreeSet.{IsFromIterResult}
use Rattle.vault_types.specs.declared.Name.{Name}
use Rattle.vault_ports.specs.Mem.{IsInOrder}
use Rattle.vault_ports.proofs.Derived.{derived, ordered_by_name}
use Rattle.vault_ports.proofs.mem_shelf.in_order.Goals as goal

pub returns : goal.returns
returns c =
    let keys : c.in_ok-collect.field-0.items ≡ c.in_ok-all.all.keys = search rules in
    let made : IsFromIterResult derived c.args.names.items c.in_ok-all.all = search rules in
    subst (λ (l : List Name). IsInOrder l c.args.names.items) (sym keys) (ordered_by_name c.args.names.items c.in_ok-all.all made)
