use Rattle.std.proofs.Common.{◌≡◌, ◌∙◌, ap, rules, subst, List}
use Rattle.std.proofs.lemmas.Result.{IfOk-weaker}
use Rattle.std.specs.Ordering.{eq_by_cmp}
use Rattle.std.specs.Map.{keys_of}
use Rattle.std.specs.Set.{is_member}
use Rattle.vault_types.specs.declared.Name.{Name}
use Rattle.vault_ports.specs.Mem.{Shown}
use Rattle.vault_ports.proofs.Derived.{derived}
use Rattle.vault_ports.proofs.Listing.{AreKeys, ArePushed, listing}
use Rattle.vault_ports.proofs.mem_shelf.MemShelf.names.Goals as goal

pub returns : goal.returns
returns c =
    let same : c.in_ok-names.names.items ≡ keys_of c.self.inside.tree.entries = search rules in
    let are : AreKeys derived c.self.inside.tree.entries (keys_of c.self.inside.tree.entries) = λ q. c.keys.ensures.has q ∙ ap (λ (ks : List Name). is_member (eq_by_cmp derived) ks q) c.keys.ensures.rest in
    let pushed : ArePushed c.self.inside.floors (keys_of c.self.inside.tree.entries) c.push_names.new.names.items = subst (λ (ks : List Name). ArePushed c.self.inside.floors ks c.push_names.new.names.items) same c.in_ok-push_names.ensures in
    IfOk-weaker c.in_order.result _ _ (λ ordered in_order. listing c.self.inside.floors c.self.inside.tree.entries (keys_of c.self.inside.tree.entries) c.push_names.new.names.items ordered.items c.args.self.now.blobs are pushed (ap (λ (s : Shown). s.blobs) c.self.view_is) in_order) c.in_order.ensures
