use Rattle.std.proofs.Common.{◌≡◌, ◌∙◌, ◌++◌, ◌∷◌, Some, ap, sym, rules, []}
use Rattle.vault_ports.specs.Mem.{blobs_of}
use Rattle.vault_ports.proofs.Derived.{changed}
use Rattle.vault_ports.proofs.Overlaid.{Entries, only_floors_none, of_tree, over_all, over_nothing, over_next}
use Rattle.vault_ports.proofs.mem_shelf.MemShelf.with.Goals as goal

pub invariant_of-result : goal.invariant_of-result
invariant_of-result c = only_floors_none c.new.result c.new.ensures

pub returns-clause-blobs : goal.returns-clause-blobs
returns-clause-blobs c =
    let empty : c.loop-name.rest.items ≡ [] = search rules in
    of_tree c.new.result c.loop-name.tree.entries c.args.blobs.items c.new.ensures (ap (λ (es : Entries). over_all es (blobs_of c.loop-name.tree.entries)) (sym empty) ∙ c.loop-name.invariant)

pub loop-name-init : goal.loop-name-init
loop-name-init c = ap (λ (es : Entries). over_all c.args.blobs.items (blobs_of es)) c.new-tree.ensures.empty ∙ over_nothing c.args.blobs.items

pub loop-name-preserved : goal.loop-name-preserved
loop-name-preserved c =
    let popped : c.loop-name.rest.items ≡ c.pop.new.self.items ++ (c.in-Some.name, c.in-Some.bytes) ∷ [] = search rules in
    over_next c.loop-name.rest.items c.pop.new.self.items c.loop-name.tree.entries c.insert.new.self.entries c.in-Some.name c.in-Some.bytes (blobs_of c.args.blobs.items) popped
    (changed c.loop-name.tree.entries c.insert.new.self.entries c.in-Some.name (Some c.in-Some.bytes) c.in_ok-insert.ensures.updates.0) c.loop-name.invariant

pub loop-name-preserved-in_ok-insert : goal.loop-name-preserved-in_ok-insert
loop-name-preserved-in_ok-insert c =
    let popped : c.loop-name.rest.items ≡ c.pop.new.self.items ++ (c.in-Some.name, c.in-Some.bytes) ∷ [] = search rules in
    over_next c.loop-name.rest.items c.pop.new.self.items c.loop-name.tree.entries c.insert.new.self.entries c.in-Some.name c.in-Some.bytes (blobs_of c.args.blobs.items) popped
    (changed c.loop-name.tree.entries c.insert.new.self.entries c.in-Some.name (Some c.in-Some.bytes) c.in_ok-insert.ensures.updates.0) c.loop-name.invariant
