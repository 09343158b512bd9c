use Rattle.std.proofs.Common.{None, ap, subst, sym}
use Rattle.vault_ports.specs.Mem.{Shown, HasOnlyFloors}
use Rattle.vault_ports.proofs.Derived.{changed}
use Rattle.vault_ports.proofs.Overlaid.{removed_is, only_floors_removed, told_written, told_may}
use Rattle.vault_ports.proofs.mem_shelf.MemShelfShelf.remove.Goals as goal

pub invariant_of-self : goal.invariant_of-self
invariant_of-self c = subst HasOnlyFloors (sym c.remove.ensures) (only_floors_removed c.self.inside.floors c.args.name c.self.invariant)

pub returns-clause-ok : goal.returns-clause-ok
returns-clause-ok c = told_written c.args.self.now.blobs _ c.args.name None (removed_is c.self.inside.floors c.remove.new.self c.self.inside.tree.entries c.remove-2.new.self.entries c.args.self.now.blobs c.args.name (ap (λ (s : Shown). s.blobs) c.self.view_is) c.remove.ensures (changed c.self.inside.tree.entries c.remove-2.new.self.entries c.args.name None c.remove-2.ensures.updates.0))

pub returns-clause-at_most : goal.returns-clause-at_most
returns-clause-at_most c = told_may c.args.self.now.blobs _ c.args.name None (removed_is c.self.inside.floors c.remove.new.self c.self.inside.tree.entries c.remove-2.new.self.entries c.args.self.now.blobs c.args.name (ap (λ (s : Shown). s.blobs) c.self.view_is) c.remove.ensures (changed c.self.inside.tree.entries c.remove-2.new.self.entries c.args.name None c.remove-2.ensures.updates.0))
