use Rattle.std.proofs.Common.{Some, ap, subst, sym}
use Rattle.vault_types.specs.Shelf.{floor_name}
use Rattle.vault_ports.specs.Mem.{Shown, HasOnlyFloors}
use Rattle.vault_ports.proofs.Overlaid.{floor_is, only_floors_put, told_written, told_may}
use Rattle.vault_ports.proofs.mem_shelf.MemShelfShelf.put_floor.Goals as goal

pub invariant_of-self : goal.invariant_of-self
invariant_of-self c = subst HasOnlyFloors (sym c.put.ensures) (only_floors_put c.self.inside.floors c.args.set c.args.bytes.now c.self.invariant)

pub returns-clause-ok : goal.returns-clause-ok
returns-clause-ok c = told_written c.args.self.now.blobs _ (floor_name c.args.set) (Some c.args.bytes.now) (floor_is c.self.inside.floors c.put.new.self c.self.inside.tree.entries c.args.self.now.blobs (floor_name c.args.set) c.args.bytes.now (ap (λ (s : Shown). s.blobs) c.self.view_is) c.put.ensures)

pub returns-clause-at_most : goal.returns-clause-at_most
returns-clause-at_most c = told_may c.args.self.now.blobs _ (floor_name c.args.set) (Some c.args.bytes.now) (floor_is c.self.inside.floors c.put.new.self c.self.inside.tree.entries c.args.self.now.blobs (floor_name c.args.set) c.args.bytes.now (ap (λ (s : Shown). s.blobs) c.self.view_is) c.put.ensures)
