use Rattle.std.proofs.Common.{◌∙◌, ap, Some, None, List, ℕ}
use Rattle.vault_ports.specs.Mem.{Shown, blobs_of}
use Rattle.vault_ports.proofs.Derived.{found_is}
use Rattle.vault_ports.proofs.Overlaid.{over_found, under_found}
use Rattle.vault_ports.proofs.mem_shelf.MemShelf.blob.Goals as goal

pub returns-in-Some : goal.returns-in-Some
returns-in-Some c = over_found c.self.inside.floors (blobs_of c.self.inside.tree.entries) c.args.self.now.blobs c.args.name c.in-Some.bytes.now (ap (λ (s : Shown). s.blobs) c.self.view_is) c.in-Some.ensures

pub returns-in-Some-get : goal.returns-in-Some-get
returns-in-Some-get c = ap (λ (l : List ℕ). Some l) c.as_slice.ensures.value ∙ under_found c.self.inside.floors c.self.inside.tree.entries c.args.self.now.blobs c.args.name (Some c.in-Some-get.bytes.now) (ap (λ (s : Shown). s.blobs) c.self.view_is) c.in_default.ensures (c.in-Some-get.ensures.value ∙ found_is c.self.inside.tree.entries c.args.name)

pub returns-in-None : goal.returns-in-None
returns-in-None c = under_found c.self.inside.floors c.self.inside.tree.entries c.args.self.now.blobs c.args.name None (ap (λ (s : Shown). s.blobs) c.self.view_is) c.in_default.ensures (c.in-None.ensures.value ∙ found_is c.self.inside.tree.entries c.args.name)
