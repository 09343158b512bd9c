use Rattle.std.proofs.Common.{◌≡◌, ◌∙◌, List, ℕ, Some, ap, rules}
use Rattle.vault_types.specs.Shelf.{with_blob}
use Rattle.vault_ports.specs.Mem.{Shown}
use Rattle.vault_ports.proofs.Derived.{changed}
use Rattle.vault_ports.proofs.Overlaid.{put_is, told_written, told_may}
use Rattle.vault_ports.proofs.mem_shelf.MemShelfShelf.put.Goals as goal

pub returns-clause-ok : goal.returns-clause-ok
returns-clause-ok c =
    let same : c.in_ok-copy.copy.items ≡ c.args.bytes.now = search rules in
    told_written c.args.self.now.blobs _ c.args.name (Some c.args.bytes.now) (put_is c.self.inside.floors c.self.inside.tree.entries c.insert.new.self.entries c.args.self.now.blobs c.args.name c.in_ok-copy.copy c.self.invariant c.requires (ap (λ (s : Shown). s.blobs) c.self.view_is) (changed c.self.inside.tree.entries c.insert.new.self.entries c.args.name (Some c.in_ok-copy.copy) c.in_ok-insert.ensures.updates.0) ∙ ap (λ (l : List ℕ). with_blob c.args.self.now.blobs c.args.name (Some l)) same)

pub returns-clause-at_most : goal.returns-clause-at_most
returns-clause-at_most c =
    let same : c.in_ok-copy.copy.items ≡ c.args.bytes.now = search rules in
    told_may c.args.self.now.blobs _ c.args.name (Some c.args.bytes.now) (put_is c.self.inside.floors c.self.inside.tree.entries c.insert.new.self.entries c.args.self.now.blobs c.args.name c.in_ok-copy.copy c.self.invariant c.requires (ap (λ (s : Shown). s.blobs) c.self.view_is) (changed c.self.inside.tree.entries c.insert.new.self.entries c.args.name (Some c.in_ok-copy.copy) c.in_ok-insert.ensures.updates.0) ∙ ap (λ (l : List ℕ). with_blob c.args.self.now.blobs c.args.name (Some l)) same)
