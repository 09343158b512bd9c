use Rattle.std.proofs.Common.{◌≡◌, ◌∙◌, ap}
use Rattle.vault_types.specs.Shelf.{Blobs}
use Rattle.vault_ports.specs.Mem.{Shown, overlaid, blobs_of}
use Rattle.vault_ports.proofs.Overlaid.{all_same, clone_blobs}
use Rattle.vault_ports.proofs.mem_shelf.MemShelf.copy.Goals as goal

pub returns-clause-blobs : goal.returns-clause-blobs
returns-clause-blobs c =
    let same : blobs_of c.in_ok-clone.field-0.entries ≡ blobs_of c.self.inside.tree.entries = clone_blobs _ _ (λ x y h. h) (λ v w h. all_same _ (λ x y e. e) v.items w.items h.0) c.self.inside.tree.entries c.in_ok-clone.field-0.entries c.in_ok-clone.ensures.cases in
    ap (λ (f : Blobs). overlaid f (blobs_of c.in_ok-clone.field-0.entries)) c.copy.ensures ∙ ap (overlaid c.self.inside.floors) same ∙ ap (λ (s : Shown). s.blobs) c.self.view_is
