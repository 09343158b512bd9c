use Rattle.std.proofs.Common.{◌≡◌, ◌∙◌, ◌++◌, ap, subst, sym, List, drop, take, rules}
use Rattle.std.specs.List.{All}
use Rattle.vault_types.specs.Shelf.{Blobs}
use Rattle.vault_traits.specs.Crash.{IsImage}
use Rattle.vault_ports.specs.declared.entries.Entry.{Entry}
use Rattle.vault_ports.specs.Record.{Record, Write, history_of, image_of, entry_write, replayed, IsWrite, AreSettled, carried_out, writes_of}
use Rattle.vault_ports.proofs.Chosen.{image_exact, is_image, rest_of}
use Rattle.vault_ports.proofs.crash_shelf.CrashShelf.image.Goals as goal

pub returns-clause-exact : goal.returns-clause-exact
returns-clause-exact c =
    let k = c.settled_len-settled.result in
    let first : c.replay.new.shelf.blobs ≡ replayed c.self.inside.start.blobs (take k c.self.inside.entries.items) = search rules in
    let writes : All IsWrite (drop k c.self.inside.entries.items) = subst (λ (l : List Entry). All IsWrite (drop k l)) c.deref.ensures.value c.settled_len-settled.ensures.writes in
    let ends : AreSettled (take k c.self.inside.entries.items) = subst (λ (l : List Entry). AreSettled (take k l)) c.deref.ensures.value c.settled_len-settled.ensures.settled in
    let chosen : (more : List Write) → carried_out c.replay.new.shelf.blobs (writes_of (drop k c.self.inside.entries.items) ++ more) c.args.taken ≡ carried_out c.choose.new.shelf.blobs more c.in-Ok-choose.rest =
    subst (λ (l : List Entry). (more : List Write) → carried_out c.replay.new.shelf.blobs (writes_of l ++ more) c.args.taken ≡ carried_out c.choose.new.shelf.blobs more c.in-Ok-choose.rest)
    (rest_of k c.deref-3.result.now ∙ ap (λ (l : List Entry). drop k l) c.deref-3.ensures.value) c.in-Ok-choose.ensures.blobs in
    subst (λ (r : Record). c.choose_last.new.shelf.blobs ≡ image_of (history_of r) c.args.taken) c.self.view_is
    (image_exact c.self.inside.start.blobs c.replay.new.shelf.blobs c.choose.new.shelf.blobs c.choose_last.new.shelf.blobs c.self.inside.entries.items k c.args.taken c.in-Ok-choose.rest (entry_write c.self.inside.last)
    first writes ends chosen c.in-Ok-choose_last.ensures.blobs)

pub returns-clause-image : goal.returns-clause-image
returns-clause-image c =
    subst (λ (b : Blobs). IsImage (history_of c.args.self) b) (sym (returns-clause-exact c)) (is_image c.args.self.base c.args.self.steps c.args.self.last c.args.taken)
