use Rattle.std.proofs.Common.{◌∙◌, refl, ap, arith, vec_len}
use Rattle.std.specs.Prelude.{vec_capacity}
use Rattle.vault_ports.specs.declared.entries.Entry.TheVariants.{Settle}
use Rattle.vault_ports.specs.Record.{Record, entry_write}
use Rattle.vault_ports.proofs.Recorded.{fits, settle_read, reads_same, is_settled}
use Rattle.vault_ports.proofs.crash_shelf.CrashShelfShelf.settle.Goals as goal

pub keep_entry-requires : goal.keep_entry-requires
keep_entry-requires c = fits c.self.inside.start.blobs c.self.inside.entries.items c.args.self.now.steps (vec_len c.self.inside.entries) (vec_capacity c.self.inside.entries) (ap (λ (r : Record). r.steps) (c.self.view_is ∙ c.begin.ensures.calls)) (c.in-Goes.ensures.goes refl).1 c.self.invariant.2 (omega arith)

pub invariant_of-self : goal.invariant_of-self
invariant_of-self c = (
  settle_read c.self.inside.start.blobs c.self.inside.entries.items c.keep_entry.new.entries.items Settle c.keep_entry.ensures.items (λ m. refl) c.self.inside.current.blobs c.self.invariant.0,
  c.self.invariant.1,
  omega (arith, c.self.invariant.2, c.keep_entry.ensures.capacity),
  c.self.invariant.3,
)

pub returns-clause-ok : goal.returns-clause-ok
returns-clause-ok c = is_settled c.self.inside.start.blobs c.self.inside.entries.items c.keep_entry.new.entries.items Settle c.keep_entry.ensures.items (λ m. refl) (entry_write c.self.inside.last) c.args.self.now (ap (λ (r : Record). r.base) (c.self.view_is ∙ c.begin.ensures.calls)) (ap (λ (r : Record). r.steps) (c.self.view_is ∙ c.begin.ensures.calls)) (ap (λ (r : Record). r.last) (c.self.view_is ∙ c.begin.ensures.calls)) (c.in-Goes.ensures.goes refl).2

pub returns-clause-blobs : goal.returns-clause-blobs
returns-clause-blobs c = reads_same c.self.inside.start.blobs c.self.inside.entries.items c.keep_entry.new.entries.items Settle c.keep_entry.ensures.items (λ m. refl) c.args.self.now (ap (λ (r : Record). r.base) (c.self.view_is ∙ c.begin.ensures.calls)) (ap (λ (r : Record). r.steps) (c.self.view_is ∙ c.begin.ensures.calls))
