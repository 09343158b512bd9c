use Rattle.std.proofs.Common.{◌∙◌, None, refl, ap, arith, vec_len}
use Rattle.std.specs.Prelude.{vec_capacity}
use Rattle.vault_traits.proofs.Moments.{may_of}
use Rattle.vault_ports.specs.declared.entries.Entry.TheVariants.{Remove}
use Rattle.vault_ports.specs.Record.{Record, entry_write}
use Rattle.vault_ports.proofs.Recorded.{fits, still_read, is_recorded}
use Rattle.vault_ports.proofs.crash_shelf.CrashShelfShelf.remove.Goals as goal

pub keep_entry-requires : goal.keep_entry-requires
keep_entry-requires c = fits c.self.inside.start.blobs c.self.inside.entries.items c.args.self.now.steps (vec_len c.self.inside.entries) (vec_capacity c.self.inside.entries) (ap (λ (r : Record). r.steps) (c.self.view_is ∙ c.begin.ensures.calls)) (c.in-Goes.ensures.goes refl).1 c.self.invariant.2 (omega arith)

pub invariant_of-self-2 : goal.invariant_of-self-2
invariant_of-self-2 c = (
  still_read c.self.inside.start.blobs c.self.inside.entries.items c.keep_entry.new.entries.items (Remove c.args.name) c.keep_entry.ensures.items c.args.name None (λ m. refl) c.self.inside.current.blobs c.remove.new.self.blobs c.self.invariant.0 c.in_ok-remove.ensures.ok.blobs,
  c.self.invariant.1,
  omega (arith, c.self.invariant.2, c.keep_entry.ensures.capacity),
  c.self.invariant.3,
)

pub returns-clause-ok : goal.returns-clause-ok
returns-clause-ok c = is_recorded c.self.inside.start.blobs c.self.inside.entries.items c.keep_entry.new.entries.items (Remove c.args.name) c.keep_entry.ensures.items c.args.name None (λ m. refl) (entry_write c.self.inside.last) c.args.self.now (ap (λ (r : Record). r.base) (c.self.view_is ∙ c.begin.ensures.calls)) (ap (λ (r : Record). r.steps) (c.self.view_is ∙ c.begin.ensures.calls)) (ap (λ (r : Record). r.last) (c.self.view_is ∙ c.begin.ensures.calls)) (c.in-Goes.ensures.goes refl).2

pub returns-clause-at_most : goal.returns-clause-at_most
returns-clause-at_most c = may_of (is_recorded c.self.inside.start.blobs c.self.inside.entries.items c.keep_entry.new.entries.items (Remove c.args.name) c.keep_entry.ensures.items c.args.name None (λ m. refl) (entry_write c.self.inside.last) c.args.self.now (ap (λ (r : Record). r.base) (c.self.view_is ∙ c.begin.ensures.calls)) (ap (λ (r : Record). r.steps) (c.self.view_is ∙ c.begin.ensures.calls)) (ap (λ (r : Record). r.last) (c.self.view_is ∙ c.begin.ensures.calls)) (c.in-Goes.ensures.goes refl).2)
