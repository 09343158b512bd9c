use Rattle.std.proofs.Common.{sym, ◌∙◌, None}
use Rattle.fp_index.proofs.Entries.{ids-same}
use Rattle.fp_index.proofs.lists.take_id.Goals as goal

pub returns-then-empties : goal.returns-then-empties
returns-then-empties c = λ f. ids-same c.empties.new.containers.entries c.remove.new.self.entries c.args.fp.now None c.remove.ensures.updates.0 (sym (c.empties.ensures.emptied c.if-empties.true)) f ∙ c.empties.ensures.ids f
