use Rattle.std.proofs.Common.{◌≡◌, map}
use Rattle.sampled_index.specs.Tables.{first_holding}
use Rattle.sampled_index.proofs.tables.holder.Given as goal

abbrev pub invariant-loop-id : goal.invariant-loop-id
invariant-loop-id l = record {
  can_next : (goal.iterator-loop-id).can_next l.id-iterator;
  finite : (goal.iterator-loop-id).is_finite l.id-iterator;
  left : first_holding l.fn.fp (map (λ e. (e.0, e.1.keys)) l.fn.tables.entries) ≡ first_holding l.fn.fp (map (λ e. (e.0, e.1.keys)) l.id-iterator);
}
