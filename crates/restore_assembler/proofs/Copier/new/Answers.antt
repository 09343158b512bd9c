use Rattle.std.proofs.Common.{sym, ap, ◌∙◌, is_some, ◌≡◌}
use Rattle.restore_assembler.specs.Ends.{end_of}
use Rattle.restore_assembler.proofs.Copied.{new_going, new_ready}
use Rattle.restore_assembler.proofs.Copier.new.Goals as goal
use Rattle.restore_assembler.proofs.Copier.new.Goals.{in-Some, in-None}

pub invariant_of-result : goal.invariant_of-result
invariant_of-result c =
    let steps = c.into_vec.ensures in
    let room = c.in_ok-present.ensures.capacity in
    let kept : is_some c.match-whole.sum ≡ is_some c.args.whole = elim c.match-whole.branch [
      | in-Some w ↦ ap is_some w.sum-is ∙ sym (ap is_some w.in-Some.is)
      | in-None w ↦ ap is_some w.sum-is ∙ sym (ap is_some w.in-None.is)
    ] in (
      new_going c.args.spots c.into_vec.result c.args.slots c.in_ok-present.present c.args.whole c.match-whole.sum c.args.plan.steps c.requires steps c.in_ok-present.ensures.items room,
      λ l. new_ready c.args.slots c.into_vec.result.items c.args.plan.steps c.args.spots.items steps c.requires l,
      λ _. kept,
      λ id. c.in_ok-ends.ensures id ∙ ap (end_of id) c.as_slice.ensures.value,
    )
