use Rattle.std.proofs.Common.{◌≡◌, ◌≤◌, ◌+◌, refl, [], ◌++◌, length, sym, ap, ◌∙◌, subst, append-nil, Option, Some, arith, length-append}
use Rattle.vault_types.specs.declared.Fault.TheVariants as fault
use Rattle.stage_flows.specs.declared.Last.{Last}
use Rattle.stage_flows.specs.declared.Last.TheVariants as last
use Rattle.decide_stage.proofs.Due.{due_short, short_here, due_all}
use Rattle.vault_types.specs.Stages.{IsFront, decided_parts}
use Rattle.segment_gather.specs.Segmented.{parts_of}
use Rattle.segment_gather.specs.Gathering.{answers_of}
use Rattle.decide_stage.proofs.Judged.{front_still, all_decided}
use Rattle.decide_stage.proofs.judging.take_end.Goals as goal

pub returns-in-Ok-clause-ended : goal.returns-in-Ok-clause-ended
returns-in-Ok-clause-ended c r chunks gone h none = (c.in-Ok.ensures.decided r chunks gone h, refl)

pub returns-in-Err-clause-front : goal.returns-in-Err-clause-front
returns-in-Err-clause-front c r chunks gone h some more = subst (λ q. IsFront (gone ++ parts_of c.broken.result.parts.items) (decided_parts (answers_of c.args.gatherer.now) r (q ++ more))) (append-nil chunks)
    (front_still c.args.gatherer.now r chunks gone [] c.broken.result.parts.items c.broken.ensures.0 h more)

pub returns-in-Err-clause-due : goal.returns-in-Err-clause-due
returns-in-Err-clause-due c r limit chunks gone h small = let b = c.broken.ensures in
    let few : length (chunks ++ []) ≤ limit + 1 = omega (arith, small, length-append chunks []) in
    (due_short c.args.gatherer.now r limit chunks gone [] c.broken.result.parts.items b.0 h few (Some last.End) c.broken.result.last b.1, λ is. short_here c.args.gatherer.now r limit chunks gone [] c.broken.result.parts.items b.0 h few)

pub returns-in-Ok-clause-due : goal.returns-in-Ok-clause-due
returns-in-Ok-clause-due c r limit chunks gone h small = (
  due_all (answers_of c.args.gatherer.now) r limit (chunks ++ []) (gone ++ parts_of c.in-Ok.parts.items) (Some last.End)
      (all_decided (answers_of c.args.gatherer.now) r chunks (gone ++ parts_of c.in-Ok.parts.items) (c.in-Ok.ensures.decided r chunks gone h) ∙ ap (decided_parts (answers_of c.args.gatherer.now) r) (sym (append-nil chunks))) (omega (arith, small, length-append chunks [])) refl,
  λ is. absurd (let clash : ◌≡◌ {A = Option Last} (Some last.End) (Some (last.Failed fault.Memory)) = is in cc),
)
