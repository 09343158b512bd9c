use Rattle.std.proofs.Common.{◌≡◌, ◌≤◌, ◌+◌, ◌++◌, ◌∷◌, [], length, refl, Option, None, Some, arith, length-append}
use Rattle.vault_types.specs.declared.Fault.TheVariants as fault
use Rattle.stage_flows.specs.declared.Last.{Last}
use Rattle.stage_flows.specs.declared.Last.TheVariants as last
use Rattle.decide_stage.proofs.Due.{due_short, short_here, due_many, due_taken}
use Rattle.vault_types.specs.Names.{named_chunk}
use Rattle.segment_gather.specs.Segmented.{parts_of}
use Rattle.decide_stage.proofs.Judged.{front_still, front_taken}
use Rattle.decide_stage.proofs.judging.take_chunk.Goals as goal

pub returns-in-Err-clause-front : goal.returns-in-Err-clause-front
returns-in-Err-clause-front c r chunks gone h more = front_still c.args.gatherer.now r chunks gone (named_chunk c.args.chunk ∷ []) c.broken.result.parts.items c.broken.ensures.0 h more

pub returns-in-Ok-clause-front : goal.returns-in-Ok-clause-front
returns-in-Ok-clause-front c r chunks gone h more = front_taken c.args.gatherer.now c.take.new.self r (chunks ++ named_chunk c.args.chunk ∷ []) (gone ++ parts_of c.in-Ok.parts.items) (c.in-Ok.ensures.gathered r chunks gone h) c.in-Ok.ensures.index more

pub returns-in-Err-take-clause-front : goal.returns-in-Err-take-clause-front
returns-in-Err-take-clause-front c r chunks gone h more = front_still c.args.gatherer.now r chunks gone (named_chunk c.args.chunk ∷ []) c.broken-in-Err-take.result.parts.items c.broken-in-Err-take.ensures.0 h more

pub returns-in-Ok-take-clause-front : goal.returns-in-Ok-take-clause-front
returns-in-Ok-take-clause-front c r chunks gone h more = front_taken c.args.gatherer.now c.take-2.new.self r (chunks ++ named_chunk c.args.chunk ∷ []) (gone ++ parts_of c.in-Ok-take.parts.items) (c.in-Ok-take.ensures.gathered r chunks gone h) c.in-Ok-take.ensures.index more

pub returns-in-Err-clause-due : goal.returns-in-Err-clause-due
returns-in-Err-clause-due c r chunks gone h count = let b = c.broken.ensures in let more = named_chunk c.args.chunk ∷ [] in
    let few : length (chunks ++ more) ≤ c.args.limit + 1 = omega (arith, c.requires, count, length-append chunks more) in
    (due_short c.args.gatherer.now r c.args.limit chunks gone more c.broken.result.parts.items b.0 h few None c.broken.result.last b.1, λ is. short_here c.args.gatherer.now r c.args.limit chunks gone more c.broken.result.parts.items b.0 h few)

pub returns-in-Err-take-clause-due : goal.returns-in-Err-take-clause-due
returns-in-Err-take-clause-due c r chunks gone h count = let b = c.broken-in-Err-take.ensures in let more = named_chunk c.args.chunk ∷ [] in
    let few : length (chunks ++ more) ≤ c.args.limit + 1 = omega (arith, c.requires, count, length-append chunks more) in
    (due_short c.args.gatherer.now r c.args.limit chunks gone more c.broken-in-Err-take.result.parts.items b.0 h few None c.broken-in-Err-take.result.last b.1, λ is. short_here c.args.gatherer.now r c.args.limit chunks gone more c.broken-in-Err-take.result.parts.items b.0 h few)

pub returns-in-Ok-clause-due : goal.returns-in-Ok-clause-due
returns-in-Ok-clause-due c r chunks gone h count = let more = named_chunk c.args.chunk ∷ [] in
    let all : length (chunks ++ more) ≡ c.args.limit + 1 = omega (arith, c.requires, count, c.if-count-limit.true, length-append chunks more) in (
      due_many c.args.gatherer.now c.take.new.self r c.args.limit (chunks ++ more) None (gone ++ parts_of c.in-Ok.parts.items) (Some (last.Failed (fault.TooMany c.args.limit))) (c.in-Ok.ensures.gathered r chunks gone h) c.in-Ok.ensures.index all refl,
      λ is. absurd (let clash : ◌≡◌ {A = Option Last} (Some (last.Failed (fault.TooMany c.args.limit))) (Some (last.Failed fault.Memory)) = is in cc),
    )

pub returns-in-Ok-take-clause-due : goal.returns-in-Ok-take-clause-due
returns-in-Ok-take-clause-due c r chunks gone h count = let more = named_chunk c.args.chunk ∷ [] in
    let all : length (chunks ++ more) ≤ c.args.limit = omega (arith, c.requires, count, c.if-count-limit.false, length-append chunks more) in (
      due_taken c.args.gatherer.now c.take-2.new.self r c.args.limit (chunks ++ more) None (gone ++ parts_of c.in-Ok-take.parts.items) None (c.in-Ok-take.ensures.gathered r chunks gone h) c.in-Ok-take.ensures.index all refl refl,
      λ is. absurd (let clash : ◌≡◌ {A = Option Last} None (Some (last.Failed fault.Memory)) = is in cc),
    )
