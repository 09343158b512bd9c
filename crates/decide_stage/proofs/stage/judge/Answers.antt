use Rattle.std.proofs.Common.{◌≡◌, inl, inr, ⊎_elim, ◌++◌, ◌∷◌, [], ◌≤◌, ◌+◌, ◌∙◌, List, length, Some, None, refl, sym, ap, subst, arith, length-append, append-nil, rules}
use Rattle.vault_types.specs.Stages.{IsFront, decided_parts}
use Rattle.stage_flows.specs.declared.Last.TheVariants as last
use Rattle.vault_types.specs.Names.{NamedChunk, named_chunk}
use Rattle.segment_gather.specs.Segmented.{parts_of}
use Rattle.segment_gather.specs.Gathering.{HasDecidedAll, answers_of}
use Rattle.decide_stage.proofs.Judged.{own_judged, end_judged, last_judged, unended, no_end, front_still}
use Rattle.decide_stage.proofs.Due.{due_taken, short_here}
use Rattle.stage_rules.specs.Deciding.{IsDeciding}
use Rattle.vault_types.specs.declared.How.{How}
use Rattle.decide_stage.proofs.stage.judge.Goals as goal

pub returns-in-Ok-clause-judged : goal.returns-in-Ok-clause-judged
returns-in-Ok-clause-judged c r chunks gone o = let e = c.take_chunk.ensures in let t = c.take_chunk.result in let more = named_chunk c.in-Ok.chunk ∷ [] in
    rw c.in-Ok.is (
      own_judged (answers_of c.args.gatherer.now) r c.args.limit (chunks ++ more) (gone ++ parts_of t.parts.items) t.own t.last e.own
          (λ f is. ⊎_elim (λ m. inl (m.0, let at = m.1 in let n = o.1 in omega (arith, length-append chunks more))) (λ m. inr m) (e.causes f is))
          (e.front r chunks gone o.0),
      λ none. let g = e.goes r chunks gone o.0 o.1 none in (g.0, g.1, g.2, refl, refl),
      (e.due r chunks gone o.0 o.1).0,
      (e.due r chunks gone o.0 o.1).1,
    )

pub returns-in-Err-End-clause-judged : goal.returns-in-Err-End-clause-judged
returns-in-Err-End-clause-judged c r chunks gone o = let e = c.take_end.ensures in let t = c.take_end.result in
    let ends : c.in-Err-End.field-0 ≡ last.End = search rules in
    rw (c.in-Err-End.is, ends) (
      end_judged (answers_of c.args.gatherer.now) r c.args.limit (chunks ++ []) (gone ++ parts_of t.parts.items) t.own t.last e.own
          (λ none. subst (λ q. HasDecidedAll (answers_of c.args.gatherer.now) r q (gone ++ parts_of t.parts.items)) (sym (append-nil chunks)) (e.ended r chunks gone o.0 none).0) e.causes
          (λ some more. subst (λ q. IsFront (gone ++ parts_of t.parts.items) (decided_parts (answers_of c.args.gatherer.now) r (q ++ more))) (sym (append-nil chunks)) (e.front r chunks gone o.0 some more)),
      λ none. absurd (no_end t.own t.last e.own none),
      (e.due r c.args.limit chunks gone o.0 (let n = o.1 in let m = o.2 in omega arith)).0,
      (e.due r c.args.limit chunks gone o.0 (let n = o.1 in let m = o.2 in omega arith)).1,
    )

pub returns-in-Err-clause-judged : goal.returns-in-Err-clause-judged
returns-in-Err-clause-judged c r chunks gone o = let k = c.in-Err.last in
    let small : length chunks ≤ c.args.limit = (let n = o.1 in let m = o.2 in omega arith) in
    let few : length (chunks ++ []) ≤ c.args.limit + 1 = omega (arith, small, length-append chunks []) in
    let due_last : IsDeciding (answers_of c.args.gatherer.now) r c.args.limit (chunks ++ []) (Some k) (gone ++ parts_of c.new.result.items) (Some k) =
    subst (λ (z : List NamedChunk × List (NamedChunk × How)). IsDeciding (answers_of c.args.gatherer.now) r c.args.limit z.0 (Some k) z.1 (Some k)) (λ i. (sym (append-nil chunks) i, sym (ap (λ q. gone ++ parts_of q) c.new.ensures.items ∙ append-nil gone) i))
    (due_taken c.args.gatherer.now c.args.gatherer.now r c.args.limit chunks (Some k) gone (Some k) o.0 refl small (unended k (λ is. search rules)) refl) in
    rw c.in-Err.is (
      last_judged (answers_of c.args.gatherer.now) r c.args.limit (chunks ++ []) (gone ++ parts_of c.new.result.items) k (λ is. search rules) (front_still c.args.gatherer.now r chunks gone [] c.new.result.items c.new.ensures.items o.0),
      λ none. absurd (let clash : Some k ≡ None = none in cc),
      due_last,
      λ is. short_here c.args.gatherer.now r c.args.limit chunks gone [] c.new.result.items c.new.ensures.items o.0 few,
    )
