use Rattle.std.proofs.Common.{◌≡◌, ◌++◌, ◌∷◌, [], List, length, get_or, vec_len, sym, ap, subst, ◌∙◌, None, rules}
use Rattle.std.proofs.lemmas.List.{length-map}
use Rattle.vault_types.specs.Decide.{how, is_written}
use Rattle.rewrite_stage.specs.declared.Decided.{Decided}
use Rattle.rewrite_stage.specs.Deciding.{HasDecided}
use Rattle.rewrite_stage.specs.Steps.{fps_with_olds, decide_all}
use Rattle.rewrite_stage.proofs.Steps.{SoFar, so_far-more}
use Rattle.rewrite_stage.proofs.decider.Decider.decide.Goals as goal

pub loop-chunk-preserved : goal.loop-chunk-preserved
loop-chunk-preserved c =
    let items : List Decided = c.loop-chunk.decided.items in
    let counted : length items ≡ vec_len c.loop-chunk.decided = search rules in
    let many : vec_len c.loop-chunk.decided ≡ length c.loop-chunk.yielded = sym counted ∙ sym (length-map items (λ (d : Decided). d.chunk)) ∙ ap length c.loop-chunk.invariant.same in
    let place : c.answer_at-old.result ≡ get_or c.args.allowed.now (length c.loop-chunk.yielded) None =
    c.answer_at-old.ensures ∙ ap (λ n. get_or c.args.allowed.now n None) (c.len-in-loop-chunk.ensures ∙ many) in
    subst (λ ds. SoFar c.args.self.now c.decide_one.new.self c.args.allowed.now (c.loop-chunk.yielded ++ c.in-Some.chunk ∷ []) ds) (sym c.in_ok-push.ensures.items)
    (so_far-more c.args.self.now c.loop-chunk.self c.decide_one.new.self c.args.allowed.now c.loop-chunk.yielded items c.in-Some.chunk c.answer_at-old.result c.in_ok-how.how c.loop-chunk.invariant
    c.decide_one.ensures.index place
    (λ r places h. c.in_ok-how.ensures.how r places h ∙ ap (λ f. how (is_written places f) c.answer_at-old.result) c.fp.ensures)
    (λ r places h. subst (λ f. HasDecided c.decide_one.new.self r (places ++ (f, c.in_ok-how.how) ∷ [])) c.fp.ensures (c.in_ok-how.ensures.decided r places h)))

pub returns-clause-places : goal.returns-clause-places
returns-clause-places c = λ r places h.
    c.loop-chunk.invariant.places r places h ∙ ap (λ cs. decide_all places (fps_with_olds cs c.args.allowed.now)) (sym c.loop-chunk.invariant.same)
