use Rattle.std.proofs.Common.{◌+◌, get_or, ap, ◌∙◌, None}
use Rattle.vault_types.specs.Names.{fp}
use Rattle.vault_types.specs.Decide.{counted_id}
use Rattle.rewrite_stage.proofs.Steps.{counted-more}
use Rattle.rewrite_stage.proofs.decider.Decider.counted.Goals as goal

pub loop-chunk-preserved : goal.loop-chunk-preserved
loop-chunk-preserved c = record {
  len = c.in_ok-push.ensures.len ∙ ap (λ n. n + 1) c.loop-chunk.invariant.len;
  counts = λ r places h.
      c.in_ok-push.ensures.items
      ∙ counted-more (counted_id r places) c.args.chunks.now c.args.found.now c.loop-chunk.counted.items c.counted_one.result c.loop-chunk.chunk-index c.chunk-item.result c.loop-chunk-test.true
      (c.loop-chunk.invariant.counts r places h)
      (c.counted_one.ensures r places h
      ∙ ap (λ f. counted_id r places (record { fp = f; found = c.answer_at-answer.result })) (c.fp.ensures ∙ ap fp c.chunk-item.is)
      ∙ ap (λ o. counted_id r places (record { fp = fp (get_or c.args.chunks.now c.loop-chunk.chunk-index c.chunk-item.result); found = o }))
      (c.answer_at-answer.ensures ∙ ap (λ n. get_or c.args.found.now n None) (c.len.ensures ∙ c.loop-chunk.invariant.len)));
}
