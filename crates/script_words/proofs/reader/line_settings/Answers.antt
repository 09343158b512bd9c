use Rattle.std.proofs.Common.{[]}
use Rattle.script_words.proofs.Readings.{line_step}
use Rattle.script_words.proofs.reader.line_settings.Goals as goal

pub loop-word-preserved : goal.loop-word-preserved
loop-word-preserved c = line_step (λ w. w.now) c.args.words.now c.loop-word.word-index (record { ref_ptr = (0, 0); now = [] }) _ _ _ c.loop-word-test.true c.loop-word.invariant c.in-Some.ensures c.in_ok-push-in-Some.ensures.items
