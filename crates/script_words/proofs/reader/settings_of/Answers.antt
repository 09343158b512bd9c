use Rattle.std.proofs.Common.{string_bytes, take, drop, length, ◌-◌}
use Rattle.std.proofs.lemmas.List.{take_rest}
use Rattle.script_words.proofs.Readings.{settings_step, step_within}
use Rattle.script_words.proofs.reader.settings_of.Goals as goal

pub loop-i-preserved : goal.loop-i-preserved
loop-i-preserved c =
    let words = c.args.words.now in
    let i = c.loop-i.i in
    let rest = take_rest words i in
    record {
      within = step_within string_bytes words (take (length words - i) (drop i words)) i c.in-Some.count rest c.loop-i.invariant.within c.in-Some.ensures.1;
      so_far = settings_step string_bytes words (take (length words - i) (drop i words)) i c.in-Some.count c.loop-i.settings.items c.push.new.self.items c.in-Some.setting rest c.loop-i.invariant.so_far c.in-Some.ensures.2 c.in_ok-push-in-Some.ensures.items;
    }
