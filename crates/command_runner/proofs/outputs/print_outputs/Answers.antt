use Rattle.std.proofs.Common.{◌≡◌, ◌<◌, length, arith}
use Rattle.std.specs.Prelude.{min}
use Rattle.vault_types.specs.declared.Answer.TheVariants.{Stored}
use Rattle.workload.specs.Places.{file_at}
use Rattle.command_runner.proofs.Fills.{read_within, summed_none, summed_more, summed_cut, summed_all}
use Rattle.command_runner.proofs.outputs.print_outputs.Goals as goal

pub loop-at-init : goal.loop-at-init
loop-at-init g c = record { summed = summed_none (file_at c.args.places.now.seed c.args.places.now.places) c.args.lines.now c.args.answers.now (g.O.Sink.told c.args.out.now); within = omega arith }

pub returns-in-Some : goal.returns-in-Some
returns-in-Some g c =
    let p = c.args.places.now in
    let inv = c.loop-at.invariant in
    let in_lines : c.loop-at.at < length c.args.lines.now = omega (arith, c.loop-at-test.true, c.min-count.ensures) in
    let in_answers : c.loop-at.at < length c.args.answers.now = omega (arith, c.loop-at-test.true, c.min-count.ensures) in
    summed_cut (file_at p.seed p.places) c.args.lines.now c.args.answers.now c.loop-at.at (g.O.Sink.told c.args.out.now) (g.O.Sink.told c.loop-at.out) inv.summed c.index-lines-at.result _ in_lines in_answers
    c.index-lines-at.is (read_within c.args.answers.now c.loop-at.at (Stored 0 0 0 0 0 0 0) _ in_answers) (g.O.Sink.told c.print_output.new.out) c.in-Some.fault c.in-Some.ensures.printed

pub loop-at-preserved : goal.loop-at-preserved
loop-at-preserved g c =
    let p = c.args.places.now in
    let inv = c.loop-at.invariant in
    let in_lines : c.loop-at.at < length c.args.lines.now = omega (arith, c.loop-at-test.true, c.min-count.ensures) in
    let in_answers : c.loop-at.at < length c.args.answers.now = omega (arith, c.loop-at-test.true, c.min-count.ensures) in
    record {
      summed = summed_more (file_at p.seed p.places) c.args.lines.now c.args.answers.now c.loop-at.at (g.O.Sink.told c.args.out.now) (g.O.Sink.told c.loop-at.out) inv.summed c.index-lines-at.result _ in_lines in_answers
          c.index-lines-at.is (read_within c.args.answers.now c.loop-at.at (Stored 0 0 0 0 0 0 0) _ in_answers) (g.O.Sink.told c.print_output.new.out) c.in_default.ensures.printed c.print_output.ensures.later;
      within = omega (arith, c.loop-at-test.true);
    }

pub returns : goal.returns
returns g c =
    let p = c.args.places.now in
    let inv = c.loop-at.invariant in
    let all : c.loop-at.at ≡ min (length c.args.lines.now) (length c.args.answers.now) = omega (arith, c.loop-at-test.false, c.min-count.ensures, inv.within) in
    summed_all (file_at p.seed p.places) c.args.lines.now c.args.answers.now c.loop-at.at (g.O.Sink.told c.args.out.now) (g.O.Sink.told c.loop-at.out) inv.summed all
