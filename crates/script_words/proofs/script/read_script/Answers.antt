use Rattle.std.proofs.Common.{◌+◌, ◌++◌, refl, inr, sym, ◌∙◌, arith}
use Rattle.vault_types.specs.Words as spec
use Rattle.script_words.specs.Names.{HasNames}
use Rattle.script_words.proofs.Scripts.{sources, outputs, bad_line, bad_names, good_line, uses_more}
use Rattle.script_words.proofs.script.read_script.Goals as goal

pub returns-in-None-clause-err : goal.returns-in-None-clause-err
returns-in-None-clause-err c =
    inr (
      c.loop-start.number + 1,
      refl,
      bad_line c.args.text.now c.loop-start.start c.next_place-end.result c.loop-start.number c.loop-start.lines.items
          c.loop-start-test.true c.next_place-end.ensures.place (sym c.in-None.is ∙ c.in_ok-line.ensures) c.loop-start.invariant.so_far,
    )

pub returns-then-not-may_follow-clause-err : goal.returns-then-not-may_follow-clause-err
returns-then-not-may_follow-clause-err c =
    let lines = c.loop-start.lines.items in
    let may = sym (c.may_follow.ensures (sources lines) (outputs lines) c.loop-start.invariant.names) ∙ c.if-not-may_follow.true in
    inr (
      c.loop-start.number + 1,
      refl,
      bad_names c.args.text.now c.loop-start.start c.next_place-end.result c.loop-start.number lines c.in-Some.line
          c.loop-start-test.true c.next_place-end.ensures.place (sym c.in-Some.is ∙ c.in_ok-line.ensures) may c.loop-start.invariant.so_far,
    )

pub loop-start-preserved : goal.loop-start-preserved
loop-start-preserved c =
    let lines = c.loop-start.lines.items in
    let new = c.push.new.self.items in
    let line = c.in-Some.line in
    let may = sym (c.may_follow.ensures (sources lines) (outputs lines) c.loop-start.invariant.names) ∙ c.if-not-may_follow.false in
    let pushed = c.in_ok-push.ensures.items in
    let held : HasNames c.add.new.self (sources lines ++ spec.sources_of line) (outputs lines ++ spec.outputs_of line) =
    c.in_ok-add.ensures (sources lines) (outputs lines) c.loop-start.invariant.names in
    record {
      within = omega (arith, c.next_place-end.ensures.within);
      counted = omega (arith, c.next_place-end.ensures.place);
      names = rw (← uses_more spec.sources_of lines new line pushed, ← uses_more spec.outputs_of lines new line pushed) held;
      so_far = good_line c.args.text.now c.loop-start.start c.next_place-end.result c.loop-start.number lines new line
          c.loop-start-test.true c.next_place-end.ensures.place (sym c.in-Some.is ∙ c.in_ok-line.ensures) may pushed c.loop-start.invariant.so_far;
    }
