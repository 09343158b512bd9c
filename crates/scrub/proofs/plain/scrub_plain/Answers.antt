use Rattle.std.proofs.Common.{[], ◌∷◌, ap, arith, refl, sym}
use Rattle.vault_types.specs.Tables.{Container}
use Rattle.scrub.proofs.Turns.{all_noted, begun, no_room, noted, read_all, read_one, unread}
use Rattle.scrub.proofs.plain.scrub_plain.Goals as goal

pub loop-findings-init : goal.loop-findings-init
loop-findings-init g c = (begun c.args.keeper.now c.new-findings.result [] c.new-findings.ensures refl, omega arith)

pub returns-in_err-read : goal.returns-in_err-read
returns-in_err-read g c =
    let l = c.loop-findings in
    unread c.args.keeper.now l.keeper c.read_next.new.keeper l.passed l.findings [] l.invariant.0 c.from_residual.result c.in_err-read.field-0.0 c.from_residual.ensures.1 c.in_err-read.ensures

pub returns-in_err-add : goal.returns-in_err-add
returns-in_err-add g c =
    let l = c.loop-findings in
    no_room c.args.keeper.now l.keeper c.read_next.new.keeper l.passed l.findings [] l.invariant.0 c.from_residual-in_err-add.result c.in_ok-read.field-0 c.in-Some.read c.in-Some.is c.in_ok-read.ensures c.from_residual-in_err-add.ensures.1

pub loop-findings-preserved-in_ok-add : goal.loop-findings-preserved-in_ok-add
loop-findings-preserved-in_ok-add g c =
    let l = c.loop-findings in
    let id = c.id-passed.result in
    let turn = read_one c.args.keeper.now l.keeper c.read_next.new.keeper l.passed l.findings [] l.invariant.0 c.in_ok-read.field-0 c.in_ok-read.ensures c.in-Some.read id c.in-Some.is c.id-passed.ensures in (
      noted c.args.keeper.now c.read_next.new.keeper id l.findings c.add.new.self (c.in-Some.read ∷ []) [] [] (refl, record { count = c.in_ok-add.ensures.count; found = λ cs is. c.in_ok-add.ensures.found cs c.in-Some.read is (sym c.id-passed.ensures) (sym c.health.ensures) }) turn,
      omega (arith, c.id-passed.ensures, c.read.invariant.id_high, ap (λ (x : Container). x.table.id) c.read.view_is),
    )

pub loop-findings-preserved : goal.loop-findings-preserved
loop-findings-preserved g c =
    let l = c.loop-findings in
    let id = c.id-passed.result in
    let turn = read_one c.args.keeper.now l.keeper c.read_next.new.keeper l.passed l.findings [] l.invariant.0 c.in_ok-read.field-0 c.in_ok-read.ensures c.in-Some.read id c.in-Some.is c.id-passed.ensures in (
      noted c.args.keeper.now c.read_next.new.keeper id l.findings c.add.new.self (c.in-Some.read ∷ []) [] [] (refl, record { count = c.in_ok-add.ensures.count; found = λ cs is. c.in_ok-add.ensures.found cs c.in-Some.read is (sym c.id-passed.ensures) (sym c.health.ensures) }) turn,
      omega (arith, c.id-passed.ensures, c.read.invariant.id_high, ap (λ (x : Container). x.table.id) c.read.view_is),
    )

pub returns : goal.returns
returns g c =
    let l = c.loop-findings in
    all_noted c.args.keeper.now c.read_next.new.keeper l.findings [] refl (read_all c.args.keeper.now l.keeper c.read_next.new.keeper l.passed l.findings [] l.invariant.0 c.in_ok-read.field-0 c.in_ok-read.ensures l.invariant.1 c.in_default.not-Some)
