use Rattle.std.proofs.Common.{◌++◌, ◌≡◌, [], ◌∷◌, List, ap, arith, subst}
use Rattle.vault_types.specs.Tables.{Container}
use Rattle.scrub.specs.Walking.{IsUnderway}
use Rattle.scrub.proofs.Turns.{all_noted, begun, few_noted, no_room, none_left, over_memory, over_oldest, pushed, read_all, read_one, some_left, unread, with_room}
use Rattle.scrub.proofs.beside.scrub_on.Goals as goal

pub loop-running-init : goal.loop-running-init
loop-running-init g c = (begun c.args.keeper.now c.new-findings.result c.in_ok-running.running.items c.new-findings.ensures c.in_ok-running.ensures.items, omega arith)

pub returns-in_err-read : goal.returns-in_err-read
returns-in_err-read g c =
    let l = c.loop-running in
    unread c.args.keeper.now l.keeper c.read_next.new.keeper l.passed l.findings l.running.items l.invariant.0 c.from_residual-in_err-read.result c.in_err-read.field-0.0 c.from_residual-in_err-read.ensures.1 c.in_err-read.ensures

pub returns-in_err-make_room : goal.returns-in_err-make_room
returns-in_err-make_room g c =
    let l = c.loop-running in
    no_room c.args.keeper.now l.keeper c.read_next.new.keeper l.passed l.findings l.running.items l.invariant.0 c.from_residual-in_err-make_room.result c.in_ok-read.field-0 c.in-Some.read c.in-Some.is c.in_ok-read.ensures c.from_residual-in_err-make_room.ensures.1

pub loop-running-preserved : goal.loop-running-preserved
loop-running-preserved g c =
    let u = c.args.keeper.now in
    let w = c.read_next.new.keeper in
    let l = c.loop-running in
    let id = c.id-passed.result in
    let now = c.make_room.new.running.items in
    let found = c.make_room.new.findings in
    let turn = read_one u l.keeper w l.passed l.findings l.running.items l.invariant.0 c.in_ok-read.field-0 c.in_ok-read.ensures c.in-Some.read id c.in-Some.is c.id-passed.ensures in
    let room = with_room u w id l.findings found l.running.items now (c.in-Some.read ∷ []) c.in_ok-make_room.ensures turn in
    let more : now ++ c.in-Some.read ∷ [] ≡ c.push_back.new.self.items = pushed now c.push_back.new.self.items c.start.result c.in-Some.read c.start.ensures c.in_ok-push_back.ensures.items in
    (subst (λ (ws : List Container). IsUnderway u w id found ws) more room, omega (arith, c.id-passed.ensures, c.read.invariant.id_high, ap (λ (x : Container). x.table.id) c.read.view_is))

pub returns-in_err-push_back : goal.returns-in_err-push_back
returns-in_err-push_back g c =
    let l = c.loop-running in
    no_room c.args.keeper.now l.keeper c.read_next.new.keeper l.passed l.findings l.running.items l.invariant.0 c.from_residual-in_err-push_back.result c.in_ok-read.field-0 c.in-Some.read c.in-Some.is c.in_ok-read.ensures c.from_residual-in_err-push_back.ensures.1

pub loop-running-2-init : goal.loop-running-2-init
loop-running-2-init g c =
    let l = c.loop-running in
    read_all c.args.keeper.now l.keeper c.read_next.new.keeper l.passed l.findings l.running.items l.invariant.0 c.in_ok-read.field-0 c.in_ok-read.ensures l.invariant.1 c.in_default.not-Some

pub note_oldest-requires : goal.note_oldest-requires
note_oldest-requires g c =
    let l = c.loop-running-2 in
    few_noted c.args.keeper.now c.read_next.new.keeper l.findings l.running.items l.invariant (some_left l.running.items l.running.len c.is_empty.result l.running.ok.0 c.is_empty.ensures c.loop-running-2-test.true)

pub loop-running-2-preserved : goal.loop-running-2-preserved
loop-running-2-preserved g c =
    let l = c.loop-running-2 in
    let n = c.note_oldest.new in
    over_oldest c.args.keeper.now c.read_next.new.keeper l.findings n.findings l.running.items n.running.items c.in_ok-note_oldest.ensures l.invariant

pub returns-in_err-note_oldest : goal.returns-in_err-note_oldest
returns-in_err-note_oldest g c =
    let l = c.loop-running-2 in
    over_memory c.args.keeper.now c.read_next.new.keeper l.findings l.running.items c.from_residual-in_err-note_oldest.result l.invariant c.from_residual-in_err-note_oldest.ensures.1

pub returns : goal.returns
returns g c =
    let l = c.loop-running-2 in
    all_noted c.args.keeper.now c.read_next.new.keeper l.findings l.running.items (none_left l.running.items l.running.len c.is_empty.result l.running.ok.0 c.is_empty.ensures c.loop-running-2-test.false) l.invariant
