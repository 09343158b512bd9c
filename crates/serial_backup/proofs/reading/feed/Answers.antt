use Rattle.std.proofs.Common.{◌++◌}
use Rattle.backup_pass.specs.Passing.{HasPassed}
use Rattle.backup_jobs.specs.Going.{rules_of}
use Rattle.serial_backup.specs.Streaming.{IsTooMany}
use Rattle.backup_jobs.proofs.Jobs.{stopped_again}
use Rattle.serial_backup.proofs.Passes.{numbered_passed, few_passed}
use Rattle.serial_backup.proofs.Feeding.{passed_none, fed_ok, put_halts, pass_halts}
use Rattle.serial_backup.proofs.reading.feed.Goals as goal

pub put_all-requires : goal.put_all-requires
put_all-requires g c =
    let b = c.requires.0 in
    let read = c.requires.1 in
    let h = c.requires.2 in
    let passed : HasPassed c.feed.new.self (rules_of b) b.limits.chunks b.first (read ++ c.args.piece.now) (h.containers ++ c.feed.new.out.items) =
    c.in_ok-feed.ensures.passed (rules_of b) b.limits.chunks b.first read h.containers (passed_none b _ _ _ read h c.new-full.result.items c.new-full.ensures.items) in
    (b, h.containers, h.underway, numbered_passed c.feed.new.self (rules_of b) b.limits.chunks b.first (read ++ c.args.piece.now) _ passed, few_passed c.feed.new.self (rules_of b) b.limits.chunks b.first (read ++ c.args.piece.now) _ passed)

pub returns-in_err-feed-clause-err : goal.returns-in_err-feed-clause-err
returns-in_err-feed-clause-err g c b read h =
    pass_halts b _ h.containers (IsTooMany b (read ++ c.args.piece.now)) c.from_residual.result h.underway
    (stopped_again (IsTooMany b (read ++ c.args.piece.now)) c.from_residual.result c.in_err-feed.field-0.0 c.from_residual.ensures.1
    (c.in_err-feed.ensures.causes (rules_of b) b.limits.chunks b.first read h.containers h.passed))

pub returns-clause-ok : goal.returns-clause-ok
returns-clause-ok g c b read h =
    let passed : HasPassed c.feed.new.self (rules_of b) b.limits.chunks b.first (read ++ c.args.piece.now) (h.containers ++ c.feed.new.out.items) =
    c.in_ok-feed.ensures.passed (rules_of b) b.limits.chunks b.first read h.containers (passed_none b _ _ _ read h c.new-full.result.items c.new-full.ensures.items) in
    fed_ok b _ _ c.args.pass.now c.feed.new.self _ _ read c.args.piece.now c.feed.new.out.items h c.put_all.result passed c.in_ok-feed.ensures.index
    (c.put_all.ensures.ok b h.containers (numbered_passed c.feed.new.self (rules_of b) b.limits.chunks b.first (read ++ c.args.piece.now) _ passed) (few_passed c.feed.new.self (rules_of b) b.limits.chunks b.first (read ++ c.args.piece.now) _ passed) h.underway) c.put_all.ensures.waits c.put_all.ensures.named c.put_all.ensures.lens

pub returns-clause-err : goal.returns-clause-err
returns-clause-err g c b read h =
    let passed : HasPassed c.feed.new.self (rules_of b) b.limits.chunks b.first (read ++ c.args.piece.now) (h.containers ++ c.feed.new.out.items) =
    c.in_ok-feed.ensures.passed (rules_of b) b.limits.chunks b.first read h.containers (passed_none b _ _ _ read h c.new-full.result.items c.new-full.ensures.items) in
    put_halts b _ (IsTooMany b (read ++ c.args.piece.now)) c.put_all.result
    (c.put_all.ensures.err b h.containers (numbered_passed c.feed.new.self (rules_of b) b.limits.chunks b.first (read ++ c.args.piece.now) _ passed) (few_passed c.feed.new.self (rules_of b) b.limits.chunks b.first (read ++ c.args.piece.now) _ passed) h.underway)
