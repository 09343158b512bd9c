use Rattle.std.proofs.Common.{subst}
use Rattle.std.specs.Prelude.{Result, IfErr}
use Rattle.vault_types.specs.declared.Fault.{Fault}
use Rattle.backup_pass.specs.declared.pass.Passed.{Passed}
use Rattle.backup_jobs.specs.Going.{rules_of}
use Rattle.serial_backup.specs.Streaming.{IsTooManyInAll, IsHalted}
use Rattle.serial_backup.proofs.Feeding.{passed_none, pass_halts}
use Rattle.serial_backup.proofs.Ends.{passed_all}
use Rattle.serial_backup.proofs.ending.end_pass.Goals as goal

pub put_rest-requires : goal.put_rest-requires
put_rest-requires g c =
    let b = c.requires.0 in
    let read = c.requires.1 in
    let h = c.requires.2 in
    (b, read, passed_all b _ _ _ read h _ c.finish-index.result.1 c.in-Ok.passed c.in-Ok.is (c.finish-index.ensures.passed (rules_of b) b.limits.chunks b.first read h.containers (passed_none b _ _ _ read h c.new-full.result.items c.new-full.ensures.items)))

pub returns-in-Err-clause-err : goal.returns-in-Err-clause-err
returns-in-Err-clause-err g c b read h =
    subst (λ (r : Result Passed Fault). IfErr r (IsHalted b c.args.keeper.now (IsTooManyInAll b read))) c.in-Err.is
    (pass_halts b c.args.keeper.now h.containers (IsTooManyInAll b read) c.finish-index.result.1 h.underway (c.finish-index.ensures.causes (rules_of b) b.limits.chunks b.first read h.containers h.passed))

pub returns-in-Ok-clause-ok : goal.returns-in-Ok-clause-ok
returns-in-Ok-clause-ok g c b read h =
    c.put_rest.ensures.ok b read (passed_all b _ _ _ read h _ c.finish-index.result.1 c.in-Ok.passed c.in-Ok.is (c.finish-index.ensures.passed (rules_of b) b.limits.chunks b.first read h.containers (passed_none b _ _ _ read h c.new-full.result.items c.new-full.ensures.items)))

pub returns-in-Ok-clause-err : goal.returns-in-Ok-clause-err
returns-in-Ok-clause-err g c b read h =
    c.put_rest.ensures.err b read (passed_all b _ _ _ read h _ c.finish-index.result.1 c.in-Ok.passed c.in-Ok.is (c.finish-index.ensures.passed (rules_of b) b.limits.chunks b.first read h.containers (passed_none b _ _ _ read h c.new-full.result.items c.new-full.ensures.items)))
