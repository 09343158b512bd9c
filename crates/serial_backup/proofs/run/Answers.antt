use Rattle.serial_backup.proofs.Feeding.{ends_over}
use Rattle.serial_backup.proofs.run.Goals as goal

pub returns-in-Err-clause-over : goal.returns-in-Err-clause-over
returns-in-Err-clause-over g c b h = (tt, c.in-Err.ensures.err b h)

pub end_pass-requires : goal.end_pass-requires
end_pass-requires g c =
    let b = c.requires.0 in
    let all = c.in-Ok.ensures.ok b c.requires.1 in
    (b, all.0, all.1.fed)

pub returns-in-Ok-clause-over : goal.returns-in-Ok-clause-over
returns-in-Ok-clause-over g c b h =
    let all = c.in-Ok.ensures.ok b h in
    ends_over b c.read_all.new.keeper c.end_pass.new.keeper (g.I.Source.told c.read_all.new.source) c.read_all.new.pass c.read_all.new.lens.items c.end_pass.new.lens.items all.0 all.1 all.2 c.end_pass.result.1
    (c.end_pass.ensures.ok b all.0 all.1.fed) (c.end_pass.ensures.err b all.0 all.1.fed)
