use Rattle.std.proofs.Common.{◌++◌}
use Rattle.std.specs.Prelude.{option_to_list}
use Rattle.stage_flows.specs.declared.Last.TheVariants as last
use Rattle.pipe_backup.proofs.Handing.{handed_last}
use Rattle.pipe_backup.proofs.sealing.hand_rest.Goals as goal

pub returns-in-Err-hand-clause-err : goal.returns-in-Err-hand-clause-err
returns-in-Err-hand-clause-err g c b gone h of all is = c.in-Err-hand.ensures.err b (gone ++ option_to_list c.args.last) (c.in_default.ensures.ok b gone h of is) all is

pub collect-requires : goal.collect-requires
collect-requires g c =
    let b = c.requires.0 in
    let gone = c.requires.1 ++ option_to_list c.args.last in
    (b, gone, handed_last b _ _ _ gone last.End (c.in_default-hand.ensures.ok b gone (c.in_default.ensures.ok b c.requires.1 c.requires.2 c.requires.3 c.requires.5) c.requires.4 c.requires.5), c.requires.4, c.requires.5)

pub returns-clause-ok : goal.returns-clause-ok
returns-clause-ok g c b gone h of all is =
    let cs = gone ++ option_to_list c.args.last in
    c.collect.ensures.ok b cs (handed_last b _ _ _ cs last.End (c.in_default-hand.ensures.ok b cs (c.in_default.ensures.ok b gone h of is) all is)) all is

pub returns-clause-err : goal.returns-clause-err
returns-clause-err g c b gone h of all is =
    let cs = gone ++ option_to_list c.args.last in
    c.collect.ensures.err b cs (handed_last b _ _ _ cs last.End (c.in_default-hand.ensures.ok b cs (c.in_default.ensures.ok b gone h of is) all is)) all is
