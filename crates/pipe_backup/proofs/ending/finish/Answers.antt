use Rattle.std.proofs.Common.{◌++◌}
use Rattle.std.specs.Prelude.{option_to_list}
use Rattle.backup_jobs.proofs.Parts.{gone_of_job}
use Rattle.pipe_backup.proofs.Fills.{handed_of_job}
use Rattle.pipe_backup.proofs.ending.finish.Goals as goal

pub hand_on-requires : goal.hand_on-requires
hand_on-requires g c =
    let b = c.requires.0 in
    let h = c.requires.2 in
    (b, h.gone, h.handed, handed_of_job b _ _ _ _ _ c.requires.1 h, c.requires.3)

pub returns-in-Err-clause-err : goal.returns-in-Err-clause-err
returns-in-Err-clause-err g c b parts h is = c.in-Err.ensures.err b h.gone h.handed (handed_of_job b _ _ _ _ _ parts h) is

pub hand_rest-requires : goal.hand_rest-requires
hand_rest-requires g c =
    let b = c.requires.0 in
    let parts = c.requires.1 in
    let h = c.requires.2 in
    let gone = h.gone ++ option_to_list c.args.held in
    (b, gone, c.in_default.ensures.ok b h.gone h.handed (handed_of_job b _ _ _ _ _ parts h) c.requires.3, gone_of_job b _ gone parts h.filled, c.finish_parts-last.ensures.given b gone parts h.filled, c.requires.3)

pub returns-in-Ok-clause-ok : goal.returns-in-Ok-clause-ok
returns-in-Ok-clause-ok g c b parts h is =
    let gone = h.gone ++ option_to_list c.args.held in
    λ front read are. c.finish_parts-last.ensures.made b gone parts read h.filled are _ _ (c.in-Ok.ensures.ok b gone (c.in_default.ensures.ok b h.gone h.handed (handed_of_job b _ _ _ _ _ parts h) is) (gone_of_job b _ gone parts h.filled) (c.finish_parts-last.ensures.given b gone parts h.filled) is front)

pub returns-in-Err-hand_rest-clause-err : goal.returns-in-Err-hand_rest-clause-err
returns-in-Err-hand_rest-clause-err g c b parts h is =
    let gone = h.gone ++ option_to_list c.args.held in
    c.in-Err-hand_rest.ensures.err b gone (c.in_default.ensures.ok b h.gone h.handed (handed_of_job b _ _ _ _ _ parts h) is) (gone_of_job b _ gone parts h.filled) (c.finish_parts-last.ensures.given b gone parts h.filled) is
