use Rattle.std.proofs.Common.{map, ◌++◌}
use Rattle.std.specs.Prelude.{filter}
use Rattle.vault_types.specs.Names.{named_chunk}
use Rattle.vault_types.specs.Stages.{is_chunk}
use Rattle.backup_pass.specs.Passing.{bytes_of_all}
use Rattle.backup_pass.proofs.Ending.{ended_as}
use Rattle.backup_pass.proofs.pass.place_last.Goals as goal

pub returns-in-Ok-filled-clause-filled : goal.returns-in-Ok-filled-clause-filled
returns-in-Ok-filled-clause-filled c r first taken gone h =
    ended_as c.finish-index.result.1 c.in-Ok-filled.filled c.in-Ok-filled.is _ _ r first _ (taken ++ map named_chunk (filter is_chunk (bytes_of_all c.args.chunks.items))) c.in-Ok.ensures.index
    (c.finish-index.ensures.filled r first (taken ++ map named_chunk (filter is_chunk (bytes_of_all c.args.chunks.items))) gone (c.in-Ok.ensures.placed r first taken gone h))
