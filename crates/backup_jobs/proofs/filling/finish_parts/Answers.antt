use Rattle.std.proofs.Common.{map}
use Rattle.vault_types.specs.declared.How.{How}
use Rattle.vault_types.specs.Names.{NamedChunk}
use Rattle.std.specs.Prelude.{option_to_list}
use Rattle.backup_jobs.specs.Going.{chunks_of}
use Rattle.backup_jobs.proofs.Chunks.{hows}
use Rattle.backup_jobs.proofs.Parts.{all_of_job, all_put, filled_all, all_in_turn}
use Rattle.backup_jobs.proofs.filling.finish_parts.Goals as goal

pub returns-clause-given : goal.returns-clause-given
returns-clause-given c b gone parts h = all_of_job b c.args.filler gone (option_to_list c.finish-last.result.last) parts h (c.finish-last.ensures.filled b.first gone _ _ h.filled).containers_are

pub returns-clause-made : goal.returns-clause-made
returns-clause-made c b gone parts read h are now lens put =
    all_put b c.args.filler gone parts h read are (option_to_list c.finish-last.result.last) _
    (c.finish-last.ensures.in_turn b.first gone (chunks_of b.config read) (hows b read) (filled_all b c.args.filler gone parts h read are) (all_in_turn b c.args.filler gone parts h read are)) now lens put
