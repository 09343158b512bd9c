use Rattle.backup_lines.proofs.Following.{backup_follows}
use Rattle.backup_lines.proofs.Lines.{backs_up_line}
use Rattle.pipe_backup.proofs.line.backup_line_piped.Goals as goal

pub returns-clause-line : goal.returns-clause-line
returns-clause-line g c = backs_up_line _ _ _ _ _ _ _ _ c.keeps_some_core.ensures c.requires.config.cutting c.backup_piped.ensures

pub returns-clause-same : goal.returns-clause-same
returns-clause-same g c = (c.backup_piped.ensures.idle, c.backup_piped.ensures.pins)

pub returns-clause-follows : goal.returns-clause-follows
returns-clause-follows g c = backup_follows _ _ _ _ _ _ _ _ c.backup_piped.ensures
