use Rattle.backup_lines.proofs.Following.{backup_follows}
use Rattle.backup_lines.proofs.Lines.{backs_up_line}
use Rattle.backup_lines.proofs.backups_are_their_lines.Goals as goal

pub returns-clause-line : goal.returns-clause-line
returns-clause-line c = backs_up_line

pub returns-clause-follows : goal.returns-clause-follows
returns-clause-follows c = backup_follows
