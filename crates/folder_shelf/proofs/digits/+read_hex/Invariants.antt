use Rattle.std.proofs.Common.{length}
use Rattle.folder_shelf.proofs.digits.+read_hex.Given as goal

abbrev pub decreases-read_hex : goal.decreases-read_hex
decreases-read_hex l = length l.text.now
