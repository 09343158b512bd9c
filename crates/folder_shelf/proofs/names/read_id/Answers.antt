use Rattle.folder_shelf.proofs.Named.{at_length}
use Rattle.folder_shelf.proofs.names.read_id.Goals as goal

pub returns : goal.returns
returns c = at_length 16 c.args.tail.now c.read_hex.result c.if-tail-ne16.false c.read_hex.ensures.found
