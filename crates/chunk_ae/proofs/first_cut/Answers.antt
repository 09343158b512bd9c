use Rattle.std.proofs.Common.{[]}
use Rattle.chunk_ae.proofs.CutterLemmas.{first-whole, first-open}
use Rattle.chunk_ae.proofs.first_cut.Goals as goal

pub returns-in-End : goal.returns-in-End
returns-in-End c = first-whole c.args.window c.args.max c.in-End.taken c.args.bytes.now (c.in-End.ensures [] (c.new-start.ensures c.args.max c.requires.less))

pub returns-in-Open : goal.returns-in-Open
returns-in-Open c = first-open c.args.window c.args.max c.args.bytes.now c.in-Open.field-0 (c.in-Open.ensures [] (c.new-start.ensures c.args.max c.requires.less))
