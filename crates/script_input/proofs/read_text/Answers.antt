use Rattle.std.proofs.Common.{◌+◌, arith}
use Rattle.script_input.proofs.Texts.{at_most_then, refused_again, later_fault}
use Rattle.script_input.proofs.read_text.Goals as goal

pub returns-in_err-read_piece-clause-err : goal.returns-in_err-read_piece-clause-err
returns-in_err-read_piece-clause-err g c =
    refused_again _ c.from_residual.result c.in_err-read_piece.field-0.0 c.from_residual.ensures.1
    (later_fault c.args.limit (g.I.Source.told c.args.input.now) (g.I.Source.told c.loop-turn.input) (g.I.Source.told c.read_piece.new.input) c.loop-turn.text.items c.in_err-read_piece.field-0.0 c.loop-turn.invariant.given c.in_err-read_piece.ensures.err)

pub returns-in_err-read_piece-clause-bound : goal.returns-in_err-read_piece-clause-bound
returns-in_err-read_piece-clause-bound g c =
    at_most_then (g.I.Source.told c.args.input.now) (g.I.Source.told c.loop-turn.input) (g.I.Source.told c.read_piece.new.input) c.loop-turn.text.items _ (c.args.limit + 1) c.loop-turn.invariant.given c.read_piece.ensures.bound
    (omega (arith, c.len.ensures, c.loop-turn.invariant.few))

pub returns-then-len-most-clause-bound : goal.returns-then-len-most-clause-bound
returns-then-len-most-clause-bound g c =
    at_most_then (g.I.Source.told c.args.input.now) (g.I.Source.told c.loop-turn.input) (g.I.Source.told c.read_piece.new.input) c.loop-turn.text.items _ (c.args.limit + 1) c.loop-turn.invariant.given c.read_piece.ensures.bound
    (omega (arith, c.len.ensures, c.loop-turn.invariant.few))
