use Rattle.std.proofs.Common.{◌≡◌, ◌≤◌, ◌++◌, ◌∙◌, ℕ, List, length, take, drop, ap, sym, arith}
use Rattle.std.specs.List.{concat}
use Rattle.vault_gates.specs.Streams.{GatedGiving, first_piece, once_given}
use Rattle.vault_gates.proofs.Started.{given_front, copied_front}
use Rattle.vault_gates.proofs.sources.GateSource.give.Goals as goal

pub returns-clause-given : goal.returns-clause-given
returns-clause-given c =
    let within : c.min-n.result ≤ length c.next-piece.result.now = omega (arith, c.min-n.ensures) in
    let copied : take c.min-n.result (c.copy_from_slice.new.self ++ drop c.min-n.result c.args.buf.now) ≡ take c.min-n.result (first_piece c.self.inside.pieces) =
    copied_front c.min-n.result c.next-piece.result.now c.copy_from_slice.new.self (drop c.min-n.result c.args.buf.now) within c.copy_from_slice.ensures.after
    ∙ ap (λ (l : List ℕ). take c.min-n.result l) c.next-piece.ensures.next in
    ap (λ (s : GatedGiving). concat s.pieces) (sym c.self.view_is)
    ∙ given_front c.min-n.result c.self.inside.pieces
    ∙ ap (λ (l : List ℕ). l ++ concat (once_given c.min-n.result c.self.inside.pieces)) (sym copied)
    ∙ ap (λ (ps : List (List ℕ)). take c.min-n.result (c.copy_from_slice.new.self ++ drop c.min-n.result c.args.buf.now) ++ concat ps) (sym c.advance.ensures)
