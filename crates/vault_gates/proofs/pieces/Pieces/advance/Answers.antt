use Rattle.std.proofs.Common.{◌<◌, ◌≤◌, ◌+◌, ◌∙◌, ℕ, List, length, drop, ap, sym, subst, arith}
use Rattle.vault_gates.specs.Streams.{first_piece, once_given}
use Rattle.vault_gates.specs.Pieces.{pieces_left}
use Rattle.vault_gates.proofs.Started.{next_started, given_within, still_given}
use Rattle.vault_gates.proofs.pieces.Pieces.advance.Goals as goal

pub invariant_of-self : goal.invariant_of-self
invariant_of-self c = (omega arith, next_started c.self.inside.at c.self.inside.given c.self.inside.list.items c.self.invariant.1)

pub returns-else-self-len-2 : goal.returns-else-self-len-2
returns-else-self-len-2 c =
    let at : c.self.inside.at < length c.self.inside.list.items = omega arith in
    let few : c.args.n ≤ length (first_piece (pieces_left c.self.inside.given (drop c.self.inside.at c.self.inside.list.items))) =
    subst (λ (l : List (List ℕ)). c.args.n ≤ length (first_piece l)) (sym c.self.view_is) c.requires in
    let reached : c.self.inside.given + c.args.n ≤ length c.index.result.now.items = given_within c.self.inside.at c.self.inside.given c.args.n c.self.inside.list.items c.index.result.now at c.index.ensures c.self.invariant.1 few in
    let within : c.self.inside.given + c.args.n < length c.index.result.now.items = omega arith in
    still_given c.self.inside.at c.self.inside.given c.args.n c.self.inside.list.items c.index.result.now at c.index.ensures within
    ∙ ap (λ (l : List (List ℕ)). once_given c.args.n l) c.self.view_is
