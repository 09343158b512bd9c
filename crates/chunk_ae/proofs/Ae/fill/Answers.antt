use Rattle.std.proofs.Common.{◌≡◌, ℕ, List, ◌++◌, length, refl, ap, ◌∙◌, arith}
use Rattle.std.proofs.lemmas.Grind.{common_steps}
use Rattle.vault_types.specs.Feeds.{held_bytes}
use Rattle.chunk_ae.specs.Scans.{IsScan}
use Rattle.chunk_ae.proofs.CutterLemmas.{kept-by, nothing_more}
use Rattle.chunk_ae.proofs.Ae.fill.Goals as goal

pub returns-then-is_empty : goal.returns-then-is_empty
returns-then-is_empty c =
    let none : length c.args.piece.now ≡ 0 = grind (arith, common_steps) in
    kept-by c.args.self.now c.args.self.now c.self.inside.window c.self.inside.max (held_bytes c.self.inside.held) (held_bytes c.self.inside.held) c.args.piece.now c.self.inside.scan
    c.self.view_is c.self.view_is (c.self.invariant.0, c.self.invariant.1, c.self.invariant.2) c.self.invariant.3 (nothing_more (held_bytes c.self.inside.held) c.args.piece.now none)

pub invariant_of-self : goal.invariant_of-self
invariant_of-self c = (c.self.invariant.0, c.self.invariant.1, c.self.invariant.2, rw c.take-held.ensures.after (c.new-self-inside.ensures c.self.inside.max c.self.invariant.1))

pub invariant_of-self-in-End : goal.invariant_of-self-in-End
invariant_of-self-in-End c = (c.self.invariant.0, c.self.invariant.1, c.self.invariant.2, rw c.take-held.ensures.after (c.new-self-inside.ensures c.self.inside.max c.self.invariant.1))

pub invariant_of-self-in_err-extended-in-Open : goal.invariant_of-self-in_err-extended-in-Open
invariant_of-self-in_err-extended-in-Open c = (c.self.invariant.0, c.self.invariant.1, c.self.invariant.2, rw c.take-held.ensures.after (c.new-self-inside.ensures c.self.inside.max c.self.invariant.1))

pub returns-in_ok-extended-in-Open : goal.returns-in_ok-extended-in-Open
returns-in_ok-extended-in-Open c =
    let held : List ℕ = held_bytes c.self.inside.held in
    let bytes : c.in_ok-extended-in-Open.field-0.items ≡ held ++ c.args.piece.now = c.in_ok-extended-in-Open.ensures ∙ ap (λ h. held_bytes h ++ c.args.piece.now) c.take-held.ensures.value in
    let scan : IsScan c.self.inside.window c.self.inside.max (held ++ c.args.piece.now) c.in-Open.next = c.in-Open.ensures held c.self.invariant.3 in
    kept-by c.args.self.now _ c.self.inside.window c.self.inside.max held c.in_ok-extended-in-Open.field-0.items c.args.piece.now c.in-Open.next
    c.self.view_is refl (c.self.invariant.0, c.self.invariant.1, c.self.invariant.2) (rw bytes scan) bytes
