use Rattle.std.proofs.Common.{◌≡◌, ap, ◌∙◌, sym, refl, inl, Some}
use Rattle.std.specs.Prelude.{unwrap_or, IsSome}
use Rattle.vault_types.specs.declared.How.TheVariants.{Own}
use Rattle.container_fill.specs.Filling.{taken_by}
use Rattle.container_fill.proofs.FillerLemmas.{row-old, row-own, on_ok, there}
use Rattle.container_fill.proofs.filler.Filler.row.Goals as goal

pub returns-in-Some-clause-filled : goal.returns-in-Some-clause-filled
returns-in-Some-clause-filled c =
    rw c.in-Some.is
    (on_ok c.add_row.result c.add_row.ensures (λ e. row-old c.args.self.now c.add_row.new.self c.args.fp.now c.in-Some.id c.args.len e))

pub returns-clause-filled : goal.returns-clause-filled
returns-clause-filled c =
    let some : IsSome (taken_by c.args.self.now c.args.fp.now) = c.requires.written c.in_default.is in
    let id : c.unwrap_or-id.result ≡ unwrap_or (taken_by c.args.self.now c.args.fp.now) 0 = c.unwrap_or-id.ensures ∙ ap (λ o. unwrap_or o 0) c.place.ensures in
    let here : taken_by c.args.self.now c.args.fp.now ≡ Some c.unwrap_or-id.result = there _ some ∙ ap Some (sym id) in
    rw c.in_default.is
    (on_ok c.add_row-2.result c.add_row-2.ensures (λ e. row-own c.args.self.now c.add_row-2.new.self c.args.fp.now c.unwrap_or-id.result c.args.len Own (inl refl) here e))
