use Rattle.std.proofs.Common.{◌≡◌, ◌++◌, [], List, ◌∙◌, ap, sym, refl, subst, Option}
use Rattle.restore_stage.specs.declared.Reply.{Reply}
use Rattle.stage_flows.specs.Runs.{held}
use Rattle.restore_stage.specs.Assembling.{Assembling, IsSame}
use Rattle.restore_stage.proofs.Takes.{took}
use Rattle.restore_stage.proofs.AssemblerStage.turn.Goals as goal

pub returns-in-Some-take-clause-same : goal.returns-in-Some-take-clause-same
returns-in-Some-take-clause-same g c =
    let s = c.self.inside in
    let told = g.K.Sink.told in
    let a : Assembling = record { copying = s.copier; sink = told s.sink; bytes = s.bytes; loads = s.loads; reply = s.reply; ready = held s.ready } in
    let b : Assembling = record { copying = c.see-self-inside.new.copier; sink = told c.see-self-inside.new.sink; bytes = s.bytes; loads = c.take-in-Some-wants.new.self; reply = s.reply; ready = held c.see-self-inside.result } in
    let unsent : s.reply.sent ≡ [] = c.self.invariant.0 c.if-self.false in
    let unready : held s.ready ≡ [] = ap (λ (o : Option Reply). held o) (sym c.take.ensures.value ∙ c.in-None.is) in
    let none : s.reply.sent ++ held s.ready ≡ [] = ap (λ (xs : List Reply). xs ++ held s.ready) unsent ∙ unready in
    let says : s.reply.sent ++ held c.see-self-inside.result ≡ held c.see-self-inside.result = ap (λ (xs : List Reply). xs ++ held c.see-self-inside.result) unsent in
    subst (λ (v : Assembling). IsSame v b) c.self.view_is
    (took a c.in-Some-wants.id c.in-Some-take.item c.see-self-inside.new.copier (told c.see-self-inside.new.sink) c.see-self-inside.result none (sym c.in-Some-wants.ensures.next) c.see-self-inside.ensures
    b refl refl refl (ap (λ p. p.line) c.in-Some-take.ensures.taken) (ap (λ p. p.taken) c.in-Some-take.ensures.taken) refl says)
