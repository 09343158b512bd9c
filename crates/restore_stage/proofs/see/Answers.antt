use Rattle.std.proofs.Common.{ℕ, List, inl, inr, refl, subst}
use Rattle.restore_assembler.specs.Payloads.{Covers}
use Rattle.restore_stage.proofs.Takes.{gave, gave_up, not_covered, unwanted}
use Rattle.restore_stage.proofs.see.Goals.{then-given-id-via-then-given-id, then-given-id-via-else-given-id+then-not-covers}
use Rattle.restore_stage.proofs.see.Goals as goal

pub returns-in-Ok : goal.returns-in-Ok
returns-in-Ok g c =
    let o = c.in-Ok.ensures in
    gave c.args.id c.args.item c.in-Payload.field-0 c.args.copier.now c.give.new.self (g.K.Sink.told c.args.sink.now) (g.K.Sink.told c.give.new.sink) c.in-Payload.field-0.bytes.items
    c.in-Payload.is refl c.if-given-id.false c.requires
    o.spots o.whole o.later o.loads o.behind o.ok o.sum

pub returns-in-Err : goal.returns-in-Err
returns-in-Err g c =
    let o = c.in-Err.ensures in
    gave_up c.args.id c.args.item c.in-Payload.field-0 c.args.copier.now c.give.new.self (g.K.Sink.told c.args.sink.now) (g.K.Sink.told c.give.new.sink) c.in-Payload.field-0.bytes.items
    c.in-Payload.is refl c.if-given-id.false c.requires
    c.in-Err.fault o.spots o.whole o.later o.cause o.err

pub returns-then-given-id : goal.returns-then-given-id
returns-then-given-id g c =
    unwanted c.args.id c.args.item c.in-Payload.field-0 c.args.copier.now (g.K.Sink.told c.args.sink.now) c.in-Payload.is
    (elim c.then-given-id.branch [
      | then-given-id-via-then-given-id w ↦ inl w.if-given-id.true
      | then-given-id-via-else-given-id+then-not-covers w ↦ inr (subst (λ (b : List ℕ). Covers c.args.id b c.args.copier.now.spots → ⊥) w.deref.ensures.value (not_covered c.args.id c.args.copier.now w.deref.result.now w.covers.result c.requires w.covers.ensures w.if-not-covers.true))
    ])
