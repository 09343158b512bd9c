use Rattle.std.proofs.Common.{rules, ◌≡◌, ℕ, List, sym, ap, subst, ◌∙◌}
use Rattle.vault_types.specs.declared.Answer.TheVariants.{Refused}
use Rattle.vault_traits.specs.Files.{ChangesOnly, IsWhatWasTaken}
use Rattle.store_model.specs.Calls.{restore_answer}
use Rattle.store_model.specs.Steps.{write_numbered}
use Rattle.keeper_core.specs.Releases.{Releases}
use Rattle.restore_ends.specs.Results.{HasReplied, result_of}
use Rattle.beside_steps.specs.Holding.{BesideView}
use Rattle.beside_steps.proofs.Going.{has_answered, holds_ended}
use Rattle.beside_steps.proofs.restores.end_restore.Goals as goal

pub returns-in-Ok-clause-ends : goal.returns-in-Ok-clause-ends
returns-in-Ok-clause-ends g c =
    let v = c.args.keeper.now in
    let x = c.end-result.new.keeper in
    let p = g.P.Places.told c.args.places.now in
    let q = g.P.Places.told c.close_sink.new.self in
    let w = g.P.Writer.Sink.told c.end-result.result.1 in
    let k = c.close_sink.ensures in
    let named : c.as_str.result.now ≡ c.args.entry.name = search rules in
    let came : c.end-result.result.0 ≡ result_of c.args.entry.restore.set c.args.entry.restore.version c.args.entry.restore.ids c.args.reply =
    subst (λ (e : BesideView). c.end-result.result.0 ≡ result_of e.restore.set e.restore.version e.restore.ids c.args.reply) c.entry.view_is c.end-result.ensures.result in
    has_answered v x p q c.args.entry w (subst (λ (e : BesideView). Releases e.restore.number v x) c.entry.view_is c.end-result.ensures.released)
    (subst (λ (n : List ℕ). ChangesOnly p.files q.files n (IsWhatWasTaken w.taken)) named k.files)
    c.args.limits.now c.args.reply c.requires.one (subst (λ (e : BesideView). HasReplied e.restore.first e.restore.sent c.args.reply w) c.entry.view_is c.end-result.ensures.replied)
    k.faults k.read_faults k.write_faults c.in-Ok.answer (ap (restore_answer q.write_faults) (sym came ∙ c.in-Ok.is))

pub returns-clause-ends : goal.returns-clause-ends
returns-clause-ends g c =
    let v = c.args.keeper.now in
    let x = c.end-result.new.keeper in
    let p = g.P.Places.told c.args.places.now in
    let q = g.P.Places.told c.close_sink.new.self in
    let w = g.P.Writer.Sink.told c.end-result.result.1 in
    let k = c.close_sink.ensures in
    let named : c.as_str.result.now ≡ c.args.entry.name = search rules in
    let came : c.end-result.result.0 ≡ result_of c.args.entry.restore.set c.args.entry.restore.version c.args.entry.restore.ids c.args.reply =
    subst (λ (e : BesideView). c.end-result.result.0 ≡ result_of e.restore.set e.restore.version e.restore.ids c.args.reply) c.entry.view_is c.end-result.ensures.result in
    has_answered v x p q c.args.entry w (subst (λ (e : BesideView). Releases e.restore.number v x) c.entry.view_is c.end-result.ensures.released)
    (subst (λ (n : List ℕ). ChangesOnly p.files q.files n (IsWhatWasTaken w.taken)) named k.files)
    c.args.limits.now c.args.reply c.requires.one (subst (λ (e : BesideView). HasReplied e.restore.first e.restore.sent c.args.reply w) c.entry.view_is c.end-result.ensures.replied)
    k.faults k.read_faults k.write_faults (Refused c.with_write_number.result)
    (ap (restore_answer q.write_faults) (sym came ∙ c.in-Err.is) ∙ ap Refused (sym (c.with_write_number.ensures ∙ ap (λ (n : ℕ). write_numbered n c.in-Err.fault) c.write_faults.ensures)))

pub returns-in-Ok-clause-holds : goal.returns-in-Ok-clause-holds
returns-in-Ok-clause-holds g c first others h =
    let v = c.args.keeper.now in
    let x = c.end-result.new.keeper in
    let p = g.P.Places.told c.args.places.now in
    let q = g.P.Places.told c.close_sink.new.self in
    let w = g.P.Writer.Sink.told c.end-result.result.1 in
    let named : c.as_str.result.now ≡ c.args.entry.name = search rules in
    holds_ended v x p q c.args.entry w (subst (λ (e : BesideView). Releases e.restore.number v x) c.entry.view_is c.end-result.ensures.released)
    (subst (λ (n : List ℕ). ChangesOnly p.files q.files n (IsWhatWasTaken w.taken)) named c.close_sink.ensures.files) first others h

pub returns-clause-holds : goal.returns-clause-holds
returns-clause-holds g c first others h =
    let v = c.args.keeper.now in
    let x = c.end-result.new.keeper in
    let p = g.P.Places.told c.args.places.now in
    let q = g.P.Places.told c.close_sink.new.self in
    let w = g.P.Writer.Sink.told c.end-result.result.1 in
    let named : c.as_str.result.now ≡ c.args.entry.name = search rules in
    holds_ended v x p q c.args.entry w (subst (λ (e : BesideView). Releases e.restore.number v x) c.entry.view_is c.end-result.ensures.released)
    (subst (λ (n : List ℕ). ChangesOnly p.files q.files n (IsWhatWasTaken w.taken)) named c.close_sink.ensures.files) first others h
