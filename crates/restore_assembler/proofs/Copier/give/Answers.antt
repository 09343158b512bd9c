use Rattle.std.proofs.Common.{arith, ℕ, List, Vec, Global, length, ap, ◌≡◌, subst, None, IfSome, OnOk, IfErr}
use Rattle.std.proofs.lemmas.Result.{on_ok_weaker}
use Rattle.vault_types.specs.declared.Spot.{Spot}
use Rattle.vault_types.specs.Names.{fp}
use Rattle.vault_traits.specs.Told.{SinkTold}
use Rattle.restore_assembler.specs.Copying.{Copying, wanted, HasCopied, IsTakenAt, version_bytes}
use Rattle.restore_assembler.specs.Progress.{seen_of}
use Rattle.restore_assembler.proofs.Copied.{none_left}
use Rattle.restore_assembler.proofs.Copier.give.Goals as goal

pub returns-clause-ok : goal.returns-clause-ok
returns-clause-ok g c =
    let told = g.K.Sink.told in
    subst (λ (s : Copying). OnOk c.give.result ((payloads : ℕ → List ℕ) (before : SinkTold) → HasCopied payloads before (told c.args.sink.now) s
    → IfSome (wanted s) (λ id. c.args.payload.items ≡ payloads id) → HasCopied payloads before (told c.give.new.sink) (seen_of c.give.new.self))) c.self.view_is c.give.ensures.ok

pub returns-clause-sum : goal.returns-clause-sum
returns-clause-sum g c =
    let told = g.K.Sink.told in
    subst (λ (s : Copying). OnOk c.give.result ((payloads : ℕ → List ℕ) (before : SinkTold) → HasCopied payloads before (told c.args.sink.now) s
    → IfSome (wanted s) (λ id. c.args.payload.items ≡ payloads id) → wanted (seen_of c.give.new.self) ≡ None → IfSome s.whole (λ whole. fp (version_bytes payloads s.spots) ≡ whole.want))) c.self.view_is
    (on_ok_weaker c.give.result (λ sum f before copied given over. sum f before copied given (omega (arith, none_left c.give.new.self c.give.ensures.ready over, ap (λ (v : Vec Spot Global). length v.items) c.give.ensures.same.0))) c.give.ensures.sum)

pub returns-clause-err : goal.returns-clause-err
returns-clause-err g c =
    let told = g.K.Sink.told in
    subst (λ (s : Copying). IfErr c.give.result (λ e. (payloads : ℕ → List ℕ) (before : SinkTold) → HasCopied payloads before (told c.args.sink.now) s
    → IfSome (wanted s) (λ id. c.args.payload.items ≡ payloads id) → IsTakenAt (version_bytes payloads s.spots) before (told c.give.new.sink) e)) c.self.view_is c.give.ensures.err
