use Rattle.std.proofs.Common.{◌∙◌, sym, drop}
use Rattle.std.proofs.lemmas.Result.{on_ok_weaker, IfErr-weaker}
use Rattle.restore_assembler.proofs.Copied.{known_loaded, has_copied_more, has_copied_checked, whole_right, whole_wrong, taken_front, on_ok_from, wanted_some, steps_behind, spots_stay, rose_later, whole_stays, summing_stays, late_stays, behind_checked}
use Rattle.restore_assembler.proofs.progress.Progress.give.Goals as goal

pub returns-in-Err-clause-err : goal.returns-in-Err-clause-err
returns-in-Err-clause-err g c = λ f before copied given.
    let told = g.K.Sink.told in
    let known = known_loaded f c.args.self.now c.load.new.self c.in-Some.id c.args.payload c.load.ensures.present (sym c.wanted.ensures.next ∙ c.in-Some.is) given copied.known in
    taken_front f before (told c.args.sink.now) (told c.advance.new.sink) c.args.self.now c.load.new.self 0 copied c.load.ensures.stays (c.in-Err.ensures.err f known)

pub returns-in-Err-clause-later : goal.returns-in-Err-clause-later
returns-in-Err-clause-later g c = rose_later _ _ c.in-Err.ensures.failed

pub returns-clause-ok : goal.returns-clause-ok
returns-clause-ok g c = on_ok_from c.check.result (λ f before copied given.
    let told = g.K.Sink.told in
    let known = known_loaded f c.args.self.now c.load.new.self c.in-Some.id c.args.payload c.load.ensures.present (sym c.wanted.ensures.next ∙ c.in-Some.is) given copied.known in
    has_copied_checked f before (told c.advance.new.sink) c.advance.new.self c.check.new.self c.check.ensures.stays c.check.ensures.early c.check.ensures.late
    (has_copied_more f before (told c.args.sink.now) (told c.advance.new.sink) c.args.self.now c.load.new.self c.advance.new.self copied c.load.ensures.stays known c.in_default-advance.ensures.advances))

pub returns-clause-behind : goal.returns-clause-behind
returns-clause-behind g c =
    let told = g.K.Sink.told in
    let p = c.args.self.now in
    on_ok_from c.check.result (behind_checked c.advance.new.self c.check.new.self (drop p.step p.steps.items) c.check.ensures.stays
    (steps_behind p c.load.new.self c.advance.new.self (told c.args.sink.now) (told c.advance.new.sink) c.load.ensures.stays c.in_default-advance.ensures.advances))

pub returns-clause-sum : goal.returns-clause-sum
returns-clause-sum g c =
    let told = g.K.Sink.told in
    let p = c.args.self.now in
    let q = c.load.new.self in
    let r = c.advance.new.self in
    let advances = c.in_default-advance.ensures.advances in
    let wants = sym c.wanted.ensures.next ∙ c.in-Some.is in
    let spots = spots_stay p q r (told c.args.sink.now) (told c.advance.new.sink) c.load.ensures.stays advances in
    let whole = whole_stays p q r.whole c.load.ensures.stays c.advance.ensures.whole in
    let summing = summing_stays p q r (told c.args.sink.now) (told c.advance.new.sink) c.load.ensures.stays advances whole (c.requires.summing (wanted_some p c.in-Some.id wants)) in
    on_ok_weaker c.check.result (λ right f before copied given late.
    let known = known_loaded f p q c.in-Some.id c.args.payload c.load.ensures.present wants given copied.known in
    let long = late_stays r c.check.new.self p.spots.items c.check.ensures.stays spots late in
    whole_right f before (told c.advance.new.sink) r p.spots.items p.whole spots whole long
    (has_copied_more f before (told c.args.sink.now) (told c.advance.new.sink) p q r copied c.load.ensures.stays known advances)
    (right long summing)) c.check.ensures.ok

pub returns-clause-err : goal.returns-clause-err
returns-clause-err g c =
    let told = g.K.Sink.told in
    let p = c.args.self.now in
    let q = c.load.new.self in
    let r = c.advance.new.self in
    let advances = c.in_default-advance.ensures.advances in
    let wants = sym c.wanted.ensures.next ∙ c.in-Some.is in
    let spots = spots_stay p q r (told c.args.sink.now) (told c.advance.new.sink) c.load.ensures.stays advances in
    IfErr-weaker c.check.result _ _ (λ e wrong f before copied given.
    let known = known_loaded f p q c.in-Some.id c.args.payload c.load.ensures.present wants given copied.known in
    whole_wrong f before (told c.advance.new.sink) r p.spots.items wrong.1.number wrong.1.want wrong.2 e spots wrong.0
    (has_copied_more f before (told c.args.sink.now) (told c.advance.new.sink) p q r copied c.load.ensures.stays known advances)
    wrong.5 wrong.6) c.check.ensures.err
