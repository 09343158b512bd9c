use Rattle.std.proofs.Common.{◌≡◌, sym, ap, ◌∙◌, subst, arith, Some, is_some, inr}
use Rattle.fp_index.proofs.Entries.{ids_in-at, ids_in-none, IsUpdated, ids-same, takes-written, takes-grown, takes-kept}
use Rattle.fp_index.proofs.lists.make_room_at.Goals as goal

pub returns-in_err-reserve-in-Some-clause-same : goal.returns-in_err-reserve-in-Some-clause-same
returns-in_err-reserve-in-Some-clause-same c =
    let old = c.args.containers.now.entries in
    let new = (c.get_mut.follows.lender c.reserve.new.self).entries in
    let updated : IsUpdated old new c.args.fp.now (Some c.reserve.new.self) = ((c.get_mut.follows.holds c.reserve.new.self).3 (ap is_some (sym c.in-Some.ensures.value))).0 in
    ids-same old new c.args.fp.now (Some c.reserve.new.self) updated (c.reserve.ensures.items ∙ sym (ids_in-at old c.args.fp.now c.in-Some.ids.now (sym c.in-Some.ensures.value)))

pub returns-in_ok-reserve-in-Some-clause-same : goal.returns-in_ok-reserve-in-Some-clause-same
returns-in_ok-reserve-in-Some-clause-same c =
    let old = c.args.containers.now.entries in
    let new = (c.get_mut.follows.lender c.reserve.new.self).entries in
    let updated : IsUpdated old new c.args.fp.now (Some c.reserve.new.self) = ((c.get_mut.follows.holds c.reserve.new.self).3 (ap is_some (sym c.in-Some.ensures.value))).0 in
    ids-same old new c.args.fp.now (Some c.reserve.new.self) updated (c.reserve.ensures.items ∙ sym (ids_in-at old c.args.fp.now c.in-Some.ids.now (sym c.in-Some.ensures.value)))

pub returns-in_err-reserve-in-Some-clause-others : goal.returns-in_err-reserve-in-Some-clause-others
returns-in_err-reserve-in-Some-clause-others c =
    let old = c.args.containers.now.entries in
    let new = (c.get_mut.follows.lender c.reserve.new.self).entries in
    let updated : IsUpdated old new c.args.fp.now (Some c.reserve.new.self) = ((c.get_mut.follows.holds c.reserve.new.self).3 (ap is_some (sym c.in-Some.ensures.value))).0 in
    takes-kept old new c.args.id c.args.fp.now c.in-Some.ids.now c.reserve.new.self (sym c.in-Some.ensures.value) updated
    (takes-grown c.args.id c.in-Some.ids.now c.reserve.new.self c.reserve.ensures.items c.reserve.ensures.len c.reserve.ensures.capacity)

pub returns-in_ok-reserve-in-Some-clause-others : goal.returns-in_ok-reserve-in-Some-clause-others
returns-in_ok-reserve-in-Some-clause-others c =
    let old = c.args.containers.now.entries in
    let new = (c.get_mut.follows.lender c.reserve.new.self).entries in
    let updated : IsUpdated old new c.args.fp.now (Some c.reserve.new.self) = ((c.get_mut.follows.holds c.reserve.new.self).3 (ap is_some (sym c.in-Some.ensures.value))).0 in
    takes-kept old new c.args.id c.args.fp.now c.in-Some.ids.now c.reserve.new.self (sym c.in-Some.ensures.value) updated
    (takes-grown c.args.id c.in-Some.ids.now c.reserve.new.self c.reserve.ensures.items c.reserve.ensures.len c.reserve.ensures.capacity)

pub returns-in_ok-insert-in-None-clause-same : goal.returns-in_ok-insert-in-None-clause-same
returns-in_ok-insert-in-None-clause-same c =
    let old = c.args.containers.now.entries in
    let same : c.get_mut.follows.lender-at-none.entries ≡ old = ap (λ m. m.entries) c.get_mut.follows.holds-at-none in
    let updated : IsUpdated old c.insert.new.self.entries c.args.fp.now (Some c.in_ok-ids-in-None.ids) =
    subst (λ es. IsUpdated es c.insert.new.self.entries c.args.fp.now (Some c.in_ok-ids-in-None.ids)) same c.in_ok-insert-in-None.ensures.updates.0 in
    ids-same old c.insert.new.self.entries c.args.fp.now (Some c.in_ok-ids-in-None.ids) updated
    (c.in_ok-ids-in-None.ensures.items ∙ sym (ids_in-none old c.args.fp.now (sym c.in-None.ensures.value)))

pub returns-in_ok-insert-in-None-clause-others : goal.returns-in_ok-insert-in-None-clause-others
returns-in_ok-insert-in-None-clause-others c =
    let old = c.args.containers.now.entries in
    let same : c.get_mut.follows.lender-at-none.entries ≡ old = ap (λ m. m.entries) c.get_mut.follows.holds-at-none in
    let updated : IsUpdated old c.insert.new.self.entries c.args.fp.now (Some c.in_ok-ids-in-None.ids) =
    subst (λ es. IsUpdated es c.insert.new.self.entries c.args.fp.now (Some c.in_ok-ids-in-None.ids)) same c.in_ok-insert-in-None.ensures.updates.0 in
    takes-written old c.insert.new.self.entries c.args.id c.args.fp.now c.in_ok-ids-in-None.ids updated
    (inr (omega (arith, c.in_ok-ids-in-None.ensures.exact, c.in_ok-ids-in-None.ensures.len)))
