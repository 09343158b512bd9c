use Rattle.std.proofs.Common.{sym, ap, subst}
use Rattle.set_markers.specs.SetMarkers.{Marked, AreMarkersOfSets}
use Rattle.keeper_catalog.specs.Catalog.{Memo}
use Rattle.keeper_jobs.proofs.noting.prepare.Goals as goal

pub returns-in_err-make_spare-clause-markers : goal.returns-in_err-make_spare-clause-markers
returns-in_err-make_spare-clause-markers c marks h =
    subst (λ (m : Marked). AreMarkersOfSets m marks) (sym c.in_err-make_spare.ensures.same.2) (c.in_ok-reserve.ensures.same marks h)

pub returns-in_err-make_room-clause-markers : goal.returns-in_err-make_room-clause-markers
returns-in_err-make_room-clause-markers c marks h =
    subst (λ (m : Marked). AreMarkersOfSets m marks) (sym (ap (λ (m : Memo). m.markers) c.in_err-make_room.ensures.same))
    (subst (λ (m : Marked). AreMarkersOfSets m marks) (sym c.in_ok-make_spare.ensures.same.2) (c.in_ok-reserve.ensures.same marks h))

pub returns-in_err-blob-clause-markers : goal.returns-in_err-blob-clause-markers
returns-in_err-blob-clause-markers c marks h =
    subst (λ (m : Marked). AreMarkersOfSets m marks) (sym (ap (λ (m : Memo). m.markers) c.in_ok-make_room.ensures.same))
    (subst (λ (m : Marked). AreMarkersOfSets m marks) (sym c.in_ok-make_spare.ensures.same.2) (c.in_ok-reserve.ensures.same marks h))

pub returns-in_err-add_tables-clause-markers : goal.returns-in_err-add_tables-clause-markers
returns-in_err-add_tables-clause-markers c marks h =
    subst (λ (m : Marked). AreMarkersOfSets m marks) (sym (ap (λ (m : Memo). m.markers) c.in_ok-make_room.ensures.same))
    (subst (λ (m : Marked). AreMarkersOfSets m marks) (sym c.in_ok-make_spare.ensures.same.2) (c.in_ok-reserve.ensures.same marks h))

pub returns-clause-markers : goal.returns-clause-markers
returns-clause-markers c marks h =
    subst (λ (m : Marked). AreMarkersOfSets m marks) (sym (ap (λ (m : Memo). m.markers) c.in_ok-make_room.ensures.same))
    (subst (λ (m : Marked). AreMarkersOfSets m marks) (sym c.in_ok-make_spare.ensures.same.2) (c.in_ok-reserve.ensures.same marks h))
