-- What is in memory and on the shelf behind a release.
use Rattle.std.proofs.Common.{◌≡◌, ◌⊎◌, inl, inr, ⊎_elim, ℕ, map, length, Bool, true, ◌&&◌, not, List, ◌++◌, drop, Option, refl, sym, ◌∙◌, ap, subst}
use Rattle.std.specs.Prelude.{Contains, IsSome, option_map}
use Rattle.std.proofs.lemmas.List.Elements.{Contains-append_left, Contains-append_right, Contains-append_cases}
use Rattle.std.proofs.Math.Seq.{drop-append_seam}
use Rattle.vault_types.specs.declared.Name.{Name}
use Rattle.vault_types.specs.declared.Table.{Table}
use Rattle.vault_types.specs.Lists.{has}
use Rattle.vault_types.specs.Marks.{Mark, marked_ids}
use Rattle.vault_types.specs.Tables.{Container, id_of}
use Rattle.vault_types.specs.State.{named, container_in}
use Rattle.vault_types.specs.Shelf.{Blobs}
use Rattle.vault_types.specs.Events.{Core, put_by, pinned_containers, pins_without, after_release}
use Rattle.set_markers.specs.SetMarkers.{AreMarkersOfSets}
use Rattle.restore_pins.specs.Pins.{Listed, ids_at, listed_ids, AreListsOf}
use Rattle.restore_pins.proofs.Callers.{has-pinned}
use Rattle.state_laws.specs.Parts.{HeldIfTold}
use Rattle.keeper_catalog.specs.Catalog.{Memo, table_at, listed, IsMemoOf}
use Rattle.deletion_laws.specs.Deleting.{pinned_ids}
use Rattle.deletion_laws.specs.Releasing.{released_ids, is_released, IsReleased, AreStraysReleased}
use Rattle.deletion_laws.specs.Removal.{AreIdle}
use Rattle.state_laws.proofs.Members.{or_left, or_right, has-map_append, container_in-some}
use Rattle.deletion_laws.proofs.Marking.{marked_are_named}
use Rattle.deletion_laws.proofs.Pinning.{listed_released}
use Rattle.deletion_laws.proofs.Releasing.{release_tables, released_pinned, told_released, release_idle}
use Rattle.keeper_removals.specs.Removals.{Releasing, Leaves}
use Rattle.keeper_removals.proofs.Gone.{leaves_same}

-- where a container is listed, its table is in memory
pub some_table : (K : Core) (tables : List (ℕ × Table)) (id : ℕ) → ((k : ℕ) → table_at tables k ≡ option_map (λ c. c.table) (container_in (listed K) k)) → has id (map id_of (listed K)) ≡ true → IsSome (table_at tables id)
some_table K tables id are there =
    let c = container_in-some (listed K) id there in
    subst (λ (o : Option Table). IsSome o) (sym (are id ∙ ap (λ (o : Option Container). option_map (λ (c : Container). c.table) o) c.1)) refl

module _ (m : Memo) (pins left_pins : List Listed) (K : Core) (number : ℕ) (r : Releasing m pins K) (ids : List ℕ) (ids_are : ids ≡ ids_at pins number) (left_are : AreListsOf left_pins (pins_without number K.pins)) (t : List (ℕ × Table)) (mid : List Name)
    (leaves : (marks : List Mark) → AreMarkersOfSets m.markers marks → Leaves (λ k. has k ids && (not (has k (marked_ids marks)) && not (has k (listed_ids left_pins)))) m.tables t m.strays mid) where
  abbrev marks : List Mark
  marks = r.memo.markers.0

  test_is : (k : ℕ) → (has k ids && (not (has k (marked_ids marks)) && not (has k (listed_ids left_pins)))) ≡ is_released K number k
  test_is k =
      ap (λ (b : Bool). b && (not (has k (marked_ids marks)) && not (has k (listed_ids left_pins)))) (ap (has k) ids_are ∙ listed_released number k pins K.pins r.pins_are r.core.numbers)
      ∙ ap (λ (l : List ℕ). has k (released_ids number K.pins) && (not (has k l) && not (has k (listed_ids left_pins)))) (marked_are_named K.state marks r.memo.markers.2)
      ∙ ap (λ (b : Bool). has k (released_ids number K.pins) && (not (has k (named K.state)) && not b)) (has-pinned k left_pins (pins_without number K.pins) left_are)

  goes : Leaves (λ k. is_released K number k) m.tables t m.strays mid
  goes = leaves_same (λ k. has k ids && (not (has k (marked_ids marks)) && not (has k (listed_ids left_pins)))) (λ k. is_released K number k) m.tables t m.strays mid (λ k. sym (test_is k)) (leaves marks r.memo.markers.1)

  in_memory : (id : ℕ) → is_released K number id ≡ true → IsSome (table_at m.tables id)
  in_memory id released = some_table K m.tables id r.memo.tables
      (has-map_append id_of id K.state.containers (pinned_containers K.pins ++ put_by K.job)
      ∙ or_right (has id (map id_of K.state.containers)) (has id (map id_of (pinned_containers K.pins ++ put_by K.job)))
      (has-map_append id_of id (pinned_containers K.pins) (put_by K.job) ∙ or_left (has id (pinned_ids K.pins)) (has id (map id_of (put_by K.job))) (released_pinned K number id released)))

  added_is : (q : Name) → Contains goes.added q → IsReleased K number q
  added_is q there = let w = goes.only q there in record { id = w.id; released = w.passes; is = w.is }

  pub strays_released : AreStraysReleased K number mid
  strays_released = record {
    only = λ q there. ⊎_elim
        (λ old. inl (subst (λ (l : List Name). Contains l q) r.memo.strays old))
        (λ new. inr (added_is q new))
        (Contains-append_cases m.strays goes.added q (subst (λ (l : List Name). Contains l q) goes.strays_are there));
    before = λ q there. subst (λ (l : List Name). Contains l q) (sym goes.strays_are) (Contains-append_left m.strays goes.added q (subst (λ (l : List Name). Contains l q) (sym r.memo.strays) there));
    gone = λ q w. subst (λ (l : List Name). Contains l q) (sym goes.strays_are) (Contains-append_right m.strays goes.added q (goes.gone w.id q w.released (in_memory w.id w.released) w.is));
  }

  pub memo_released : (strays : List Name) (room spare : ℕ) → IsMemoOf (record { sets = m.sets; tables = t; markers = m.markers; strays = strays; room = room; spare = spare }) (after_release number strays K)
  memo_released strays room spare = record {
    sets = r.memo.sets;
    tables = release_tables K number r.core r.alike strays m.tables t r.memo.tables goes.tables;
    markers = r.memo.markers;
    strays = refl;
  }

  pub held_released : (b : Option Blobs) → HeldIfTold b K → HeldIfTold b (after_release number mid K)
  held_released b held = told_released K number r.core mid strays_released b held

  pub gone_released : (start : ℕ) → start ≡ length m.strays → (q : Name) → Contains (drop start mid) q → IsReleased K number q
  gone_released start is q there = added_is q (subst (λ (l : List Name). Contains l q) behind there)
    where
      behind : drop start mid ≡ goes.added
      behind = ap (λ (i : ℕ). drop i mid) is ∙ ap (drop (length m.strays)) goes.strays_are ∙ drop-append_seam m.strays goes.added

  pub idle_released : (start : ℕ) → start ≡ length m.strays → AreIdle (after_release number mid K) (drop start mid)
  idle_released start is = λ q there. release_idle K number r.core q (gone_released start is q there)

  pub within_released : (q : Name) → Contains mid q → Contains m.strays q ⊎ IsReleased K number q
  within_released q there = ⊎_elim (λ old. inl (subst (λ (l : List Name). Contains l q) (sym r.memo.strays) old)) (λ new. inr new) (strays_released.only q there)
