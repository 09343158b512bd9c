-- What is in memory and on the shelf behind a deletion.
use Rattle.std.proofs.Common.{◌≡◌, inl, inr, ⊎_elim, ℕ, zero, suc, ◌<◌, ◌≤◌, ◌+◌, ◌-◌, max, map, length, Bool, true, false, ◌&&◌, not, List, [], ◌∷◌, ◌++◌, take, Option, refl, sym, ◌∙◌, ap, subst, arith}
use Rattle.std.specs.Prelude.{Contains, IsSome, option_map, slice_set, slice_index_or}
use Rattle.std.specs.Option.{option_or}
use Rattle.std.proofs.Math.ListN.{get_or-map}
use Rattle.std.proofs.lemmas.List.{get_or_default}
use Rattle.std.proofs.lemmas.Cmp.{nat_eq_equiv}
use Rattle.std.proofs.lemmas.List.Sums.{sum_by-cons}
use Rattle.std.proofs.Math.Seq.{take-append_seam}
use Rattle.std.proofs.lemmas.Map.Made.{length-le_from_is_member}
use Rattle.std.proofs.lemmas.List.Elements.{Contains-append_left, Contains-append_right, Contains-append_cases}
use Rattle.vault_types.specs.declared.Fp.{Fp}
use Rattle.vault_types.specs.declared.Name.{Name}
use Rattle.vault_types.specs.declared.Table.{Table}
use Rattle.vault_types.specs.Lists.{has}
use Rattle.vault_types.specs.Marks.{Mark, marked_ids, marks_above, freed_ids}
use Rattle.vault_types.specs.Tables.{Container, id_of}
use Rattle.vault_types.specs.State.{dataset, empty_dataset, named, container_in, floor_of, latest_of}
use Rattle.vault_types.specs.Delete.{delete, reclaimed_ids}
use Rattle.vault_types.specs.Events.{Core, put_by, pinned_containers, after_delete}
use Rattle.vault_types.proofs.SetLemmas.{has-set_of}
use Rattle.fp_index.specs.Index.{IsIndexOf, IsOnlyOne}
use Rattle.set_markers.specs.SetMarkers.{Marked, AreMarkersOfSets}
use Rattle.restore_pins.specs.Pins.{Listed, listed_ids}
use Rattle.restore_pins.proofs.Callers.{has-pinned}
use Rattle.keeper_catalog.specs.declared.SetInfo.{SetInfo}
use Rattle.keeper_catalog.specs.Catalog.{Memo, set_info, versions_in, IsMemoOf, AreMarks}
use Rattle.deletion_laws.specs.Deleting.{pinned_ids, without_ids, AreStraysAfter}
use Rattle.state_laws.proofs.Members.{has-filter, in_map, of_map, filter_within, container_in-append, container_in-some, container_in-is}
use Rattle.deletion_laws.proofs.Indexing.{delete_index, is_only_one, without_none}
use Rattle.deletion_laws.proofs.Keeping.{delete_sets}
use Rattle.deletion_laws.proofs.Marking.{freed_are, delete_marks}
use Rattle.deletion_laws.proofs.Tabling.{delete_tables}
use Rattle.keeper_removals.specs.Removals.{Removing, Rises, Leaves, LeavesRecipes, IsKnown}
use Rattle.keeper_removals.proofs.Gone.{leaves_same}

both_first : (a b : Bool) → (a && b) ≡ true → a ≡ true
both_first true b h = refl
both_first false b h = h

both_second : (a b : Bool) → (a && b) ≡ true → b ≡ true
both_second true b h = h
both_second false b h = absurd (let c : false ≡ true = h in cc)

not_is : (a : Bool) → not a ≡ true → a ≡ false
not_is true h = sym h
not_is false h = refl

-- fewer marks name no more ids
pub fewer_ids : (old new : Marked) (marks : List Mark) (s floor : ℕ) → AreMarkersOfSets old marks → AreMarkersOfSets new (marks_above s floor marks) → length new.ids ≤ length old.ids
fewer_ids old new marks s floor was is = length-le_from_is_member nat_eq_equiv new.ids old.ids is.once fewer
  where
    within : (k : ℕ) → has k (marked_ids (marks_above s floor marks)) ≡ true → has k (marked_ids marks) ≡ true
    within k h =
        let w = of_map (λ (m : Mark). m.id) (marks_above s floor marks) k (sym (has-set_of k (map (λ m. m.id) (marks_above s floor marks))) ∙ h) in
        has-set_of k (map (λ m. m.id) marks) ∙ subst (λ (i : ℕ). has i (map (λ m. m.id) marks) ≡ true) w.2 (in_map (λ (m : Mark). m.id) marks w.0 (filter_within _ marks w.0 w.1))

    fewer : (k : ℕ) → has k new.ids ≡ true → has k old.ids ≡ true
    fewer k h = was.ids k ∙ within k (sym (is.ids k) ∙ h)

-- a floor that rises lets so many versions go
pub versions_fewer : (sets : List SetInfo) (s floor : ℕ) (d : SetInfo) → s < length sets → (slice_index_or sets s d).floor ≤ floor → floor ≤ (slice_index_or sets s d).latest + 1
    → versions_in (slice_set sets s (record (slice_index_or sets s d) { floor = floor })) + (floor - (slice_index_or sets s d).floor) ≡ versions_in sets
versions_fewer [] s floor d below low high = absurd (omega arith)
versions_fewer (i ∷ sets) zero floor d below low high =
    let one = sum_by-cons (λ (j : SetInfo). j.latest + 1 - j.floor) (record i { floor = floor }) sets in
    let two = sum_by-cons (λ (j : SetInfo). j.latest + 1 - j.floor) i sets in
    omega (arith, one, two)
versions_fewer (i ∷ sets) (suc s) floor d below low high =
    let rest = versions_fewer sets s floor d (omega arith) low high in
    let one = sum_by-cons (λ (j : SetInfo). j.latest + 1 - j.floor) i (slice_set sets s (record (slice_index_or sets s d) { floor = floor })) in
    let two = sum_by-cons (λ (j : SetInfo). j.latest + 1 - j.floor) i sets in
    omega (arith, rest, one, two)

-- the sets with the floor, where the list is written back whole
pub sets_written : (sets was new rest : List SetInfo) (len s floor : ℕ) → was ≡ sets → new ≡ slice_set was s (record (slice_index_or was s (set_info empty_dataset)) { floor = floor }) → len ≡ length new
    → take len (new ++ rest) ≡ slice_set sets s (record (slice_index_or sets s (set_info empty_dataset)) { floor = floor })
sets_written sets was new rest len s floor same is whole =
    ap (λ (k : ℕ). take k (new ++ rest)) whole ∙ take-append_seam new rest ∙ is
    ∙ ap (λ (l : List SetInfo). slice_set l s (record (slice_index_or l s (set_info empty_dataset)) { floor = floor })) same

module _ (m : Memo) (index : List (Fp × List ℕ)) (pins : List Listed) (K : Core) (s n : ℕ) (r : Removing m index pins K s n) where
  pub info_is : slice_index_or m.sets s (set_info empty_dataset) ≡ set_info (dataset K.state s)
  info_is = ap (λ (l : List SetInfo). slice_index_or l s (set_info empty_dataset)) r.memo.sets ∙ get_or-map set_info K.state.datasets s empty_dataset

  length_map : {X Y : Type 0} (f : X → Y) (xs : List X) → length (map f xs) ≡ length xs
  length_map f [] = refl
  length_map f (x ∷ xs) = ap suc (length_map f xs)

  pub set_below : s < length m.sets
  set_below = let same : length m.sets ≡ length K.state.datasets = ap length r.memo.sets ∙ length_map set_info K.state.datasets in omega (arith, r.in_range)

  pub some_info : (i : SetInfo) → i ≡ slice_index_or m.sets s i → i.floor ≡ floor_of K.state s
  some_info i is = ap (λ (j : SetInfo). j.floor) (is ∙ get_or_default m.sets s i (set_info empty_dataset) set_below ∙ info_is)

  module _ (floor : ℕ) (up : Rises K s n floor) where
    pub floor_is : floor ≡ max (floor_of K.state s) (n + 1)
    floor_is = omega (arith, up.is, up.not_below)

    abbrev marks : List Mark
    marks = r.memo.markers.0

    pub was_floor : (slice_index_or m.sets s (set_info empty_dataset)).floor ≡ floor_of K.state s
    was_floor = ap (λ (j : SetInfo). j.floor) info_is

    pub versions_left : versions_in (slice_set m.sets s (record (slice_index_or m.sets s (set_info empty_dataset)) { floor = floor })) + (floor - (slice_index_or m.sets s (set_info empty_dataset)).floor) ≡ versions_in m.sets
    versions_left =
        let latest : (slice_index_or m.sets s (set_info empty_dataset)).latest ≡ latest_of K.state s = ap (λ (j : SetInfo). j.latest) info_is in
        versions_fewer m.sets s floor (set_info empty_dataset) set_below (omega (arith, was_floor, up.not_below)) (omega (arith, latest, up.is, r.low))

    pub sets_after : slice_set m.sets s (record (slice_index_or m.sets s (set_info empty_dataset)) { floor = floor }) ≡ map set_info (delete K.state s n).datasets
    sets_after =
        ap (λ (l : List SetInfo). slice_set l s (record (slice_index_or m.sets s (set_info empty_dataset)) { floor = floor })) r.memo.sets
        ∙ ap (λ (i : SetInfo). slice_set (map set_info K.state.datasets) s (record i { floor = floor })) info_is
        ∙ ap (λ (f : ℕ). slice_set (map set_info K.state.datasets) s (record (set_info (dataset K.state s)) { floor = f })) floor_is
        ∙ sym (delete_sets K.state s n r.core.state r.in_range r.low)

    module _ (ids : List ℕ) (ids_are : (marks : List Mark) → AreMarkersOfSets m.markers marks → ids ≡ freed_ids s floor marks) where
      pub reclaimed_are : ids ≡ reclaimed_ids K.state (delete K.state s n)
      reclaimed_are = ids_are marks r.memo.markers.1 ∙ ap (λ (f : ℕ). freed_ids s f marks) floor_is ∙ freed_are K.state s n r.core.state r.in_range r.low marks r.memo.markers.2

      -- the container of an id that goes
      was_named : (id : ℕ) → has id (reclaimed_ids K.state (delete K.state s n)) ≡ true → has id (map id_of K.state.containers) ≡ true
      was_named id h = ap (has id) r.core.state.containers ∙ both_second (not (has id (named (delete K.state s n)))) (has id (named K.state)) (sym (has-filter id (λ c. not (has c (named (delete K.state s n)))) (named K.state)) ∙ h)

      known_at : (id : ℕ) → has id (map id_of K.state.containers) ≡ true → IsKnown m.tables (map (λ c. c.table) K.state.containers) id
      known_at id h =
          let c = container_in-some K.state.containers id h in
          let w = container_in-is K.state.containers id c.0 c.1 in
          record {
            table = c.0.table;
            there = r.memo.tables id ∙ ap (λ (o : Option Container). option_map (λ (d : Container). d.table) o) (container_in-append K.state.containers (pinned_containers K.pins ++ put_by K.job) id ∙ ap (λ (o : Option Container). option_or o (container_in (pinned_containers K.pins ++ put_by K.job) id)) c.1);
            same_id = w.1;
            only = subst (λ (l : List Table). IsOnlyOne c.0.table l) (without_none (map (λ c. c.table) K.state.containers)) (is_only_one K.state r.core.state [] c.0 w.0);
          }

      pub known : (id : ℕ) → has id ids ≡ true → IsKnown m.tables (map (λ c. c.table) K.state.containers) id
      known id h = known_at id (was_named id (ap (has id) (sym reclaimed_are) ∙ h))

      pub index_after : (next : List (Fp × List ℕ)) → ((known : List Table) → ((id : ℕ) → has id ids ≡ true → IsKnown m.tables known id) → IsIndexOf index known → IsIndexOf next (without_ids ids known)) → IsIndexOf next (map (λ c. c.table) (delete K.state s n).containers)
      index_after next drops = subst (λ (l : List Table). IsIndexOf next l)
          (ap (λ (l : List ℕ). without_ids l (map (λ c. c.table) K.state.containers)) reclaimed_are ∙ sym (delete_index K.state s n r.core.state))
          (drops (map (λ c. c.table) K.state.containers) known r.index_is)

      module _ (t : List (ℕ × Table)) (mid : List Name) (leaves : Leaves (λ k. has k ids && not (has k (listed_ids pins))) m.tables t m.strays mid) where
        goes : Leaves (λ k. has k (reclaimed_ids K.state (delete K.state s n)) && not (has k (pinned_ids K.pins))) m.tables t m.strays mid
        goes = leaves_same (λ k. has k ids && not (has k (listed_ids pins))) (λ k. has k (reclaimed_ids K.state (delete K.state s n)) && not (has k (pinned_ids K.pins))) m.tables t m.strays mid
            (λ k. sym (ap (λ (l : List ℕ). has k l && not (has k (listed_ids pins))) reclaimed_are ∙ ap (λ (b : Bool). has k (reclaimed_ids K.state (delete K.state s n)) && not b) (has-pinned k pins K.pins r.pins_are)))
            leaves

        pub memo_after : (sets : List SetInfo) (markers : Marked) (strays : List Name) (room spare : ℕ) → sets ≡ slice_set m.sets s (record (slice_index_or m.sets s (set_info empty_dataset)) { floor = floor })
            → ((marks : List Mark) → AreMarkersOfSets m.markers marks → AreMarkersOfSets markers (marks_above s floor marks))
            → IsMemoOf (record { sets = sets; tables = t; markers = markers; strays = strays; room = room; spare = spare }) (after_delete s n strays K)
        memo_after sets markers strays room spare sets_are above = record {
          sets = sets_are ∙ sets_after;
          tables = delete_tables K s n strays r.core r.no_job m.tables t r.memo.tables goes.tables;
          markers = (marks_above s floor marks, above marks r.memo.markers.1, subst (λ (f : ℕ). AreMarks (marks_above s f marks) (delete K.state s n)) (sym floor_is) (delete_marks K.state s n r.core.state r.in_range r.low marks r.memo.markers.2));
          strays = refl;
        }

        module _ (old : ℕ) (old_is : old ≡ (slice_index_or m.sets s (set_info empty_dataset)).floor) (strays : List Name) (recipes : LeavesRecipes s old floor mid strays) where
          old_floor : old ≡ floor_of K.state s
          old_floor = old_is ∙ was_floor

          in_strays : (q : Name) → Contains mid q → Contains strays q
          in_strays q there = subst (λ (l : List Name). Contains l q) (sym recipes.strays_are) (Contains-append_left mid recipes.added q there)

          in_mid : (q : Name) → Contains goes.added q → Contains mid q
          in_mid q there = subst (λ (l : List Name). Contains l q) (sym goes.strays_are) (Contains-append_right m.strays goes.added q there)

          pub strays_after : AreStraysAfter K s n strays
          strays_after = record {
            only = λ q there. ⊎_elim
                (λ before. ⊎_elim
                (λ was. inl (subst (λ (l : List Name). Contains l q) r.memo.strays was))
                (λ new. let w = goes.only q new in inr (inr (record {
                  id = w.id;
                  reclaimed = both_first (has w.id (reclaimed_ids K.state (delete K.state s n))) (not (has w.id (pinned_ids K.pins))) w.passes;
                  unpinned = not_is (has w.id (pinned_ids K.pins)) (both_second (has w.id (reclaimed_ids K.state (delete K.state s n))) (not (has w.id (pinned_ids K.pins))) w.passes);
                  is = w.is;
                })))
                (Contains-append_cases m.strays goes.added q (subst (λ (l : List Name). Contains l q) goes.strays_are before)))
                (λ new. let w = recipes.only q new in inr (inl (record {
                  version = w.0;
                  kept = omega (arith, w.1, old_floor);
                  below = omega (arith, w.2, floor_is);
                  is = w.3;
                })))
                (Contains-append_cases mid recipes.added q (subst (λ (l : List Name). Contains l q) recipes.strays_are there));
            before = λ q there. in_strays q (subst (λ (l : List Name). Contains l q) (sym goes.strays_are) (Contains-append_left m.strays goes.added q (subst (λ (l : List Name). Contains l q) (sym r.memo.strays) there)));
            gone = λ q g. ⊎_elim
                (λ recipe. subst (λ (l : List Name). Contains l q) (sym recipes.strays_are) (Contains-append_right mid recipes.added q
                (subst (λ (x : Name). Contains recipes.added x) (sym recipe.is) (recipes.gone recipe.version (omega (arith, recipe.kept, old_floor)) (omega (arith, recipe.below, floor_is))))))
                (λ container. in_strays q (in_mid q (goes.gone container.id q
                (ap (λ (b : Bool). b && not (has container.id (pinned_ids K.pins))) container.reclaimed ∙ ap not container.unpinned)
                (let k = known_at container.id (was_named container.id container.reclaimed) in subst (λ (o : Option Table). IsSome o) (sym k.there) refl)
                container.is)))
                g;
          }
