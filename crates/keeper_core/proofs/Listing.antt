-- The table in memory of a container that a pin lists.
use Rattle.std.proofs.Common.{◌≡◌, ◌⊎◌, inl, inr, ⊎_elim, true, false, ℕ, Bool, cond, List, [], ◌∷◌, ◌++◌, Option, Some, None, refl, sym, ◌∙◌, ap, subst, arith}
use Rattle.std.specs.Prelude.{Contains, IfSome, IsSome, option_map, ◌==◌}
use Rattle.std.specs.Option.{option_or}
use Rattle.std.proofs.lemmas.Bool.Decides.{nat_tests}
use Rattle.std.proofs.lemmas.List.Elements.{Contains-append_left, Contains-append_right}
use Rattle.vault_types.specs.Tables.{Container, IsTable}
use Rattle.vault_types.specs.State.{container_in}
use Rattle.vault_types.specs.Shelf.{Blobs, payload_name, Has}
use Rattle.vault_types.specs.Events.{Core, Pin, put_by, pinned_containers}
use Rattle.state_laws.specs.Parts.{HeldIfTold}
use Rattle.keeper_catalog.specs.Catalog.{table_at}
use Rattle.keeper_catalog.specs.View.{View, Keeps}
use Rattle.commit_laws.proofs.Listing.{all_at, found_append, found_is}
use Rattle.state_laws.proofs.Members.{first_or_rest}
use Rattle.keeper_core.specs.Calls.{Lists}

-- a container in a list is found under its id, or another one of this id
found_some : (cs : List Container) (c : Container) → Contains cs c → (d : Container) × (container_in cs c.table.id ≡ Some d)
found_some [] c there = absurd (omega (arith, there.1))
found_some (d ∷ cs) c there = step (d.table.id == c.table.id) refl (first_or_rest d cs c there) (found_some cs c)
  where
    step : (b : Bool) → (d.table.id == c.table.id) ≡ b → (d ≡ c) ⊎ Contains cs c → (Contains cs c → (e : Container) × (container_in cs c.table.id ≡ Some e)) → (e : Container) × (cond b (Some d) (container_in cs c.table.id) ≡ Some e)
    step true t at rest = (d, refl)
    step false t (inl same) rest = absurd (let e : d.table.id ≡ c.table.id = ap (λ (x : Container). x.table.id) same in let f : (d.table.id == c.table.id) ≡ true = grind (arith, nat_tests) in let clash : true ≡ false = sym f ∙ t in cc)
    step false t (inr there) rest = rest there

pinned_in : (pins : List Pin) (p : Pin) (c : Container) → Contains pins p → Contains p.containers c → Contains (pinned_containers pins) c
pinned_in [] p c there inside = absurd (omega (arith, there.1))
pinned_in (q ∷ qs) p c there inside = ⊎_elim
    (λ same. Contains-append_left q.containers (pinned_containers qs) c (subst (λ (r : Pin). Contains r.containers c) (sym same) inside))
    (λ rest. Contains-append_right q.containers (pinned_containers qs) c (pinned_in qs p c rest inside))
    (first_or_rest q qs p there)

module _ (v : View) (K : Core) (keeps : Keeps v K) (number id : ℕ) (c : Container) (lists : Lists K.pins number id c) where
  among : Contains (pinned_containers K.pins) c
  among = pinned_in K.pins lists.pin c lists.among lists.listed

  of_state : (o : Option Container) → container_in K.state.containers c.table.id ≡ o → IfSome o (λ d. d ≡ c) → option_map (λ (d : Container). d.table) (option_or o (container_in (pinned_containers K.pins ++ put_by K.job) c.table.id)) ≡ Some c.table
  of_state (Some d) is same = ap (λ (x : Container). Some x.table) same
  of_state None is none =
      let found = found_some (pinned_containers K.pins) c among in
      let place = found_is (pinned_containers K.pins) c.table.id found.0 found.1 in
      ap (λ (o : Option Container). option_map (λ (d : Container). d.table) o) (found_append (pinned_containers K.pins) (put_by K.job) c.table.id ∙ ap (λ (o : Option Container). option_or o (container_in (put_by K.job) c.table.id)) found.1)
      ∙ ap (λ (x : Container). Some x.table) (keeps.alike found.0 c place.0 among place.1)

  pub table_there : table_at v.memo.tables id ≡ Some c.table
  table_there =
      ap (table_at v.memo.tables) (sym lists.has_id) ∙ keeps.memo.tables c.table.id
      ∙ ap (λ (o : Option Container). option_map (λ (d : Container). d.table) o) (found_append K.state.containers (pinned_containers K.pins ++ put_by K.job) c.table.id)
      ∙ of_state (container_in K.state.containers c.table.id) refl (keeps.core.pins c among).1

  pub table_rules : IsTable c.table
  table_rules = all_at (λ (d : Container). IsTable d.table) (pinned_containers K.pins) c keeps.pinned among

  -- the shelf has its payload as the pin has it
  pub payload_is : (bytes : List ℕ) → IsSome v.told.blobs → Has v.told.blobs (payload_name c.table.id) (Some bytes) → c.payload ≡ Some bytes
  payload_is bytes tells there = at v.told.blobs tells there keeps.held
    where
      at : (b : Option Blobs) → IsSome b → Has b (payload_name c.table.id) (Some bytes) → HeldIfTold b K → c.payload ≡ Some bytes
      at None some has held = absurd (let clash : false ≡ true = some in cc)
      at (Some m) some has held = sym (held.containers c (Contains-append_left (pinned_containers K.pins) (put_by K.job) c among)).payload ∙ has
