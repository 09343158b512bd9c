-- Blobs with a change that failed nearly stand for the state.
use Rattle.std.proofs.Common.{◌≡◌, inl, inr, ⊎_elim, ◌+◌, ℕ, List, Option, Some, None, refl, sym, ◌∙◌, ap, subst}
use Rattle.vault_types.specs.declared.Name.{Name}
use Rattle.vault_types.specs.State.{State, IsValid, floor_of, latest_of}
use Rattle.vault_types.specs.Blobs.{floor_bytes}
use Rattle.vault_types.specs.Shelf.{Blobs, with_blob, recipe_name, floor_name, Stands, StandsNearly}
use Rattle.vault_types.specs.Events.{Change, HasChange, IsChange}
use Rattle.vault_traits.proofs.Maps.{with_blob_twice}
use Rattle.state_laws.proofs.Standing.{free_write}
use Rattle.state_laws.proofs.Changing.{next_free, floor_write}

-- a later write of the change's name takes it back
written_over : (S : State) (h : Change) (m : Blobs) (name : Name) (bytes : Option (List ℕ)) → h.name ≡ name → (has : HasChange S h m) → with_blob has.before name bytes ≡ with_blob m name bytes
written_over S h m name bytes is has =
    sym (with_blob_twice has.before name (Some h.bytes) bytes)
    ∙ ap (λ (n : Name). with_blob (with_blob has.before n (Some h.bytes)) name bytes) (sym is)
    ∙ ap (λ (b : Blobs). with_blob b name bytes) (sym has.is)

pub nearly : (S : State) (s : ℕ) (h : Change) → IsValid S → IsChange S s h → (m : Blobs) → HasChange S h m → StandsNearly m S
nearly S s h valid change m has = (
  s,
  change.in_range,
  ⊎_elim
      (λ recipe. inl (subst (λ (b : Blobs). Stands b S) (written_over S h m (recipe_name s (latest_of S s + 1)) None recipe.0 has)
      (free_write S (recipe_name s (latest_of S s + 1)) None (next_free S s valid) has.before has.stands)))
      (λ floor. inr (subst (λ (b : Blobs). Stands b S) (written_over S h m (floor_name s) (Some (floor_bytes s (floor_of S s))) floor.0 has)
      (floor_write S s (floor_of S s) refl has.before has.stands)))
      change.kind,
)
