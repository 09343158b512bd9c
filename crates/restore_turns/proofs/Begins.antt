-- The step of a run with which a restore begins, and the loads of its plan.
use Rattle.std.proofs.Common.{◌≡◌, ⊎_elim, ◌≤◌, ℕ, true, List, [], ◌∷◌, refl, subst, arith}
use Rattle.std.specs.Prelude.{Contains}
use Rattle.std.specs.List.{AllByRecursion}
use Rattle.vault_types.specs.declared.Line.TheVariants.{Restore}
use Rattle.vault_types.specs.declared.Name.{Name}
use Rattle.vault_types.specs.declared.Step.{Step}
use Rattle.vault_types.specs.declared.Step.TheVariants.{Load, Evict, Serve}
use Rattle.vault_types.specs.Lists.{has}
use Rattle.vault_traits.specs.Files.{ChangesOnly, IsEmptied, IsThere}
use Rattle.vault_traits.specs.Told.{PlacesTold}
use Rattle.keeper_catalog.specs.View.{View}
use Rattle.keeper_core.specs.Keeping.{IsKnownStray}
use Rattle.commit_laws.proofs.Listing.{contains_of}
use Rattle.state_laws.proofs.Members.{first_or_rest}
use Rattle.serial_restore.specs.Going.{IsLoadOf}
use Rattle.script_laws.proofs.LineLemmas.{changes_files, is_there}
use Rattle.beside_laws.specs.Steps.{BeginsRestore}
use Rattle.restore_stage.specs.Assembling.{load_ids}
use Rattle.restore_turns.specs.Entry.{IsStateBeside}
use Rattle.restore_turns.proofs.Leaves.{Leaves}

-- the sink is opened, and the version is pinned
pub begins_restore : (v u : View) (s n slots : ℕ) (name : List ℕ) (before behind : PlacesTold) → Leaves v u → u.told.gets ≡ v.told.gets
    → ChangesOnly before.files behind.files name IsEmptied → before.faults ≤ behind.faults → behind.read_faults ≡ before.read_faults → behind.write_faults ≡ before.write_faults
    → BeginsRestore (λ k. k.told) IsStateBeside IsKnownStray (record { keeper = v; places = before }) (Restore s n name slots) (record { keeper = u; places = behind }) × IsThere behind.files name
begins_restore v u s n slots name before behind leaves gets changed place read write = (
  record {
    leaves = leaves;
    gets = gets;
    places = record { place = place; read = omega (arith, read); write = omega (arith, write) };
    others = changes_files s n name name slots before.files behind.files IsEmptied refl changed;
  },
  is_there before.files behind.files name changed,
)

-- the loads of the rule's plan are of the spots' ids
pub loads_asked : (ids : List ℕ) (steps : List Step) → AllByRecursion (IsLoadOf ids) steps → (id : ℕ) → Contains (load_ids steps) id → Contains ids id
loads_asked ids [] all id there = absurd (omega (arith, there.1))
loads_asked ids (Load c ∷ steps) all id there = ⊎_elim
    (λ (same : c ≡ id). contains_of id ids (subst (λ (n : ℕ). has n ids ≡ true) same all.0))
    (λ rest. loads_asked ids steps all.1 id rest)
    (first_or_rest c (load_ids steps) id there)
loads_asked ids (Evict c ∷ steps) all id there = loads_asked ids steps all.1 id there
loads_asked ids (Serve ∷ steps) all id there = loads_asked ids steps all.1 id there
