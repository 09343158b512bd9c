-- A refused backup's answer: its kind, its cause and its meaning.
use Rattle.std.proofs.Common.{◌≡◌, ◌⊎◌, inl, ⊎_elim, ◌≤◌, ◌<◌, ◌||◌, ℕ, Bool, true, false, IsTrue, List, [], ◌∷◌, length, Some, None, refl, sym, ap, subst, arith}
use Rattle.std.specs.Prelude.{◌==◌, MatchOption, if◌then◌else◌, nat_eq}
use Rattle.vault_types.specs.declared.JobConfig.{JobConfig}
use Rattle.vault_types.specs.declared.Limits.{Limits}
use Rattle.vault_types.specs.declared.Fault.{Fault}
use Rattle.vault_types.specs.declared.Fault.TheVariants as fault
use Rattle.vault_types.specs.declared.Answer.{Answer}
use Rattle.vault_types.specs.declared.Answer.TheVariants.{Refused}
use Rattle.vault_types.specs.declared.Line.TheVariants.{Backup}
use Rattle.vault_types.specs.Cuts.{cuts}
use Rattle.vault_types.specs.State.{State, is_full, latest_of, next_of}
use Rattle.vault_types.specs.Refusals.{refuses_by_state, IsExact}
use Rattle.vault_types.specs.Events.{Core}
use Rattle.vault_traits.specs.Told.{SourceTold}
use Rattle.keeper_catalog.specs.View.{View}
use Rattle.store_model.specs.Causes.{CausesRise, fits, counts_of_source}
use Rattle.store_model.specs.Table.{MeansLine}
use Rattle.backup_jobs.specs.Backup.{IsBackupFault, IsCauseOf}

pub own_number : (n : ℕ) → nat_eq n n ≡ true
own_number n = search Rattle.std.proofs.Common.rules

-- ---- its kind

module _ (limits : Limits) (s : ℕ) (config : JobConfig) where
  abbrev IsKind : Fault → Type 0
  IsKind f = IsTrue (fits limits (Backup s [] config) (Refused f))

  kind_limit : (n : ℕ) → n ≡ limits.chunks → IsKind (fault.TooMany n)
  kind_limit n is = subst (λ (m : ℕ). IsKind (fault.TooMany m)) (sym is) (ap (λ (b : Bool). b || false) (own_number limits.chunks))

  kind_why : (before now : ℕ) (from to : SourceTold) (read : List ℕ) (f : Fault) → IsBackupFault config limits before now from to read f → IsKind f
  kind_why before now from to read fault.Memory h = refl
  kind_why before now from to read (fault.StoreFault n) h = refl
  kind_why before now from to read (fault.ReadFault n) h = refl
  kind_why before now from to read (fault.TooMany n) h = kind_limit n h.0
  kind_why before now from to read fault.Usage h = absurd h
  kind_why before now from to read (fault.NotKept a b c d) h = absurd h
  kind_why before now from to read (fault.WriteFault n) h = absurd h
  kind_why before now from to read (fault.Damaged a b c) h = absurd h
  kind_why before now from to read (fault.LastVersion a b c) h = absurd h
  kind_why before now from to read (fault.PlaceFault n) h = absurd h
  kind_why before now from to read (fault.BadLine n) h = absurd h
  kind_why before now from to read (fault.ScriptTooLong n) h = absurd h
  kind_why before now from to read (fault.Full a b c) h = absurd h

  pub kind_err : (u v : View) (from to : SourceTold) (read : List ℕ) (K : Core) (f : Fault) → IsCauseOf s config limits u v from to read K f → IsKind f
  kind_err u v from to read K f why = ⊎_elim
      (λ full. subst IsKind (sym full.1) (own_number s))
      (λ other. kind_why u.told.faults v.told.faults from to read f other)
      why

-- ---- its cause

module _ (s : ℕ) (config : JobConfig) (limits : Limits) (u v : View) (from to : SourceTold) (read : List ℕ) (store : u.told.faults ≤ v.told.faults) (source : from.faults ≤ to.faults) where
  abbrev Rises : Fault → Type 0
  Rises f = CausesRise (counts_of_source u.told from) (counts_of_source v.told to) (Refused f ∷ [])

  cause_why : (f : Fault) → IsBackupFault config limits u.told.faults v.told.faults from to read f → Rises f
  cause_why fault.Memory h = record { store = store; place = omega arith; read = source; write = omega arith }
  cause_why (fault.StoreFault n) h = record { store = (h.0, h.1); place = omega arith; read = source; write = omega arith }
  cause_why (fault.ReadFault n) h = record { store = store; place = omega arith; read = (h.0, h.1); write = omega arith }
  cause_why (fault.TooMany n) h = record { store = store; place = omega arith; read = source; write = omega arith }
  cause_why fault.Usage h = absurd h
  cause_why (fault.NotKept a b c d) h = absurd h
  cause_why (fault.WriteFault n) h = absurd h
  cause_why (fault.Damaged a b c) h = absurd h
  cause_why (fault.LastVersion a b c) h = absurd h
  cause_why (fault.PlaceFault n) h = absurd h
  cause_why (fault.BadLine n) h = absurd h
  cause_why (fault.ScriptTooLong n) h = absurd h
  cause_why (fault.Full a b c) h = absurd h

  pub cause_err : (K : Core) (f : Fault) → IsCauseOf s config limits u v from to read K f → Rises f
  cause_err K f why = ⊎_elim
      (λ full. subst Rises (sym full.1) (record { store = store; place = omega arith; read = source; write = omega arith }))
      (λ other. cause_why f other)
      why

-- ---- its meaning

-- an answer by other than the state, where the set is not full
pub exact_other : (limits : Limits) (S : State) (s : ℕ) (config : JobConfig) (a : Answer) → is_full S s limits ≡ false → refuses_by_state a ≡ false → IsExact limits S (Backup s [] config) a
exact_other limits S s config a full is =
    subst (λ (b : Bool). MatchOption (if b then Some (fault.Full s (latest_of S s) (next_of S)) else None) (refuses_by_state a ≡ false) (λ f. a ≡ Refused f)) (sym full) is

pub many_means : (limits : Limits) (x : List ℕ) (S : State) (s : ℕ) (config : JobConfig) (n : ℕ) → is_full S s limits ≡ false → n ≡ limits.chunks → limits.chunks < length (cuts x config.cutting)
    → MeansLine limits (λ _. x) S (Backup s [] config) (Refused (fault.TooMany n))
many_means limits x S s config n full is many = record {
  done = inl refl;
  exact = exact_other limits S s config (Refused (fault.TooMany n)) full refl;
  refused = subst (λ (m : ℕ). (m == limits.chunks) ≡ true) (sym is) (own_number limits.chunks);
  limit = record { too_many = λ k e. many; done = λ e. cc };
  damage = tt;
}
