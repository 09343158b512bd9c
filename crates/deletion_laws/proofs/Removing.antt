-- Strays behind a place that are taken out.
use Rattle.std.proofs.Common.{◌≡◌, ◌⊎◌, inl, inr, ⊎_elim, ℕ, zero, suc, ◌<◌, ◌≤◌, length, List, [], ◌∷◌, take, drop, Option, Some, None, refl, sym, ◌∙◌, ap, subst, arith}
use Rattle.std.specs.Prelude.{◌≢◌, Contains, slice_index_or, IsSome}
use Rattle.std.specs.List.{remove}
use Rattle.vault_types.specs.declared.Name.{Name}
use Rattle.vault_types.specs.Shelf.{Blobs, with_blob}
use Rattle.vault_types.specs.Events.{Core, Held, IsNear, put_by, IsContainerName}
use Rattle.vault_traits.specs.Crash.{History, LeavesOnlyIfTold, ReadsAnImage}
use Rattle.vault_traits.specs.Shelf.{blobs_with, IsWritten, MayBeWritten}
use Rattle.vault_traits.proofs.Maps.{get_is}
use Rattle.vault_traits.proofs.Moments.{then, ends, silent, silent_write, told_or_silent}
use Rattle.state_laws.specs.Parts.{IsIdle, IsSpare, HeldIfTold, with_strays}
use Rattle.state_laws.proofs.Standing.{held_write, held_may_write, held_fewer, idle_may_write}
use Rattle.state_laws.proofs.Changing.{told_same, told_with}
use Rattle.keeper_parts.proofs.Cleaning.{removed_from, removed_cases}
use Rattle.deletion_laws.specs.Removal.{AreIdle}

-- lists, before and behind a place

pub front_stays : {X : Type 0} (xs : List X) (start i : ℕ) → start ≤ i → i < length xs → take start (remove xs i) ≡ take start xs
front_stays xs zero i low below = refl
front_stays [] (suc s) i low below = absurd (omega arith)
front_stays (x ∷ xs) (suc s) zero low below = absurd (omega arith)
front_stays (x ∷ xs) (suc s) (suc i) low below = ap (λ l. x ∷ l) (front_stays xs s i (omega arith) (omega arith))

pub behind_fewer : {X : Type 0} (xs : List X) (start i : ℕ) (q : X) → start ≤ i → i < length xs → Contains (drop start (remove xs i)) q → Contains (drop start xs) q
behind_fewer xs zero i q low below there = removed_from xs i q q below there
behind_fewer [] (suc s) i q low below there = absurd (omega arith)
behind_fewer (x ∷ xs) (suc s) zero q low below there = absurd (omega arith)
behind_fewer (x ∷ xs) (suc s) (suc i) q low below there = behind_fewer xs s i q (omega arith) (omega arith) there

pub behind_at : {X : Type 0} (xs : List X) (start i : ℕ) (q : X) → start ≤ i → i < length xs → slice_index_or xs i q ≡ q → Contains (drop start xs) q
behind_at xs zero i q low below is = (i, below, is)
behind_at [] (suc s) i q low below is = absurd (omega arith)
behind_at (x ∷ xs) (suc s) zero q low below is = absurd (omega arith)
behind_at (x ∷ xs) (suc s) (suc i) q low below is = behind_at xs s i q (omega arith) (omega arith) is

-- what is behind a place is not among those that were
pub apart_from : (old strays : List Name) (start i : ℕ) (n q : Name) → start ≤ i → i < length strays → n ≡ slice_index_or strays i n → ((p : Name) → Contains (drop start strays) p → Contains (drop start old) p)
    → (Contains (drop start old) q → ⊥) → q ≢ n
apart_from old strays start i n q low below at behind none is = none (subst (λ (p : Name). Contains (drop start old) p) (sym is) (behind n (behind_at strays start i n low below (sym at))))

-- a shelf tells, or tells nothing

pub told_or_none : {A : Type 0} (told : Option Blobs) → (IsSome told → A) → (told ≡ None) ⊎ A
told_or_none None f = inl refl
told_or_none (Some m) f = inr (f refl)

pub silent_blobs : {before after : Option Blobs} {past now : Option History} {n : Name} {bytes : Option (List ℕ)} → MayBeWritten before after past now n bytes → before ≡ None → after ≡ None
silent_blobs {n = n} {bytes = bytes} may none = ⊎_elim (λ same. same ∙ none) (λ same. same ∙ ap (λ (t : Option Blobs). blobs_with t n bytes) none) may.blobs

held_silent : (told : Option Blobs) (K : Core) → told ≡ None → HeldIfTold told K
held_silent told K none = told_same (λ m. Held m K) None told none tt

-- one removal

module _ (K : Core) (strays : List Name) (i : ℕ) (n : Name) (below : i < length strays) (at : n ≡ slice_index_or strays i n) (may : IsIdle K.state K.other n None × (IsContainerName (put_by K.job) n → ⊥)) where
  spare : IsSpare (with_strays strays K) n None
  spare = record { idle = may.0; stray = (i, below, sym at); not_put = may.1 }

  stays_held : {before after : Option Blobs} {past now : Option History} → MayBeWritten before after past now n None → HeldIfTold before (with_strays strays K) → HeldIfTold after (with_strays strays K)
  stays_held written held = held_may_write (with_strays strays K) n None spare written held

  goes_held : {before after : Option Blobs} {past now : Option History} → IsWritten before after past now n None → HeldIfTold before (with_strays strays K) → HeldIfTold after (with_strays (remove strays i) K)
  goes_held {before} {after} done held =
      told_same (λ m. Held m (with_strays (remove strays i) K)) (blobs_with before n None) after done.blobs
      (told_with (λ m. Held m (with_strays strays K)) (λ m. Held m (with_strays (remove strays i) K)) before n None
      (λ m h. held_fewer (with_strays strays K) (remove strays i) (with_blob m n None)
      (λ q. removed_from strays i n q below)
      (λ q stray. ⊎_elim (λ still. inl still) (λ gone. inr (get_is m n None q (sym (at ∙ gone)))) (removed_cases strays i n q below stray))
      (held_write (with_strays strays K) n None spare m h))
      held)

  moment : {before after : Option Blobs} (past mid now : Option History) → MayBeWritten before after mid now n None → LeavesOnlyIfTold past mid (IsNear K.state K.other) → LeavesOnlyIfTold past now (IsNear K.state K.other)
  moment past mid now written so_far = then (IsNear K.state K.other) past mid now so_far (idle_may_write K.state K.other written may.0 (ends (IsNear K.state K.other) past mid so_far))

-- a removal in a loop from the back, where the names behind a place are idle as far as the shelf tells

module _ (K : Core) (old strays : List Name) (start i : ℕ) (n : Name) (low : start ≤ i) (below : i < length strays) (at : n ≡ slice_index_or strays i n)
    (behind : (q : Name) → Contains (drop start strays) q → Contains (drop start old) q) (first : Option Blobs) (idle : IsSome first → AreIdle K (drop start old)) where
  may_go : (first ≡ None) ⊎ (IsIdle K.state K.other n None × (IsContainerName (put_by K.job) n → ⊥))
  may_go = ⊎_elim (λ none. inl none) (λ (all : AreIdle K (drop start old)). inr (all n (behind n (behind_at strays start i n low below (sym at))))) (told_or_none {A = AreIdle K (drop start old)} first idle)

  pub loop_stays : {before after : Option Blobs} {past now : Option History} → (first ≡ None → before ≡ None) → MayBeWritten before after past now n None → HeldIfTold before (with_strays strays K) → HeldIfTold after (with_strays strays K)
  loop_stays {before} {after} quiet written held = ⊎_elim
      (λ none. held_silent after (with_strays strays K) (silent_blobs written (quiet none)))
      (λ may. stays_held K strays i n below at may written held)
      may_go

  pub loop_goes : {before after : Option Blobs} {past now past' now' : Option History} → (first ≡ None → before ≡ None) → MayBeWritten before after past now n None → IsWritten before after past' now' n None
      → (strays' : List Name) → strays' ≡ remove strays i → HeldIfTold before (with_strays strays K) → HeldIfTold after (with_strays strays' K)
  loop_goes {before} {after} quiet written done strays' is held = subst (λ (l : List Name). HeldIfTold after (with_strays l K)) (sym is) (⊎_elim
      (λ none. held_silent after (with_strays (remove strays i) K) (silent_blobs written (quiet none)))
      (λ may. goes_held K strays i n below at may done held)
      may_go)

  pub loop_moment : {before after : Option Blobs} (past mid now : Option History) → ReadsAnImage first past → (past ≡ None → mid ≡ None) → MayBeWritten before after mid now n None → LeavesOnlyIfTold past mid (IsNear K.state K.other) → LeavesOnlyIfTold past now (IsNear K.state K.other)
  loop_moment past mid now reads quiet written so_far = ⊎_elim
      (λ (told : (m : Blobs) × (first ≡ Some m)). ⊎_elim
      (λ none. absurd (let e : ◌≡◌ {A = Option Blobs} (Some told.0) None = sym told.1 ∙ none in cc))
      (λ may. moment K strays i n below at may past mid now written so_far)
      may_go)
      (λ none. silent (IsNear K.state K.other) past now none (silent_write written (quiet none)))
      (told_or_silent first past reads)
