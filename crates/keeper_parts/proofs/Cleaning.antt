-- Strays that are taken out.
use Rattle.std.proofs.Common.{◌≡◌, ◌⊎◌, inl, inr, ⊎_elim, ℕ, suc, ◌<◌, ◌≤◌, ◌+◌, ◌-◌, ◌^◌, length, List, [], ◌∷◌, ◌++◌, take, drop, Option, None, sym, ◌∙◌, ap, subst, arith, true, false, take-append-drop}
use Rattle.std.specs.Prelude.{Result, Ok, Err, OnErr, OnOk, is_ok, Contains, slice_index_or}
use Rattle.std.specs.List.{remove}
use Rattle.std.proofs.lemmas.List.Elements.{Contains-append_left, Contains-append_right, Contains-append_cases, Contains-push_cases}
use Rattle.std.proofs.Math.Seq.{drop-cons}
use Rattle.vault_types.specs.declared.Name.{Name}
use Rattle.vault_types.specs.Shelf.{Blobs, with_blob}
use Rattle.vault_types.specs.Events.{Core, Held, IsNear}
use Rattle.vault_traits.specs.Crash.{History, LeavesOnlyIfTold}
use Rattle.vault_traits.specs.Counts.{Rose}
use Rattle.vault_traits.specs.Shelf.{blobs_with, IsWritten, MayBeWritten}
use Rattle.vault_traits.proofs.Maps.{get_is}
use Rattle.vault_traits.proofs.Moments.{then, ends}
use Rattle.state_laws.specs.Parts.{IsSpare, HeldIfTold, with_strays, CanClean}
use Rattle.state_laws.proofs.Standing.{held_write, held_may_write, held_fewer, idle_may_write}
use Rattle.state_laws.proofs.Changing.{told_same, told_with}

split : {X : Type 0} (xs : List X) (i : ℕ) (d : X) → i < length xs → xs ≡ take i xs ++ (slice_index_or xs i d ∷ drop (suc i) xs)
split xs i d h = sym (take-append-drop i xs) ∙ ap (λ l. take i xs ++ l) (drop-cons xs i d h)

pub removed_from : {X : Type 0} (xs : List X) (i : ℕ) (d q : X) → i < length xs → Contains (remove xs i) q → Contains xs q
removed_from xs i d q h there = subst (λ l. Contains l q) (sym (split xs i d h))
    (⊎_elim (λ before. Contains-append_left (take i xs) (slice_index_or xs i d ∷ drop (suc i) xs) q before)
    (λ behind. Contains-append_right (take i xs) (slice_index_or xs i d ∷ drop (suc i) xs) q (Contains-append_right (slice_index_or xs i d ∷ []) (drop (suc i) xs) q behind))
    (Contains-append_cases (take i xs) (drop (suc i) xs) q there))

pub removed_cases : {X : Type 0} (xs : List X) (i : ℕ) (d q : X) → i < length xs → Contains xs q → Contains (remove xs i) q ⊎ (slice_index_or xs i d ≡ q)
removed_cases {X} xs i d q h there =
    ⊎_elim (λ before. inl (Contains-append_left (take i xs) (drop (suc i) xs) q before))
    (λ rest. ⊎_elim (λ here. inr (only here)) (λ behind. inl (Contains-append_right (take i xs) (drop (suc i) xs) q behind))
    (Contains-append_cases (slice_index_or xs i d ∷ []) (drop (suc i) xs) q rest))
    (Contains-append_cases (take i xs) (slice_index_or xs i d ∷ drop (suc i) xs) q (subst (λ l. Contains l q) (split xs i d h) there))
  where
    only : Contains (slice_index_or xs i d ∷ []) q → slice_index_or xs i d ≡ q
    only here = ⊎_elim (λ none. absurd (omega (arith, none.1))) (λ same. same) (Contains-push_cases [] (slice_index_or xs i d) q here)

pub ok_of : {T E A : Type 0} (r : Result T E) → is_ok r ≡ true → OnOk r A → A
ok_of (Ok x) fact a = a
ok_of (Err e) fact a = absurd (let t : false ≡ true = fact in cc)

pub err_of : {T E A : Type 0} (r : Result T E) → is_ok r ≡ false → OnErr r A → A
err_of (Err e) fact a = a
err_of (Ok x) fact a = absurd (let t : true ≡ false = fact in cc)

module _ (K : Core) (strays : List Name) (i : ℕ) (n : Name) (old : List Name) (was : K.strays ≡ old) (can : CanClean K) (below : i < length strays) (within : (q : Name) → Contains strays q → Contains old q) (at : n ≡ slice_index_or strays i n) where
  there : Contains strays n
  there = (i, below, sym at)

  pub spare : IsSpare (with_strays strays K) n None
  unfolding there
  spare =
      let may = can n (subst (λ (l : List Name). Contains l n) (sym was) (within n there)) in
      record { idle = may.0; stray = there; not_put = may.1 }

  pub stays_held : {before after : Option Blobs} {past now : Option History} → MayBeWritten before after past now n None → HeldIfTold before (with_strays strays K) → HeldIfTold after (with_strays strays K)
  stays_held may held = held_may_write (with_strays strays K) n None spare may held

  pub goes_held : {before after : Option Blobs} {past now : Option History} → IsWritten before after past now n None → (strays' : List Name) → strays' ≡ remove strays i → HeldIfTold before (with_strays strays K) → HeldIfTold after (with_strays strays' K)
  goes_held {before} {after} done strays' is held = subst (λ (l : List Name). HeldIfTold after (with_strays l K)) (sym is)
      (told_same (λ m. Held m (with_strays (remove strays i) K)) (blobs_with before n None) after done.blobs
      (told_with (λ m. Held m (with_strays strays K)) (λ m. Held m (with_strays (remove strays i) K)) before n None
      (λ m h. held_fewer (with_strays strays K) (remove strays i) (with_blob m n None)
      (λ q. removed_from strays i n q below)
      (λ q stray. ⊎_elim (λ still. inl still) (λ gone. inr (get_is m n None q (sym (at ∙ gone)))) (removed_cases strays i n q below stray))
      (held_write (with_strays strays K) n None spare m h))
      held))

  pub moment : {before after : Option Blobs} (past mid now : Option History) → MayBeWritten before after mid now n None → LeavesOnlyIfTold past mid (IsNear K.state K.other) → LeavesOnlyIfTold past now (IsNear K.state K.other)
  moment past mid now may so_far = then (IsNear K.state K.other) past mid now so_far (idle_may_write K.state K.other may spare.idle (ends (IsNear K.state K.other) past mid so_far))

pub rose_by : (a b : ℕ) → Rose a b → b < 2 ^ 64 - 1 → a + 1 ≤ b
rose_by a b rose low = omega arith

-- a failure more, a place less
pub few_left : (len base left a b : ℕ) → 0 < left → (a < 2 ^ 64 - 1 → len + base ≤ a + left) → Rose a b → a ≤ b → b < 2 ^ 64 - 1 → len + base ≤ b + (left - 1)
few_left len base left a b some few rose later low = let more = rose_by a b rose low in let so_far = few (omega arith) in omega arith

pub few_gone : (len len' base left a b : ℕ) → 0 < left → len' + 1 ≡ len → (a < 2 ^ 64 - 1 → len + base ≤ a + left) → a ≤ b → b < 2 ^ 64 - 1 → len' + base ≤ b + (left - 1)
few_gone len len' base left a b some fewer few later low = let so_far = few (omega arith) in omega arith
