-- What a restore beside lines comes to: what it would have come to alone, from the keeper from before its pin with counts of its
-- own.
use Rattle.std.proofs.Common.{◌≡◌, ◌⊎◌, inl, inr, ℕ, ◌<◌, ◌≤◌, List, [], ◌∷◌, ◌++◌, map, Option, Some, Ok, Err, refl, sym, ap, subst, ◌∙◌, arith}
use Rattle.std.specs.Prelude.{Contains, IsSome}
use Rattle.std.specs.Option.{option_map}
use Rattle.vault_types.specs.declared.Answer.TheVariants.{Restored}
use Rattle.vault_types.specs.declared.Fault.{Fault}
use Rattle.vault_types.specs.Events.{Core, pin_of, with_pins, after_pin, containers_of}
use Rattle.vault_types.specs.Plans.{requests}
use Rattle.vault_types.specs.State.{KeptVersion, version_of}
use Rattle.vault_traits.specs.Counts.{counted_up}
use Rattle.vault_traits.specs.Told.{SinkTold}
use Rattle.keeper_catalog.specs.View.{View, Keeps, HasCore}
use Rattle.commit_laws.proofs.Listing.{some_same}
use Rattle.keeper_core.specs.declared.pinning.Pinned.{Pinned}
use Rattle.keeper_core.specs.Pins.{PinsVersion}
use Rattle.serial_restore.specs.Going.{IsCopied, IsRestoreStopped, IsAtMostLeast}
use Rattle.serial_restore.specs.Restoring.{whole_of, IsRestoreFault, IsLeft, HasGone}
use Rattle.serial_restore.proofs.Restores.{stayed_still, moment_still}
use Rattle.serial_restore.proofs.Versions.{of_pin, restored, cut, found_in, short_in}
use Rattle.serial_restore.proofs.Faults.{told_version, copy_fault}
use Rattle.restore_turns.proofs.Leaves.{tells_same}
use Rattle.restore_ends.proofs.Alone.{alone, alone_keeps}

module _ (v u : View) (before now : SinkTold) (s n slots : ℕ) (some_core : HasCore v) (range : s < 256) (pin : Pinned) (p : PinsVersion s n v u (Ok pin)) (got faults : ℕ) (rise : u.told.faults ≤ faults) where
  abbrev w : View
  w = alone u (counted_up u.told.gets got) faults

  abbrev x : View
  x = alone v (counted_up v.told.gets got) faults

  early : v.told.faults ≤ u.told.faults
  early = (p.causes some_core.0 some_core.1).later

  left_alone : IsLeft v x s n
  unfolding early
  left_alone = record {
    later = let a = early in omega (arith, a, rise);
    tells = λ some. some;
    job = refl;
    pins = refl;
    state = λ K keeps. stayed_still v x K s n refl keeps (λ J was. alone_keeps v (counted_up v.told.gets got) faults J was);
    any_moment = λ K keeps was. moment_still v x K refl was;
  }

  same_gets : x.told.gets ≡ w.told.gets
  same_gets = ap (λ (g : ℕ). counted_up g got) (sym p.shelf.2)

  same_faults : w.told.faults ≤ x.told.faults
  same_faults = omega arith

  tells_then : IsSome v.told.blobs → IsSome u.told.blobs
  tells_then some = tells_same v.told.blobs u.told.blobs p.shelf.0 some

  pub copied_beside : (m : ℕ) → IsCopied u w pin.no before now pin.spots.items (option_map (whole_of s n) pin.whole) slots m → HasGone v x before now s n slots (Ok (Restored s n pin.length m))
  unfolding left_alone same_gets tells_then
  copied_beside m copied = record {
    left = left_alone;
    sink = copied.later;
    kind = (pin.length, m, refl);
    cause = tt;
    ok = λ tells K k keeps kept.
        let ok = p.ok tells K k keeps kept in
        restored v K keeps s n pin.no k kept p.fresh u pin.length pin.spots.items pin.whole ok.1 ok.0 (p.lists (after_pin pin.no s n k K) ok.0) (tells_then tells)
        w x before now slots p.shelf.2 same_gets (let sets = keeps.core.state.sets in omega (arith, range, sets)) tells (p.whole tells K k keeps kept) m (Restored s n pin.length m) refl copied;
    err = tt;
    short = tt;
  }

  pub stopped_beside : (f : Fault) → IsRestoreStopped u w pin.no before now pin.spots.items (option_map (whole_of s n) pin.whole) (IsAtMostLeast (requests (map (λ q. q.id) pin.spots.items)) slots) f → HasGone v x before now s n slots (Err f)
  unfolding left_alone same_gets same_faults tells_then early
  stopped_beside f stopped = record {
    left = left_alone;
    sink = stopped.later;
    kind = tt;
    cause = λ K keeps. why K keeps (told_version v.told.blobs (version_of K.state s n));
    ok = tt;
    err = λ tells K k keeps kept.
        let ok = p.ok tells K k keeps kept in
        cut v K keeps s n pin.no k kept p.fresh u pin.length pin.spots.items pin.whole ok.1 ok.0 (p.lists (after_pin pin.no s n k K) ok.0) (tells_then tells)
        w x before now slots p.shelf.2 same_gets (option_map (whole_of s n) pin.whole) f stopped;
    short = λ tells K k keeps kept.
        let ok = p.ok tells K k keeps kept in
        short_in v K keeps s n pin.no k kept p.fresh u pin.length pin.spots.items pin.whole ok.1 ok.0 (p.lists (after_pin pin.no s n k K) ok.0) (tells_then tells)
        (option_map (whole_of s n) pin.whole) (IsAtMostLeast (requests (map (λ q. q.id) pin.spots.items)) slots) w before now f stopped;
  }
    where
      why : (K : Core) → Keeps v K → (IsSome v.told.blobs × (k : KeptVersion) × (version_of K.state s n ≡ Some k)) ⊎ (IsSome v.told.blobs → (k : KeptVersion) → version_of K.state s n ≡ Some k → ⊥)
          → IsRestoreFault v x before now K.state s n f
      why K keeps (inl known) =
          let tells = known.0 in
          let k = known.1 in
          let kept = known.2 in
          let ok = p.ok tells K k keeps kept in
          let listed = p.lists (after_pin pin.no s n k K) ok.0 in
          copy_fault v u w x before now K.state s n pin.whole (K.pins ++ pin_of pin.no s n K.state k ∷ []) pin.no
          (λ id c lists some j is. subst (λ (i : KeptVersion). Contains (containers_of K.state.containers (map (λ q. q.id) i.rows)) c) (some_same k j (sym kept ∙ is)) (of_pin v K keeps s n pin.no k kept p.fresh id c lists))
          p.shelf.0 early same_faults f
          (λ some j is. (
            (p.ok some K j keeps is).1.sum,
            found_in v K keeps s n pin.no k kept p.fresh u pin.length pin.spots.items pin.whole ok.1 ok.0 listed (tells_then tells) (option_map (whole_of s n) pin.whole) (IsAtMostLeast (requests (map (λ q. q.id) pin.spots.items)) slots) w before now f stopped,
          ))
          (stopped.cause (after_pin pin.no s n k K) (record { keeps = ok.0; listed = listed }))
      why K keeps (inr none) =
          let q = p.pinned K keeps in
          copy_fault v u w x before now K.state s n pin.whole (K.pins ++ q.0 ∷ []) pin.no (λ id c lists some j is. absurd (none some j is)) p.shelf.0 early same_faults f (λ some j is. absurd (none some j is))
          (stopped.cause (with_pins (K.pins ++ q.0 ∷ []) K.strays K) (record { keeps = q.3; listed = p.lists (with_pins (K.pins ++ q.0 ∷ []) K.strays K) q.3 }))
