-- What a restore comes to, from the pin, the copy and the release.
use Rattle.std.proofs.Common.{◌≡◌, ◌⊎◌, inl, inr, ℕ, ◌<◌, ◌≤◌, false, true, List, [], ◌∷◌, ◌++◌, map, Option, Some, Result, Ok, Err, refl, sym, ap, subst, ◌∙◌, arith}
use Rattle.std.specs.Prelude.{Contains, IsSome, IsErrAnd, IfOk, IfErr}
use Rattle.std.specs.Option.{option_map}
use Rattle.std.specs.List.{AllByRecursion}
use Rattle.vault_types.specs.declared.Answer.{Answer}
use Rattle.vault_types.specs.declared.Answer.TheVariants.{Restored}
use Rattle.vault_types.specs.declared.Fault.{Fault}
use Rattle.vault_types.specs.declared.Fault.TheVariants as fault
use Rattle.vault_types.specs.declared.Kind.TheVariants as kind
use Rattle.vault_types.specs.declared.Why.TheVariants as why
use Rattle.vault_types.specs.declared.Spot.{Spot}
use Rattle.vault_types.specs.declared.Whole.{Whole}
use Rattle.vault_types.specs.Bytes.{bytes_of}
use Rattle.vault_types.specs.Events.{Core, IsNear, pin_of, with_pins, after_pin, containers_of}
use Rattle.vault_types.specs.Lists.{has}
use Rattle.vault_types.specs.Plans.{requests}
use Rattle.vault_types.specs.Shelf.{Blobs}
use Rattle.vault_types.specs.State.{State, KeptVersion, version_of, is_kept, floor_of, latest_of}
use Rattle.vault_traits.specs.Told.{SinkTold}
use Rattle.restore_pins.specs.Pins.{numbers, without_pin}
use Rattle.vault_traits.specs.Causes.{IsCause}
use Rattle.keeper_catalog.specs.View.{View, Keeps, HasCore}
use Rattle.commit_laws.proofs.Listing.{some_same}
use Rattle.keeper_core.specs.declared.pinning.Pinned.{Pinned}
use Rattle.keeper_core.specs.Calls.{HasListed, IsPinDamage}
use Rattle.keeper_core.specs.Pins.{PinsVersion}
use Rattle.keeper_core.specs.Releases.{Releases}
use Rattle.store_model.specs.Calls.{IsShortAt}
use Rattle.serial_restore.specs.Going.{Stays, HasPinned, IsCopied, IsRestoreStopped, IsAtMostLeast}
use Rattle.serial_restore.specs.Restoring.{whole_of, IsRestoreFault, IsLeft, IsCut, HasGone}
use Rattle.serial_restore.proofs.Restores.{has_last, listed_gone, stayed, moment, stayed_still, moment_still, leaves_same}
use Rattle.serial_restore.proofs.Versions.{of_pin, restored, cut, found_in, short_in}
use Rattle.serial_restore.proofs.Faults.{pin_fault, told_version, copy_fault}
use Rattle.vault_traits.proofs.Written.{takes_nothing}

-- what the calls ask

pub pinned_core : (u : View) (number : ℕ) (spots : List Spot) → HasCore u → ((J : Core) → Keeps u J → AllByRecursion (HasListed J.pins number) spots) → (J : Core) × HasPinned u number spots J
pinned_core u number spots core lists = (core.0, record { keeps = core.1; listed = lists core.0 core.1 })

either_stays : (u w : View) (number : ℕ) (before now : SinkTold) (spots : List Spot) (whole : Option Whole) (slots : ℕ) (IsFew : ℕ → Type 0) (r : Result ℕ Fault)
    → IfOk r (λ m. IsCopied u w number before now spots whole slots m) → IfErr r (IsRestoreStopped u w number before now spots whole IsFew) → Stays u w
either_stays u w number before now spots whole slots IsFew (Ok m) ok err = ok.stays
either_stays u w number before now spots whole slots IsFew (Err f) ok err = err.stays

pub can_release : (v u w : View) (number n : ℕ) (before now : SinkTold) (spots : List Spot) (whole : Option Whole) (slots : ℕ) (IsFew : ℕ → Type 0) (r : Result ℕ Fault)
    → (ids : List ℕ) × (u.pins ≡ v.pins ++ record { number = number; version = n; ids = ids } ∷ [])
    → IfOk r (λ m. IsCopied u w number before now spots whole slots m) → IfErr r (IsRestoreStopped u w number before now spots whole IsFew) → has number (numbers w.pins) ≡ true
can_release v u w number n before now spots whole slots IsFew r given ok err =
    has_last v.pins w.pins (record { number = number; version = n; ids = given.0 }) ((either_stays u w number before now spots whole slots IsFew r ok err).pins ∙ given.1)

-- what an early return hands out
pub gone_as : (P : Result Answer Fault → Type 0) (r : Result Answer Fault) (e : Fault) → IsErrAnd r (λ f. f ≡ e) → P (Err e) → P r
gone_as P (Ok a) e is h = absurd is
gone_as P (Err f) e is h = subst (λ (g : Fault). P (Err g)) (sym is) h

still_tells : (a b : Option Blobs) → b ≡ a → IsSome a → IsSome b
still_tells a b same some = subst (λ (o : Option Blobs). IsSome o) (sym same) some

-- nothing was taken, and nothing loaded
cut_early : (v x : View) (told : SinkTold) (K : Core) (s n slots : ℕ) (k : KeptVersion) → x.told.gets ≡ v.told.gets → IsCut v x told told K s n k slots
cut_early v x told K s n slots k gets = record { loads = 0; few = λ m least. omega arith; gets = gets; front = record { front = []; rest = bytes_of K.state s n; parts = refl; taken = takes_nothing told.taken } }

-- a version that is not kept
pub not_kept_gone : (v : View) (told : SinkTold) (s n slots floor latest : ℕ) → ((K : Core) → Keeps v K → false ≡ is_kept K.state s n) → ((K : Core) → Keeps v K → floor ≡ floor_of K.state s) → ((K : Core) → Keeps v K → latest ≡ latest_of K.state s)
    → HasGone v v told told s n slots (Err (fault.NotKept s n floor latest))
not_kept_gone v told s n slots floor latest kept low high = record {
  left = record {
    later = omega arith;
    tells = λ some. some;
    job = refl;
    pins = refl;
    state = λ K keeps. stayed_still v v K s n refl keeps (λ J same. same);
    any_moment = λ K keeps now. leaves_same v.told.history (IsNear K.state K.other) now;
  };
  sink = omega arith;
  kind = tt;
  cause = λ K keeps. (sym (kept K keeps), ap (λ (l : ℕ). fault.NotKept s n l latest) (low K keeps) ∙ ap (λ (h : ℕ). fault.NotKept s n (floor_of K.state s) h) (high K keeps));
  ok = tt;
  err = λ tells K k keeps is. cut_early v v told K s n slots k refl;
  short = λ tells K k keeps is. tt;
}

pin_short : (bytes : List ℕ) (before now : Option (List ℕ)) (a b : ℕ) (told : Option Blobs) (S : State) (s n : ℕ) (f : Fault) → IsCause a b (IsPinDamage told S s n) f → IsShortAt bytes before now f
pin_short bytes before now a b told S s n (fault.WriteFault i) h = absurd h
pin_short bytes before now a b told S s n (fault.Damaged kind.Recipe i (why.Whole want found)) h = absurd h.1
pin_short bytes before now a b told S s n other h = tt

-- a pin that was refused
pub pin_gone : (v u : View) (told : SinkTold) (s n slots : ℕ) (f : Fault) → HasCore v → ((K : Core) → Keeps v K → Keeps u K) × (u.pins ≡ v.pins)
    → (u.memo ≡ v.memo) × (u.index ≡ v.index) × (u.job ≡ v.job) × (u.pending ≡ v.pending) → (u.told.blobs ≡ v.told.blobs) × (u.told.history ≡ v.told.history) × (u.told.gets ≡ v.told.gets)
    → ((K : Core) → Keeps v K → v.told.faults ≤ u.told.faults) → ((K : Core) → Keeps v K → IsCause v.told.faults u.told.faults (IsPinDamage v.told.blobs K.state s n) f) → HasGone v u told told s n slots (Err f)
pin_gone v u told s n slots f core still same shelf later cause = record {
  left = record {
    later = later core.0 core.1;
    tells = still_tells v.told.blobs u.told.blobs shelf.0;
    job = same.2;
    pins = still.1;
    state = λ K keeps. stayed_still v u K s n shelf.0 keeps still.0;
    any_moment = λ K keeps now. moment_still v u K shelf.1 now;
  };
  sink = omega arith;
  kind = tt;
  cause = λ K keeps. pin_fault v u told told K.state s n f (cause K keeps);
  ok = tt;
  err = λ tells K k keeps is. cut_early v u told K s n slots k shelf.2;
  short = λ tells K k keeps is. pin_short (bytes_of K.state s n) told.taken told.taken v.told.faults u.told.faults v.told.blobs K.state s n f (cause K keeps);
}

-- a version that was pinned, copied and released
module _ (v u w x : View) (before now : SinkTold) (s n slots : ℕ) (some_core : HasCore v) (range : s < 256) (pin : Pinned) (p : PinsVersion s n v u (Ok pin)) (r : Releases pin.no w x) where
  left_over : Stays u w → IsLeft v x s n
  left_over stays = record {
    later = omega (arith, (p.causes some_core.0 some_core.1).later, stays.later, r.later);
    tells = λ some. r.tells (still_tells v.told.blobs w.told.blobs (stays.blobs ∙ p.shelf.0) some);
    job = r.same.1 ∙ stays.job ∙ p.same.2;
    pins = r.pins ∙ ap (without_pin pin.no) (stays.pins ∙ p.given.1) ∙ listed_gone pin.no (record { number = pin.no; version = n; ids = p.given.0 }) v.pins refl p.fresh;
    state = λ K keeps.
        let q = p.pinned K keeps in
        stayed v u w x K keeps s n pin.no p.fresh p.same.0 stays r.releases r.within r.others p.shelf.0 (q.0, q.1, q.3) (λ tells k kept. (p.ok tells K k keeps kept).0);
    any_moment = λ K keeps.
        let q = p.pinned K keeps in
        moment v u w x K keeps s n pin.no p.fresh p.same.0 stays r.releases r.within r.others (q.0, q.1, q.3) p.shelf.1 r.any_moment;
  }

  pub copied_gone : (m : ℕ) → IsCopied u w pin.no before now pin.spots.items (option_map (whole_of s n) pin.whole) slots m → HasGone v x before now s n slots (Ok (Restored s n pin.length m))
  copied_gone m copied = record {
    left = left_over copied.stays;
    sink = copied.later;
    kind = (pin.length, m, refl);
    cause = tt;
    ok = λ tells K k keeps kept.
        let ok = p.ok tells K k keeps kept in
        restored v K keeps s n pin.no k kept p.fresh u pin.length pin.spots.items pin.whole ok.1 ok.0 (p.lists (after_pin pin.no s n k K) ok.0) (still_tells v.told.blobs u.told.blobs p.shelf.0 tells)
        w x before now slots p.shelf.2 r.gets (let sets = keeps.core.state.sets in omega (arith, range, sets)) tells (p.whole tells K k keeps kept) m (Restored s n pin.length m) refl copied;
    err = tt;
    short = tt;
  }

  pub stopped_gone : (f : Fault) → IsRestoreStopped u w pin.no before now pin.spots.items (option_map (whole_of s n) pin.whole) (IsAtMostLeast (requests (map (λ q. q.id) pin.spots.items)) slots) f → HasGone v x before now s n slots (Err f)
  stopped_gone f stopped = record {
    left = left_over stopped.stays;
    sink = stopped.later;
    kind = tt;
    cause = λ K keeps. why K keeps (told_version v.told.blobs (version_of K.state s n));
    ok = tt;
    err = λ tells K k keeps kept.
        let ok = p.ok tells K k keeps kept in
        cut v K keeps s n pin.no k kept p.fresh u pin.length pin.spots.items pin.whole ok.1 ok.0 (p.lists (after_pin pin.no s n k K) ok.0) (still_tells v.told.blobs u.told.blobs p.shelf.0 tells)
        w x before now slots p.shelf.2 r.gets (option_map (whole_of s n) pin.whole) f stopped;
    short = λ tells K k keeps kept.
        let ok = p.ok tells K k keeps kept in
        short_in v K keeps s n pin.no k kept p.fresh u pin.length pin.spots.items pin.whole ok.1 ok.0 (p.lists (after_pin pin.no s n k K) ok.0) (still_tells v.told.blobs u.told.blobs p.shelf.0 tells)
        (option_map (whole_of s n) pin.whole) (IsAtMostLeast (requests (map (λ q. q.id) pin.spots.items)) slots) w before now f stopped;
  }
    where
      why : (K : Core) → Keeps v K → (IsSome v.told.blobs × (k : KeptVersion) × (version_of K.state s n ≡ Some k)) ⊎ (IsSome v.told.blobs → (k : KeptVersion) → version_of K.state s n ≡ Some k → ⊥)
          → IsRestoreFault v x before now K.state s n f
      why K keeps (inl known) =
          let tells = known.0 in
          let k = known.1 in
          let kept = known.2 in
          let ok = p.ok tells K k keeps kept in
          let listed = p.lists (after_pin pin.no s n k K) ok.0 in
          copy_fault v u w x before now K.state s n pin.whole (K.pins ++ pin_of pin.no s n K.state k ∷ []) pin.no
          (λ id c lists some j is. subst (λ (i : KeptVersion). Contains (containers_of K.state.containers (map (λ q. q.id) i.rows)) c) (some_same k j (sym kept ∙ is)) (of_pin v K keeps s n pin.no k kept p.fresh id c lists))
          p.shelf.0 (p.causes some_core.0 some_core.1).later r.later f
          (λ some j is. (
            (p.ok some K j keeps is).1.sum,
            found_in v K keeps s n pin.no k kept p.fresh u pin.length pin.spots.items pin.whole ok.1 ok.0 listed (still_tells v.told.blobs u.told.blobs p.shelf.0 tells) (option_map (whole_of s n) pin.whole) (IsAtMostLeast (requests (map (λ q. q.id) pin.spots.items)) slots) w before now f stopped,
          ))
          (stopped.cause (after_pin pin.no s n k K) (record { keeps = ok.0; listed = listed }))
      why K keeps (inr none) =
          let q = p.pinned K keeps in
          copy_fault v u w x before now K.state s n pin.whole (K.pins ++ q.0 ∷ []) pin.no (λ id c lists some j is. absurd (none some j is)) p.shelf.0 (p.causes some_core.0 some_core.1).later r.later f (λ some j is. absurd (none some j is))
          (stopped.cause (with_pins (K.pins ++ q.0 ∷ []) K.strays K) (record { keeps = q.3; listed = p.lists (with_pins (K.pins ++ q.0 ∷ []) K.strays K) q.3 }))
