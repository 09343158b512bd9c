-- A version from its pin to its release: what becomes of the core, and what a refusal shows.
use Rattle.std.proofs.Common.{◌≡◌, ◌⊎◌, ⊎_elim, ℕ, Bool, true, false, not, cond, ◌&&◌, ◌||◌, nat_eq, List, [], ◌∷◌, ◌++◌, map, filter, Option, Some, None, refl, sym, ap, subst, ◌∙◌}
use Rattle.std.specs.Prelude.{Contains, IsSome, ◌==◌}
use Rattle.std.proofs.lemmas.List.{append-nil}
use Rattle.vault_types.specs.declared.Name.{Name}
use Rattle.vault_types.specs.Events.{Core, Pin, IsNear, pin_of, with_pins, after_pin, after_release, pins_without, containers_of}
use Rattle.vault_types.specs.Lists.{has}
use Rattle.vault_types.specs.Shelf.{Blobs, recipe_name, blob_at}
use Rattle.vault_types.specs.State.{KeptVersion, version_of, named}
use Rattle.vault_types.specs.Tables.{Container, id_of}
use Rattle.vault_traits.specs.Crash.{History, LeavesNowIfTold, LeavesOnlyIfTold}
use Rattle.restore_pins.specs.Pins.{Listed, numbers, without_pin}
use Rattle.restore_pins.proofs.Callers.{numbers-same}
use Rattle.deletion_laws.specs.Deleting.{pinned_ids}
use Rattle.deletion_laws.specs.Releasing.{released_ids, IsReleased}
use Rattle.state_laws.proofs.Members.{clash, or_right, of_map, in_map, filter_within}
use Rattle.commit_laws.proofs.Listing.{itself, same_number}
use Rattle.state_laws.proofs.Changing.{recipe_no_table, recipe_no_payload}
use Rattle.keeper_catalog.specs.View.{View, Keeps}
use Rattle.serial_restore.specs.Going.{Stays}
use Rattle.serial_restore.specs.Restoring.{HasStayed}

-- a crash in no step

pub leaves_same : (h : Option History) (P : Blobs → Type 0) → LeavesNowIfTold h P → LeavesOnlyIfTold h h P
leaves_same None P now = tt
leaves_same (Some h) P now = record { steps = []; goes_on = refl; each = now }

-- so in the lists in memory
pub listed_gone : (number : ℕ) (l : Listed) (pins : List Listed) → l.number ≡ number → has number (numbers pins) ≡ false → without_pin number (pins ++ l ∷ []) ≡ pins
listed_gone number l [] is fresh = ap (λ (b : Bool). cond (not b) (l ∷ []) []) (ap (λ (m : ℕ). m == number) is ∙ itself number)
listed_gone number l (p ∷ pins) is fresh = step (nat_eq number p.number) (p.number == number) refl refl fresh (listed_gone number l pins is)
  where
    step : (a b : Bool) → nat_eq number p.number ≡ a → (p.number == number) ≡ b → (a || has number (numbers pins)) ≡ false → (has number (numbers pins) ≡ false → without_pin number (pins ++ l ∷ []) ≡ pins)
        → cond (not b) (p ∷ without_pin number (pins ++ l ∷ [])) (without_pin number (pins ++ l ∷ [])) ≡ p ∷ pins
    step true b e f h rest = absurd (let g : true ≡ false = h in cc)
    step false true e f h rest = clash (nat_eq number p.number) (ap (nat_eq number) (sym (same_number p.number number f)) ∙ itself number) e
    step false false e f h rest = ap (λ (ps : List Listed). p ∷ ps) (rest h)

-- the pin that goes is the one that came

module _ (no : ℕ) (pin : Pin) (is : pin.number ≡ no) where
  this : (pin.number == no) ≡ true
  this = ap (λ (m : ℕ). m == no) is ∙ itself no

  pub pins_gone : (pins : List Pin) → has no (map (λ p. p.number) pins) ≡ false → pins_without no (pins ++ pin ∷ []) ≡ pins
  unfolding this
  pins_gone [] fresh = ap (λ (b : Bool). cond (not b) (pin ∷ []) []) this
  pins_gone (p ∷ pins) fresh = step (nat_eq no p.number) (p.number == no) refl refl fresh (pins_gone pins)
    where
      step : (a b : Bool) → nat_eq no p.number ≡ a → (p.number == no) ≡ b → (a || has no (map (λ q. q.number) pins)) ≡ false → (has no (map (λ q. q.number) pins) ≡ false → pins_without no (pins ++ pin ∷ []) ≡ pins)
          → cond (not b) (p ∷ pins_without no (pins ++ pin ∷ [])) (pins_without no (pins ++ pin ∷ [])) ≡ p ∷ pins
      step true b e f h rest = absurd (let g : true ≡ false = h in cc)
      step false true e f h rest = clash (nat_eq no p.number) (ap (nat_eq no) (sym (same_number p.number no f)) ∙ itself no) e
      step false false e f h rest = ap (λ (ps : List Pin). p ∷ ps) (rest h)

  pub pins_taken : (pins : List Pin) → has no (map (λ p. p.number) pins) ≡ false → filter (λ p. p.number == no) (pins ++ pin ∷ []) ≡ pin ∷ []
  unfolding this
  pins_taken [] fresh = ap (λ (b : Bool). cond b (pin ∷ []) []) this
  pins_taken (p ∷ pins) fresh = step (nat_eq no p.number) (p.number == no) refl refl fresh (pins_taken pins)
    where
      step : (a b : Bool) → nat_eq no p.number ≡ a → (p.number == no) ≡ b → (a || has no (map (λ q. q.number) pins)) ≡ false → (has no (map (λ q. q.number) pins) ≡ false → filter (λ q. q.number == no) (pins ++ pin ∷ []) ≡ pin ∷ [])
          → cond b (p ∷ filter (λ q. q.number == no) (pins ++ pin ∷ [])) (filter (λ q. q.number == no) (pins ++ pin ∷ [])) ≡ pin ∷ []
      step true b e f h rest = absurd (let g : true ≡ false = h in cc)
      step false true e f h rest = clash (nat_eq no p.number) (ap (nat_eq no) (sym (same_number p.number no f)) ∙ itself no) e
      step false false e f h rest = rest h

and_first : (a b : Bool) → (a && b) ≡ true → a ≡ true
and_first true b h = refl
and_first false b h = h

and_second : (a b c : Bool) → (a && (not b && c)) ≡ true → b ≡ false
and_second true true c h = absurd (let e : false ≡ true = h in cc)
and_second true false c h = refl
and_second false b c h = absurd (let e : false ≡ true = h in cc)

-- the pin of a kept version alone holds no name

pub none_released : (v : View) (K : Core) (number s n : ℕ) (k : KeptVersion) (q : Name) → Keeps v K → has number (map (λ p. p.number) K.pins) ≡ false → IsReleased (after_pin number s n k K) number q → ⊥
none_released v K number s n k q keeps fresh released =
    let a : has released.id (released_ids number (K.pins ++ pin_of number s n K.state k ∷ [])) ≡ true = and_first _ _ released.released in
    let b : has released.id (named K.state) ≡ false = and_second (has released.id (released_ids number (K.pins ++ pin_of number s n K.state k ∷ []))) (has released.id (named K.state)) _ released.released in
    let c : has released.id (map id_of (containers_of K.state.containers (map (λ r. r.id) k.rows) ++ [])) ≡ true =
    subst (λ (ps : List Pin). has released.id (pinned_ids ps) ≡ true) (pins_taken number (pin_of number s n K.state k) refl K.pins fresh) a in
    let d : has released.id (map id_of (containers_of K.state.containers (map (λ r. r.id) k.rows))) ≡ true =
    subst (λ (cs : List Container). has released.id (map id_of cs) ≡ true) (append-nil (containers_of K.state.containers (map (λ r. r.id) k.rows))) c in
    let e = of_map id_of (containers_of K.state.containers (map (λ r. r.id) k.rows)) released.id d in
    let f : has released.id (map id_of K.state.containers) ≡ true =
    subst (λ (m : ℕ). has m (map id_of K.state.containers) ≡ true) e.2 (in_map id_of K.state.containers e.0 (filter_within (λ x. has x.table.id (map (λ r. r.id) k.rows)) K.state.containers e.0 e.1)) in
    clash (has released.id (named K.state)) (subst (λ (ids : List ℕ). has released.id ids ≡ true) keeps.core.state.containers f) b

-- no recipe is a name that a release leaves
recipe_unreleased : (J : Core) (number t m : ℕ) → IsReleased J number (recipe_name t m) → ⊥
recipe_unreleased J number t m released = ⊎_elim (λ table. recipe_no_table t m released.id table) (λ payload. recipe_no_payload t m released.id payload) released.is

-- what stays over a pin, a copy and a release

module _ (v u w x : View) (K : Core) (keeps : Keeps v K) (s n no : ℕ) (fresh : has no (numbers v.pins) ≡ false) where
  fresh_pins : has no (map (λ p. p.number) K.pins) ≡ false
  fresh_pins = ap (has no) (numbers-same v.pins K.pins keeps.pins) ∙ fresh

  module _ (memo : u.memo ≡ v.memo) (stays : Stays u w)
      (releases : (J : Core) → Keeps w J → Keeps x (after_release no x.memo.strays J))
      (within : (J : Core) → Keeps w J → (q : Name) → Contains x.memo.strays q → Contains w.memo.strays q ⊎ IsReleased J no q)
      (others : (J : Core) → Keeps w J → (q : Name) → (IsReleased J no q → ⊥) → blob_at x.told.blobs q ≡ blob_at w.told.blobs q) where
    pub stayed : u.told.blobs ≡ v.told.blobs → (pin : Pin) × (pin.number ≡ no) × Keeps u (with_pins (K.pins ++ pin ∷ []) K.strays K)
        → (IsSome v.told.blobs → (k : KeptVersion) → version_of K.state s n ≡ Some k → Keeps u (after_pin no s n k K)) → HasStayed v x K s n
    unfolding fresh_pins
    stayed same pinned ok = record {
      strays = x.memo.strays;
      keeps = subst (λ (pins : List Pin). Keeps x (with_pins pins x.memo.strays K)) (pins_gone no pinned.0 pinned.1 K.pins fresh_pins)
          (releases (with_pins (K.pins ++ pinned.0 ∷ []) K.strays K) (stays.keeps (with_pins (K.pins ++ pinned.0 ∷ []) K.strays K) pinned.2));
      within = λ tells kept q there. at (version_of K.state s n) refl kept tells q there;
      blobs = λ tells kept q. all_at (version_of K.state s n) refl kept tells q;
      recipes = λ t m.
          let J : Core = with_pins (K.pins ++ pinned.0 ∷ []) K.strays K in
          others J (stays.keeps J pinned.2) (recipe_name t m) (recipe_unreleased J no t m) ∙ ap (λ (b : Option Blobs). blob_at b (recipe_name t m)) (stays.blobs ∙ same);
    }
      where
        all_at : (o : Option KeptVersion) → version_of K.state s n ≡ o → IsSome o → IsSome v.told.blobs → (q : Name) → blob_at x.told.blobs q ≡ blob_at v.told.blobs q
        all_at None is some tells q = absurd (let e : false ≡ true = some in cc)
        all_at (Some k) is some tells q =
            others (after_pin no s n k K) (stays.keeps (after_pin no s n k K) (ok tells k is)) q (none_released v K no s n k q keeps fresh_pins)
            ∙ ap (λ (b : Option Blobs). blob_at b q) (stays.blobs ∙ same)

        at : (o : Option KeptVersion) → version_of K.state s n ≡ o → IsSome o → IsSome v.told.blobs → (q : Name) → Contains x.memo.strays q → Contains K.strays q
        at None is some tells q there = absurd (let e : false ≡ true = some in cc)
        at (Some k) is some tells q there = ⊎_elim
            (λ old. subst (λ (l : List Name). Contains l q) (ap (λ m. m.strays) (stays.memo ∙ memo) ∙ keeps.memo.strays) old)
            (λ released. absurd (none_released v K no s n k q keeps fresh_pins released))
            (within (after_pin no s n k K) (stays.keeps (after_pin no s n k K) (ok tells k is)) q there)

    pub moment : (pin : Pin) × (pin.number ≡ no) × Keeps u (with_pins (K.pins ++ pin ∷ []) K.strays K) → u.told.history ≡ v.told.history
        → ((J : Core) → Keeps w J → LeavesNowIfTold w.told.history (IsNear J.state J.other) → LeavesOnlyIfTold w.told.history x.told.history (IsNear J.state J.other))
        → LeavesNowIfTold v.told.history (IsNear K.state K.other) → LeavesOnlyIfTold v.told.history x.told.history (IsNear K.state K.other)
    moment pinned same leaves now =
        let e : w.told.history ≡ v.told.history = stays.history ∙ same in
        subst (λ (h : Option History). LeavesOnlyIfTold h x.told.history (IsNear K.state K.other)) e
        (leaves (with_pins (K.pins ++ pinned.0 ∷ []) K.strays K) (stays.keeps (with_pins (K.pins ++ pinned.0 ∷ []) K.strays K) pinned.2)
        (subst (λ (h : Option History). LeavesNowIfTold h (IsNear K.state K.other)) (sym e) now))

-- a pin that was refused
pub stayed_still : (v x : View) (K : Core) (s n : ℕ) → x.told.blobs ≡ v.told.blobs → Keeps v K → ((J : Core) → Keeps v J → Keeps x J) → HasStayed v x K s n
stayed_still v x K s n same keeps stay = record {
  strays = K.strays;
  keeps = stay K keeps;
  within = λ tells kept q there. there;
  recipes = λ t m. ap (λ (b : Option Blobs). blob_at b (recipe_name t m)) same;
  blobs = λ tells kept q. ap (λ (b : Option Blobs). blob_at b q) same;
}

pub moment_still : (v x : View) (K : Core) → x.told.history ≡ v.told.history → LeavesNowIfTold v.told.history (IsNear K.state K.other) → LeavesOnlyIfTold v.told.history x.told.history (IsNear K.state K.other)
moment_still v x K same now = subst (λ (h : Option History). LeavesOnlyIfTold v.told.history h (IsNear K.state K.other)) (sym same) (leaves_same v.told.history (IsNear K.state K.other) now)

-- what the calls ask, and what stays over the copy

pub has_last : (pins now : List Listed) (l : Listed) → now ≡ pins ++ l ∷ [] → has l.number (numbers now) ≡ true
has_last pins now l are = subst (λ (ls : List Listed). has l.number (numbers ls) ≡ true) (sym are) (at pins)
  where
    at : (ls : List Listed) → has l.number (numbers (ls ++ l ∷ [])) ≡ true
    at [] = ap (λ b. b || false) (itself l.number)
    at (k ∷ ls) = or_right (nat_eq l.number k.number) (has l.number (numbers (ls ++ l ∷ []))) (at ls)
