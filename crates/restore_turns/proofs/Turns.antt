-- The keeper's side of a restore that runs: it begins, other calls come, and a load gives its payload or fails.
use Rattle.std.proofs.Common.{◌≡◌, ◌⊎◌, inl, inr, ℕ, ◌+◌, ◌≤◌, true, List, [], ◌∷◌, ◌++◌, drop, length, map, Option, Some, None, refl, sym, ap, subst, ◌∙◌, arith, append_assoc}
use Rattle.std.specs.Prelude.{Contains, IsSome}
use Rattle.std.specs.List.{AllByRecursion}
use Rattle.std.proofs.lemmas.List.{append-nil, length-append}
use Rattle.std.proofs.lemmas.List.Elements.{Contains-append_right}
use Rattle.vault_types.specs.declared.Fault.{Fault}
use Rattle.vault_types.specs.declared.Name.{Name}
use Rattle.vault_types.specs.declared.Spot.{Spot}
use Rattle.vault_types.specs.BlobDamage.{IsPayloadOf, IsPayloadDamage}
use Rattle.vault_types.specs.Events.{Core, Change}
use Rattle.vault_types.specs.Lists.{has}
use Rattle.vault_types.specs.State.{State}
use Rattle.vault_types.specs.Tables.{Container}
use Rattle.vault_traits.specs.Causes.{IsCause}
use Rattle.vault_traits.specs.Counts.{counted_up, Rose}
use Rattle.vault_traits.specs.Told.{ShelfTold}
use Rattle.store_model.specs.Steps.{Moment}
use Rattle.keeper_catalog.specs.View.{View, Keeps}
use Rattle.keeper_core.specs.Calls.{Lists}
use Rattle.commit_laws.proofs.Listing.{all_append, has_of}
use Rattle.restore_assembler.specs.declared.payload.Payload.{Payload}
use Rattle.beside_laws.specs.Steps.{LeavesState, GoesOnRestore}
use Rattle.serial_restore.specs.Going.{Stays, HasPinned}
use Rattle.restore_stage.specs.declared.Loaded.{Loaded}
use Rattle.restore_stage.specs.declared.Loaded.TheVariants as loaded
use Rattle.restore_stage.specs.Assembling.{ids}
use Rattle.pin_laws.specs.Following.{Follows}
use Rattle.pin_laws.proofs.Calls.{by_none, further}
use Rattle.restore_turns.specs.Sent.{IsOwnPayload, IsSent, AreSent, IsPart, number_of}
use Rattle.restore_turns.specs.Entry.{IsEntry, IsGoing, MeetsFirst}
use Rattle.restore_turns.proofs.Loads.{load_asks, load_fails, load_rises, load_gives}
use Rattle.restore_turns.proofs.Leaves.{tells_same}

pub ids_append : (xs ys : List Loaded) → ids (xs ++ ys) ≡ ids xs ++ ids ys
ids_append [] ys = refl
ids_append (loaded.Payload p ∷ xs) ys = ap (λ (is : List ℕ). p.id ∷ is) (ids_append xs ys)
ids_append (loaded.Failed f ∷ xs) ys = ids_append xs ys

left_is : (xs ys zs : List ℕ) → xs ++ ys ≡ zs → drop (length xs) zs ≡ ys
left_is xs ys zs is = ap (drop (length xs)) (sym is) ∙ at xs
  where
    at : (ws : List ℕ) → drop (length ws) (ws ++ ys) ≡ ys
    at [] = refl
    at (w ∷ ws) = at ws

not_none : (x : ℕ) (xs : List ℕ) → (x ∷ xs ≡ [] → ⊥)
not_none x xs e = cc

parts_sent : (u : View) (number : ℕ) (spots : List Spot) (a b : Option ℕ) (items : List Loaded) → AllByRecursion IsPart items → AreSent u number spots a items → AreSent u number spots b items
parts_sent u number spots a b [] parts all = tt
parts_sent u number spots a b (loaded.Payload p ∷ items) parts all = (all.0, parts_sent u number spots a b items parts.1 all.1)
parts_sent u number spots a b (loaded.Failed f ∷ items) parts all = absurd parts.0

-- it begins
pub entry_begins : (u now : View) (number : ℕ) (spots : List Spot) (loads : List ℕ) → Follows u now number → u.told.faults ≤ now.told.faults → (K : Core) × HasPinned u number spots K → ((id : ℕ) → Contains loads id → Contains (map (λ s. s.id) spots) id)
    → IsEntry u now number spots loads 0 None [] × IsGoing 0 None []
entry_begins u now number spots loads follows later core asked = (
  record {
    follows = follows;
    later = later;
    core = core;
    asked = asked;
    all = tt;
    tried = record { left = loads; parts = refl; count = inl refl };
    rose = λ m is. absurd (let e : ◌≡◌ {A = Option ℕ} None (Some m) = is in cc);
  },
  record { none = refl; count = refl; parts = tt },
)

-- a load leaves each pin
pub load_follows : (v w : View) (number : ℕ) → Stays v w → Follows v w number
load_follows v w number s = by_none v w number (tells_same v.told.blobs w.told.blobs s.blobs) s.keeps

-- other calls come
pub entry_follows : (u v w : View) (number : ℕ) (spots : List Spot) (loads : List ℕ) (got : ℕ) (met : Option ℕ) (sent : List Loaded) → IsEntry u v number spots loads got met sent → Follows v w number → v.told.faults ≤ w.told.faults
    → IsEntry u w number spots loads got met sent
entry_follows u v w number spots loads got met sent e follows later = record {
  follows = further u v w number e.follows follows;
  later = let a = e.later in omega (arith, a, later);
  core = e.core;
  asked = e.asked;
  all = e.all;
  tried = e.tried;
  rose = e.rose;
}

module _ (u v w : View) (number : ℕ) (spots : List Spot) (loads : List ℕ) (got : ℕ) (met : Option ℕ) (sent : List Loaded) (e : IsEntry u v number spots loads got met sent) (going : IsGoing got met sent) (id : ℕ) (more : List ℕ) (next : drop got loads ≡ id ∷ more) where
  left_next : e.tried.left ≡ id ∷ more
  left_next = sym (left_is (ids sent) e.tried.left loads e.tried.parts) ∙ ap (λ (k : ℕ). drop k loads) (sym going.count) ∙ next

  loads_are : ids sent ++ id ∷ more ≡ loads
  unfolding left_next
  loads_are = ap (λ (is : List ℕ). ids sent ++ is) (sym left_next) ∙ e.tried.parts

  id_among : has id (map (λ s. s.id) spots) ≡ true
  unfolding loads_are
  id_among = has_of id (map (λ s. s.id) spots) (e.asked id (subst (λ (is : List ℕ). Contains is id) loads_are (Contains-append_right (ids sent) (id ∷ more) id (0, omega arith, refl))))

  -- what the load asks
  pub turn_asks : (J : Core) × (c : Container) × Keeps v J × Lists J.pins number id c
  unfolding id_among
  turn_asks = load_asks u v number e.follows spots id id_among e.core

  module _ (stays : Stays v w) where
    goes_on : Follows u w number
    goes_on = further u v w number e.follows (load_follows v w number stays)

    later_on : u.told.faults ≤ w.told.faults
    later_on = let a = e.later in let b = stays.later in omega (arith, a, b)

    -- it gives the payload
    pub turn_gives : (p : Payload) → p.id ≡ id → (IsSome v.told.blobs → (J : Core) (c : Container) → Keeps v J → Lists J.pins number id c → c.payload ≡ Some p.bytes.items)
        → ((J : Core) (c : Container) → Keeps v J → Lists J.pins number id c → IsPayloadOf c.table p.bytes.items)
        → IsEntry u w number spots loads (got + 1) met (sent ++ loaded.Payload p ∷ []) × IsGoing (got + 1) met (sent ++ loaded.Payload p ∷ [])
    unfolding goes_on later_on loads_are
    turn_gives p is given whole =
        let own : IsOwnPayload u number p.id p.bytes.items = subst (λ (n : ℕ). IsOwnPayload u number n p.bytes.items) (sym is) (load_gives u v number e.follows id p.bytes.items given whole) in
        let all_ids : ids (sent ++ loaded.Payload p ∷ []) ≡ ids sent ++ p.id ∷ [] = ids_append sent (loaded.Payload p ∷ []) in
        let long : length (ids (sent ++ loaded.Payload p ∷ [])) ≡ length (ids sent) + 1 = ap length all_ids ∙ length-append (ids sent) (p.id ∷ []) in
        let count : got + 1 ≡ length (ids (sent ++ loaded.Payload p ∷ [])) = let a = going.count in omega (arith, a, long) in (
          record {
            follows = goes_on;
            later = later_on;
            core = e.core;
            asked = e.asked;
            all = all_append (IsSent u number spots met) sent (loaded.Payload p ∷ []) e.all (own, tt);
            tried = record {
              left = more;
              parts = ap (λ (ns : List ℕ). ns ++ more) all_ids ∙ append_assoc (ids sent) (p.id ∷ []) more ∙ ap (λ (n : ℕ). ids sent ++ n ∷ more) is ∙ loads_are;
              count = inl count;
            };
            rose = e.rose;
          },
          record { none = going.none; count = count; parts = all_append IsPart sent (loaded.Payload p ∷ []) going.parts (tt, tt) },
        )

    -- or it fails
    pub turn_fails : (f : Fault) → ((J : Core) (c : Container) → Keeps v J → Lists J.pins number id c → IsCause v.told.faults w.told.faults (IsPayloadDamage v.told.blobs c.table) f)
        → IsEntry u w number spots loads (got + 1) (number_of f) (sent ++ loaded.Failed f ∷ [])
    unfolding goes_on later_on loads_are left_next id_among
    turn_fails f cause =
        let same_ids : ids (sent ++ loaded.Failed f ∷ []) ≡ ids sent = ids_append sent (loaded.Failed f ∷ []) ∙ append-nil (ids sent) in
        record {
          follows = goes_on;
          later = later_on;
          core = e.core;
          asked = e.asked;
          all = all_append (IsSent u number spots (number_of f)) sent (loaded.Failed f ∷ []) (parts_sent u number spots met (number_of f) sent going.parts e.all) (load_fails u v number e.follows spots id id_among v.told.faults w.told.faults f cause e.core, tt);
          tried = record {
            left = id ∷ more;
            parts = ap (λ (ns : List ℕ). ns ++ id ∷ more) same_ids ∙ loads_are;
            count = inr (let a = going.count in let b : length (ids (sent ++ loaded.Failed f ∷ [])) ≡ length (ids sent) = ap length same_ids in omega (arith, a, b), not_none id more);
          };
          rose = λ m is. let h = (load_rises u v number e.follows spots id id_among v.told.faults w.told.faults f cause e.core m is).0 in rose_later u.told.faults v.told.faults m e.later h;
        }
      where
        rose_later : (a b c : ℕ) → a ≤ b → Rose b c → Rose a c
        rose_later a b c late rose = grind arith

    -- the number that was met then
    pub turn_meets : (f : Fault) → ((J : Core) (c : Container) → Keeps v J → Lists J.pins number id c → IsCause v.told.faults w.told.faults (IsPayloadDamage v.told.blobs c.table) f)
        → MeetsFirst v.told.faults met (number_of f) w.told.faults
    unfolding id_among
    turn_meets f cause = at (number_of f) refl
      where
        at : (o : Option ℕ) → number_of f ≡ o → MeetsFirst v.told.faults met (number_of f) w.told.faults
        at None none = inl (none ∙ sym going.none, stays.later)
        at (Some m) some = inr (going.none, (m, some, load_rises u v number e.follows spots id id_among v.told.faults w.told.faults f cause e.core m some))

-- a step of the run, of anything that has the keeper's shelf
pub goes_on_step : {K : Type 0} (shelf : K → ShelfTold) (state : K → State → Option Change → Type 0) (known : K → Name → Type 0) (old new : Moment K) (v w : View) → LeavesState shelf state known old.keeper new.keeper → new.places ≡ old.places
    → shelf old.keeper ≡ v.told → shelf new.keeper ≡ w.told → (before : Option ℕ) (n : ℕ) (met : Option ℕ) → w.told.gets ≡ counted_up v.told.gets n → MeetsFirst v.told.faults before met w.told.faults → GoesOnRestore shelf state known old before n met new
goes_on_step shelf state known old new v w leaves places was is before n met gets meets = record {
  leaves = leaves;
  gets = ap (λ t. t.gets) is ∙ gets ∙ ap (λ t. counted_up t.gets n) (sym was);
  places = places;
  faults = subst (λ (t : ShelfTold). MeetsFirst t.faults before met (shelf new.keeper).faults) (sym was) (subst (λ (t : ShelfTold). MeetsFirst v.told.faults before met t.faults) (sym is) meets);
}
