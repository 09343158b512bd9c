-- A load of a pinned container, at any later time, gives the payload that it has in each core from behind the pin; and a damage
-- that is answered is one that the blobs had then.
use Rattle.std.proofs.Common.{◌≡◌, ⊎_elim, ℕ, false, true, List, [], ◌∷◌, map, Option, Some, None, refl, sym, subst, ◌∙◌, arith}
use Rattle.std.specs.Prelude.{Contains, IsSome}
use Rattle.std.proofs.lemmas.List.Elements.{Contains-append_left, Contains-append_right}
use Rattle.vault_types.specs.declared.Fault.{Fault}
use Rattle.vault_types.specs.declared.Fault.TheVariants as fault
use Rattle.vault_types.specs.declared.Kind.{Kind}
use Rattle.vault_types.specs.declared.Kind.TheVariants as kind
use Rattle.vault_types.specs.declared.Name.{Name}
use Rattle.vault_types.specs.declared.Spot.{Spot}
use Rattle.vault_types.specs.declared.Why.{Why}
use Rattle.vault_types.specs.declared.Why.TheVariants as why
use Rattle.vault_types.specs.Events.{Core, Pin, put_by, pinned_containers}
use Rattle.vault_types.specs.Lists.{has}
use Rattle.vault_types.specs.Shelf.{Blobs, payload_name, Has}
use Rattle.vault_types.specs.Tables.{Container}
use Rattle.vault_traits.specs.Counts.{Rose, RiseFrom}
use Rattle.vault_traits.specs.Causes.{IsCause}
use Rattle.vault_types.specs.BlobDamage.{IsPayloadOf, IsPayloadDamage}
use Rattle.state_laws.specs.Parts.{HeldIfTold}
use Rattle.keeper_catalog.specs.View.{View, Keeps}
use Rattle.keeper_core.specs.Calls.{Lists}
use Rattle.state_laws.proofs.Members.{first_or_rest}
use Rattle.serial_restore.specs.Going.{HasPinned, IsFull}
use Rattle.serial_restore.proofs.Loads.{listed_at}
use Rattle.pin_laws.specs.Following.{Follows}
use Rattle.restore_turns.specs.Sent.{IsOwnPayload, IsLoadFault, number_of}

pinned_in : (pins : List Pin) (p : Pin) (c : Container) → Contains pins p → Contains p.containers c → Contains (pinned_containers pins) c
pinned_in [] p c there inside = absurd (omega (arith, there.1))
pinned_in (q ∷ qs) p c there inside = ⊎_elim
    (λ same. Contains-append_left q.containers (pinned_containers qs) c (subst (λ (r : Pin). Contains r.containers c) (sym same) inside))
    (λ rest. Contains-append_right q.containers (pinned_containers qs) c (pinned_in qs p c rest inside))
    (first_or_rest q qs p there)

-- the shelf has the payload of a container that a pin lists
payload_held : (v : View) (K : Core) (number id : ℕ) (c : Container) → Keeps v K → Lists K.pins number id c → Has v.told.blobs (payload_name c.table.id) c.payload
payload_held v K number id c keeps lists = at v.told.blobs keeps.held
  where
    at : (b : Option Blobs) → HeldIfTold b K → Has b (payload_name c.table.id) c.payload
    at None held = tt
    at (Some m) held = (held.containers c (Contains-append_left (pinned_containers K.pins) (put_by K.job) c (pinned_in K.pins lists.pin c lists.among lists.listed))).payload

-- what one of two shelves has under a name the other one has
has_back : (a b : Option Blobs) (name : Name) (p found : Option (List ℕ)) → (IsSome a → IsSome b) → Has a name p → Has b name p → Has b name found → Has a name found
has_back None b name p found tells one two now = tt
has_back (Some m) None name p found tells one two now = absurd (let clash : false ≡ true = tells refl in cc)
has_back (Some m) (Some n) name p found tells one two now = one ∙ sym two ∙ now

damage_back : (a b : Option Blobs) (c : Container) → (IsSome a → IsSome b) → Has a (payload_name c.table.id) c.payload → Has b (payload_name c.table.id) c.payload
    → (k : Kind) (n : ℕ) (y : Why) → IsPayloadDamage b c.table k n y → IsPayloadDamage a c.table k n y
damage_back a b c tells one two kind.Payload n why.Absent h = (h.0, has_back a b (payload_name c.table.id) c.payload None tells one two h.1)
damage_back a b c tells one two kind.Payload n other h = (h.0, (h.1.0, has_back a b (payload_name c.table.id) c.payload (Some h.1.0) tells one two h.1.1, h.1.2))
damage_back a b c tells one two other n y h = absurd h

module _ (u v : View) (number : ℕ) (follows : Follows u v number) where
  -- what the pin lists it lists now
  pub lists_now : (id : ℕ) (K : Core) (c : Container) → Keeps u K → Lists K.pins number id c → (J : Core) × Keeps v J × Lists J.pins number id c
  lists_now id K c keeps lists =
      let h = follows.cores K keeps in
      (h.core, h.keeps, record { pin = lists.pin; among = h.pinned lists.pin lists.has_number lists.among; has_number = lists.has_number; listed = lists.listed; has_id = lists.has_id })

  module _ (spots : List Spot) (id : ℕ) (among : has id (map (λ s. s.id) spots) ≡ true) where
    -- what a load asks
    pub load_asks : (K : Core) × HasPinned u number spots K → (J : Core) × (c : Container) × Keeps v J × Lists J.pins number id c
    load_asks pinned =
        let at = listed_at pinned.0.pins number spots id pinned.1.listed among in
        let now = lists_now id pinned.0 at.0 pinned.1.keeps at.1 in
        (now.0, at.0, now.1, now.2)

    -- what comes of a load that fails
    pub load_fails : (a b : ℕ) (f : Fault) → ((J : Core) (c : Container) → Keeps v J → Lists J.pins number id c → IsCause a b (IsPayloadDamage v.told.blobs c.table) f) → (K : Core) × HasPinned u number spots K → IsLoadFault u number spots (number_of f) f
    load_fails a b (fault.StoreFault n) cause pinned = refl
    load_fails a b (fault.Damaged k n y) cause pinned = λ K held.
        let at = listed_at K.pins number spots id held.listed among in
        let now = lists_now id K at.0 held.keeps at.1 in
        (id, at.0, at.1, damage_back u.told.blobs v.told.blobs at.0 follows.tells (payload_held u K number id at.0 held.keeps at.1) (payload_held v now.0 number id at.0 now.1 now.2) k n y (cause now.0 at.0 now.1 now.2))
    load_fails a b fault.Memory cause pinned = tt
    load_fails a b other cause pinned = let needs = load_asks pinned in absurd (cause needs.0 needs.1 needs.2 needs.3)

    -- its number lies above the count before
    pub load_rises : (a b : ℕ) (f : Fault) → ((J : Core) (c : Container) → Keeps v J → Lists J.pins number id c → IsCause a b (IsPayloadDamage v.told.blobs c.table) f) → (K : Core) × HasPinned u number spots K → (n : ℕ) → number_of f ≡ Some n → RiseFrom a (n ∷ []) b
    load_rises a b (fault.StoreFault m) cause pinned n is =
        let needs = load_asks pinned in
        let h = cause needs.0 needs.1 needs.2 needs.3 in
        let same : m ≡ n = cc in
        (subst (Rose a) (sym h.0 ∙ same) h.1, omega (arith, same, h.0))
    load_rises a b other cause pinned n is = absurd (let e : ◌≡◌ {A = Option ℕ} None (Some n) = is in cc)

  -- what a load gives
  pub load_gives : (id : ℕ) (bytes : List ℕ) → (IsSome v.told.blobs → (J : Core) (c : Container) → Keeps v J → Lists J.pins number id c → c.payload ≡ Some bytes)
      → ((J : Core) (c : Container) → Keeps v J → Lists J.pins number id c → IsPayloadOf c.table bytes) → IsOwnPayload u number id bytes
  load_gives id bytes given whole = record {
    whole = λ K c keeps lists. let now = lists_now id K c keeps lists in whole now.0 c now.1 now.2;
    own = λ tells K c keeps lists. let now = lists_now id K c keeps lists in given (follows.tells tells) now.0 c now.1 now.2;
  }

-- such a payload is whole
pub own_full : (u : View) (number : ℕ) (spots : List Spot) (id : ℕ) (bytes : List ℕ) → IsOwnPayload u number id bytes → IsFull u number spots id
own_full u number spots id bytes own tells K c pinned lists = (bytes, own.own tells K c pinned.keeps lists, (own.whole K c pinned.keeps lists).len)
