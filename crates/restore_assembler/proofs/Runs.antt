-- Runs of spots that lie in one container, and the payloads that are present.
use Rattle.std.proofs.Common.{◌≡◌, ℕ, zero, suc, ◌+◌, ◌-◌, ◌<◌, ◌≤◌, Bool, true, false, IsTrue, cond, ◌||◌, eqb, nat_eq, List, [], ◌∷◌, ◌++◌, map, flat_map, All, length, length-drop, drop, take, get_or, refl, sym, ap, subst, ◌∙◌, arith}
use Rattle.std.specs.List.{AllByRecursion, dedup_from}
use Rattle.std.proofs.lemmas.Bool.{eq-eqb, eqb-true, false≢true}
use Rattle.std.proofs.lemmas.List.{take_all, take-append-drop}
use Rattle.std.proofs.lemmas.List.Concat.{flat_map-append}
use Rattle.std.proofs.lemmas.List.Elements.{All-from_recursion}
use Rattle.vault_types.specs.declared.Spot.{Spot}
use Rattle.vault_types.specs.Lists.{has}
use Rattle.vault_types.specs.Plans.{requests}
use Rattle.vault_types.specs.Bytes.{spot_bytes}
use Rattle.restore_assembler.specs.declared.payload.Payload.{Payload}
use Rattle.restore_assembler.specs.Payloads.{ids_of, bytes_under, Covers, AreCovering, AreKnown, run_length, first_id}

-- a spot that goes on with a run
run_cons : (id : ℕ) (spot : Spot) (spots : List Spot) → spot.id ≡ id → run_length id (spot ∷ spots) ≡ suc (run_length id spots)
run_cons id spot spots e = ap (λ b. cond b (suc (run_length id spots)) 0) (eq-eqb spot.id id e)

-- what is left, as the slice from there
pub left_is : (spots : List Spot) (done : ℕ) → take (length spots - done) (drop done spots) ≡ drop done spots
left_is spots done = let left : length (drop done spots) ≡ length spots - done = length-drop done spots in take_all (length spots - done) (drop done spots) (omega arith)

-- the requests of what is left: the first container, and then those behind its run
dedup_run : (q : ℕ) (spots : List Spot) → dedup_from nat_eq q (map (λ s. s.id) spots) ≡ q ∷ requests (map (λ s. s.id) (drop (run_length q spots) spots))
dedup_run q [] = refl
dedup_run q (spot ∷ spots) = go (eqb spot.id q) (dedup_run q spots)
  where
    go : (b : Bool) → dedup_from nat_eq q (map (λ s. s.id) spots) ≡ q ∷ requests (map (λ s. s.id) (drop (run_length q spots) spots))
        → cond b (dedup_from nat_eq q (map (λ s. s.id) spots)) (q ∷ dedup_from nat_eq spot.id (map (λ s. s.id) spots))
        ≡ q ∷ requests (map (λ s. s.id) (drop (cond b (suc (run_length q spots)) 0) (spot ∷ spots)))
    go true ih = ih
    go false ih = refl

pub requests_run : (spots : List Spot) → 0 < length spots → requests (map (λ s. s.id) spots) ≡ first_id spots ∷ requests (map (λ s. s.id) (drop (run_length (first_id spots) spots) spots))
requests_run [] l = absurd (omega arith)
requests_run (spot ∷ spots) l =
    dedup_run spot.id spots ∙ ap (λ n. spot.id ∷ requests (map (λ s. s.id) (drop n (spot ∷ spots)))) (sym (run_cons spot.id spot spots refl))

-- the bytes under an id that is among those that are present are known, and long enough for its spots
pub bytes_known : (payload : ℕ → List ℕ) (id : ℕ) (present : List Payload) → IsTrue (has id (ids_of present)) → AreKnown payload present → bytes_under id present ≡ payload id
bytes_known payload id [] among known = absurd (false≢true among)
bytes_known payload id (h ∷ present) among known = go (eqb id h.id) refl (λ t. bytes_known payload id present t known.1) among
  where
    go : (b : Bool) → eqb id h.id ≡ b → (IsTrue (has id (ids_of present)) → bytes_under id present ≡ payload id) → IsTrue (b || has id (ids_of present)) → cond b h.bytes.items (bytes_under id present) ≡ payload id
    go true e ih t = known.0 ∙ ap payload (sym (eqb-true id h.id e))
    go false e ih t = ih t

pub bytes_cover : (id : ℕ) (spots : List Spot) (present : List Payload) → IsTrue (has id (ids_of present)) → AreCovering spots present → Covers id (bytes_under id present) spots
bytes_cover id spots [] among covering = absurd (false≢true among)
bytes_cover id spots (h ∷ present) among covering = go (eqb id h.id) refl (λ t. bytes_cover id spots present t covering.1) among
  where
    go : (b : Bool) → eqb id h.id ≡ b → (IsTrue (has id (ids_of present)) → Covers id (bytes_under id present) spots) → IsTrue (b || has id (ids_of present)) → Covers id (cond b h.bytes.items (bytes_under id present)) spots
    go true e ih t = subst (λ (q : ℕ). Covers q h.bytes.items spots) (sym (eqb-true id h.id e)) covering.0
    go false e ih t = ih t

-- what holds of all spots holds of what is left
pub covers_drop : (id : ℕ) (bytes : List ℕ) (n : ℕ) (spots : List Spot) → Covers id bytes spots → Covers id bytes (drop n spots)
covers_drop id bytes zero spots h = h
covers_drop id bytes (suc n) [] h = h
covers_drop id bytes (suc n) (spot ∷ spots) h = covers_drop id bytes n spots h.1

-- each spot of a run ends within the bytes
run_fits : (id : ℕ) (bytes : List ℕ) (spots : List Spot) → Covers id bytes spots → AllByRecursion (λ s. s.at + s.len ≤ length bytes) (take (run_length id spots) spots)
run_fits id bytes [] h = tt
run_fits id bytes (spot ∷ spots) h = go (eqb spot.id id) refl (run_fits id bytes spots h.1)
  where
    go : (b : Bool) → eqb spot.id id ≡ b → AllByRecursion (λ s. s.at + s.len ≤ length bytes) (take (run_length id spots) spots) → AllByRecursion (λ s. s.at + s.len ≤ length bytes) (take (cond b (suc (run_length id spots)) 0) (spot ∷ spots))
    go true e ih = (h.0 (eqb-true spot.id id e), ih)
    go false e ih = tt

pub run_within : (id : ℕ) (bytes : List ℕ) (spots : List Spot) → Covers id bytes spots → All (λ s. s.at + s.len ≤ length bytes) (take (run_length id spots) spots)
run_within id bytes spots h = All-from_recursion (λ s. s.at + s.len ≤ length bytes) (take (run_length id spots) spots) (run_fits id bytes spots h)

-- the bytes of a run, where the payload is known
pub run_bytes : (payload : ℕ → List ℕ) (id : ℕ) (bytes : List ℕ) (spots : List Spot) → bytes ≡ payload id
    → flat_map (spot_bytes (λ _. bytes)) (take (run_length id spots) spots) ≡ flat_map (spot_bytes payload) (take (run_length id spots) spots)
run_bytes payload id bytes [] known = refl
run_bytes payload id bytes (spot ∷ spots) known = go (eqb spot.id id) refl (run_bytes payload id bytes spots known)
  where
    go : (b : Bool) → eqb spot.id id ≡ b → flat_map (spot_bytes (λ _. bytes)) (take (run_length id spots) spots) ≡ flat_map (spot_bytes payload) (take (run_length id spots) spots)
        → flat_map (spot_bytes (λ _. bytes)) (take (cond b (suc (run_length id spots)) 0) (spot ∷ spots)) ≡ flat_map (spot_bytes payload) (take (cond b (suc (run_length id spots)) 0) (spot ∷ spots))
    go true e ih =
        let same : bytes ≡ payload spot.id = known ∙ ap payload (sym (eqb-true spot.id id e)) in
        ap (λ bs. take spot.len (drop spot.at bs) ++ flat_map (spot_bytes (λ _. bytes)) (take (run_length id spots) spots)) same
        ∙ ap (λ bs. spot_bytes payload spot ++ bs) ih
    go false e ih = refl

-- what the code finds of the next run
abbrev front : List Spot → ℕ → List Spot
front spots done = take (length spots - done) (drop done spots)

first_of : (spots : List Spot) → (get_or spots 0 (record { id = 0; at = 0; len = 0 })).id ≡ first_id spots
first_of [] = refl
first_of (spot ∷ spots) = refl

front_is : (spots spots' : List Spot) (done : ℕ) → spots' ≡ spots → front spots' done ≡ drop done spots
front_is spots spots' done e = ap (λ ss. front ss done) e ∙ left_is spots done

pub run_found : (spots spots' : List Spot) (done run : ℕ) → spots' ≡ spots → run ≡ run_length (get_or (front spots' done) 0 (record { id = 0; at = 0; len = 0 })).id (front spots' done) → run ≡ run_length (first_id (drop done spots)) (drop done spots)
run_found spots spots' done run e h =
    h ∙ ap (λ q. run_length q (front spots' done)) (first_of (front spots' done)) ∙ ap (λ ss. run_length (first_id ss) ss) (front_is spots spots' done e)

pub bytes_found : (spots spots' : List Spot) (done : ℕ) (present present' : List Payload) (bytes : List ℕ) → spots' ≡ spots → present' ≡ present → bytes ≡ bytes_under (get_or (front spots' done) 0 (record { id = 0; at = 0; len = 0 })).id present' → bytes ≡ bytes_under (first_id (drop done spots)) present
bytes_found spots spots' done present present' bytes e f h =
    h ∙ ap (λ q. bytes_under q present') (first_of (front spots' done) ∙ ap first_id (front_is spots spots' done e)) ∙ ap (bytes_under (first_id (drop done spots))) f

-- the next run ends within its payload
pub next_within : (spots spots' : List Spot) (done run : ℕ) (present : List Payload) (bytes : List ℕ) → spots' ≡ spots
    → run ≡ run_length (first_id (drop done spots)) (drop done spots) → bytes ≡ bytes_under (first_id (drop done spots)) present
    → IsTrue (has (first_id (drop done spots)) (ids_of present)) → AreCovering spots present
    → All (λ s. s.at + s.len ≤ length bytes) (take run (front spots' done))
next_within spots spots' done run present bytes e r b among covering =
    let left : List Spot = drop done spots in
    let q : ℕ = first_id left in
    let long : Covers q bytes left = subst (λ (bs : List ℕ). Covers q bs left) (sym b) (covers_drop q (bytes_under q present) done spots (bytes_cover q spots present among covering)) in
    subst (λ (ss : List Spot). All (λ s. s.at + s.len ≤ length bytes) (take run ss)) (sym (front_is spots spots' done e))
    (subst (λ (n : ℕ). All (λ s. s.at + s.len ≤ length bytes) (take n left)) (sym r) (run_within q bytes left long))

-- its bytes, where the payloads are known
pub next_bytes : (payload : ℕ → List ℕ) (spots spots' : List Spot) (done run : ℕ) (present : List Payload) (bytes : List ℕ) → spots' ≡ spots
    → run ≡ run_length (first_id (drop done spots)) (drop done spots) → bytes ≡ bytes_under (first_id (drop done spots)) present
    → IsTrue (has (first_id (drop done spots)) (ids_of present)) → AreKnown payload present
    → flat_map (spot_bytes (λ _. bytes)) (take run (front spots' done)) ≡ flat_map (spot_bytes payload) (take (run_length (first_id (drop done spots)) (drop done spots)) (drop done spots))
next_bytes payload spots spots' done run present bytes e r b among known =
    let left : List Spot = drop done spots in
    let q : ℕ = first_id left in
    ap (λ ss. flat_map (spot_bytes (λ _. bytes)) (take run ss)) (front_is spots spots' done e)
    ∙ ap (λ n. flat_map (spot_bytes (λ _. bytes)) (take n left)) r
    ∙ run_bytes payload q bytes left (b ∙ bytes_known payload q present among known)

-- a run and what is behind it
pub run_parts : (payload : ℕ → List ℕ) (n : ℕ) (spots : List Spot) → flat_map (spot_bytes payload) (take n spots) ++ flat_map (spot_bytes payload) (drop n spots) ≡ flat_map (spot_bytes payload) spots
run_parts payload n spots = sym (flat_map-append (spot_bytes payload) (take n spots) (drop n spots)) ∙ ap (flat_map (spot_bytes payload)) (take-append-drop n spots)
