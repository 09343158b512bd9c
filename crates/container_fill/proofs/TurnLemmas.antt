-- What is decided for a job is in turn: an own write has an earlier one, and a write has none.
use Rattle.std.proofs.Common.{◌≡◌, ℕ, Bool, true, false, List, [], ◌∷◌, ◌++◌, map, refl, sym, subst, append_assoc, append-nil, Option, Some, None}
use Rattle.vault_types.specs.declared.Fp.{Fp}
use Rattle.vault_types.specs.declared.How.{How}
use Rattle.vault_types.specs.Names.{NamedChunk}
use Rattle.vault_types.specs.Decide.{Rules, Looked, is_written, how, decisions_in, decisions_of, decisions, allowed_id, segments, decide_segments, decide}
use Rattle.vault_types.proofs.DecideLemmas.{fps_of}
use Rattle.vault_types.proofs.RestoreLemmas.{fps-decide}
use Rattle.container_fill.specs.Carried.{IsInTurn, AreInTurnBehind, AreInTurn}

abbrev PlacesInTurn : List (Fp × How) → List (Fp × How) → Type 0
PlacesInTurn before [] = Unit {0}
PlacesInTurn before (p ∷ ps) = IsInTurn before p.0 p.1 × PlacesInTurn (before ++ p ∷ []) ps

one-more : (before ps : List (Fp × How)) (p : Fp × How) → PlacesInTurn before ps → IsInTurn (before ++ ps) p.0 p.1 → PlacesInTurn before (ps ++ p ∷ [])
one-more before [] p h i = let P : List (Fp × How) → Type 0 = λ b. IsInTurn b p.0 p.1 in (subst P (append-nil before) i, tt)
one-more before (q ∷ ps) p h i =
    let P : List (Fp × How) → Type 0 = λ b. IsInTurn b p.0 p.1 in
    (h.0, one-more (before ++ q ∷ []) ps p h.1 (subst P (sym (append_assoc before (q ∷ []) ps)) i))

how-in_turn : (places : List (Fp × How)) (f : Fp) (b : Bool) (old : Option ℕ) → is_written places f ≡ b → IsInTurn places f (how b old)
how-in_turn places f true old e = e
how-in_turn places f false (Some c) e = tt
how-in_turn places f false None e = e

in-segment : (old : Looked → Option ℕ) (ls : List Looked) (places : List (Fp × How)) → PlacesInTurn [] places → PlacesInTurn [] (decisions_in old places ls)
in-segment old [] places h = h
in-segment old (l ∷ ls) places h =
    let p : Fp × How = (l.fp, how (is_written places l.fp) (old l)) in
    in-segment old ls (places ++ p ∷ []) (one-more [] places p h (how-in_turn places l.fp (is_written places l.fp) (old l) refl))

in-segments : (r : Rules) (segs : List (List Looked)) (places : List (Fp × How)) → PlacesInTurn [] places → PlacesInTurn [] (decisions r places segs)
in-segments r [] places h = h
in-segments r (s ∷ segs) places h = in-segments r segs (decisions_of r places s) (in-segment (allowed_id r places s) s places h)

of-chunks : (before : List (Fp × How)) (cs : List NamedChunk) (places : List (Fp × How)) → fps_of places ≡ map (λ c. c.fp) cs → PlacesInTurn before places → AreInTurnBehind before cs (map (λ p. p.1) places)
of-chunks before [] places e h = tt
of-chunks before (c ∷ cs) [] e h = tt
of-chunks before (c ∷ cs) (p ∷ ps) e h =
    let head : p.0 ≡ c.fp = cc in
    let tail : fps_of ps ≡ map (λ d. d.fp) cs = cc in
    let P : Fp → Type 0 = λ f. IsInTurn before f p.1 in
    let Q : Fp → Type 0 = λ f. AreInTurnBehind (before ++ (f, p.1) ∷ []) cs (map (λ q. q.1) ps) in
    (subst P head h.0, subst Q head (of-chunks (before ++ p ∷ []) cs ps tail h.1))

-- of segments whose fingerprints are those of the chunks
pub segments-in_turn : (r : Rules) (segs : List (List Looked)) (chunks : List NamedChunk) → fps_of (decisions r [] segs) ≡ map (λ c. c.fp) chunks → AreInTurn chunks (decide_segments r segs)
segments-in_turn r segs chunks e = of-chunks [] chunks (decisions r [] segs) e (in-segments r segs [] tt)

-- of a job
pub decide-in_turn : (find : Fp → Option ℕ) (r : Rules) (chunks : List NamedChunk) → AreInTurn chunks (decide find r chunks)
decide-in_turn find r chunks = segments-in_turn r (segments find r.config chunks) chunks (fps-decide find r chunks)
