-- Decisions come in turn: what is own was written before, and what is written was not.
use Rattle.std.proofs.Common.{◌≡◌, ℕ, suc, Bool, true, false, List, [], ◌∷◌, ◌++◌, map, length, refl, sym, ap, ◌∙◌, subst, append_assoc, append-nil, Option, Some, None}
use Rattle.std.proofs.lemmas.List.{map-append}
use Rattle.vault_types.specs.declared.Fp.{Fp}
use Rattle.vault_types.specs.declared.How.{How}
use Rattle.vault_types.specs.Names.{NamedChunk}
use Rattle.vault_types.specs.Decide.{Rules, Looked, look_up, is_written, how, allowed_id, decisions_in, decisions_of, decisions, decide, segments_of}
use Rattle.vault_types.proofs.BackupLemmas.{joined-pieces}
use Rattle.container_fill.specs.Carried.{IsInTurn, AreInTurnBehind, AreInTurn}
use Rattle.container_fill.specs.Filling.{places_of}
use Rattle.backup_pass.specs.Placing.{places_in, hows_at, only_segment, joined}

-- what is decided of a segment
abbrev new_hows : (Looked → Option ℕ) → (Fp → Option ℕ) → List (Fp × How) → List NamedChunk → List How
new_hows old find places [] = []
new_hows old find places (c ∷ cs) =
    let h : How = how (is_written places c.fp) (old (look_up find c)) in h ∷ new_hows old find (places ++ (c.fp, h) ∷ []) cs

length-new_hows : (old : Looked → Option ℕ) (find : Fp → Option ℕ) (cs : List NamedChunk) (places : List (Fp × How)) → length cs ≡ length (new_hows old find places cs)
length-new_hows old find [] places = refl
length-new_hows old find (c ∷ cs) places = ap suc (length-new_hows old find cs (places ++ (c.fp, how (is_written places c.fp) (old (look_up find c))) ∷ []))

decisions_in-hows : (old : Looked → Option ℕ) (find : Fp → Option ℕ) (cs : List NamedChunk) (places : List (Fp × How)) → decisions_in old places (map (look_up find) cs) ≡ places ++ places_of cs (new_hows old find places cs)
decisions_in-hows old find [] places = sym (append-nil places)
decisions_in-hows old find (c ∷ cs) places =
    let h : How = how (is_written places c.fp) (old (look_up find c)) in
    decisions_in-hows old find cs (places ++ (c.fp, h) ∷ []) ∙ append_assoc places ((c.fp, h) ∷ []) (places_of cs (new_hows old find (places ++ (c.fp, h) ∷ []) cs))

in_turn : (places : List (Fp × How)) (f : Fp) (o : Option ℕ) (b : Bool) → is_written places f ≡ b → IsInTurn places f (how b o)
in_turn places f o true e = e
in_turn places f (Some c) false e = tt
in_turn places f None false e = e

new_in_turn : (old : Looked → Option ℕ) (find : Fp → Option ℕ) (cs : List NamedChunk) (places : List (Fp × How)) → AreInTurnBehind places cs (new_hows old find places cs)
new_in_turn old find [] places = tt
new_in_turn old find (c ∷ cs) places =
    (in_turn places c.fp (old (look_up find c)) (is_written places c.fp) refl, new_in_turn old find cs (places ++ (c.fp, how (is_written places c.fp) (old (look_up find c))) ∷ []))

in_turn-append : (cs ds : List NamedChunk) (hs is : List How) (places : List (Fp × How)) → length cs ≡ length hs → AreInTurnBehind places cs hs → AreInTurnBehind (places ++ places_of cs hs) ds is → AreInTurnBehind places (cs ++ ds) (hs ++ is)
in_turn-append [] ds [] is places e h i = subst (λ ps. AreInTurnBehind ps ds is) (append-nil places) i
in_turn-append [] ds (x ∷ hs) is places e h i = cc
in_turn-append (c ∷ cs) ds [] is places e h i = cc
in_turn-append (c ∷ cs) ds (x ∷ hs) is places e h i =
    let f : length cs ≡ length hs = cc in
    (h.0, in_turn-append cs ds hs is (places ++ (c.fp, x) ∷ []) f h.1 (subst (λ ps. AreInTurnBehind ps ds is) (sym (append_assoc places ((c.fp, x) ∷ []) (places_of cs hs))) i))

places_of-append : (cs ds : List NamedChunk) (hs is : List How) → length cs ≡ length hs → places_of (cs ++ ds) (hs ++ is) ≡ places_of cs hs ++ places_of ds is
places_of-append [] ds [] is e = refl
places_of-append [] ds (x ∷ hs) is e = cc
places_of-append (c ∷ cs) ds [] is e = cc
places_of-append (c ∷ cs) ds (x ∷ hs) is e = let f : length cs ≡ length hs = cc in ap (λ ps. (c.fp, x) ∷ ps) (places_of-append cs ds hs is f)

hows_at-places : (cs : List NamedChunk) (hs : List How) → length cs ≡ length hs → hows_at (places_of cs hs) ≡ hs
hows_at-places [] [] e = refl
hows_at-places [] (x ∷ hs) e = cc
hows_at-places (c ∷ cs) [] e = cc
hows_at-places (c ∷ cs) (x ∷ hs) e = let f : length cs ≡ length hs = cc in ap (λ is. x ∷ is) (hows_at-places cs hs f)

module _ (find : Fp → Option ℕ) (r : Rules) where
  -- what is decided of some segments
  abbrev all_hows : List (Fp × How) → List (List NamedChunk) → List How
  all_hows places [] = []
  all_hows places (s ∷ ss) =
      let hs : List How = new_hows (allowed_id r places (map (look_up find) s)) find places s in hs ++ all_hows (places ++ places_of s hs) ss

  length-all_hows : (ss : List (List NamedChunk)) (places : List (Fp × How)) → length (joined ss) ≡ length (all_hows places ss)
  length-all_hows [] places = refl
  length-all_hows (s ∷ ss) places =
      let hs : List How = new_hows (allowed_id r places (map (look_up find) s)) find places s in
      both s hs (joined ss) (all_hows (places ++ places_of s hs) ss) (length-new_hows (allowed_id r places (map (look_up find) s)) find s places) (length-all_hows ss (places ++ places_of s hs))
    where
      both : (cs : List NamedChunk) (hs : List How) (ds : List NamedChunk) (is : List How) → length cs ≡ length hs → length ds ≡ length is → length (cs ++ ds) ≡ length (hs ++ is)
      both [] [] ds is e f = f
      both [] (x ∷ hs) ds is e f = cc
      both (c ∷ cs) [] ds is e f = cc
      both (c ∷ cs) (x ∷ hs) ds is e f = let g : length cs ≡ length hs = cc in ap suc (both cs hs ds is g f)

  decisions-hows : (ss : List (List NamedChunk)) (places : List (Fp × How)) → decisions r places (map (map (look_up find)) ss) ≡ places ++ places_of (joined ss) (all_hows places ss)
  decisions-hows [] places = sym (append-nil places)
  decisions-hows (s ∷ ss) places =
      let hs : List How = new_hows (allowed_id r places (map (look_up find) s)) find places s in
      ap (λ ps. decisions r ps (map (map (look_up find)) ss)) (decisions_in-hows (allowed_id r places (map (look_up find) s)) find s places)
      ∙ decisions-hows ss (places ++ places_of s hs)
      ∙ append_assoc places (places_of s hs) (places_of (joined ss) (all_hows (places ++ places_of s hs) ss))
      ∙ ap (λ ps. places ++ ps) (sym (places_of-append s (joined ss) hs (all_hows (places ++ places_of s hs) ss) (length-new_hows (allowed_id r places (map (look_up find) s)) find s places)))

  all_in_turn : (ss : List (List NamedChunk)) (places : List (Fp × How)) → AreInTurnBehind places (joined ss) (all_hows places ss)
  all_in_turn [] places = tt
  all_in_turn (s ∷ ss) places =
      let hs : List How = new_hows (allowed_id r places (map (look_up find) s)) find places s in
      in_turn-append s (joined ss) hs (all_hows (places ++ places_of s hs) ss) places (length-new_hows (allowed_id r places (map (look_up find) s)) find s places)
      (new_in_turn (allowed_id r places (map (look_up find) s)) find s places) (all_in_turn ss (places ++ places_of s hs))

  segments_in_turn : (ss : List (List NamedChunk)) → AreInTurn (joined ss) (hows_at (places_in find r ss))
  segments_in_turn ss = subst (λ hs. AreInTurnBehind [] (joined ss) hs)
      (sym (ap hows_at (decisions-hows ss []) ∙ hows_at-places (joined ss) (all_hows [] ss) (length-all_hows ss [])))
      (all_in_turn ss [])

  -- the decisions on the chunks of a job come in turn
  pub decide_in_turn : (chunks : List NamedChunk) → AreInTurn chunks (decide find r chunks)
  decide_in_turn chunks = subst (λ cs. AreInTurn cs (decide find r chunks)) (joined-pieces (λ c. length c.bytes) r.config.segment chunks) (segments_in_turn (segments_of r.config chunks))

  -- one segment more

  decisions-push : (segments : List (List Looked)) (s : List Looked) (places : List (Fp × How)) → decisions r places (segments ++ s ∷ []) ≡ decisions_of r (decisions r places segments) s
  decisions-push [] s places = refl
  decisions-push (t ∷ segments) s places = decisions-push segments s (decisions_of r places t)

  pub places-only : (done : List (List NamedChunk)) (s : List NamedChunk) → places_in find r (done ++ only_segment s) ≡ decisions_of r (places_in find r done) (map (look_up find) s)
  places-only done [] = ap (places_in find r) (append-nil done)
  places-only done (c ∷ cs) = ap (decisions r []) (map-append (map (look_up find)) done ((c ∷ cs) ∷ [])) ∙ decisions-push (map (map (look_up find)) done) (map (look_up find) (c ∷ cs)) []

pub joined-only : (done : List (List NamedChunk)) (s : List NamedChunk) → joined (done ++ only_segment s) ≡ joined done ++ s
joined-only [] [] = refl
joined-only [] (c ∷ cs) = append-nil (c ∷ cs)
joined-only (d ∷ done) s = ap (λ cs. d ++ cs) (joined-only done s) ∙ sym (append_assoc d (joined done) s)
