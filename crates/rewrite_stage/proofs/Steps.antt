-- One chunk more, and the whole of a segment.
use Rattle.std.proofs.Common.{◌≡◌, ℕ, List, [], ◌∷◌, ◌++◌, map, length, get_or, take, ◌+◌, ◌<◌, length-take-le, arith, refl, sym, ap, subst, ◌∙◌, append_assoc, append-nil, Option, None}
use Rattle.std.proofs.lemmas.List.{map-append, take_more}
use Rattle.vault_types.specs.declared.Fp.{Fp}
use Rattle.vault_types.specs.declared.How.{How}
use Rattle.vault_types.specs.Names.{fp, named_chunk}
use Rattle.vault_types.specs.Decide.{Rules, Looked, how, is_written, decisions_in, look_up}
use Rattle.fp_index.specs.Index.{found_in}
use Rattle.rewrite_stage.specs.declared.Decided.{Decided}
use Rattle.rewrite_stage.specs.Deciding.{Deciding, HasDecided, looked_with, looked_up, places_of}
use Rattle.rewrite_stage.specs.Steps.{fps_with_olds, decide_all}

pub decide_all-push : (places : List (Fp × How)) (ps : List (Fp × Option ℕ)) (p : Fp × Option ℕ)
    → decide_all places (ps ++ p ∷ []) ≡ decide_all places ps ++ (p.0, how (is_written (decide_all places ps) p.0) p.1) ∷ []
decide_all-push places [] p = refl
decide_all-push places (q ∷ ps) p = decide_all-push (places ++ (q.0, how (is_written places q.0) q.1) ∷ []) ps p

pub decisions_in-is : (old : Looked → Option ℕ) (places : List (Fp × How)) (ls : List Looked) → decisions_in old places ls ≡ decide_all places (map (λ l. (l.fp, old l)) ls)
decisions_in-is old places [] = refl
decisions_in-is old places (l ∷ ls) = decisions_in-is old (places ++ (l.fp, how (is_written places l.fp) (old l)) ∷ []) ls

pub fps_with_olds-push : (cs : List (List ℕ)) (c : List ℕ) (os : List (Option ℕ)) → fps_with_olds (cs ++ c ∷ []) os ≡ fps_with_olds cs os ++ (fp c, get_or os (length cs) None) ∷ []
fps_with_olds-push [] c [] = refl
fps_with_olds-push [] c (o ∷ os) = refl
fps_with_olds-push (d ∷ cs) c [] = ap (λ ps. (fp d, None) ∷ ps) (fps_with_olds-push cs c [])
fps_with_olds-push (d ∷ cs) c (o ∷ os) = ap (λ ps. (fp d, o) ∷ ps) (fps_with_olds-push cs c os)

pub looked_with-push : (cs : List (List ℕ)) (c : List ℕ) (os : List (Option ℕ)) → looked_with (cs ++ c ∷ []) os ≡ looked_with cs os ++ record { fp = fp c; found = get_or os (length cs) None } ∷ []
looked_with-push [] c [] = refl
looked_with-push [] c (o ∷ os) = refl
looked_with-push (d ∷ cs) c [] = ap (λ ls. record { fp = fp d; found = None } ∷ ls) (looked_with-push cs c [])
looked_with-push (d ∷ cs) c (o ∷ os) = ap (λ ls. record { fp = fp d; found = o } ∷ ls) (looked_with-push cs c os)

pub fps_with_olds-looked : (g : Looked → Option ℕ) (cs : List (List ℕ)) (os : List (Option ℕ)) → fps_with_olds cs (map g (looked_with cs os)) ≡ map (λ l. (l.fp, g l)) (looked_with cs os)
fps_with_olds-looked g [] os = refl
fps_with_olds-looked g (c ∷ cs) [] = ap (λ ps. (fp c, g (record { fp = fp c; found = None })) ∷ ps) (fps_with_olds-looked g cs [])
fps_with_olds-looked g (c ∷ cs) (o ∷ os) = ap (λ ps. (fp c, g (record { fp = fp c; found = o })) ∷ ps) (fps_with_olds-looked g cs os)

pub looked-up : (index : List (Fp × List ℕ)) (cs : List (List ℕ)) → looked_with cs (map (λ c. found_in index (fp c)) cs) ≡ looked_up index cs
looked-up index [] = refl
looked-up index (c ∷ cs) = ap (λ ls. look_up (found_in index) (named_chunk c) ∷ ls) (looked-up index cs)

-- the places of decided chunks and one more
pub places-push : (places : List (Fp × How)) (ds : List Decided) (d : Decided) → places ++ places_of (ds ++ d ∷ []) ≡ (places ++ places_of ds) ++ (fp d.chunk, d.how) ∷ []
places-push places ds d =
    ap (λ ps. places ++ ps) (map-append (λ (d : Decided). (fp d.chunk, d.how)) ds (d ∷ []))
    ∙ sym (append_assoc places (places_of ds) ((fp d.chunk, d.how) ∷ []))

pub counted-more : (g : Looked → Option ℕ) (chunks : List (List ℕ)) (found items : List (Option ℕ)) (x : Option ℕ) (i : ℕ) (d : List ℕ) → i < length chunks
    → items ≡ map g (looked_with (take i chunks) found) → x ≡ g (record { fp = fp (get_or chunks i d); found = get_or found i None })
    → items ++ x ∷ [] ≡ map g (looked_with (take (i + 1) chunks) found)
counted-more g chunks found items x i d l e h =
    let place : length (take i chunks) ≡ i = length-take-le i chunks (omega arith) in
    let more : looked_with (take (i + 1) chunks) found ≡ looked_with (take i chunks) found ++ record { fp = fp (get_or chunks i d); found = get_or found i None } ∷ [] =
    ap (λ cs. looked_with cs found) (take_more chunks i d l) ∙ looked_with-push (take i chunks) (get_or chunks i d) found
    ∙ ap (λ n. looked_with (take i chunks) found ++ record { fp = fp (get_or chunks i d); found = get_or found n None } ∷ []) place in
    ap (λ os. os ++ x ∷ []) e ∙ ap (λ o. map g (looked_with (take i chunks) found) ++ o ∷ []) h
    ∙ sym (ap (map g) more ∙ map-append g (looked_with (take i chunks) found) (record { fp = fp (get_or chunks i d); found = get_or found i None } ∷ []))

-- some chunks were decided
pub record SoFar (old new : Deciding) (allowed : List (Option ℕ)) (chunks : List (List ℕ)) (ds : List Decided) : Type 0 where
  pub index : new.index ≡ old.index
  pub same : map (λ d. d.chunk) ds ≡ chunks
  pub places : (r : Rules) (places : List (Fp × How)) → HasDecided old r places → places ++ places_of ds ≡ decide_all places (fps_with_olds chunks allowed)
  pub decided : (r : Rules) (places : List (Fp × How)) → HasDecided old r places → HasDecided new r (places ++ places_of ds)

pub so_far-none : (d : Deciding) (allowed : List (Option ℕ)) → SoFar d d allowed [] []
so_far-none d allowed = record {
  index = refl;
  same = refl;
  places = λ r places h. append-nil places;
  decided = λ r places h. subst (HasDecided d r) (sym (append-nil places)) h;
}

pub so_far-more : (old mid new : Deciding) (allowed : List (Option ℕ)) (chunks : List (List ℕ)) (ds : List Decided) (c : List ℕ) (o : Option ℕ) (h : How) → SoFar old mid allowed chunks ds
    → new.index ≡ mid.index → o ≡ get_or allowed (length chunks) None
    → ((r : Rules) (places : List (Fp × How)) → HasDecided mid r places → h ≡ how (is_written places (fp c)) o)
    → ((r : Rules) (places : List (Fp × How)) → HasDecided mid r places → HasDecided new r (places ++ (fp c, h) ∷ []))
    → SoFar old new allowed (chunks ++ c ∷ []) (ds ++ record { chunk = c; how = h } ∷ [])
so_far-more old mid new allowed chunks ds c o h s index at says then' = record {
  index = index ∙ s.index;
  same = map-append (λ (d : Decided). d.chunk) ds (record { chunk = c; how = h } ∷ []) ∙ ap (λ cs. cs ++ c ∷ []) s.same;
  places = λ r places i.
      let before : List (Fp × How) = places ++ places_of ds in
      let whole : before ≡ decide_all places (fps_with_olds chunks allowed) = s.places r places i in
      let answer : h ≡ how (is_written (decide_all places (fps_with_olds chunks allowed)) (fp c)) (get_or allowed (length chunks) None) =
      says r before (s.decided r places i) ∙ ap (λ ps. how (is_written ps (fp c)) o) whole ∙ ap (λ p. how (is_written (decide_all places (fps_with_olds chunks allowed)) (fp c)) p) at in
      places-push places ds (record { chunk = c; how = h })
      ∙ ap (λ ps. ps ++ (fp c, h) ∷ []) whole
      ∙ ap (λ k. decide_all places (fps_with_olds chunks allowed) ++ (fp c, k) ∷ []) answer
      ∙ sym (ap (decide_all places) (fps_with_olds-push chunks c allowed) ∙ decide_all-push places (fps_with_olds chunks allowed) (fp c, get_or allowed (length chunks) None));
  decided = λ r places i.
      subst (HasDecided new r) (sym (places-push places ds (record { chunk = c; how = h }))) (then' r (places ++ places_of ds) (s.decided r places i));
}
