-- A placer that takes a chunk.
use Rattle.std.proofs.Common.{◌≡◌, ℕ, List, [], ◌∷◌, ◌++◌, map, length, refl, sym, ap, ◌∙◌, subst}
use Rattle.std.proofs.lemmas.List.{map-append}
use Rattle.std.specs.Prelude.{Option}
use Rattle.segmenter.specs.declared.Cut.{Cut}
use Rattle.segmenter.specs.declared.Cut.TheVariants.{Same, NewBefore}
use Rattle.segmenter.specs.Segments.{HasPushed, segments_of as segments_by, with_next}
use Rattle.vault_types.specs.declared.Fp.{Fp}
use Rattle.vault_types.specs.declared.How.{How}
use Rattle.vault_types.specs.Names.{NamedChunk, named_chunk}
use Rattle.vault_types.specs.Tables.{Container}
use Rattle.vault_types.specs.Decide.{Rules, look_up, decisions_of, decide}
use Rattle.vault_types.proofs.BackupLemmas.{joined-pieces}
use Rattle.fp_index.specs.Index.{found_in}
use Rattle.rewrite_stage.specs.Deciding.{Deciding, HasDecided, looked_up}
use Rattle.container_fill.specs.Filling.{Filling, HasFilled, size_of}
use Rattle.backup_pass.specs.declared.placer.Placer.{Placer}
use Rattle.backup_pass.specs.Placing.{HasPlaced, only_segment, joined, places_in, hows_at, answers_of}
use Rattle.backup_pass.proofs.Segments.{same_segment, new_segment}
use Rattle.backup_pass.proofs.Decisions.{places-only, joined-only}

pushed_lens : (chunks : List NamedChunk) (chunk : List ℕ) (n : ℕ) → n ≡ length chunk → map size_of chunks ++ n ∷ [] ≡ map size_of (chunks ++ named_chunk chunk ∷ [])
pushed_lens chunks chunk n e = ap (λ k. map size_of chunks ++ k ∷ []) e ∙ sym (map-append size_of chunks (named_chunk chunk ∷ []))

map-nothing : (xs : List (List ℕ)) → map named_chunk xs ≡ [] → xs ≡ []
map-nothing [] e = refl
map-nothing (x ∷ xs) e = cc

push_some : (xs : List (List ℕ)) (x : List ℕ) (ys : List (List ℕ)) → ys ≡ xs ++ x ∷ [] → ys ≡ [] → ⊥
push_some [] x ys e f = let g : ◌≡◌ {A = List (List ℕ)} (x ∷ []) [] = sym e ∙ f in cc
push_some (z ∷ xs) x ys e f = let g : ◌≡◌ {A = List (List ℕ)} (z ∷ xs ++ x ∷ []) [] = sym e ∙ f in cc

at_len : (cut : Cut) (s : ℕ) (ls : List ℕ) (n m : ℕ) → n ≡ m → segments_by s (ls ++ n ∷ []) ≡ with_next cut (segments_by s ls) n → segments_by s (ls ++ m ∷ []) ≡ with_next cut (segments_by s ls) m
at_len cut s ls n m e h = subst (λ k. segments_by s (ls ++ k ∷ []) ≡ with_next cut (segments_by s ls) k) e h

module _ (p q : Placer) (r : Rules) (first : ℕ) (chunks : List NamedChunk) (chunk : List ℕ) (n : ℕ) (len : n ≡ length chunk)
    (pushed : HasPushed q.segmenter r.config.segment (map size_of chunks ++ n ∷ [])) where
  -- the chunk goes into the open segment
  pub placed_same : (gone : List Container) → segments_by r.config.segment (map size_of chunks ++ n ∷ []) ≡ with_next Same (segments_by r.config.segment (map size_of chunks)) n
      → q.segment.items ≡ p.segment.items ++ chunk ∷ [] → q.decider ≡ p.decider → q.filler ≡ p.filler
      → HasPlaced p r first chunks gone → HasPlaced q r first (chunks ++ named_chunk chunk ∷ []) gone
  placed_same gone cut items decider filler h = record {
    pushed = subst (λ ls. HasPushed q.segmenter r.config.segment ls) (pushed_lens chunks chunk n len) pushed;
    done = h.done;
    split = same_segment r.config chunks (map named_chunk p.segment.items) (named_chunk chunk) h.done h.split (λ e. h.some (map-nothing p.segment.items e)) (at_len Same r.config.segment (map size_of chunks) n (length chunk) len cut)
        ∙ ap (λ s. h.done ++ only_segment s) (sym (map-append named_chunk p.segment.items (chunk ∷ [])) ∙ ap (map named_chunk) (sym items));
    some = λ e. absurd (push_some p.segment.items chunk q.segment.items items e);
    decided = subst (λ (d : Deciding). HasDecided d r (places_in (found_in d.index) r h.done)) (sym decider) h.decided;
    filled = subst (λ (d : Deciding). HasFilled q.filler first gone (joined h.done) (hows_at (places_in (found_in d.index) r h.done))) (sym decider)
        (subst (λ (f : Filling). HasFilled f first gone (joined h.done) (hows_at (places_in (answers_of p) r h.done))) (sym filler) h.filled);
    capacity = ap (λ (f : Filling). f.capacity) filler ∙ h.capacity;
  }

  -- the open segment is closed, and the chunk begins a new one
  pub placed_new : (gone before : List Container) → segments_by r.config.segment (map size_of chunks ++ n ∷ []) ≡ with_next NewBefore (segments_by r.config.segment (map size_of chunks)) n
      → q.segment.items ≡ chunk ∷ [] → q.decider.index ≡ p.decider.index → q.filler.capacity ≡ p.filler.capacity
      → (h : HasPlaced p r first chunks before)
      → HasDecided q.decider r (decisions_of r (places_in (answers_of p) r h.done) (looked_up p.decider.index p.segment.items))
      → HasFilled q.filler first gone (joined h.done ++ map named_chunk p.segment.items) (hows_at (decisions_of r (places_in (answers_of p) r h.done) (looked_up p.decider.index p.segment.items)))
      → HasPlaced q r first (chunks ++ named_chunk chunk ∷ []) gone
  placed_new gone before cut items index capacity h decided filled =
      let s : List NamedChunk = map named_chunk p.segment.items in
      let same : answers_of p ≡ answers_of q = ap found_in (sym index) in
      let places : decisions_of r (places_in (answers_of p) r h.done) (map (look_up (answers_of p)) s) ≡ places_in (answers_of q) r (h.done ++ only_segment s) =
      sym (places-only (answers_of p) r h.done s) ∙ ap (λ (find : Fp → Option ℕ). places_in find r (h.done ++ only_segment s)) same in
      record {
        pushed = subst (λ ls. HasPushed q.segmenter r.config.segment ls) (pushed_lens chunks chunk n len) pushed;
        done = h.done ++ only_segment s;
        split = new_segment r.config chunks s (named_chunk chunk) h.done h.split (at_len NewBefore r.config.segment (map size_of chunks) n (length chunk) len cut)
            ∙ ap (λ items. (h.done ++ only_segment s) ++ only_segment (map named_chunk items)) (sym items);
        some = λ e. absurd (push_some [] chunk q.segment.items items e);
        decided = subst (λ (ps : List (Fp × How)). HasDecided q.decider r ps) places decided;
        filled = subst (λ (cs : List NamedChunk). HasFilled q.filler first gone cs (hows_at (places_in (answers_of q) r (h.done ++ only_segment s)))) (sym (joined-only h.done s))
            (subst (λ (ps : List (Fp × How)). HasFilled q.filler first gone (joined h.done ++ s) (hows_at ps)) places filled);
        capacity = capacity ∙ h.capacity;
      }

-- all that was taken is filled
pub placed_all : (p : Placer) (r : Rules) (first : ℕ) (chunks : List NamedChunk) (before gone : List Container) (f : Filling) (h : HasPlaced p r first chunks before)
    → HasFilled f first gone (joined h.done ++ map named_chunk p.segment.items) (hows_at (decisions_of r (places_in (answers_of p) r h.done) (looked_up p.decider.index p.segment.items)))
    → HasFilled f first gone chunks (decide (answers_of p) r chunks)
placed_all p r first chunks before gone f h filled =
    let s : List NamedChunk = map named_chunk p.segment.items in
    subst (λ (cs : List NamedChunk). HasFilled f first gone cs (decide (answers_of p) r chunks)) (sym (joined-only h.done s) ∙ ap joined (sym h.split) ∙ joined-pieces (λ c. length c.bytes) r.config.segment chunks)
    (subst (λ (hs : List How). HasFilled f first gone (joined h.done ++ s) hs) (ap hows_at (sym (places-only (answers_of p) r h.done s)) ∙ ap (λ ss. hows_at (places_in (answers_of p) r ss)) (sym h.split)) filled)
