-- Chunks on their way into containers.
use Rattle.std.specs.Prelude.{◌≡◌, ℕ, List, [], ◌∷◌, ◌++◌, map, flat_map, Option}
use Rattle.vault_types.specs.declared.Fp.{Fp}
use Rattle.vault_types.specs.declared.How.{How}
use Rattle.vault_types.specs.Names.{NamedChunk, named_chunk}
use Rattle.vault_types.specs.Tables.{Container}
use Rattle.vault_types.specs.Decide.{Rules, look_up, segments_of, decisions}
use Rattle.segmenter.specs.Segments.{HasPushed}
use Rattle.fp_index.specs.Index.{found_in}
use Rattle.rewrite_stage.specs.declared.Decided.{Decided}
use Rattle.rewrite_stage.specs.Deciding.{HasDecided}
use Rattle.container_fill.specs.Filling.{HasFilled, size_of}
use Rattle.backup_pass.specs.declared.placer.Placer.{Placer}

abbrev pub decided_chunk : Decided → NamedChunk
decided_chunk d = named_chunk d.chunk

abbrev pub hows_of : List Decided → List How
hows_of ds = map (λ d. d.how) ds

abbrev pub hows_at : List (Fp × How) → List How
hows_at places = map (λ p. p.1) places

-- a segment, where it has chunks
abbrev pub only_segment : List NamedChunk → List (List NamedChunk)
only_segment [] = []
only_segment (c ∷ cs) = (c ∷ cs) ∷ []

-- the chunks of some segments
abbrev pub joined : List (List NamedChunk) → List NamedChunk
joined segments = flat_map (λ s. s) segments

-- what was decided of these segments
abbrev pub places_in : (Fp → Option ℕ) → Rules → List (List NamedChunk) → List (Fp × How)
places_in find r done = decisions r [] (map (map (look_up find)) done)

-- the index that was lent to the placer
abbrev pub index_of : Placer → List (Fp × List ℕ)
index_of p = p.decider.index

-- the answers of the placer's index
abbrev pub answers_of : Placer → Fp → Option ℕ
answers_of p f = found_in (index_of p) f

-- the placer took these chunks by these rules, its first container has the id first, and it gave
-- these containers out
pub record HasPlaced (p : Placer) (r : Rules) (first : ℕ) (chunks : List NamedChunk)
    (gone : List Container) : Type 0 where
  pub pushed : HasPushed p.segmenter r.config.segment (map size_of chunks)
  pub done : List (List NamedChunk)
  pub split : segments_of r.config chunks ≡ done ++ only_segment (map named_chunk p.segment.items)
  pub some : p.segment.items ≡ [] → chunks ≡ []
  pub decided : HasDecided p.decider r (places_in (answers_of p) r done)
  pub filled : HasFilled p.filler first gone (joined done) (hows_at (places_in (answers_of p) r done))
  pub capacity : p.filler.capacity ≡ r.config.container
