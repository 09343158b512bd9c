-- What a gatherer keeps.
use Rattle.std.specs.Prelude.{◌≡◌, ℕ, List, [], ◌++◌, map, Option}
use Rattle.vault_types.specs.declared.Fp.{Fp}
use Rattle.vault_types.specs.declared.How.{How}
use Rattle.vault_types.specs.Names.{NamedChunk, named_chunk}
use Rattle.vault_types.specs.Decide.{Rules, segments_of}
use Rattle.segmenter.specs.Segments.{HasPushed}
use Rattle.fp_index.specs.Index.{found_in}
use Rattle.rewrite_stage.specs.Deciding.{HasDecided}
use Rattle.segment_gather.specs.Segmented.{only_segment, size_of, joined, places_in}
use Rattle.segment_gather.specs.declared.gatherer.Gatherer.{Gatherer}

-- the index that was lent
abbrev pub index_of : Gatherer → List (Fp × List ℕ)
index_of g = g.decider.index

abbrev pub answers_of : Gatherer → Fp → Option ℕ
answers_of g f = found_in (index_of g) f

-- the chunks of the parts, and what was decided of each
abbrev pub chunks_in : List (NamedChunk × How) → List NamedChunk
chunks_in parts = map (λ p. p.0) parts

abbrev pub places_of : List (NamedChunk × How) → List (Fp × How)
places_of parts = map (λ p. (p.0.fp, p.1)) parts

-- the gatherer took these chunks by these rules, and gave these decisions out: those of the
-- segments that are complete
pub record HasGathered (g : Gatherer) (r : Rules) (chunks : List NamedChunk) (gone : List (NamedChunk
    × How)) : Type 0 where
  pub pushed : HasPushed g.segmenter r.config.segment (map size_of chunks)
  pub done : List (List NamedChunk)
  pub split : segments_of r.config chunks ≡ done ++ only_segment (map named_chunk g.segment.items)
  pub some : g.segment.items ≡ [] → chunks ≡ []
  pub decided : HasDecided g.decider r (places_in (answers_of g) r done)
  pub gone_chunks : chunks_in gone ≡ joined done
  pub gone_places : places_of gone ≡ places_in (answers_of g) r done

-- all of the chunks were decided
pub record HasDecidedAll (find : Fp
    → Option ℕ) (r : Rules) (chunks : List NamedChunk) (parts : List (NamedChunk × How)) : Type 0 where
  pub chunks_are : chunks_in parts ≡ chunks
  pub places_are : places_of parts ≡ places_in find r (segments_of r.config chunks)
