-- What a decider keeps of the chunks that it has decided.
use Rattle.std.specs.Prelude.{◌≡◌, ℕ, List, [], ◌∷◌, map, Option, None}
use Rattle.std.specs.List.{list_any}
use Rattle.vault_types.specs.declared.Fp.{Fp}
use Rattle.vault_types.specs.declared.How.{How}
use Rattle.vault_types.specs.Lists.{has}
use Rattle.vault_types.specs.Names.{fp, same_fp, named_chunk}
use Rattle.vault_types.specs.Decide.{Rules, Looked, look_up, is_written}
use Rattle.fp_index.specs.Index.{found_in}
use Rattle.rewrite_stage.specs.declared.Decided.{Decided}

-- the index, the rules, and the fingerprints that were written
pub record Deciding : Type 0 where
  pub index : List (Fp × List ℕ)
  pub rules : Rules
  pub written : List Fp

-- chunks were decided by these rules, and are these places so far
pub record HasDecided (d : Deciding) (r : Rules) (places : List (Fp × How)) : Type 0 where
  pub config : d.rules.config ≡ r.config
  pub sparse : (c : ℕ) → has c d.rules.sparse ≡ has c r.sparse
  pub written : (f : Fp) → list_any (same_fp f) d.written ≡ is_written places f

-- the chunks as the index answers for them
abbrev pub looked_up : List (Fp × List ℕ) → List (List ℕ) → List Looked
looked_up index chunks = map (look_up (found_in index)) (map named_chunk chunks)

-- the chunks with these answers, by place
abbrev pub looked_with : List (List ℕ) → List (Option ℕ) → List Looked
looked_with [] found = []
looked_with (c ∷ cs) [] = record { fp = fp c; found = None } ∷ looked_with cs []
looked_with (c ∷ cs) (o ∷ os) = record { fp = fp c; found = o } ∷ looked_with cs os

-- the places of decided chunks
abbrev pub places_of : List Decided → List (Fp × How)
places_of decided = map (λ d. (fp d.chunk, d.how)) decided
