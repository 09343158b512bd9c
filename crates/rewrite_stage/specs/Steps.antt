-- Deciding chunk by chunk.
use Rattle.std.specs.Prelude.{ℕ, true, map, if◌then◌else◌, List, [], ◌∷◌, ◌++◌, Option, None}
use Rattle.vault_types.specs.declared.Fp.{Fp}
use Rattle.vault_types.specs.declared.How.{How}
use Rattle.vault_types.specs.declared.JobConfig.{JobConfig}
use Rattle.vault_types.specs.Lists.{has}
use Rattle.vault_types.specs.Capping.{kept_ids}
use Rattle.vault_types.specs.Names.{fp}
use Rattle.vault_types.specs.Decide.{only_if, caps, how, is_written}

-- the container, if it is one of these
abbrev pub only_kept : List ℕ → Option ℕ → Option ℕ
only_kept kept old = only_if (λ c. has c kept) old

-- the containers that the settings allow in a segment, where these count
abbrev pub allowed_of : JobConfig → List (Option ℕ) → List (Option ℕ)
allowed_of config counted =
    map (λ o. only_if (λ c. if caps config.rewrite then has c (kept_ids counted config.cap) else true) o)
    counted

-- the fingerprints of some chunks with these containers, by place
abbrev pub fps_with_olds : List (List ℕ) → List (Option ℕ) → List (Fp × Option ℕ)
fps_with_olds [] olds = []
fps_with_olds (c ∷ cs) [] = (fp c, None) ∷ fps_with_olds cs []
fps_with_olds (c ∷ cs) (o ∷ os) = (fp c, o) ∷ fps_with_olds cs os

-- the places so far and those of these fingerprints
abbrev pub decide_all : List (Fp × How) → List (Fp × Option ℕ) → List (Fp × How)
decide_all places [] = places
decide_all places (p ∷ ps) = decide_all (places ++ (p.0, how (is_written places p.0) p.1) ∷ []) ps
