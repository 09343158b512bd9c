-- Worked rows on the edges of the definitions: what they refuse, and what depends on the place.
use Rattle.std.proofs.Common.{◌≡◌, ℕ, ◌≤◌, ◌*◌, ◌+◌, ◌^◌, List, [], ◌∷◌, ◌++◌, replicate, refl, true, false, Some, None, ⊎_elim, arith}
use Rattle.vault_types.specs.declared.Fp.{Fp}
use Rattle.vault_types.specs.declared.Recipe.{Recipe}
use Rattle.vault_types.specs.declared.Flow.TheVariants.{Part, Failed}
use Rattle.vault_types.specs.declared.How.TheVariants.{Old, Own, Write}
use Rattle.vault_types.specs.declared.Kind.TheVariants as kind
use Rattle.vault_types.specs.declared.Why.TheVariants as why
use Rattle.vault_types.specs.declared.Fault.TheVariants as fault
use Rattle.vault_types.specs.declared.Line.TheVariants as line
use Rattle.vault_types.specs.Standard.{standard_limits, standard_config}
use Rattle.vault_types.specs.Names.{fp}
use Rattle.vault_types.specs.Decide.{Rules, decide_segments}
use Rattle.vault_types.specs.State.{empty_state, IsValid}
use Rattle.vault_types.specs.Bytes.{chunk_in}
use Rattle.vault_types.specs.Blobs.{IsRecipe}
use Rattle.vault_types.specs.Events.{version_in_recipe}
use Rattle.vault_types.specs.Stages.{Sends, AreReads, as_parts}
use Rattle.vault_types.specs.Refusals.{may_refuse}
use Rattle.vault_types.specs.Words.{config_in}

-- a whole of 36 bytes is none: with it one blob would spell two recipes
long_whole : Recipe
long_whole = record { set = 0; version = 1; next = 1; length = 0; rows = []; sparse = []; whole = Some (record { 0 = replicate 36 0 }) }

no_long_whole : IsRecipe long_whole → ⊥
unfolding long_whole
no_long_whole r = let e : ◌≡◌ {A = ℕ} 36 20 = r.whole.len in omega (arith, e)

-- a version whose recipe has no whole has the sum of its bytes
sum_without_whole : (version_in_recipe [] (record { set = 0; version = 1; next = 1; length = 0; rows = []; sparse = []; whole = None })).sum ≡ fp []
sum_without_whole = refl

-- a stage that swallows what it took doesn't send what is due
no_swallowing : Sends {X = ℕ} (Part 1 ∷ []) [] → ⊥
no_swallowing s = ⊎_elim (λ e. cc) (λ t. none t.0 t.3) s
  where
    none : (parts : List ℕ) → [] ≡ as_parts parts ++ Failed fault.Memory ∷ [] → ⊥
    none [] e = cc
    none (part ∷ parts) e = cc

-- nothing is read once more was read than the limit allows
no_more_reads : AreReads 0 ((1 ∷ []) ∷ (1 ∷ []) ∷ []) → ⊥
no_more_reads r = let e : ◌≤◌ 1 0 = r.within in omega (arith, e)

-- a store has 256 datasets
no_single_set : IsValid (empty_state 1) → ⊥
no_single_set v = let e : ◌≡◌ {A = ℕ} 1 256 = v.sets in omega (arith, e)

-- damage in a restore is that of the version's own recipe
own_recipe : may_refuse standard_limits (empty_state 256) (line.Restore 3 1 [] 1) (fault.Damaged kind.Recipe (3 * 2 ^ 32 + 1) why.Absent) ≡ true
own_recipe = refl

other_recipe : may_refuse standard_limits (empty_state 256) (line.Restore 3 1 [] 1) (fault.Damaged kind.Recipe 1 why.Absent) ≡ false
other_recipe = refl

unnamed_payload : may_refuse standard_limits (empty_state 256) (line.Restore 0 1 [] 1) (fault.Damaged kind.Payload 5 why.Absent) ≡ false
unnamed_payload = refl

other_limit : may_refuse standard_limits (empty_state 256) (line.Backup 0 [] standard_config) (fault.TooMany 3) ≡ false
other_limit = refl

-- the answers for one fingerprint may differ from place to place
toy_rules : Rules
toy_rules = record { sparse = []; config = standard_config }

toy : ℕ → Fp
toy n = record { 0 = n ∷ [] }

answers_by_place : decide_segments toy_rules ((record { fp = toy 1; found = Some 7 } ∷ record { fp = toy 1; found = None } ∷ record { fp = toy 1; found = Some 7 } ∷ []) ∷ []) ≡ Old 7 ∷ Write ∷ Own ∷ []
unfolding toy_rules toy
answers_by_place = refl

-- a chunk whose payload ends inside it is not there
cut_payload : chunk_in (record { fp = toy 1; len = 4 } ∷ []) (1 ∷ 2 ∷ 3 ∷ []) (toy 1) ≡ []
unfolding toy
cut_payload = refl

-- without settings a backup has the standard ones
no_settings : config_in [] ≡ standard_config
no_settings = refl
