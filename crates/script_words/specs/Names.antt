-- The names that the lines of a script use.
use Rattle.std.specs.Prelude.{◌≡◌, ℕ, List}
use Rattle.std.specs.BTreeSet.{contains_text}
use Rattle.vault_types.specs.Words.{is_one_of}
use Rattle.script_words.specs.declared.names.NameSet.{NameSet}
use Rattle.script_words.specs.declared.names.Names.{Names}

-- the set has just these names
pub record HasThese (set : NameSet) (known : List (List ℕ)) : Type 0 where
  pub each : (name : List ℕ) → contains_text set.names name ≡ is_one_of known name

-- the sets have just these sources and outputs
pub record HasNames (names : Names) (ins outs : List (List ℕ)) : Type 0 where
  pub sources : HasThese names.sources ins
  pub outputs : HasThese names.outputs outs
