-- How decisions are carried out: what is not old is written once, and is referred to from then on.
use Rattle.std.specs.Prelude.{◌≡◌, ℕ, Bool, true, false, Option, Some, None, List, [], ◌∷◌, ◌++◌}
use Rattle.vault_types.specs.declared.Fp.{Fp}
use Rattle.vault_types.specs.declared.How.{How}
use Rattle.vault_types.specs.declared.How.TheVariants.{Old, Own, Write}
use Rattle.vault_types.specs.Names.{NamedChunk}
use Rattle.vault_types.specs.Decide.{is_written}

-- what a decision comes to where it is known whether the fingerprint was written
abbrev pub carried_how : Bool → How → How
carried_how written (Old c) = Old c
carried_how true Own = Own
carried_how true Write = Own
carried_how false Own = Write
carried_how false Write = Write

-- what the decisions come to behind these places, each a fingerprint and what was done
abbrev pub carried_behind : List (Fp × How) → List NamedChunk → List How → List How
carried_behind places [] hows = []
carried_behind places (c ∷ cs) [] = []
carried_behind places (c ∷ cs) (h ∷ hows) =
    carried_how (is_written places c.fp) h
    ∷ carried_behind (places ++ (c.fp, carried_how (is_written places c.fp) h) ∷ []) cs hows

-- what the decisions come to
abbrev pub carried : List NamedChunk → List How → List How
carried chunks hows = carried_behind [] chunks hows

-- an own write has an earlier one of its fingerprint, and a write has none
abbrev pub IsInTurn : List (Fp × How) → Fp → How → Type 0
IsInTurn places f (Old c) = Unit {0}
IsInTurn places f Own = is_written places f ≡ true
IsInTurn places f Write = is_written places f ≡ false

abbrev pub AreInTurnBehind : List (Fp × How) → List NamedChunk → List How → Type 0
AreInTurnBehind places [] hows = Unit {0}
AreInTurnBehind places (c ∷ cs) [] = Unit {0}
AreInTurnBehind places (c ∷ cs) (h ∷ hows) =
    IsInTurn places c.fp h × AreInTurnBehind (places ++ (c.fp, h) ∷ []) cs hows

abbrev pub AreInTurn : List NamedChunk → List How → Type 0
AreInTurn chunks hows = AreInTurnBehind [] chunks hows

-- how a chunk is stored whose row is added without its bytes
abbrev pub row_how : Option ℕ → How
row_how None = Own
row_how (Some id) = Old id
