-- Names that may be taken out.
use Rattle.std.specs.Prelude.{List, Contains, None}
use Rattle.vault_types.specs.declared.Name.{Name}
use Rattle.vault_types.specs.Events.{Core, put_by, IsContainerName}
use Rattle.state_laws.specs.Parts.{IsIdle}

-- that the names go is seen by neither the state nor a half done change, and no container of the
-- job has one of them
abbrev pub AreIdle : Core → List Name → Type 0
AreIdle K names =
    (n : Name) → Contains names n → IsIdle K.state K.other n None × (IsContainerName (put_by K.job) n → ⊥)
