-- What a sampled index answers, look by look.
use Rattle.std.specs.Prelude.{ℕ, Bool, ◌&&◌, nat_eq, if◌then◌else◌, List, [], ◌∷◌, take, Option, Some, None}
use Rattle.std.specs.List.{list_any}
use Rattle.vault_types.specs.declared.Fp.{Fp}
use Rattle.vault_types.specs.declared.Table.{Table}
use Rattle.vault_types.specs.Tables.{has_fp}

-- whether one of these tables has this id and the fingerprint
abbrev pub has_at : List Table → Fp → ℕ → Bool
has_at tables f id = list_any (λ t. nat_eq id t.id && has_fp f t) tables

-- the first of these containers whose table has the fingerprint
abbrev pub first_with : List Table → Fp → List ℕ → Option ℕ
first_with tables f [] = None
first_with tables f (id ∷ ids) = if has_at tables f id then Some id else first_with tables f ids

-- the ids without the first that is this one
abbrev pub without_first : ℕ → List ℕ → List ℕ
without_first id [] = []
without_first id (n ∷ ns) = if nat_eq id n then ns else n ∷ without_first id ns

-- one look, with the containers whose tables were used last, the last one first: that of the first of
-- these tables that has the fingerprint, and else that which the hook names
abbrev pub look_answer : List Table → (Fp → Option ℕ) → List ℕ → Fp → Option ℕ
look_answer tables hook used f = or_else (first_with tables f used) (hook f)
  where
    or_else : Option ℕ → Option ℕ → Option ℕ
    or_else (Some id) other = Some id
    or_else None other = other

-- the container that is answered comes to the front, and where there are more than so many the last
-- one leaves
abbrev pub used_after : ℕ → List ℕ → Option ℕ → List ℕ
used_after room used None = used
used_after room used (Some id) = take room (id ∷ without_first id used)

-- the answers to looks one after another
abbrev pub looks_from : List Table → (Fp → Option ℕ) → ℕ → List ℕ → List Fp → List (Option ℕ)
looks_from tables hook room used [] = []
looks_from tables hook room used (f ∷ fs) =
    look_answer tables hook used f
    ∷ looks_from tables hook room (used_after room used (look_answer tables hook used f)) fs

-- the same where no table was used
abbrev pub looks : List Table → (Fp → Option ℕ) → ℕ → List Fp → List (Option ℕ)
looks tables hook room fs = looks_from tables hook room [] fs
