-- A shelf that tells its blobs goes on telling them.
use Rattle.std.proofs.Common.{◌≡◌, ◌⊎◌, ⊎_elim, ℕ, List, Option, Some, None, refl, sym, ◌∙◌, subst}
use Rattle.std.specs.Prelude.{◌≢◌, IsSome}
use Rattle.vault_types.specs.declared.Name.{Name}
use Rattle.vault_types.specs.Shelf.{Blobs, blob_at}
use Rattle.vault_traits.specs.Crash.{History}
use Rattle.vault_traits.specs.Shelf.{blobs_with, MayBeWritten}
use Rattle.vault_traits.proofs.Maps.{get_other, other_blob}
use Rattle.vault_traits.specs.Writes.{MayBeWrittenInTurn}

pub tells_with : (told : Option Blobs) (name : Name) (bytes : Option (List ℕ)) → IsSome told → IsSome (blobs_with told name bytes)
tells_with (Some m) name bytes tells = tells
tells_with None name bytes tells = tells

pub tells_same : (before after : Option Blobs) → after ≡ before → IsSome before → IsSome after
tells_same before after is tells = subst (λ (t : Option Blobs). IsSome t) (sym is) tells

pub tells_one : (before after : Option Blobs) (name : Name) (bytes : Option (List ℕ)) → (after ≡ before) ⊎ (after ≡ blobs_with before name bytes) → IsSome before → IsSome after
tells_one before after name bytes may tells = ⊎_elim
    (λ same. tells_same before after same tells)
    (λ written. tells_same (blobs_with before name bytes) after written (tells_with before name bytes tells)) may

pub tells_may : {before after : Option Blobs} {past now : Option History} {name : Name} {bytes : Option (List ℕ)} → MayBeWritten before after past now name bytes → IsSome before → IsSome after
tells_may {before} {after} {name = name} {bytes = bytes} may tells = tells_one before after name bytes may.blobs tells

pub tells_in_turn : (before after : Option Blobs) (past now : Option History) (first second : Name) (a b : Option (List ℕ)) → MayBeWrittenInTurn before after past now first a second b → IsSome before → IsSome after
tells_in_turn before after past now first second a b may tells = ⊎_elim
    (λ one. tells_one before after first a one.blobs tells)
    (λ two. tells_one (blobs_with before first a) after second b two.blobs (tells_with before first a tells)) may

-- what is under another name stays

pub other_with : (told : Option Blobs) (name : Name) (bytes : Option (List ℕ)) (q : Name) → q ≢ name → blob_at (blobs_with told name bytes) q ≡ blob_at told q
other_with None name bytes q apart = refl
other_with (Some m) name bytes q apart = get_other m name bytes q apart

pub other_in_turn : (before after : Option Blobs) (past now : Option History) (first second : Name) (a b : Option (List ℕ)) → MayBeWrittenInTurn before after past now first a second b
    → (q : Name) → q ≢ first → q ≢ second → blob_at after q ≡ blob_at before q
other_in_turn before after past now first second a b may q one two = ⊎_elim
    (λ early. other_blob early q one)
    (λ late. other_blob late q two ∙ other_with before first a q one) may
