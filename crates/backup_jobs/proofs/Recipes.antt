-- The recipe that a backup commits is in the second format.
use Rattle.std.proofs.Common.{◌≡◌, ℕ, ◌+◌, ◌++◌, true, false, List, Option, Some, None, refl, sym, ◌∙◌, ap, subst}
use Rattle.std.specs.Prelude.{IsSome, unwrap_or}
use Rattle.vault_types.specs.declared.Fp.{Fp}
use Rattle.vault_types.specs.declared.Name.{Name}
use Rattle.vault_types.specs.declared.Recipe.{Recipe}
use Rattle.vault_types.specs.Names.{fp}
use Rattle.vault_types.specs.Blobs.{recipe_bytes}
use Rattle.vault_types.specs.Bytes.{row_bytes}
use Rattle.vault_types.specs.Tables.{Container}
use Rattle.vault_types.specs.State.{State, KeptVersion, IsValid, latest_of, length_of, version_of, recipe_of}
use Rattle.vault_types.specs.Shelf.{Blobs, blob_at, recipe_name, Has}
use Rattle.vault_types.specs.Events.{Core, Job, CanCommit, committed, version_in_recipe}
use Rattle.vault_types.proofs.GrowLemmas.{version_of-new}
use Rattle.vault_types.specs.RecipeForms.{IsSecond}
use Rattle.state_laws.proofs.Growing.{floor_pos}
use Rattle.keeper_jobs.specs.Jobs.{version_by}

given_whole : (o : Option Fp) (other : Fp) → IsSome o → o ≡ Some (unwrap_or o other)
given_whole None other some = absurd (let clash : false ≡ true = some in cc)
given_whole (Some w) other some = refl

-- a recipe with a whole is that of the version that it says
recipe_is : (cs : List Container) (r : Recipe) (s v : ℕ) → r.set ≡ s → r.version ≡ v → r.length ≡ length_of r.rows → IsSome r.whole → r ≡ recipe_of s v (version_in_recipe cs r)
recipe_is cs r s v set number total whole =
    let sum = given_whole r.whole (fp (row_bytes cs r.rows)) whole in
    λ i. record { set = set i; version = number i; next = r.next; length = total i; rows = r.rows; sparse = r.sparse; whole = sum i }

has_told : (told : Option Blobs) (name : Name) (bytes : Option (List ℕ)) → Has told name bytes → IsSome told → blob_at told name ≡ bytes
has_told None name bytes has some = absurd (let clash : false ≡ true = some in cc)
has_told (Some m) name bytes has some = has

same_version : (j k : KeptVersion) → ◌≡◌ {A = Option KeptVersion} (Some j) (Some k) → j ≡ k
same_version j k e = cc

pub second_there : (K : Core) (job : Job) (r : Recipe) → IsValid K.state → CanCommit K job r → IsSome r.whole → (told : Option Blobs) → Has told (recipe_name r.set r.version) (Some (recipe_bytes r)) → IsSome told
    → (T : State) → committed (version_by K job r) job K.state ≡ T → (k : KeptVersion) → version_of T job.set (latest_of K.state job.set + 1) ≡ Some k → IsSecond told job.set (latest_of K.state job.set + 1) k
second_there K job r valid can whole told has some T is k there =
    let v : ℕ = latest_of K.state job.set + 1 in
    let made : KeptVersion = version_by K job r in
    let new : version_of (committed made job K.state) job.set v ≡ Some made = version_of-new K.state job.set made job.containers can.in_range (floor_pos K.state job.set valid) in
    let same : made ≡ k = same_version made k (sym new ∙ ap (λ (S : State). version_of S job.set v) is ∙ there) in
    let says : r ≡ recipe_of job.set v made = recipe_is (K.state.containers ++ job.containers) r job.set v can.set can.version can.rules.total whole in
    subst (λ (j : KeptVersion). IsSecond told job.set v j) same
    (subst (λ (q : Recipe). blob_at told (recipe_name q.set q.version) ≡ Some (recipe_bytes q)) says (has_told told (recipe_name r.set r.version) (Some (recipe_bytes r)) has some))
