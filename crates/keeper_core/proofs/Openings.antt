-- What a keeper keeps of a shelf that was opened, and over a call that only reads.
use Rattle.std.proofs.Common.{inl, inr, ⊎_elim, ap, ◌∙◌, ◌≡◌, true, false, ℕ, ◌<◌, map, List, [], Option, Some, None, refl, sym, subst, arith}
use Rattle.std.specs.List.{IsDistinct}
use Rattle.std.specs.Prelude.{nat_eq, IfSome, IsSome, Result, Ok, Err, IfOk}
use Rattle.vault_types.specs.declared.Fp.{Fp}
use Rattle.vault_types.specs.declared.Name.{Name}
use Rattle.vault_types.specs.declared.Pending.TheVariants.{Opened}
use Rattle.vault_types.specs.declared.Recipe.{Recipe}
use Rattle.vault_types.specs.State.{State, KeptVersion, version_of, IsValid}
use Rattle.vault_types.specs.Blobs.{SpellsRecipe, recipe_bytes}
use Rattle.vault_types.specs.Shelf.{Blobs, recipe_name, Stands, Has}
use Rattle.vault_types.specs.Events.{Core, IsCore}
use Rattle.vault_traits.specs.Told.{ShelfTold}
use Rattle.state_laws.specs.Parts.{HeldIfTold}
use Rattle.keeper_catalog.specs.Catalog.{Memo, IsMemoOf}
use Rattle.vault_types.specs.FirstDamage.{Opens}
use Rattle.keeper_catalog.specs.View.{View, Keeps, opened_core}
use Rattle.restore_pins.specs.Pins.{Listed, AreListsOf}
use Rattle.fp_index.specs.Index.{IsIndexOf}
use Rattle.commit_laws.specs.Laws.{SaysVersion}
use Rattle.commit_laws.proofs.Listing.{no_member}
use Rattle.commit_laws.proofs.Loading.{held_version, held_says}
use Rattle.commit_laws.proofs.Unique.{stands_unique}
use Rattle.keeper_jobs.proofs.Seeing.{opened_failed}
use Rattle.keeper_core.specs.Calls.{IsWholeOf}

no_numbers : IsDistinct nat_eq []
unfolding IsDistinct
no_numbers = tt

opened_is_core : (T : State) (strays : List Name) → IsValid T → IsCore (opened_core T strays)
opened_is_core T strays valid = record {
  state = valid;
  job = refl;
  tables = tt;
  payloads = tt;
  job_set = tt;
  pins = λ c among. absurd (no_member c among);
  numbers = no_numbers;
  alone = λ some. refl;
  failed = λ s is. absurd (opened_failed s is);
  other = tt;
}

pub opened_keeps : (T : State) (told : ShelfTold) (n : Memo) (index : List (Fp × List ℕ)) (pins : List Listed) → pins ≡ [] → IsValid T → HeldIfTold told.blobs (opened_core T n.strays) → IsMemoOf n (opened_core T n.strays) → IsIndexOf index (map (λ c. c.table) T.containers)
    → Keeps (record { told = told; memo = n; index = index; pins = pins; job = None; pending = Opened }) (opened_core T n.strays)
opened_keeps T told n index pins none valid held memo index_is = record {
  core = opened_is_core T n.strays valid;
  held = held;
  memo = memo;
  index = index_is;
  pins = subst (λ (l : List Listed). AreListsOf l []) (sym none) tt;
  alike = λ c d one two same. absurd (no_member c one);
  pinned = tt;
  job = refl;
  pending = refl;
}

-- blobs stand for one state
pub each_keeps : (v : View) (T : State) (b : Option Blobs) → IfSome b (λ m. Opens m T) → Keeps v (opened_core T v.memo.strays) → IfSome b (λ m. (U : State) → Stands m U → IsValid U → Keeps v (opened_core U v.memo.strays))
each_keeps v T None opens keeps = tt
each_keeps v T (Some m) opens keeps = λ U stands valid. subst (λ (W : State). Keeps v (opened_core W v.memo.strays)) (stands_unique m T U (record { stands = opens.stands; valid = opens.valid }) (record { stands = stands; valid = valid })) keeps

-- what is read of a kept version
pub says_version : (v : View) (K : Core) (k : KeptVersion) (s n : ℕ) (r : Recipe) (bytes : List ℕ) → Keeps v K → s < 256 → version_of K.state s n ≡ Some k → IsSome v.told.blobs → Has v.told.blobs (recipe_name s n) (Some bytes) → SpellsRecipe s n bytes r → SaysVersion r k
says_version v K k s n r bytes keeps below kept tells there spells = at v.told.blobs tells there keeps.held
  where
    at : (b : Option Blobs) → IsSome b → Has b (recipe_name s n) (Some bytes) → HeldIfTold b K → SaysVersion r k
    at None some has held = absurd (let clash : false ≡ true = some in cc)
    at (Some m) some has held = held_version K keeps.core s n k (omega (arith, below, keeps.core.state.sets)) kept m bytes r held has spells

pub ok_more : {T E : Type 0} (P Q : T → Type 0) (r : Result T E) → ((x : T) → P x → Q x) → IfOk r P → IfOk r Q
ok_more P Q (Ok x) f h = f x h
ok_more P Q (Err e) f h = tt

-- and its whole is the version's
pub says_whole : (v : View) (K : Core) (k : KeptVersion) (s n : ℕ) (r : Recipe) (bytes : List ℕ) → Keeps v K → s < 256 → version_of K.state s n ≡ Some k → IsSome v.told.blobs → Has v.told.blobs (recipe_name s n) (Some bytes) → SpellsRecipe s n bytes r → IsWholeOf v.told.blobs s n k r.whole
says_whole v K k s n r bytes keeps below kept tells there spells = at v.told.blobs tells there keeps.held
  where
    at : (b : Option Blobs) → IsSome b → Has b (recipe_name s n) (Some bytes) → HeldIfTold b K → IsWholeOf b s n k r.whole
    at None some has held = absurd (let clash : false ≡ true = some in cc)
    at (Some m) some has held = ⊎_elim
        (λ same. inl (ap (λ (q : Recipe). q.whole) same, has ∙ ap (λ (l : List ℕ). Some l) (spells.spelled ∙ ap recipe_bytes same)))
        (λ same. inr (ap (λ (q : Recipe). q.whole) same.0, has ∙ ap (λ (l : List ℕ). Some l) (spells.spelled ∙ ap recipe_bytes same.0)))
        (held_says K keeps.core s n k (omega (arith, below, keeps.core.state.sets)) kept m bytes r held has spells)
