-- The recipe of a version, as a keeper reads it.
use Rattle.std.proofs.Common.{◌≡◌, inl, inr, ◌+◌, ◌*◌, ◌^◌, ◌&&◌, ◌<◌, ◌≤◌, ℕ, Bool, true, false, IsTrue, List, [], ◌∷◌, length, Option, Some, None, refl, sym, ap, subst, arith, ◌∙◌}
use Rattle.std.specs.FinMap as fin
use Rattle.std.specs.Prelude.{IsSome, IsSomeAnd, IfOk, Result, Ok, Err, nat_eq}
use Rattle.vault_types.specs.declared.Fault.{Fault}
use Rattle.vault_types.specs.declared.Fault.TheVariants as fault
use Rattle.vault_types.specs.declared.Answer.TheVariants.{Refused}
use Rattle.vault_types.specs.declared.Kind.{Kind}
use Rattle.vault_types.specs.declared.Kind.TheVariants as kind
use Rattle.vault_types.specs.declared.Why.{Why}
use Rattle.vault_types.specs.declared.Why.TheVariants as why
use Rattle.vault_types.specs.declared.Recipe.{Recipe}
use Rattle.vault_types.specs.State.{State, KeptVersion, is_kept, length_of, version_of, recipe_of}
use Rattle.vault_types.specs.Blobs.{recipe_bytes, SpellsRecipe}
use Rattle.vault_types.specs.Shelf.{Blobs, recipe_name, IsRecipeBlob}
use Rattle.vault_types.specs.Texts.{recipe_text}
use Rattle.vault_types.specs.Events.{Core, Held}
use Rattle.vault_traits.specs.Counts.{Rose}
use Rattle.vault_traits.specs.Causes.{HasCauses, IsCause}
use Rattle.vault_types.specs.BlobDamage.{IsRecipeWhy, IsRecipeDamage}
use Rattle.state_laws.specs.Parts.{HeldIfTold}
use Rattle.keeper_catalog.specs.View.{View, Keeps}
use Rattle.commit_laws.specs.Laws.{SaysVersion}
use Rattle.commit_laws.proofs.Loading.{held_recipe}
use Rattle.keeper_core.proofs.Replacings.{version_there}
use Rattle.store_model.specs.Causes.{CausesRise, counts_of_shelf}
use Rattle.store_model.specs.Courses.{fits_show}
use Rattle.command_runner.specs.Showing.{IsUnread, IsReadersFault, AnswersRecipe}
use Rattle.keeper_core.specs.Keeping.{IsStateOf}
use Rattle.keeper_store.proofs.Opening.{same_but}
use Rattle.commit_laws.proofs.Unique.{kept_number, kept_rules, with_whole, without_whole, plain_of}

-- the text of a recipe that says a version
pub text_of : (s v : ℕ) (r : Recipe) (k : KeptVersion) → r.set ≡ s → r.version ≡ v → r.length ≡ length_of r.rows → SaysVersion r k → (length r.rows ≡ length k.rows) × (recipe_text r ≡ recipe_text (recipe_of s v k))
text_of s v r k set number total says = (ap length says.rows, ap recipe_text same)
  where
    plain : Recipe
    plain = record { set = s; version = v; next = k.next; length = length_of k.rows; rows = k.rows; sparse = k.sparse; whole = r.whole }

    same : r ≡ plain
    same = λ i. record { set = set i; version = number i; next = says.next i; length = (total ∙ ap length_of says.rows) i; rows = says.rows i; sparse = says.sparse i; whole = r.whole }

-- the blob of a kept version is its recipe
module _ (v : View) (K : Core) (keeps : Keeps v K) (s n : ℕ) (k : KeptVersion) (below : s < length K.state.datasets) (kept : version_of K.state s n ≡ Some k) where
  spelled : (b : Option (List ℕ)) → IsRecipeBlob K.state s n k b → (bytes : List ℕ) × (b ≡ Some bytes) × (r : Recipe) × SpellsRecipe s n bytes r
  spelled b (inl is) = (recipe_bytes (recipe_of s n k), is, recipe_of s n k, record { set = refl; number = refl; rules = with_whole s n k (kept_number K.state keeps.core.state s n k below kept) (kept_rules K.state keeps.core.state s n k below kept); spelled = refl })
  spelled b (inr is) = (recipe_bytes (plain_of s n k), is.0, plain_of s n k, record { set = refl; number = refl; rules = without_whole s n k (kept_number K.state keeps.core.state s n k below kept) (kept_rules K.state keeps.core.state s n k below kept); spelled = refl })

  no_why : (m : Blobs) → Held m K → (w : Why) → IsRecipeWhy (Some m) s n w → ⊥
  no_why m held w shows = at w shows
    where
      there : (bytes : List ℕ) × (fin.get m (recipe_name s n) ≡ Some bytes) × (r : Recipe) × SpellsRecipe s n bytes r
      there = spelled (fin.get m (recipe_name s n)) (held_recipe K keeps.core s n k below kept m held)

      clash : ◌≡◌ {A = Option (List ℕ)} None (Some there.0) → ⊥
      clash e = cc

      at : (w : Why) → IsRecipeWhy (Some m) s n w → ⊥
      at why.Absent none = clash (sym none ∙ there.1)
      at why.Spelling (bytes, has, none) =
          let same : ◌≡◌ {A = Option (List ℕ)} (Some bytes) (Some there.0) = sym has ∙ there.1 in
          let one : bytes ≡ there.0 = cc in
          none there.2 (subst (λ (x : List ℕ). SpellsRecipe s n x there.2) (sym one) there.3)
      at (why.Length a b) h = absurd h
      at (why.Sum a b) h = absurd h
      at (why.Lower a b) h = absurd h
      at (why.BadRow i) h = absurd h
      at (why.Whole a b) h = absurd h
      at (why.Chunk a b c) h = absurd h

  pub undamaged : (told : Option Blobs) → IsSome told → HeldIfTold told K → (q : Kind) (number : ℕ) (w : Why) → IsRecipeDamage told s n q number w → ⊥
  undamaged None some held q number w h = absurd (let clash : false ≡ true = some in cc)
  undamaged (Some m) some held kind.Recipe number w h = no_why m held w h.1
  undamaged (Some m) some held kind.Table number w h = h
  undamaged (Some m) some held kind.Payload number w h = h
  undamaged (Some m) some held kind.Floor number w h = h

-- the call's clauses, and what they are

own : (n : ℕ) → nat_eq n n ≡ true
own n = search Rattle.std.proofs.Common.rules

module _ (v w : View) (s n : ℕ) (below : s < 256) (kept : (K : Core) → Keeps v K → is_kept K.state s n ≡ true) (shelf : (w.told.blobs ≡ v.told.blobs) × (w.told.history ≡ v.told.history) × (w.told.gets ≡ v.told.gets)) where
  module _ (S : State) (is : IsStateOf v S None) where
    there : (k : KeptVersion) × (version_of is.core.state s n ≡ Some k)
    there = version_there is.core.state s n is.keeps.core.state (kept is.core is.keeps)

    inside : s < length is.core.state.datasets
    inside = omega (arith, below, is.keeps.core.state.sets)

    is_one : (P : State → Type 0) → P is.core.state → P S
    is_one P p = subst P is.state p

    says_one : (r : Recipe) → (r.set ≡ s) × (r.version ≡ n) × (r.length ≡ length_of r.rows) × (length r.rows < 2 ^ 32) → (IsSome v.told.blobs → (K : Core) (k : KeptVersion) → Keeps v K → version_of K.state s n ≡ Some k → SaysVersion r k)
        → IsSomeAnd (version_of S s n) (λ k. (length r.rows ≡ length k.rows) × (recipe_text r ≡ recipe_text (recipe_of s n k)))
    says_one r named says = is_one (λ (T : State). IsSomeAnd (version_of T s n) (λ k. (length r.rows ≡ length k.rows) × (recipe_text r ≡ recipe_text (recipe_of s n k))))
        (subst (λ (o : Option KeptVersion). IsSomeAnd o (λ k. (length r.rows ≡ length k.rows) × (recipe_text r ≡ recipe_text (recipe_of s n k)))) (sym there.1)
        (text_of s n r there.0 named.0 named.1 named.2 (says is.told is.core there.0 is.keeps there.1)))

    some_one : IsSome (version_of S s n)
    some_one = is_one (λ (T : State). IsSome (version_of T s n)) (subst (λ (o : Option KeptVersion). IsSome o) (sym there.1) refl)

    no_damage : (q : Kind) (number : ℕ) (why : Why) → IsRecipeDamage v.told.blobs s n q number why → ⊥
    no_damage = undamaged v is.core is.keeps s n there.0 inside there.1 v.told.blobs is.told is.keeps.held

    unread : (f : Fault) → IsCause v.told.faults w.told.faults (IsRecipeDamage v.told.blobs s n) f → IsUnread S s n f
    unread fault.Memory c = some_one
    unread (fault.StoreFault m) c = is_one (λ (T : State). is_kept T s n ≡ true) (kept is.core is.keeps)
    unread (fault.Damaged q number why) c = no_damage q number why c
    unread fault.Usage c = absurd c
    unread (fault.NotKept x y z u) c = absurd c
    unread (fault.ReadFault m) c = absurd c
    unread (fault.WriteFault m) c = absurd c
    unread (fault.TooMany m) c = absurd c
    unread (fault.LastVersion x y z) c = absurd c
    unread (fault.PlaceFault m) c = absurd c
    unread (fault.BadLine m) c = absurd c
    unread (fault.ScriptTooLong m) c = absurd c
    unread (fault.Full x y z) c = absurd c

  own_number : (number : ℕ) → number ≡ s * 2 ^ 32 + n → (nat_eq number (s * 2 ^ 32 + n) && true) ≡ true
  own_number number is = subst (λ (m : ℕ). (nat_eq m (s * 2 ^ 32 + n) && true) ≡ true) (sym is) (ap (λ (b : Bool). b && true) (own (s * 2 ^ 32 + n)))

  damage_kind : (q : Kind) (number : ℕ) (why : Why) → IsRecipeDamage v.told.blobs s n q number why → IsTrue (fits_show s n (Refused (fault.Damaged q number why)))
  damage_kind kind.Recipe number why.Absent h = own_number number h.0
  damage_kind kind.Recipe number why.Spelling h = own_number number h.0
  damage_kind kind.Recipe number other h = absurd h.1
  damage_kind kind.Table number why h = absurd h
  damage_kind kind.Payload number why h = absurd h
  damage_kind kind.Floor number why h = absurd h

  reader : (f : Fault) → IsCause v.told.faults w.told.faults (IsRecipeDamage v.told.blobs s n) f → v.told.faults ≤ w.told.faults → IsReadersFault s n f × CausesRise (counts_of_shelf v.told) (counts_of_shelf w.told) (Refused f ∷ [])
  reader fault.Memory c later = (refl, record { store = later; place = omega arith; read = omega arith; write = omega arith })
  reader (fault.StoreFault m) c later = (refl, record { store = (subst (λ (x : ℕ). Rose v.told.faults x) (sym c.0) c.1, omega (arith, c.0)); place = omega arith; read = omega arith; write = omega arith })
  reader (fault.Damaged q number why) c later = (damage_kind q number why c, record { store = later; place = omega arith; read = omega arith; write = omega arith })
  reader fault.Usage c later = absurd c
  reader (fault.NotKept x y z u) c later = absurd c
  reader (fault.ReadFault m) c later = absurd c
  reader (fault.WriteFault m) c later = absurd c
  reader (fault.TooMany m) c later = absurd c
  reader (fault.LastVersion x y z) c later = absurd c
  reader (fault.PlaceFault m) c later = absurd c
  reader (fault.BadLine m) c later = absurd c
  reader (fault.ScriptTooLong m) c later = absurd c
  reader (fault.Full x y z) c later = absurd c

  pub reads : (result : Result Recipe Fault) → IfOk result (λ r. (r.set ≡ s) × (r.version ≡ n) × (r.length ≡ length_of r.rows) × (length r.rows < 2 ^ 32))
      → IfOk result (λ r. IsSome v.told.blobs → (K : Core) (k : KeptVersion) → Keeps v K → version_of K.state s n ≡ Some k → SaysVersion r k) → HasCauses v.told.faults w.told.faults (IsRecipeDamage v.told.blobs s n) result
      → AnswersRecipe (λ S other. IsStateOf v S other) v.told w.told s n result
  reads (Ok r) named says causes = record { same = same_but v.told w.told shelf causes.later; kind = tt; causes = tt; says = λ S is. says_one S is r named says; refused = tt }
  reads (Err f) named says causes = record { same = same_but v.told w.told shelf causes.later; kind = (reader f causes.each causes.later).0; causes = (reader f causes.each causes.later).1; says = tt; refused = λ S is. unread S is f causes.each }
