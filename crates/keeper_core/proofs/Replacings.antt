-- What a keeper keeps over a recipe that is put again.
use Rattle.std.proofs.Common.{◌≡◌, ◌⊎◌, inl, inr, ⊎_elim, ℕ, zero, suc, ◌<◌, ◌≤◌, ◌-◌, ◌&&◌, ◌==◌, true, false, cond, length, List, [], ◌∷◌, Option, Some, None, refl, sym, ◌∙◌, ap, subst, arith}
use Rattle.std.specs.Prelude.{◌≢◌, IsSome, nat_le, nat_lt, slice_get, if◌then◌else◌}
use Rattle.std.proofs.lemmas.Bool.Decides.{nat_tests}
use Rattle.vault_types.specs.declared.Fault.{Fault}
use Rattle.vault_types.specs.declared.Fault.TheVariants as fault
use Rattle.vault_types.specs.declared.Fp.{Fp}
use Rattle.vault_types.specs.declared.Kind.{Kind}
use Rattle.vault_types.specs.declared.Kind.TheVariants as kind
use Rattle.vault_types.specs.declared.Pending.{Pending}
use Rattle.vault_types.specs.declared.Pending.TheVariants.{Not, FailedFor}
use Rattle.vault_types.specs.declared.Recipe.{Recipe}
use Rattle.vault_types.specs.declared.Row.{Row}
use Rattle.vault_types.specs.declared.Why.{Why}
use Rattle.vault_types.specs.declared.Why.TheVariants as why
use Rattle.vault_types.specs.Names.{fp, IsFp}
use Rattle.vault_types.specs.State.{State, KeptVersion, dataset, floor_of, latest_of, version_of, is_kept, recipe_of, length_of, IsValid}
use Rattle.vault_types.specs.Blobs.{IsRecipe, SpellsRecipe, recipe_bytes, recipe_bytes_2}
use Rattle.vault_types.specs.Shelf.{Blobs, recipe_name, blob_at, Has}
use Rattle.vault_types.specs.Events.{Core, Change, IsCore, IsNear, Held, after_refused}
use Rattle.vault_traits.specs.Told.{ShelfTold}
use Rattle.vault_traits.specs.Shelf.{blobs_with}
use Rattle.vault_traits.proofs.Maps.{get_is, other_blob}
use Rattle.vault_types.specs.BlobDamage.{IsRecipeDamage}
use Rattle.state_laws.specs.Parts.{HeldIfTold, without_other}
use Rattle.state_laws.proofs.Changing.{told_more}
use Rattle.state_laws.proofs.Growing.{floor_pos}
use Rattle.keeper_parts.proofs.Telling.{tells_one}
use Rattle.keeper_catalog.specs.View.{View, Keeps}
use Rattle.commit_laws.specs.Laws.{SaysVersion}
use Rattle.commit_laws.proofs.Loading.{held_recipe}
use Rattle.commit_laws.proofs.Listing.{some_same, none_some}
use Rattle.commit_laws.proofs.Unique.{kept_rules, kept_number, with_whole, without_whole, plain_of}
use Rattle.keeper_jobs.proofs.Seeing.{not_failed, failed_same}
use Rattle.vault_types.proofs.SumLemmas.{fp-is_fp}
use Rattle.recipe_replacement.specs.Replacing.{IsRecipeOf, IsRecipeOfIfTold, waits_after}
use Rattle.keeper_core.proofs.Openings.{says_version}

-- a kept version is there

got : {X : Type 0} (xs : List X) (i : ℕ) → i < length xs → (x : X) × (slice_get xs i ≡ Some x)
got [] i below = absurd (omega arith)
got (y ∷ xs) zero below = (y, refl)
got (y ∷ xs) (suc i) below = got xs i (omega arith)

pub version_there : (S : State) (s v : ℕ) → IsValid S → is_kept S s v ≡ true → (k : KeptVersion) × (version_of S s v ≡ Some k)
version_there S s v valid kept =
    let pos = floor_pos S s valid in
    let low : floor_of S s ≤ v = by_low (floor_of S s) v (latest_of S s) kept in
    let high : v ≤ latest_of S s = by_high (floor_of S s) v (latest_of S s) kept in
    let k = got (dataset S s).versions (v - floor_of S s) (omega (arith, pos, low, high)) in
    (k.0, ap (λ b. cond b None (slice_get (dataset S s).versions (v - floor_of S s))) (not_below v (floor_of S s) low) ∙ k.1)
  where
    by_low : (f v l : ℕ) → (nat_le f v && nat_le v l) ≡ true → f ≤ v
    by_low f v l e = grind (arith, nat_tests)

    by_high : (f v l : ℕ) → (nat_le f v && nat_le v l) ≡ true → v ≤ l
    by_high f v l e = grind (arith, nat_tests)

    not_below : (v f : ℕ) → f ≤ v → nat_lt v f ≡ false
    not_below v f h = grind (arith, nat_tests)

-- the recipe with the version's sum

not_zero : (n : ℕ) → (suc n == 0) ≡ false
not_zero n = grind (arith, nat_tests)

whole_is : (S : State) → IsValid S → (s v : ℕ) (k : KeptVersion) → s < length S.datasets → version_of S s v ≡ Some k → (rows : List Row) (w : Fp) → rows ≡ k.rows → w ≡ k.sum → (if length rows == 0 then fp [] else w) ≡ k.sum
whole_is S valid s v k below kept [] w rows whole = sym ((kept_rules S valid s v k below kept).1.1 (sym rows))
whole_is S valid s v k below kept (r ∷ rs) w rows whole = ap (λ b. cond b (fp []) w) (not_zero (length rs)) ∙ whole

pub recipe_is : (S : State) → IsValid S → (s v : ℕ) (k : KeptVersion) → s < length S.datasets → version_of S s v ≡ Some k → (r q : Recipe) (bytes : List ℕ) (w : Fp) → SpellsRecipe s v bytes r → SaysVersion r k → w ≡ k.sum
    → q ≡ record r { whole = Some (if length r.rows == 0 then fp [] else w) } → q ≡ recipe_of s v k
recipe_is S valid s v k below kept r q bytes w spells says whole is =
    let sum = whole_is S valid s v k below kept r.rows w says.rows whole in
    let total : r.length ≡ length_of k.rows = spells.rules.total ∙ ap length_of says.rows in
    is ∙ (λ i. record { set = spells.set i; version = spells.number i; next = says.next i; length = total i; rows = says.rows i; sparse = says.sparse i; whole = Some (sum i) })

pub recipe_of_state : (S : State) → IsValid S → (s v : ℕ) (k : KeptVersion) → s < length S.datasets → version_of S s v ≡ Some k → (q : Recipe) → q ≡ recipe_of s v k → IsRecipeOf S q
recipe_of_state S valid s v k below kept q is = subst (λ (p : Recipe). IsRecipeOf S p) (sym is) (record { valid = valid; in_range = below; version = k; kept = kept; says = refl })

pub spelled : (s v : ℕ) (k : KeptVersion) (q : Recipe) (before after : Option Blobs) → (IsSome before → q ≡ recipe_of s v k) → q.set ≡ s → q.version ≡ v → after ≡ blobs_with before (recipe_name q.set q.version) (Some (recipe_bytes q)) → Has after (recipe_name s v) (Some (recipe_bytes_2 k.sum (recipe_of s v k)))
spelled s v k q before after says set number is = subst (λ (t : Option Blobs). Has t (recipe_name s v) (Some (recipe_bytes_2 k.sum (recipe_of s v k)))) (sym is) (at before says)
  where
    at : (b : Option Blobs) → (IsSome b → q ≡ recipe_of s v k) → Has (blobs_with b (recipe_name q.set q.version) (Some (recipe_bytes q))) (recipe_name s v) (Some (recipe_bytes_2 k.sum (recipe_of s v k)))
    at None says = tt
    at (Some m) says = get_is m (recipe_name q.set q.version) (Some (recipe_bytes q)) (recipe_name s v) (λ i. recipe_name (sym set i) (sym number i)) ∙ ap (λ (p : Recipe). Some (recipe_bytes p)) (says refl)

-- the names of kept recipes, behind the put

pub others_stay : (s n t v : ℕ) (q : Recipe) (mid new : Option Blobs) → q.set ≡ s → q.version ≡ n → recipe_name t v ≢ recipe_name s n
    → (new ≡ mid) ⊎ (new ≡ blobs_with mid (recipe_name q.set q.version) (Some (recipe_bytes q))) → blob_at new (recipe_name t v) ≡ blob_at mid (recipe_name t v)
others_stay s n t v q mid new set number apart may =
    other_blob {before = mid} {after = new} {past = None} {now = None} {name = recipe_name q.set q.version} {bytes = Some (recipe_bytes q)} (record { blobs = may; history = inl refl }) (recipe_name t v)
    (λ is. apart (is ∙ (λ i. recipe_name (set i) (number i))))

pub told_put : (q : Recipe) (mid new : Option Blobs) → (new ≡ mid) ⊎ (new ≡ blobs_with mid (recipe_name q.set q.version) (Some (recipe_bytes q))) → IsSome mid → IsSome new
told_put q mid new may some = tells_one mid new (recipe_name q.set q.version) (Some (recipe_bytes q)) may some

pub own_or_second : (s v : ℕ) (k : KeptVersion) (q : Recipe) (mid new : Option Blobs) → (IsSome mid → q ≡ recipe_of s v k) → q.set ≡ s → q.version ≡ v
    → (new ≡ mid) ⊎ (new ≡ blobs_with mid (recipe_name q.set q.version) (Some (recipe_bytes q)))
    → (blob_at new (recipe_name s v) ≡ blob_at mid (recipe_name s v)) ⊎ (blob_at new (recipe_name s v) ≡ Some (recipe_bytes_2 k.sum (recipe_of s v k)))
own_or_second s v k q mid new says set number may = ⊎_elim
    (λ same. inl (ap (λ (t : Option Blobs). blob_at t (recipe_name s v)) same))
    (λ is. ⊎_elim
    (λ (none : blob_at (blobs_with mid (recipe_name q.set q.version) (Some (recipe_bytes q))) (recipe_name s v) ≡ blob_at mid (recipe_name s v)). inl (ap (λ (t : Option Blobs). blob_at t (recipe_name s v)) is ∙ none))
    (λ second. inr (ap (λ (t : Option Blobs). blob_at t (recipe_name s v)) is ∙ second))
    (at mid says))
    may
  where
    at : (b : Option Blobs) → (IsSome b → q ≡ recipe_of s v k)
        → (blob_at (blobs_with b (recipe_name q.set q.version) (Some (recipe_bytes q))) (recipe_name s v) ≡ blob_at b (recipe_name s v))
        ⊎ (blob_at (blobs_with b (recipe_name q.set q.version) (Some (recipe_bytes q))) (recipe_name s v) ≡ Some (recipe_bytes_2 k.sum (recipe_of s v k)))
    at None says = inl refl
    at (Some m) says = inr (get_is m (recipe_name q.set q.version) (Some (recipe_bytes q)) (recipe_name s v) (λ i. recipe_name (sym set i) (sym number i)) ∙ ap (λ (p : Recipe). Some (recipe_bytes p)) (says refl))

-- what is kept

module _ (v : View) (K : Core) (keeps : Keeps v K) (told : ShelfTold) (waits : Pending) where
  -- where something behind it was refused
  pub refused_keeps : (s : ℕ) → s < 256 → (waits ≡ Not) ⊎ (waits ≡ FailedFor s) → HeldIfTold told.blobs (without_other K) → Keeps (record { told = told; memo = v.memo; index = v.index; pins = v.pins; job = v.job; pending = waits }) (after_refused None K.job K.strays waits K)
  refused_keeps s below why held = record {
    core = record {
      state = keeps.core.state;
      job = keeps.core.job;
      tables = keeps.core.tables;
      payloads = keeps.core.payloads;
      job_set = keeps.core.job_set;
      pins = keeps.core.pins;
      numbers = keeps.core.numbers;
      alone = λ some. refl;
      failed = λ t is. ⊎_elim
          (λ none. absurd (not_failed t (sym none ∙ is)))
          (λ due. let e = failed_same s t (sym due ∙ is) in omega (arith, e, below, keeps.core.state.sets))
          why;
      other = tt;
    };
    held = told_more (λ m. Held m (without_other K)) (λ m. Held m (after_refused None K.job K.strays waits K)) told.blobs (λ m h. record { near = h.near; containers = h.containers; others = h.others; apart = h.apart }) held;
    memo = record { sets = keeps.memo.sets; tables = keeps.memo.tables; markers = keeps.memo.markers; strays = keeps.memo.strays };
    index = keeps.index;
    pins = keeps.pins;
    alike = keeps.alike;
    pinned = keeps.pinned;
    job = keeps.job;
    pending = refl;
  }

pub near_wider : (A : State) (o : Option Change) (c : Blobs) → IsNear A None c → IsNear A o c
near_wider A o c (inl stands) = inl stands
near_wider A o c (inr none) = absurd none

-- a fault of the put or of the settle

pub waits_cases : (f : Fault) (q : Recipe) (waits : Pending) → (waits_after f q waits ≡ waits) ⊎ (waits_after f q waits ≡ FailedFor q.set)
waits_cases (fault.StoreFault n) q waits = inr refl
waits_cases fault.Usage q waits = inl refl
waits_cases (fault.NotKept a b c d) q waits = inl refl
waits_cases (fault.ReadFault n) q waits = inl refl
waits_cases (fault.WriteFault n) q waits = inl refl
waits_cases (fault.Damaged k n w) q waits = inl refl
waits_cases fault.Memory q waits = inl refl
waits_cases (fault.TooMany n) q waits = inl refl
waits_cases (fault.LastVersion a b c) q waits = inl refl
waits_cases (fault.PlaceFault n) q waits = inl refl
waits_cases (fault.BadLine n) q waits = inl refl
waits_cases (fault.ScriptTooLong n) q waits = inl refl
waits_cases (fault.Full a b c) q waits = inl refl

pub waits_why : (f : Fault) (q : Recipe) (s : ℕ) (waits now : Pending) → waits ≡ Not → q.set ≡ s → now ≡ waits_after f q waits → (now ≡ Not) ⊎ (now ≡ FailedFor s)
waits_why f q s waits now none set is = ⊎_elim
    (λ same. inl (is ∙ same ∙ none))
    (λ due. inr (is ∙ due ∙ ap FailedFor set))
    (waits_cases f q waits)

-- damage that is shown

to_silent : (b : Option Blobs) (s v : ℕ) (k : Kind) (n : ℕ) (w : Why) → IsRecipeDamage b s v k n w → IsRecipeDamage None s v k n w
to_silent b s v kind.Recipe n why.Absent h = (h.0, tt)
to_silent b s v kind.Recipe n why.Spelling h = (h.0, (h.1.0, tt, h.1.2))
to_silent b s v kind.Recipe n (why.Lower x y) h = h
to_silent b s v kind.Recipe n (why.BadRow x) h = h
to_silent b s v kind.Recipe n (why.Length x y) h = h
to_silent b s v kind.Recipe n (why.Sum x y) h = h
to_silent b s v kind.Recipe n (why.Whole x y) h = h
to_silent b s v kind.Recipe n (why.Chunk x y z) h = h
to_silent b s v kind.Table n w h = h
to_silent b s v kind.Payload n w h = h
to_silent b s v kind.Floor n w h = h

module _ (K : Core) (core : IsCore K) (s v : ℕ) (k : KeptVersion) (below : s < length K.state.datasets) (kept : version_of K.state s v ≡ Some k) where
  -- a kept recipe is there and has a spelling
  no_damage : (m : Blobs) → Held m K → (t : Kind) (n : ℕ) (w : Why) → IsRecipeDamage (Some m) s v t n w → ⊥
  no_damage m held kind.Recipe n why.Absent h = ⊎_elim
      (λ is. none_some (recipe_bytes_2 k.sum (recipe_of s v k)) (sym h.1 ∙ is))
      (λ is. none_some (recipe_bytes (plain_of s v k)) (sym h.1 ∙ is.0))
      (held_recipe K core s v k below kept m held)
  no_damage m held kind.Recipe n why.Spelling h = ⊎_elim
      (λ is. h.1.2 (recipe_of s v k) (record { set = refl; number = refl; rules = with_whole s v k (kept_number K.state core.state s v k below kept) (kept_rules K.state core.state s v k below kept); spelled = some_same h.1.0 (recipe_bytes (recipe_of s v k)) (sym h.1.1 ∙ is) }))
      (λ is. h.1.2 (plain_of s v k) (record { set = refl; number = refl; rules = without_whole s v k (kept_number K.state core.state s v k below kept) (kept_rules K.state core.state s v k below kept); spelled = some_same h.1.0 (recipe_bytes (plain_of s v k)) (sym h.1.1 ∙ is.0) }))
      (held_recipe K core s v k below kept m held)
  no_damage m held kind.Recipe n (why.Lower x y) h = h.1
  no_damage m held kind.Recipe n (why.BadRow x) h = h.1
  no_damage m held kind.Recipe n (why.Length x y) h = h.1
  no_damage m held kind.Recipe n (why.Sum x y) h = h.1
  no_damage m held kind.Recipe n (why.Whole x y) h = h.1
  no_damage m held kind.Recipe n (why.Chunk x y z) h = h.1
  no_damage m held kind.Table n w h = h
  no_damage m held kind.Payload n w h = h
  no_damage m held kind.Floor n w h = h

  -- what is shown behind a mending was so before it
  pub damage_before : (mid old : Option Blobs) → (IsSome old → IsSome mid) → HeldIfTold mid K → (t : Kind) (n : ℕ) (w : Why) → IsRecipeDamage mid s v t n w → IsRecipeDamage old s v t n w
  damage_before mid None tells held t n w h = to_silent mid s v t n w h
  damage_before None (Some o) tells held t n w h = absurd (let clash : false ≡ true = tells refl in cc)
  damage_before (Some m) (Some o) tells held t n w h = absurd (no_damage m held t n w h)

-- what is read behind a mending, with the sum

pub sum_rules : (rows : List Row) (w : Fp) → IsFp w → IsFp (if length rows == 0 then fp [] else w)
sum_rules [] w h = fp-is_fp []
sum_rules (r ∷ rs) w h = subst IsFp (sym (ap (λ b. cond b (fp []) w) (not_zero (length rs)))) h

pub sum_none : (rows : List Row) (w : Fp) → rows ≡ [] → (if length rows == 0 then fp [] else w) ≡ fp []
sum_none rows w e = ap (λ (l : List Row). if length l == 0 then fp [] else w) e

pub whole_rules : (r q : Recipe) (w : Fp) → IsRecipe r → IsFp w → q ≡ record r { whole = Some (if length r.rows == 0 then fp [] else w) } → IsRecipe q
whole_rules r q w rules h is = subst IsRecipe (sym is) (record { version = rules.version; total = rules.total; rules = rules.rules; whole = sum_rules r.rows w h; no_bytes = λ none. ap (λ (f : Fp). f.0) (sum_none r.rows w none) })

module _ (v : View) (K : Core) (keeps : Keeps v K) (s n : ℕ) (below : s < 256) (kept : is_kept K.state s n ≡ true) (w : Fp) (whole : IsSome v.told.blobs → (k : KeptVersion) → version_of K.state s n ≡ Some k → w ≡ k.sum)
    (r q : Recipe) (found : (bytes : List ℕ) × Has v.told.blobs (recipe_name s n) (Some bytes) × SpellsRecipe s n bytes r) (is : q ≡ record r { whole = Some (if length r.rows == 0 then fp [] else w) }) (read : Option Blobs) (same : read ≡ v.told.blobs) where
  pub says : (k : KeptVersion) → version_of K.state s n ≡ Some k → IsSome read → q ≡ recipe_of s n k
  says k at some =
      let tells : IsSome v.told.blobs = subst (λ (t : Option Blobs). IsSome t) same some in
      let inside : s < length K.state.datasets = omega (arith, below, keeps.core.state.sets) in
      recipe_is K.state keeps.core.state s n k inside at r q found.0 w found.2 (says_version v K k s n r found.0 keeps below at tells found.1 found.2) (whole tells k at) is

  pub of_state : IsRecipeOfIfTold read K.state q
  of_state some =
      let k = version_there K.state s n keeps.core.state kept in
      recipe_of_state K.state keeps.core.state s n k.0 (omega (arith, below, keeps.core.state.sets)) k.1 q (says k.0 k.1 some)

  pub set_is : q.set ≡ s
  set_is = ap (λ (p : Recipe). p.set) is ∙ found.2.set

  pub number_is : q.version ≡ n
  number_is = ap (λ (p : Recipe). p.version) is ∙ found.2.number
