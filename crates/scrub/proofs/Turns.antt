-- The turns of a scrub, as its loops take them.
use Rattle.std.proofs.Common.{◌≡◌, inl, inr, Bool, true, false, ℕ, ◌≤◌, ◌<◌, ◌+◌, ◌-◌, ◌^◌, List, [], ◌∷◌, ◌++◌, length, Option, Some, None, refl, sym, ap, ◌∙◌, subst, arith}
use Rattle.std.specs.Prelude.{◌==◌, Result, Ok, Err, IsErrAnd}
use Rattle.std.proofs.lemmas.Bool.Decides.{nat_tests}
use Rattle.vault_types.specs.declared.Fault.{Fault}
use Rattle.vault_types.specs.declared.Fault.TheVariants as fault
use Rattle.vault_types.specs.Tables.{Container}
use Rattle.payload_health.specs.declared.Findings.{Findings}
use Rattle.payload_health.specs.Findings.{findings_in}
use Rattle.keeper_catalog.specs.View.{View}
use Rattle.scrub.specs.Scrubbing.{Scrubs}
use Rattle.scrub.specs.Walking.{ReadsNext, IsUnderway, NotesOldest, NotesAtMostOne}
use Rattle.scrub.proofs.Steps.{IsOver, over_now, over_noted, scrubs_done, scrubs_memory, scrubs_refused, underway_first, underway_noted, underway_read}

pub begun : (u : View) (f : Findings) (waiting : List Container) → f ≡ findings_in [] → waiting ≡ [] → IsUnderway u u 0 f waiting
begun u f waiting none empty = subst (λ (ws : List Container). IsUnderway u u 0 f ws) (sym empty) (underway_first u f none)

-- checks are noted

pub noted : (u w : View) (passed : ℕ) (f g : Findings) (waiting now more : List Container) → NotesOldest waiting now f g → IsUnderway u w passed f (waiting ++ more) → IsUnderway u w passed g (now ++ more)
noted u w passed f g [] now more (empty, same) is = subst (λ (ws : List Container). IsUnderway u w passed g (ws ++ more)) (sym empty) (subst (λ (h : Findings). IsUnderway u w passed h more) (sym same) is)
noted u w passed f g (c ∷ waiting) now more (rest, one) is = subst (λ (ws : List Container). IsUnderway u w passed g (ws ++ more)) (sym rest) (underway_noted u w passed f g c (waiting ++ more) is one)

pub with_room : (u w : View) (passed : ℕ) (f g : Findings) (waiting now more : List Container) → NotesAtMostOne waiting now f g → IsUnderway u w passed f (waiting ++ more) → IsUnderway u w passed g (now ++ more)
with_room u w passed f g waiting now more (inl same) is = subst (λ (ws : List Container). IsUnderway u w passed g (ws ++ more)) (sym same.0) (subst (λ (h : Findings). IsUnderway u w passed h (waiting ++ more)) (sym same.1) is)
with_room u w passed f g waiting now more (inr oldest) is = noted u w passed f g waiting now more oldest is

pub over_oldest : (u v : View) (f g : Findings) (waiting now : List Container) → NotesOldest waiting now f g → IsOver u v f waiting → IsOver u v g now
over_oldest u v f g [] now (empty, same) over = subst (λ (ws : List Container). IsOver u v g ws) (sym empty) (subst (λ (h : Findings). IsOver u v h []) (sym same) over)
over_oldest u v f g (c ∷ waiting) now (rest, one) over = subst (λ (ws : List Container). IsOver u v g ws) (sym rest) (over_noted u v f g c waiting over one)

-- a queue is empty, or is not

pub none_left : (waiting : List Container) (len : ℕ) (empty : Bool) → len ≡ length waiting → empty ≡ (len == 0) → empty ≡ true → waiting ≡ []
none_left [] len empty is test so = refl
none_left (c ∷ waiting) len empty is test so = absurd (let t : (len == 0) ≡ true = sym test ∙ so in let z : len ≡ 0 = grind (arith, nat_tests) in omega (arith, z, is))

pub some_left : (waiting : List Container) (len : ℕ) (empty : Bool) → len ≡ length waiting → empty ≡ (len == 0) → empty ≡ false → length waiting ≡ 0 → ⊥
some_left waiting len empty is test other z = let e : len ≡ 0 = is ∙ z in let t : (len == 0) ≡ true = grind (arith, nat_tests) in let clash : true ≡ false = sym t ∙ sym test ∙ other in cc

pub pushed : (now more : List Container) (started read : Container) → started ≡ read → more ≡ now ++ started ∷ [] → now ++ read ∷ [] ≡ more
pushed now more started read same is = ap (λ (x : Container). now ++ x ∷ []) (sym same) ∙ sym is

-- so many are noted at most
pub few_noted : (u v : View) (f : Findings) (waiting : List Container) → IsOver u v f waiting → (length waiting ≡ 0 → ⊥) → f.containers < 2 ^ 64 - 1
few_noted u v f waiting over some = let few = over.2.few in step (length waiting) few some
  where
    step : (n : ℕ) → f.containers + n ≤ over.0 → (n ≡ 0 → ⊥) → f.containers < 2 ^ 64 - 1
    step n few some = omega (arith, few, over.1, some)

-- refusals

ended_as : (P : Result Findings Fault → Type 0) (r : Result Findings Fault) (e : Fault) → IsErrAnd r (λ f. f ≡ e) → P (Err e) → P r
ended_as P (Ok a) e is h = absurd is
ended_as P (Err f) e is h = subst (λ (g : Fault). P (Err g)) (sym is) h

module _ (u v w : View) (passed : ℕ) (f : Findings) (waiting : List Container) (is : IsUnderway u v passed f waiting) (r : Result Findings Fault) where
  pub unread : (e : Fault) → IsErrAnd r (λ g. g ≡ e) → ReadsNext v w passed (Err e) → Scrubs u w r
  unread e same reads = ended_as (Scrubs u w) r e same (scrubs_refused u v w passed f waiting is e reads)

  -- no memory behind a container that was read
  pub no_room : (o : Option Container) (read : Container) → o ≡ Some read → ReadsNext v w passed (Ok o) → IsErrAnd r (λ g. g ≡ fault.Memory) → Scrubs u w r
  no_room o read some reads same =
      let reads_it = subst (λ (q : Option Container). ReadsNext v w passed (Ok q)) some reads in
      ended_as (Scrubs u w) r fault.Memory same (scrubs_memory u w w read.table.id f (waiting ++ read ∷ []) (underway_read u v w passed f waiting is read reads_it))

pub over_memory : (u v : View) (f : Findings) (waiting : List Container) (r : Result Findings Fault) → IsOver u v f waiting → IsErrAnd r (λ g. g ≡ fault.Memory) → Scrubs u v r
over_memory u v f waiting r over same = ended_as (Scrubs u v) r fault.Memory same (scrubs_memory u v v over.0 f waiting over.2)

module _ (u v w : View) (passed : ℕ) (f : Findings) (waiting : List Container) (is : IsUnderway u v passed f waiting) (o : Option Container) (reads : ReadsNext v w passed (Ok o)) where
  pub read_one : (read : Container) (id : ℕ) → o ≡ Some read → id ≡ read.table.id → IsUnderway u w id f (waiting ++ read ∷ [])
  read_one read id some same = subst (λ (n : ℕ). IsUnderway u w n f (waiting ++ read ∷ [])) (sym same) (underway_read u v w passed f waiting is read (subst (λ (q : Option Container). ReadsNext v w passed (Ok q)) some reads))

  pub read_all : passed < 2 ^ 64 → ((c : Container) → o ≡ Some c → ⊥) → IsOver u w f waiting
  read_all low none = step o none reads
    where
      step : (q : Option Container) → ((c : Container) → q ≡ Some c → ⊥) → ReadsNext v w passed (Ok q) → IsOver u w f waiting
      step None none reads = over_now u v w passed f waiting low is reads
      step (Some c) none reads = absurd (none c refl)

pub all_noted : (u v : View) (f : Findings) (waiting : List Container) → waiting ≡ [] → IsOver u v f waiting → Scrubs u v (Ok f)
all_noted u v f waiting empty over = scrubs_done u v f (subst (λ (ws : List Container). IsOver u v f ws) empty over)
