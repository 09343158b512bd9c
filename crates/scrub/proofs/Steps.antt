-- One container more is read or noted, and the end.
use Rattle.std.proofs.Common.{◌≡◌, ◌⊎◌, ⊎_elim, ℕ, ◌≤◌, ◌<◌, ◌+◌, ◌^◌, List, [], ◌∷◌, ◌++◌, map, length, length-append, append_assoc, Option, Some, None, refl, sym, ap, ◌∙◌, subst, arith, suc}
use Rattle.std.specs.Prelude.{Contains, Ok, Err, IsSome}
use Rattle.std.specs.List.{AllByRecursion}
use Rattle.std.proofs.lemmas.List.{map-append}
use Rattle.vault_types.specs.declared.Table.{Table}
use Rattle.vault_types.specs.declared.Fault.{Fault}
use Rattle.vault_types.specs.declared.Fault.TheVariants as fault
use Rattle.vault_types.specs.Lists.{IsAscending}
use Rattle.vault_types.specs.Tables.{Container, id_of}
use Rattle.vault_types.specs.State.{container_in, all_rows}
use Rattle.vault_types.specs.Shelf.{Blobs}
use Rattle.vault_types.specs.Events.{Core}
use Rattle.vault_types.proofs.SetLemmas.{IsAscending-set_of}
use Rattle.vault_traits.specs.Counts.{counted, counted_up}
use Rattle.payload_health.specs.declared.Findings.{Findings}
use Rattle.payload_health.specs.Findings.{findings_in}
use Rattle.commit_laws.proofs.Listing.{all_weaker, found_where}
use Rattle.state_laws.proofs.Members.{here}
use Rattle.std.proofs.lemmas.List.Elements.{Contains-append_right}
use Rattle.keeper_catalog.specs.View.{View, Keeps}
use Rattle.keeper_core.specs.NextNamed.{IsNextAbove}
use Rattle.scrub.specs.Scrubbing.{AreReadAs, Stays, Scrubs}
use Rattle.scrub.specs.Walking.{IsReadNext, ReadsNext, HasCome, IsUnderway, NotesOne}
use Rattle.scrub.proofs.Ascending.{rest_ascends, next_some, next_none, low_more}
use Rattle.scrub.proofs.Staying.{stays_keeps, stays_on, refused_from}

ids_ascend : (v : View) (K : Core) → Keeps v K → IsAscending (map id_of K.state.containers)
ids_ascend v K keeps = subst IsAscending (sym keeps.core.state.containers) (IsAscending-set_of (map (λ r. r.id) (all_rows K.state.datasets)))

read_more : (told : Option Blobs) (cs read : List Container) (c r : Container) → AreReadAs told cs read → r.table ≡ c.table → (IsSome told → r ≡ c) → AreReadAs told (cs ++ c ∷ []) (read ++ r ∷ [])
read_more told cs read c r are table payload = (
  map-append (λ (d : Container). d.table) read (r ∷ [])
      ∙ ap (λ (ts : List Table). ts ++ r.table ∷ []) are.0
      ∙ ap (λ (t : Table). map (λ (d : Container). d.table) cs ++ t ∷ []) table
      ∙ sym (map-append (λ (d : Container). d.table) cs (c ∷ [])),
  λ tells. ap (λ (ds : List Container). ds ++ r ∷ []) (are.1 tells) ∙ ap (λ (d : Container). cs ++ d ∷ []) (payload tells),
)

one_more : {X : Type 0} (xs : List X) (x : X) → length (xs ++ x ∷ []) ≡ suc (length xs)
one_more xs x = length-append xs (x ∷ []) ∙ omega arith

-- the containers are those that were read, and the rest
module _ (u v w : View) (passed : ℕ) (f : Findings) (waiting : List Container) (K : Core) (keeps : Keeps u K) (come : HasCome u v passed f waiting K) where
  ascends : IsAscending (map id_of come.rest)
  ascends = rest_ascends come.done come.rest (subst (λ (cs : List Container). IsAscending (map id_of cs)) (sym come.parts) (ids_ascend u K keeps))

  abbrev First : ℕ → Type 0
  First n = (c : Container) × (more : List Container) × (come.rest ≡ c ∷ more) × (c.table.id ≡ n) × AllByRecursion (λ d. n < d.table.id) more

  first_of : (n : ℕ) → IsNextAbove (map id_of K.state.containers) passed (Some n) → First n
  first_of n next = next_some passed come.done come.low come.rest n come.high ascends (subst (λ (cs : List Container). IsNextAbove (map id_of cs) passed (Some n)) (sym come.parts) next)

  come_read : (read : Container) → Stays u v → IsReadNext v.told.blobs K.state.containers passed (Some read) → w.told.gets ≡ counted v.told.gets → HasCome u w read.table.id f (waiting ++ read ∷ []) K
  come_read read stays next gets =
      let first = first_of read.table.id next.0 in
      let c = first.0 in
      let parts : come.done ++ c ∷ first.1 ≡ K.state.containers = ap (λ (cs : List Container). come.done ++ cs) (sym first.2) ∙ come.parts in
      let among = subst (λ (cs : List Container). Contains cs c) parts (Contains-append_right come.done (c ∷ first.1) c (here c first.1)) in
      let at : container_in K.state.containers read.table.id ≡ Some c = ap (container_in K.state.containers) (sym first.3) ∙ found_where K.state.containers c (ids_ascend u K keeps) among in
      let is = next.1 c at in
      record {
        done = come.done ++ c ∷ [];
        rest = first.1;
        parts = append_assoc come.done (c ∷ []) first.1 ∙ parts;
        low = low_more passed come.done come.low c read.table.id first.3 next.0.1;
        high = first.4;
        noted = come.noted;
        read = subst (λ (ds : List Container). AreReadAs u.told.blobs (come.done ++ c ∷ []) ds) (append_assoc come.noted waiting (read ∷ []))
            (read_more u.told.blobs come.done (come.noted ++ waiting) c read come.read is.0 (λ tells. is.1 (subst IsSome (sym stays.blobs) tells)));
        found = come.found;
        gets = gets ∙ ap counted come.gets ∙ ap (counted_up u.told.gets) (sym (one_more come.done c));
      }

  -- how many payloads were got at most
  abbrev GotFew : ℕ → Type 0
  GotFew now = (n : ℕ) × (n ≤ length K.state.containers) × (now ≡ counted_up u.told.gets n)

  all_len : length K.state.containers ≡ length come.done + length come.rest
  all_len = ap length (sym come.parts) ∙ length-append come.done come.rest

  got_few : GotFew v.told.gets
  got_few = (length come.done, omega (arith, all_len), come.gets)

  got_more : (n : ℕ) → IsNextAbove (map id_of K.state.containers) passed (Some n) → GotFew (counted v.told.gets)
  got_more n next =
      let first = first_of n next in
      let rest : length come.rest ≡ suc (length first.1) = ap length first.2 in
      (suc (length come.done), omega (arith, all_len, rest), ap counted come.gets)

  -- with no rest all were read
  all_read : IsNextAbove (map id_of K.state.containers) passed None → come.done ≡ K.state.containers
  all_read next =
      let none = next_none passed come.done come.low come.rest come.high (subst (λ (cs : List Container). IsNextAbove (map id_of cs) passed None) (sym come.parts) next) in
      sym (append_none come.done) ∙ ap (λ (cs : List Container). come.done ++ cs) (sym none) ∙ come.parts
    where
      append_none : (cs : List Container) → cs ++ [] ≡ cs
      append_none [] = refl
      append_none (c ∷ cs) = ap (λ (ds : List Container). c ∷ ds) (append_none cs)

come_noted : (u v : View) (passed : ℕ) (f g : Findings) (c : Container) (waiting : List Container) (K : Core) → HasCome u v passed f (c ∷ waiting) K → NotesOne f g c → HasCome u v passed g waiting K
come_noted u v passed f g c waiting K come one = record {
  done = come.done;
  rest = come.rest;
  parts = come.parts;
  low = come.low;
  high = come.high;
  noted = come.noted ++ c ∷ [];
  read = subst (λ (ds : List Container). AreReadAs u.told.blobs come.done ds) (sym (append_assoc come.noted (c ∷ []) waiting)) come.read;
  found = one.found come.noted come.found;
  gets = come.gets;
}

-- for each core

pub underway_first : (u : View) (f : Findings) → f ≡ findings_in [] → IsUnderway u u 0 f []
underway_first u f none = record {
  come = λ K keeps. record {
    done = [];
    rest = K.state.containers;
    parts = refl;
    low = tt;
    high = all_weaker _ (λ c. 0 < c.table.id) K.state.containers (λ c rules. omega (arith, rules.id_low)) keeps.core.state.tables;
    noted = [];
    read = (refl, λ tells. refl);
    found = none;
    gets = refl;
  };
  stays = record { blobs = refl; history = refl; memo = refl; index = refl; pins = refl; job = refl; pending = refl };
  later = omega arith;
  few = let e : f.containers ≡ 0 = ap (λ (g : Findings). g.containers) none in omega (arith, e);
}

module _ (u v w : View) (passed : ℕ) (f : Findings) (waiting : List Container) (is : IsUnderway u v passed f waiting) where
  pub underway_read : (read : Container) → ReadsNext v w passed (Ok (Some read)) → IsUnderway u w read.table.id f (waiting ++ read ∷ [])
  underway_read read reads = record {
    come = λ K keeps. come_read u v w passed f waiting K keeps (is.come K keeps) read is.stays (reads.next K (stays_keeps u v K is.stays keeps)) reads.gets;
    stays = stays_on u v w is.stays reads.stays;
    later = let a = is.later in let b = reads.causes.later in omega (arith, a, b);
    few = let a = is.few in let b = reads.above_it in let c = length-append waiting (read ∷ []) in omega (arith, a, b, c);
  }

  -- so it is where there is none more
  pub underway_still : ReadsNext v w passed (Ok None) → IsUnderway u w passed f waiting
  underway_still reads = record {
    come = λ K keeps. let come = is.come K keeps in record {
      done = come.done;
      rest = come.rest;
      parts = come.parts;
      low = come.low;
      high = come.high;
      noted = come.noted;
      read = come.read;
      found = come.found;
      gets = reads.gets ∙ come.gets;
    };
    stays = stays_on u v w is.stays reads.stays;
    later = let a = is.later in let b = reads.causes.later in omega (arith, a, b);
    few = is.few;
  }

  pub scrubs_refused : (e : Fault) → ReadsNext v w passed (Err e) → Scrubs u w (Err e)
  scrubs_refused e reads = record {
    found = tt;
    gets = tt;
    few = λ K keeps. ⊎_elim
        (λ same. let few = got_few u v w passed f waiting K keeps (is.come K keeps) in (few.0, few.1, same ∙ few.2))
        (λ more. let next = more.1 K (stays_keeps u v K is.stays keeps) in let few = got_more u v w passed f waiting K keeps (is.come K keeps) next.0 next.1 in (few.0, few.1, more.0 ∙ few.2))
        reads.few;
    stays = stays_on u v w is.stays reads.stays;
    keeps = λ K keeps. stays_keeps v w K reads.stays (stays_keeps u v K is.stays keeps);
    causes = refused_from u v w.told.faults e is.stays is.later reads.causes;
  }

  pub scrubs_memory : Scrubs u v (Err fault.Memory)
  scrubs_memory = record {
    found = tt;
    gets = tt;
    few = λ K keeps. got_few u v w passed f waiting K keeps (is.come K keeps);
    stays = is.stays;
    keeps = λ K keeps. stays_keeps u v K is.stays keeps;
    causes = record { later = is.later; each = tt };
  }

pub underway_noted : (u v : View) (passed : ℕ) (f g : Findings) (c : Container) (waiting : List Container) → IsUnderway u v passed f (c ∷ waiting) → NotesOne f g c → IsUnderway u v passed g waiting
underway_noted u v passed f g c waiting is one = record {
  come = λ K keeps. come_noted u v passed f g c waiting K (is.come K keeps) one;
  stays = is.stays;
  later = is.later;
  few = let a = is.few in let b = one.count in omega (arith, a, b);
}

-- all were read
abbrev pub IsOver : View → View → Findings → List Container → Type 0
IsOver u v f waiting = (passed : ℕ) × (passed < 2 ^ 64) × IsUnderway u v passed f waiting × ((K : Core) → Keeps u K → IsNextAbove (map id_of K.state.containers) passed None)

pub over_now : (u v w : View) (passed : ℕ) (f : Findings) (waiting : List Container) → passed < 2 ^ 64 → IsUnderway u v passed f waiting → ReadsNext v w passed (Ok None) → IsOver u w f waiting
over_now u v w passed f waiting low is reads = (passed, low, underway_still u v w passed f waiting is reads, λ K keeps. reads.next K (stays_keeps u v K is.stays keeps))

pub over_noted : (u v : View) (f g : Findings) (c : Container) (waiting : List Container) → IsOver u v f (c ∷ waiting) → NotesOne f g c → IsOver u v g waiting
over_noted u v f g c waiting over one = (over.0, over.1, underway_noted u v over.0 f g c waiting over.2 one, over.3)

append_none : {X : Type 0} (cs : List X) → cs ++ [] ≡ cs
append_none [] = refl
append_none (c ∷ cs) = ap (λ ds. c ∷ ds) (append_none cs)

pub scrubs_done : (u v : View) (f : Findings) → IsOver u v f [] → Scrubs u v (Ok f)
scrubs_done u v f over =
    let is = over.2 in
    record {
      found = λ K keeps.
          let come = is.come K keeps in
          let all = all_read u v v over.0 f [] K keeps come (over.3 K keeps) in
          (come.noted, subst (λ (cs : List Container). AreReadAs u.told.blobs cs come.noted) all (subst (λ (ds : List Container). AreReadAs u.told.blobs come.done ds) (append_none come.noted) come.read), come.found);
      gets = λ K keeps.
          let come = is.come K keeps in
          let all = all_read u v v over.0 f [] K keeps come (over.3 K keeps) in
          come.gets ∙ ap (λ (cs : List Container). counted_up u.told.gets (length cs)) all;
      few = λ K keeps. got_few u v v over.0 f [] K keeps (is.come K keeps);
      stays = is.stays;
      keeps = λ K keeps. stays_keeps u v K is.stays keeps;
      causes = record { later = is.later; each = tt };
    }
