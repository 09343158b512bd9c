-- One container is read, or it is not.
use Rattle.std.proofs.Common.{◌≡◌, inl, inr, ℕ, ◌≤◌, List, map, Option, Some, None, refl, sym, ap, ◌∙◌, subst, arith}
use Rattle.std.specs.Prelude.{Result, Ok, Err, IsErrAnd, IsSome}
use Rattle.vault_types.specs.declared.Kind.{Kind}
use Rattle.vault_types.specs.declared.Why.{Why}
use Rattle.vault_types.specs.declared.Table.{Table}
use Rattle.vault_types.specs.declared.Fault.{Fault}
use Rattle.vault_types.specs.Tables.{Container, id_of}
use Rattle.vault_types.specs.State.{container_in, named}
use Rattle.vault_types.specs.Shelf.{Blobs}
use Rattle.vault_types.specs.BlobDamage.{IsTableDamage}
use Rattle.vault_types.specs.Events.{Core}
use Rattle.vault_traits.specs.Counts.{counted}
use Rattle.vault_traits.specs.Causes.{HasCauses, IsUndamaged}
use Rattle.state_laws.proofs.Members.{container_in-some}
use Rattle.commit_laws.proofs.Listing.{found_is}
use Rattle.keeper_catalog.specs.View.{View, Keeps, HasCore}
use Rattle.keeper_core.specs.NextNamed.{IsNextAbove}
use Rattle.scrub.specs.Scrubbing.{Stays, IsScrubDamage}
use Rattle.scrub.specs.Walking.{ReadsNext}
use Rattle.scrub.proofs.Staying.{stays_keeps, stays_on, cause_from}

pub refused_as : (P : Result (Option Container) Fault → Type 0) (r : Result (Option Container) Fault) (e : Fault) → IsErrAnd r (λ f. f ≡ e) → P (Err e) → P r
refused_as P (Ok a) e is h = absurd is
refused_as P (Err f) e is h = subst (λ (g : Fault). P (Err g)) (sym is) h

-- what the calls of a keeper say of what stays
pub stays_by : (u v : View) → (v.memo ≡ u.memo) × (v.index ≡ u.index) × (v.pins ≡ u.pins) × (v.job ≡ u.job) × (v.pending ≡ u.pending)
    → (v.told.blobs ≡ u.told.blobs) × (v.told.history ≡ u.told.history) → Stays u v
stays_by u v same shelf = record { blobs = shelf.0; history = shelf.1; memo = same.0; index = same.1; pins = same.2; job = same.3; pending = same.4 }

pub stays_so : (u : View) → Stays u u
stays_so u = record { blobs = refl; history = refl; memo = refl; index = refl; pins = refl; job = refl; pending = refl }

module _ (u : View) (above : ℕ) (next : Option ℕ) (is : (K : Core) → Keeps u K → IsNextAbove (named K.state) above next) where
  next_of_ids : (K : Core) → Keeps u K → IsNextAbove (map id_of K.state.containers) above next
  next_of_ids K keeps = subst (λ (ids : List ℕ). IsNextAbove ids above next) (sym keeps.core.state.containers) (is K keeps)

pub reads_none : (u : View) (above : ℕ) → ((K : Core) → Keeps u K → IsNextAbove (named K.state) above None) → ReadsNext u u above (Ok None)
reads_none u above is = record {
  next = next_of_ids u above None is;
  above_it = tt;
  gets = refl;
  few = tt;
  stays = stays_so u;
  causes = record { later = omega arith; each = tt };
}

module _ (u m v : View) (above id : ℕ) (is : (K : Core) → Keeps u K → IsNextAbove (named K.state) above (Some id)) where
  -- its container
  pub container_of : (K : Core) → Keeps u K → (c : Container) × (container_in K.state.containers id ≡ Some c)
  container_of K keeps = container_in-some K.state.containers id (next_of_ids u above (Some id) is K keeps).0

  table_damage : (k : Kind) (n : ℕ) (w : Why) → IsTableDamage u.told.blobs id k n w → IsScrubDamage u k n w
  table_damage k n w damage K keeps =
      let c = container_of K keeps in
      let place = found_is K.state.containers id c.0 c.1 in
      (c.0, place.0, subst (λ (i : ℕ). IsTableDamage u.told.blobs i k n w) (sym place.1) damage)

  pub table_refused : {T : Type 0} (f : Fault) → Stays u v → v.told.gets ≡ u.told.gets → HasCauses {T = T} u.told.faults v.told.faults (IsTableDamage u.told.blobs id) (Err f) → ReadsNext u v above (Err f)
  table_refused f stays gets causes = record {
    next = tt;
    above_it = tt;
    gets = tt;
    few = inl gets;
    stays = stays;
    causes = record { later = causes.later; each = cause_from u.told.faults u.told.faults v.told.faults (IsTableDamage u.told.blobs id) (IsScrubDamage u) f (omega arith) table_damage causes.each };
  }

  pub fetch_refused : {T : Type 0} (f : Fault) → Stays u m → m.told.gets ≡ u.told.gets → u.told.faults ≤ m.told.faults → Stays m v → v.told.gets ≡ counted m.told.gets
      → HasCauses {T = T} m.told.faults v.told.faults IsUndamaged (Err f) → ReadsNext u v above (Err f)
  fetch_refused f stays gets low more got causes = record {
    next = tt;
    above_it = tt;
    gets = tt;
    few = inr (got ∙ ap counted gets, λ K keeps. (id, next_of_ids u above (Some id) is K keeps));
    stays = stays_on u m v stays more;
    causes = record { later = let a = causes.later in omega (arith, low, a); each = cause_from u.told.faults m.told.faults v.told.faults IsUndamaged (IsScrubDamage u) f low (λ k n w none. absurd none) causes.each };
  }

  module _ (t : Table) (found : Option (List ℕ)) (given : (K : Core) (c : Container) → Keeps u K → container_in K.state.containers id ≡ Some c → t ≡ c.table) where
    id_is : (K : Core) → Keeps u K → t.id ≡ id
    id_is K keeps =
        let c = container_of K keeps in
        ap (λ (x : Table). x.id) (given K c.0 keeps c.1) ∙ (found_is K.state.containers id c.0 c.1).1

    abbrev read : Container
    read = record { table = t; payload = found }

    same_as : (K : Core) (c : Container) → Keeps u K → container_in K.state.containers id ≡ Some c → found ≡ c.payload → read ≡ c
    same_as K c keeps at payload = ap (λ (x : Table). let r : Container = record { table = x; payload = found } in r) (given K c keeps at) ∙ ap (λ (p : Option (List ℕ)). let r : Container = record { table = c.table; payload = p } in r) payload

    pub reads_one : HasCore u → Stays u m → m.told.gets ≡ u.told.gets → u.told.faults ≤ m.told.faults → Stays m v → v.told.gets ≡ counted m.told.gets → m.told.faults ≤ v.told.faults
        → (IsSome m.told.blobs → (K : Core) (c : Container) → Keeps m K → container_in K.state.containers id ≡ Some c → found ≡ c.payload)
        → ReadsNext u v above (Ok (Some read))
    reads_one core stays gets low more got later payload = record {
      next = λ K keeps. (
        subst (λ (n : ℕ). IsNextAbove (map id_of K.state.containers) above (Some n)) (sym (id_is K keeps)) (next_of_ids u above (Some id) is K keeps),
        λ c at.
            let here : container_in K.state.containers id ≡ Some c = ap (container_in K.state.containers) (sym (id_is K keeps)) ∙ at in
            (given K c keeps here, λ tells. same_as K c keeps here (payload (subst (λ (b : Option Blobs). IsSome b) (sym stays.blobs) tells) K c (stays_keeps u m K stays keeps) here)),
      );
      above_it = let a = (next_of_ids u above (Some id) is core.0 core.1).1 in let e = id_is core.0 core.1 in omega (arith, a, e);
      gets = got ∙ ap counted gets;
      few = tt;
      stays = stays_on u m v stays more;
      causes = record { later = omega (arith, low, later); each = tt };
    }
