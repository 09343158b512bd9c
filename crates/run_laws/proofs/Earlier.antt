-- A run of lines behind an opening, which leaves the shelf but for its count of faults.
use Rattle.std.proofs.Common.{◌≡◌, inl, inr, ⊎_elim, ◌≤◌, ◌+◌, ◌-◌, ℕ, Bool, List, subst, arith}
use Rattle.vault_types.specs.declared.Limits.{Limits}
use Rattle.vault_types.specs.declared.Name.{Name}
use Rattle.vault_types.specs.declared.Answer.{Answer}
use Rattle.vault_types.specs.declared.Line.{Line}
use Rattle.vault_types.specs.State.{State}
use Rattle.vault_types.specs.Script.{Sources}
use Rattle.vault_traits.specs.Told.{ShelfTold, PlacesTold}
use Rattle.store_model.specs.Causes.{Counts, CausesRise, AnswersHaveCauses, counts_over}
use Rattle.store_model.specs.Complete.{IsComplete}
use Rattle.store_model.specs.Script.{RunsLines, MeansScript}
use Rattle.script_laws.proofs.Following.{stay_more}
use Rattle.script_laws.proofs.Rising.{rise_lower}
use Rattle.store_model.specs.Early.{IsSameBut}

-- counts with an earlier one of the shelf
abbrev pub with_store : Counts → ℕ → Counts
with_store c n = record { store = n; place = c.place; read = c.read; write = c.write }

pub causes_earlier : (old new : Counts) (n : ℕ) (answers : List Answer) → n ≤ old.store → CausesRise old new answers → CausesRise (with_store old n) new answers
causes_earlier old new n answers later c = record { store = rise_lower n old.store new.store _ later c.store; place = c.place; read = c.read; write = c.write }

pub some_earlier : (old new : Counts) (n : ℕ) (lines : List Line) (answers : List Answer) → n ≤ old.store → AnswersHaveCauses old new lines answers → AnswersHaveCauses (with_store old n) new lines answers
some_earlier old new n lines answers later c = record {
  store = (c.store.0, c.store.1, rise_lower n old.store new.store c.store.0 later c.store.2);
  place = c.place;
  read = c.read;
  write = c.write;
  changes = rise_lower n old.store new.store _ later c.changes;
}

pub complete_earlier : (limits : Limits) (sources : Sources) (S : State) (lines : List Line) (answers : List Answer) (old new : Counts) (n : ℕ) → n ≤ old.store
    → IsComplete limits sources S lines answers old new → IsComplete limits sources S lines answers (with_store old n) new
complete_earlier limits sources S lines answers old new n later c = record {
  each = c.each;
  sound = c.sound;
  few = λ below. more _ _ _ _ _ _ later (c.few (record { store = below.store; place = below.place; read = below.read; write = below.write }));
}
  where
    more : (k n m s b d : ℕ) → n ≤ m → k ≤ (s - m) + b + d + (new.write - old.write) → k ≤ (s - n) + b + d + (new.write - old.write)
    more k n m s b d le h = omega arith

-- a shelf with an earlier count of faults
abbrev with_faults : ShelfTold → ℕ → ShelfTold
with_faults old n = record { blobs = old.blobs; history = old.history; faults = n; gets = old.gets }

means_earlier : (limits : Limits) (lines : List Line) (answers : List Answer) (mid new : ShelfTold) (n : ℕ) → n ≤ mid.faults → (sources : Sources) (S : State) (Known Told : Name → Type 0) → ((q : Name) → Known q → Told q)
    → MeansScript limits sources S lines answers Known mid new → MeansScript limits sources S lines answers Told (with_faults mid n) new
means_earlier limits lines answers mid new n later sources S Known Told told m = record {
  table = m.table;
  shelf = record { blobs = m.shelf.blobs; valid = m.shelf.valid; forms = m.shelf.forms; loads = m.shelf.loads };
  strays = record { later = omega (arith, later, m.strays.later); others = m.strays.others; few = λ below. omega (arith, m.strays.few below, later, m.strays.later); each = λ q stray. ⊎_elim (λ stays. inl (stay_more limits sources S lines answers Known Told told q stays)) (λ other. inr other) (m.strays.each q stray) };
  crash = m.crash;
  once_done = m.once_done;
  kept = m.kept;
  bytes = m.bytes;
  reached = m.reached;
}

runs_earlier : (in_order : Bool) (limits : Limits) (lines : List Line) (answers : List Answer) (mid new : ShelfTold) (before now : PlacesTold) (n : ℕ) → n ≤ mid.faults → (From To : State → Type 0) (Known Told : State → Name → Type 0) → ((S : State) → To S → From S) → ((S : State) → To S → (q : Name) → Known S q → Told S q)
    → RunsLines in_order From Known limits lines answers mid new before now → RunsLines in_order To Told limits lines answers (with_faults mid n) new before now
runs_earlier in_order limits lines answers mid new before now n later From To Known Told from told r = record {
  kinds = r.kinds;
  causes = some_earlier (counts_over mid before) (counts_over new now) n lines answers later r.causes;
  ordered = λ e. causes_earlier (counts_over mid before) (counts_over new now) n answers later (r.ordered e);
  others = r.others;
  reads = r.reads;
  read = r.read;
  there = r.there;
  means = λ S sources to fed. means_earlier limits lines answers mid new n later sources S (Known S) (Told S) (told S to) (r.means S sources (from S to) fed);
  outputs = λ S sources to fed. r.outputs S sources (from S to) fed;
  complete = λ S sources to fed all. complete_earlier limits sources S lines answers (counts_over mid before) (counts_over new now) n later (r.complete S sources (from S to) fed all);
}

same_but : (old mid : ShelfTold) → IsSameBut old mid → with_faults mid old.faults ≡ old
same_but old mid is = λ i. record { blobs = is.blobs i; history = is.history i; faults = old.faults; gets = is.gets i }

-- a run behind the opening is a run from before it
pub runs_opened : (in_order : Bool) (limits : Limits) (lines : List Line) (answers : List Answer) (old mid new : ShelfTold) (before now : PlacesTold) (From To : State → Type 0) (Known Told : State → Name → Type 0) → IsSameBut old mid → ((S : State) → To S → From S) → ((S : State) → To S → (q : Name) → Known S q → Told S q)
    → RunsLines in_order From Known limits lines answers mid new before now → RunsLines in_order To Told limits lines answers old new before now
runs_opened in_order limits lines answers old mid new before now From To Known Told same from told r =
    subst (λ (s : ShelfTold). RunsLines in_order To Told limits lines answers s new before now) (same_but old mid same) (runs_earlier in_order limits lines answers mid new before now old.faults same.later From To Known Told from told r)

pub means_opened : (limits : Limits) (sources : Sources) (S : State) (lines : List Line) (answers : List Answer) (Known Told : Name → Type 0) (old mid new : ShelfTold) → ((q : Name) → Known q → Told q) → IsSameBut old mid → MeansScript limits sources S lines answers Known mid new → MeansScript limits sources S lines answers Told old new
means_opened limits sources S lines answers Known Told old mid new told same m =
    subst (λ (s : ShelfTold). MeansScript limits sources S lines answers Told s new) (same_but old mid same) (means_earlier limits lines answers mid new old.faults same.later sources S Known Told told m)
