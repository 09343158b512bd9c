-- Payloads that are loaded within a backup's job: it is as if they had been loaded before the job began.
use Rattle.std.proofs.Common.{ℕ, List, Option, None, Some, refl, sym, ◌∙◌, subst}
use Rattle.std.specs.Prelude.{Contains, IsSome, map}
use Rattle.std.proofs.Math.Nat.{le_refl}
use Rattle.vault_types.specs.declared.Fp.{Fp}
use Rattle.vault_types.specs.declared.How.{How}
use Rattle.vault_types.specs.declared.Name.{Name}
use Rattle.vault_types.specs.declared.Pending.{Pending}
use Rattle.vault_types.specs.Events.{Core, IsNear, after_refused}
use Rattle.vault_types.specs.Names.{NamedChunk}
use Rattle.vault_types.specs.RecipeForms.{KeepsRecipes}
use Rattle.vault_types.specs.Shelf.{Blobs}
use Rattle.vault_types.specs.Tables.{Container}
use Rattle.vault_traits.specs.Crash.{History, LeavesNowIfTold, LeavesOnlyIfTold}
use Rattle.vault_traits.specs.Told.{SourceTold}
use Rattle.fp_index.specs.Index.{IsIndexOf}
use Rattle.restore_pins.specs.Pins.{Listed, AreListsOf}
use Rattle.state_laws.specs.Parts.{HeldIfTold}
use Rattle.container_fill.specs.Filling.{Filling}
use Rattle.keeper_catalog.specs.Catalog.{Memo, IsMemoOf}
use Rattle.keeper_catalog.specs.View.{View, Keeps}
use Rattle.seal_lane.specs.Lanes.{SealView}
use Rattle.backup_jobs.specs.Going.{Began, IsUnderway, HasPut, job_with}
use Rattle.pipe_backup.specs.Loading.{IsLoaded, counted_as, moved}
use Rattle.pipe_backup.specs.Piping.{PipingView, IsPiping}
use Rattle.pipe_backup.specs.Sealing.{IsFilling}

-- counts of the shelf tell nothing of a core
module _ (v now : View) (K : Core) where
  pub keeps_counted : Keeps v K → Keeps (counted_as v now) K
  keeps_counted h = record { core = h.core; held = h.held; memo = h.memo; index = h.index; pins = h.pins; alike = h.alike; pinned = h.pinned; job = h.job; pending = h.pending }

  pub counted_keeps : Keeps (counted_as v now) K → Keeps v K
  counted_keeps h = record { core = h.core; held = h.held; memo = h.memo; index = h.index; pins = h.pins; alike = h.alike; pinned = h.pinned; job = h.job; pending = h.pending }

pub loaded_keeps : (before now : View) (K : Core) → IsLoaded before now → Keeps before K → Keeps now K
loaded_keeps before now K l h = record {
  core = h.core;
  held = subst (λ (m : Option Blobs). HeldIfTold m K) (sym l.blobs) h.held;
  memo = subst (λ (m : Memo). IsMemoOf m K) (sym l.memo) h.memo;
  index = subst (λ (x : List (Fp × List ℕ)). IsIndexOf x (map (λ c. c.table) K.state.containers)) (sym l.index) h.index;
  pins = subst (λ (p : List Listed). AreListsOf p K.pins) (sym l.pins) h.pins;
  alike = h.alike;
  pinned = h.pinned;
  job = l.job ∙ h.job;
  pending = l.pending ∙ h.pending;
}

module _ (b : Began) (now after : View) (l : IsLoaded now after) where
  -- the job's beginning moves behind the loads
  pub underway_moved : (containers : List Container) → IsUnderway b now containers → IsUnderway (moved b after) after containers
  underway_moved containers h = record {
    core = (h.core.0, keeps_counted b.keeper after h.core.0 h.core.1);
    told = λ K kept. let is = h.told K (counted_keeps b.keeper after K kept) in record { version = is.version; first = is.first; sparse = is.sparse; index = is.index };
    roomy = λ K kept. h.roomy K (counted_keeps b.keeper after K kept);
    set = h.set;
    version = h.version;
    fits = h.fits;
    low = h.low;
    most = h.most;
    keeps = λ K kept.
        subst (λ (p : List Name × Pending). Keeps after (after_refused None (Some (job_with b.set containers)) p.0 p.1 K)) (λ i. ((sym l.memo i).strays, sym l.pending i))
        (loaded_keeps now after (after_refused None (Some (job_with b.set containers)) now.memo.strays now.pending K) l (h.keeps K (counted_keeps b.keeper after K kept)));
    lent = l.index ∙ h.lent;
    pins = l.pins ∙ h.pins;
    tells = λ told. subst (λ (m : Option Blobs). IsSome m) (sym l.blobs) (h.tells told);
    recipes = λ K kept. subst (λ (m : Option Blobs). KeepsRecipes K.state b.keeper.told.blobs m) (sym l.blobs) (h.recipes K (counted_keeps b.keeper after K kept));
    strays = λ n there. h.strays n (stray_before n there);
    later = le_refl after.told.faults;
    gets = refl;
    crash = λ K kept at. subst (λ (m : Option History). LeavesOnlyIfTold b.keeper.told.history m (IsNear K.state K.other)) (sym l.history) (h.crash K (counted_keeps b.keeper after K kept) at);
    images = λ K kept at. subst (λ (m : Option History). LeavesNowIfTold m (IsNear K.state None)) (sym l.history) (h.images K (counted_keeps b.keeper after K kept) at);
  }
    where
      stray_before : (n : Name) → Contains after.memo.strays n → Contains now.memo.strays n
      stray_before n there = subst (λ (m : Memo). Contains m.strays n) l.memo there

  put_moved : (lens : List ℕ) (containers : List Container) → HasPut b now lens containers → HasPut (moved b after) after lens containers
  put_moved lens containers h = record {
    underway = underway_moved containers h.underway;
    waits = l.pending ∙ h.waits;
    named = record { each = λ n there. h.named.each n (subst (λ (m : Memo). Contains m.strays n) l.memo there) };
    lens_are = h.lens_are;
  }

  filling_moved : (f : Filling) (held : Option Container) (lens : List ℕ) (s : SealView) (parts : List (NamedChunk × How)) → IsFilling b now f held lens s parts → IsFilling (moved b after) after f held lens s parts
  filling_moved f held lens s parts h = record {
    gone = h.gone;
    filled = record { filled = h.filled.filled; capacity = h.filled.capacity; cuttable = h.filled.cuttable; few = h.filled.few };
    handed = record { put = h.handed.put; given_are = h.handed.given_are; back_are = h.handed.back_are; all = put_moved lens h.handed.put h.handed.all };
  }

  -- and so it is of a backup that runs
  pub piping_moved : {I : Type 0} (told : I → SourceTold) (p : PipingView I) → IsPiping b told now p → IsPiping (moved b after) told after p
  piping_moved told p h =
      let of = h.backup in
      record {
        backup = record {
          job = record { set = of.job.set; version = of.job.version; first = of.job.first; config = of.job.config };
          span = record { first = of.span.first; limit = of.span.limit };
          stages = record { source = of.stages.source; cutting = of.stages.cutting; rules = of.stages.rules; limit = of.stages.limit; index = of.stages.index; stopped = of.stages.stopped };
          cuttable = of.cuttable;
        };
        parts = h.parts;
        taken = h.taken;
        count_is = h.count_is;
        filling = filling_moved p.filler p.held p.lens p.lane _ h.filling;
      }

-- while it runs, its job is under way
pub piping_underway : {I : Type 0} (b : Began) (told : I → SourceTold) (now : View) (p : PipingView I) → IsPiping b told now p → (containers : List Container) × IsUnderway b now containers
piping_underway b told now p h = (h.filling.handed.put, h.filling.handed.all.underway)
