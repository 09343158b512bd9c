-- Why a job stops, and what it has when it ends.
use Rattle.std.proofs.Common.{◌≡◌, ℕ, ◌+◌, ◌*◌, ◌≤◌, List, [], length, Option, Some, None, refl, subst, arith}
use Rattle.std.specs.Prelude.{Result, Ok, Err, IfOk, IfErr}
use Rattle.vault_types.specs.declared.Fault.{Fault}
use Rattle.vault_types.specs.declared.Fault.TheVariants as fault
use Rattle.vault_types.specs.declared.Recipe.{Recipe}
use Rattle.vault_types.specs.declared.Answer.{Answer}
use Rattle.vault_traits.specs.Told.{SourceTold, Gives}
use Rattle.keeper_catalog.specs.View.{View}
use Rattle.backup_jobs.specs.Backup.{IsBackupFault}
use Rattle.backup_jobs.specs.declared.closing.StreamEnd.{StreamEnd}
use Rattle.backup_jobs.specs.Going.{Began, IsPutFault, IsStopped, HasReadAll, HasConcluded, IsReady, IsOver, made}
use Rattle.backup_jobs.proofs.Limits.{cuts_within}

-- what stopped a job is a cause of the backup's
pub put_is_cause : (b : Began) (now : View) (to : SourceTold) (read : List ℕ) (f : Fault) → IsPutFault b.keeper.told.faults now.told.faults f → IsBackupFault b.config b.limits b.keeper.told.faults now.told.faults b.source to read f
put_is_cause b now to read fault.Memory h = tt
put_is_cause b now to read (fault.StoreFault n) h = h
put_is_cause b now to read fault.Usage h = h
put_is_cause b now to read (fault.NotKept s v floor latest) h = absurd h
put_is_cause b now to read (fault.ReadFault n) h = absurd h
put_is_cause b now to read (fault.WriteFault n) h = absurd h
put_is_cause b now to read (fault.Damaged kind number why) h = absurd h
put_is_cause b now to read (fault.TooMany limit) h = absurd h
put_is_cause b now to read (fault.LastVersion s through latest) h = absurd h
put_is_cause b now to read (fault.PlaceFault n) h = absurd h
put_is_cause b now to read (fault.BadLine n) h = absurd h
put_is_cause b now to read (fault.ScriptTooLong limit) h = absurd h
put_is_cause b now to read (fault.Full s latest next) h = absurd h

-- a source that gave nothing
pub gives_none : (a : Option (List ℕ)) → Gives a a []
gives_none None = refl
gives_none (Some x) = refl

module _ (b : Began) (now : View) (to : SourceTold) (lens : List ℕ) (e : StreamEnd) (h : HasReadAll b now to lens e) where
  -- no more bytes were read than so many chunks can have
  read_within : length h.read ≤ b.limits.chunks * 65536 + 65536
  read_within = omega (arith, cuts_within b.config.cutting h.read h.ended.put.is.cuttable, h.ended.put.is.few)

  -- the recipe is ready
  pub concludes : (p : Recipe × Answer) → IsReady b now h.read p → HasConcluded b now to p
  concludes p ready = record {
    read = h.read;
    given = h.given;
    within = read_within;
    source_later = h.source_later;
    end = h.end;
    few = h.ended.put.is.few;
    underway = h.ended.put.underway;
    waits = h.ended.put.waits;
    named = h.ended.put.named;
    ready = ready;
  }

  -- there was no memory for it
  pub memory_stops : IsStopped b now to fault.Memory
  memory_stops = record {
    read = h.read;
    given = h.given;
    within = read_within;
    source_later = h.source_later;
    containers = (made b h.read).containers;
    underway = h.ended.put.underway;
    cause = tt;
  }

-- which of the two it was
pub over_ok : (b : Began) (now : View) (to : SourceTold) (lens : List ℕ) (ended : Result StreamEnd Fault) (e : StreamEnd) → IsOver b now to lens ended → ended ≡ Ok e → HasReadAll b now to lens e
over_ok b now to lens ended e over is = subst (λ (r : Result StreamEnd Fault). IfOk r (HasReadAll b now to lens)) is over.0

pub over_err : (b : Began) (now : View) (to : SourceTold) (lens : List ℕ) (ended : Result StreamEnd Fault) (f : Fault) → IsOver b now to lens ended → ended ≡ Err f → IsStopped b now to f
over_err b now to lens ended f over is = subst (λ (r : Result StreamEnd Fault). IfErr r (IsStopped b now to)) is over.1
