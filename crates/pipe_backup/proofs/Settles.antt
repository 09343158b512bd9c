-- What a backup that has come to its last step comes to.
use Rattle.std.proofs.Common.{◌≡◌, inl, inr, ℕ, List, ◌++◌, map, refl, sym, subst, arith, length-append, Some}
use Rattle.std.specs.Prelude.{Result, Ok, Err, IfOk, IfErr}
use Rattle.vault_types.specs.declared.Fault.{Fault}
use Rattle.vault_types.specs.Stages.{IsFront, decided_parts}
use Rattle.vault_traits.specs.Told.{SourceTold}
use Rattle.fp_index.specs.Index.{found_in}
use Rattle.rewrite_stage.specs.declared.Decided.{Decided}
use Rattle.stage_flows.specs.declared.Last.{Last}
use Rattle.stage_flows.specs.declared.Last.TheVariants as last
use Rattle.stage_flows.specs.Runs.{run}
use Rattle.keeper_catalog.specs.View.{View}
use Rattle.pipe_run.specs.Jobs.{JobView}
use Rattle.seal_lane.specs.Lanes.{SealView}
use Rattle.backup_jobs.specs.declared.closing.Rest.{Rest}
use Rattle.backup_jobs.specs.Going.{Began, HasPutAll, part_of, rules_of, chunks_of}
use Rattle.pipe_backup.specs.declared.piping.Ended.{Ended}
use Rattle.pipe_backup.specs.declared.sealing.Halt.{Halt}
use Rattle.pipe_backup.specs.declared.sealing.Halt.TheVariants as halt
use Rattle.pipe_backup.specs.Sealing.{IsFilling, IsHalt}
use Rattle.pipe_backup.specs.Piping.{PipingView, HasCome, IsLastStep, last_came}
use Rattle.pipe_backup.specs.Ending.{ComesTo, IsFilledFrom}
use Rattle.pipe_backup.proofs.Flows.{all_more}
use Rattle.pipe_backup.proofs.Fills.{end_comes}

-- the same backup
pub come_as : {I : Type 0} (b : Began) (told : I → SourceTold) (now : View) (p q : PipingView I) (e : Ended) → q ≡ p → HasCome b told now p e → HasCome b told now q e
come_as {I} b told now p q e same h = subst (λ (x : PipingView I). HasCome b told now x e) (sym same) h

module _ {I : Type 0} (b : Began) (told : I → SourceTold) (now : View) (p : PipingView I) (e : Ended) (h : HasCome b told now p e) where
  taken_as : (l : Result Last Halt) → e.last ≡ l → p.stages.taken ≡ run h.parts (last_came l)
  taken_as l is = subst (λ (x : Result Last Halt). p.stages.taken ≡ run h.parts (last_came x)) is h.taken

  comes_as : (l : Result Last Halt) → e.last ≡ l → IsLastStep b now p h.parts l
  comes_as l is = subst (IsLastStep b now p h.parts) is h.comes

  -- it broke off, and the rest was only taken
  pub drained : (to : JobView I) (more : List Decided) (l : Last) (why : Halt) → e.last ≡ Err why → to.taken ≡ p.stages.taken ++ run more (Some l) → IsFilledFrom b now p.lens p.stages to p.lane (Err why)
  drained to more l why is taken = record {
    parts = h.parts ++ more;
    l = l;
    taken_are = all_more p.stages.taken to.taken h.parts more (Some l) (taken_as (Err why) is) taken;
    comes = at why (comes_as (Err why) is);
  }
    where
      at : (why : Halt) → IsLastStep b now p h.parts (Err why) → ComesTo b now p.lens p.stages to p.lane (h.parts ++ more) l (Err why)
      at (halt.Failed f) stop = inl stop
      at halt.Never (inl many) = inl (omega (arith, many, length-append h.parts more))
      at halt.Never (inr never) = inr (inr never)

  -- the end came
  pub filling_at_end : e.last ≡ Ok last.End → IsFilling b now p.filler p.held p.lens p.lane (map part_of h.parts)
  filling_at_end is = comes_as (Ok last.End) is

  pub finished : (after : View) (lens : List ℕ) (lane : SealView) (r : Result Rest Halt) → e.last ≡ Ok last.End
      → IfOk r (λ r. IsFront lane.back lane.given → (read : List ℕ) → map part_of h.parts ≡ decided_parts (found_in b.index) (rules_of b) (chunks_of b.config read) → HasPutAll b after r lens read)
      → IfErr r (IsHalt b after lane) → IsFilledFrom b after lens p.stages p.stages lane r
  finished after lens lane r is put stop = record { parts = h.parts; l = last.End; taken_are = taken_as (Ok last.End) is; comes = end_comes b after lens p.stages p.stages lane h.parts r put stop }

  -- the stages failed, or were stopped
  pub failed : (f : Fault) → e.last ≡ Ok (last.Failed f) → IsFilledFrom b now p.lens p.stages p.stages p.lane (Err (halt.Failed f))
  failed f is = let under = comes_as (Ok (last.Failed f)) is in record { parts = h.parts; l = last.Failed f; taken_are = taken_as (Ok (last.Failed f)) is; comes = inr (under.0, under.1, refl) }

  pub was_stopped : e.last ≡ Ok last.Stopped → IsFilledFrom b now p.lens p.stages p.stages p.lane (Err halt.Never)
  was_stopped is = record { parts = h.parts; l = last.Stopped; taken_are = taken_as (Ok last.Stopped) is; comes = inr (inl (refl, refl)) }

  -- with a last item in each case
  pub some_last : (l : Last) → e.last ≡ Ok l → (parts : List Decided) × (k : Last) × (p.stages.taken ≡ run parts (Some k))
  some_last l is = (h.parts, l, taken_as (Ok l) is)
