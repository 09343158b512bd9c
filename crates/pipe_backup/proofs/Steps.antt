-- The steps of a backup that runs.
use Rattle.std.proofs.Common.{◌≡◌, inl, inr, ℕ, ◌<◌, ◌≤◌, ◌+◌, List, [], ◌∷◌, ◌++◌, length, map, refl, sym, ap, ◌∙◌, subst, arith, length-append, Option, Some, None}
use Rattle.std.specs.Prelude.{Ok, Err, option_to_list}
use Rattle.vault_types.specs.declared.Fault.TheVariants as fault
use Rattle.vault_types.specs.declared.Flow.{Flow}
use Rattle.vault_types.specs.declared.Flow.TheVariants.{Part}
use Rattle.vault_types.specs.declared.Turn.{Turn}
use Rattle.vault_types.specs.declared.Turn.TheVariants.{Moved, Idle, Done}
use Rattle.vault_types.specs.declared.How.{How}
use Rattle.vault_types.specs.Names.{NamedChunk}
use Rattle.vault_types.specs.Tables.{Container}
use Rattle.vault_traits.specs.Told.{SourceTold}
use Rattle.rewrite_stage.specs.declared.Decided.{Decided}
use Rattle.stage_flows.specs.declared.Last.{Last}
use Rattle.stage_flows.specs.declared.Last.TheVariants as last
use Rattle.stage_flows.specs.Runs.{run, item_of}
use Rattle.container_fill.specs.Filling.{Filling}
use Rattle.keeper_catalog.specs.View.{View}
use Rattle.pipe_run.specs.Jobs.{JobView}
use Rattle.seal_lane.specs.Lanes.{SealView}
use Rattle.backup_jobs.specs.Going.{Began, HasFilledParts, part_of}
use Rattle.pipe_backup.specs.declared.sealing.Halt.{Halt}
use Rattle.pipe_backup.specs.declared.sealing.Halt.TheVariants as halt
use Rattle.pipe_backup.specs.Sealing.{HasHanded, IsHalt, IsFilling}
use Rattle.pipe_backup.specs.Piping.{PipingView, IsJobFor, IsBackupOf, IsPiping, IsLastStep, HasCome}
use Rattle.pipe_backup.proofs.Flows.{part_taken, last_taken}
use Rattle.pipe_backup.proofs.Fills.{room_for, too_many, handed_on, filled_on, no_memory}

-- the stages gave an item, and are those of the backup
module _ {I : Type 0} (b : Began) (told : I → SourceTold) (now new : JobView I) (item : Flow Decided) (is : new ≡ record now { taken = now.taken ++ item ∷ [] }) where
  still_for : IsJobFor b told now → IsJobFor b told new
  still_for h = record {
    source = ap (λ (j : JobView I). told j.source) is ∙ h.source;
    cutting = ap (λ (j : JobView I). j.cutting) is ∙ h.cutting;
    rules = ap (λ (j : JobView I). j.rules) is ∙ h.rules;
    limit = ap (λ (j : JobView I). j.limit) is ∙ h.limit;
    index = ap (λ (j : JobView I). j.index) is ∙ h.index;
    stopped = ap (λ (j : JobView I). j.stopped) is ∙ h.stopped;
  }

-- the same backup
pub piping_as : {I : Type 0} (b : Began) (told : I → SourceTold) (u v : View) (p q : PipingView I) → v ≡ u → q ≡ p → IsPiping b told u p → IsPiping b told v q
piping_as {I} b told u v p q same still h = subst (λ (x : View × PipingView I). IsPiping b told x.0 x.1) (λ i. (sym same i, sym still i)) h

module _ {I : Type 0} (b : Began) (told : I → SourceTold) (now : View) (p : PipingView I) (h : IsPiping b told now p) where
  -- what came back of the lane was put
  pub put_on : (after : View) (lane : SealView) (lens : List ℕ) → HasHanded b after lens lane (run h.filling.gone None) → IsPiping b told after (record p { lane = lane; lens = lens })
  put_on after lane lens handed = record {
    backup = record { job = h.backup.job; span = h.backup.span; stages = h.backup.stages; cuttable = h.backup.cuttable };
    parts = h.parts;
    taken = h.taken;
    count_is = h.count_is;
    filling = record { gone = h.filling.gone; filled = h.filling.filled; handed = handed };
  }

  -- or a put stopped
  pub put_ends : (after : View) (lane : SealView) (lens : List ℕ) (e : Halt) → IsHalt b after lane e → HasCome b told after (record p { lane = lane; lens = lens }) (record { last = Err e })
  put_ends after lane lens e is = record {
    backup = record { job = h.backup.job; span = h.backup.span; stages = h.backup.stages; cuttable = h.backup.cuttable };
    parts = h.parts;
    taken = h.taken;
    comes = at e is;
  }
    where
      at : (e : Halt) → IsHalt b after lane e → IsLastStep b after (record p { lane = lane; lens = lens }) h.parts (Err e)
      at (halt.Failed f) stop = stop
      at halt.Never never = inr never

  -- the container that was held is handed on, or is still held
  pub held_on : (t : Turn) (lane : SealView) (held : Option Container) → (t ≡ Done → (p.held ≡ None) × (held ≡ None) × (lane ≡ p.lane)) → (t ≡ Idle → (held ≡ p.held) × (lane ≡ p.lane))
      → (t ≡ Moved → (c : Container) × (p.held ≡ Some c) × (held ≡ None) × (lane ≡ record p.lane { given = p.lane.given ++ Part c ∷ [] })) → IsPiping b told now (record p { lane = lane; held = held })
  held_on t lane held done idle moved = record {
    backup = record { job = h.backup.job; span = h.backup.span; stages = h.backup.stages; cuttable = h.backup.cuttable };
    parts = h.parts;
    taken = h.taken;
    count_is = h.count_is;
    filling = at t done idle moved;
  }
    where
      filling_as : (o : Option Container) (s : SealView) → held ≡ o → lane ≡ s → IsFilling b now p.filler o p.lens s (map part_of h.parts) → IsFilling b now p.filler held p.lens lane (map part_of h.parts)
      filling_as o s same still f = subst (λ (q : Option Container × SealView). IsFilling b now p.filler q.0 p.lens q.1 (map part_of h.parts)) (λ i. (sym same i, sym still i)) f

      at : (t : Turn) → (t ≡ Done → (p.held ≡ None) × (held ≡ None) × (lane ≡ p.lane)) → (t ≡ Idle → (held ≡ p.held) × (lane ≡ p.lane))
          → (t ≡ Moved → (c : Container) × (p.held ≡ Some c) × (held ≡ None) × (lane ≡ record p.lane { given = p.lane.given ++ Part c ∷ [] })) → IsFilling b now p.filler held p.lens lane (map part_of h.parts)
      at Done done idle moved = let is = done refl in filling_as p.held p.lane (is.1 ∙ sym is.0) is.2 h.filling
      at Idle done idle moved = let is = idle refl in filling_as p.held p.lane is.0 is.1 h.filling
      at Moved done idle moved = let is = moved refl in filling_as None lane is.2 refl (handed_on b now p.filler p.held p.lens p.lane lane (map part_of h.parts) is.0 is.1 is.3 h.filling)

  -- the stages are as they were
  pub still_on : (stages : JobView I) → stages ≡ p.stages → IsPiping b told now (record p { stages = stages })
  still_on stages same = piping_as b told now now p (record p { stages = stages }) refl (λ i. record p { stages = same i }) h

  -- an item came of the stages
  module _ (stages : JobView I) (item : Flow Decided) (is : stages ≡ record p.stages { taken = p.stages.taken ++ item ∷ [] }) where
    backup_still : IsBackupOf b told (record p { stages = stages })
    backup_still = record { job = h.backup.job; span = h.backup.span; stages = still_for b told p.stages stages item is h.backup.stages; cuttable = h.backup.cuttable }

    -- a part, which the filler took
    pub part_on : (d : Decided) (filler : Filling) (given : Option Container) (count : ℕ) → item ≡ Part d → p.held ≡ None → p.count < p.span.limit → count ≡ p.count + 1
        → ((gone : List Container) (parts : List (NamedChunk × How)) → HasFilledParts b p.filler gone parts → length parts < b.limits.chunks → HasFilledParts b filler (gone ++ option_to_list given) (parts ++ part_of d ∷ []))
        → IsPiping b told now (record p { stages = stages; filler = filler; held = given; count = count })
    part_on d filler given count part none less one takes =
        let filling : IsFilling b now p.filler None p.lens p.lane (map part_of h.parts) = subst (λ (o : Option Container). IsFilling b now p.filler o p.lens p.lane (map part_of h.parts)) none h.filling in
        record {
          backup = record { job = h.backup.job; span = h.backup.span; stages = backup_still.stages; cuttable = h.backup.cuttable };
          parts = h.parts ++ d ∷ [];
          taken = part_taken p.stages stages item is h.parts d h.taken part;
          count_is = omega (arith, one, h.count_is, length-append h.parts (d ∷ []));
          filling = filled_on b now p.filler filler p.lens p.lane h.parts d given filling
              (takes (filling.gone ++ []) (map part_of h.parts) filling.filled (room_for b h.parts p.span p.count h.backup.span h.count_is less));
        }

    -- one part more than the limit
    pub many_on : (d : Decided) → item ≡ Part d → p.span.limit ≤ p.count → HasCome b told now (record p { stages = stages }) (record { last = Err halt.Never })
    many_on d part most = record {
      backup = backup_still;
      parts = h.parts ++ d ∷ [];
      taken = part_taken p.stages stages item is h.parts d h.taken part;
      comes = inl (too_many b h.parts d p.span p.count h.backup.span h.count_is most);
    }

    -- there was no memory for it
    pub memory_on : (d : Decided) (filler : Filling) → item ≡ Part d → HasCome b told now (record p { stages = stages; filler = filler }) (record { last = Err (halt.Failed fault.Memory) })
    memory_on d filler part = record {
      backup = record { job = h.backup.job; span = h.backup.span; stages = backup_still.stages; cuttable = h.backup.cuttable };
      parts = h.parts ++ d ∷ [];
      taken = part_taken p.stages stages item is h.parts d h.taken part;
      comes = no_memory b now p.filler p.held p.lens p.lane (map part_of h.parts) h.filling;
    }

    -- the last item
    pub last_on : (l : Last) → item ≡ item_of l → HasCome b told now (record p { stages = stages }) (record { last = Ok l })
    last_on l last_is = record {
      backup = backup_still;
      parts = h.parts;
      taken = last_taken p.stages stages item is h.parts l h.taken last_is;
      comes = at l;
    }
      where
        at : (l : Last) → IsLastStep b now (record p { stages = stages }) h.parts (Ok l)
        at last.End = h.filling
        at (last.Failed f) = (h.filling.handed.put, h.filling.handed.all.underway)
        at last.Stopped = tt
