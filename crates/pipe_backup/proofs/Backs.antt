-- What a job's end tells of the stream.
use Rattle.std.proofs.Common.{◌≡◌, ◌⊎◌, inl, inr, ⊎_elim, ℕ, ◌<◌, ◌≤◌, List, ◌++◌, length, map, refl, sym, ap, ◌∙◌, subst, Option, Some, None, arith, length-append, Bool, true, false}
use Rattle.std.specs.Prelude.{Result, Ok, Err}
use Rattle.std.specs.List.{concat, AllByRecursion}
use Rattle.std.proofs.lemmas.List.{length-map}
use Rattle.std.proofs.lemmas.List.Folds.{concat-append}
use Rattle.vault_types.specs.declared.Cutting.{Cutting}
use Rattle.vault_types.specs.declared.Fault.{Fault}
use Rattle.vault_types.specs.declared.Fault.TheVariants as fault
use Rattle.vault_types.specs.declared.Flow.{Flow}
use Rattle.vault_types.specs.declared.Fp.{Fp}
use Rattle.vault_types.specs.Cuts.{cuts, settled, settled_len}
use Rattle.vault_types.specs.Decide.{Rules}
use Rattle.vault_types.specs.Lists.{parts as parts_by, rest}
use Rattle.vault_types.specs.Stages.{IsFront, decided_parts}
use Rattle.vault_types.specs.Tables.{Container}
use Rattle.vault_types.specs.JobRanges.{IsCuttable}
use Rattle.vault_types.proofs.CutLemmas.{settled_len-stable}
use Rattle.vault_types.proofs.PartsLemmas.{parts-append}
use Rattle.vault_traits.specs.Told.{SourceTold, Gives, IsAtEnd}
use Rattle.fp_index.specs.Index.{found_in}
use Rattle.rewrite_stage.specs.declared.Decided.{Decided}
use Rattle.stage_flows.specs.declared.Last.{Last}
use Rattle.stage_flows.specs.declared.Last.TheVariants as last
use Rattle.stage_flows.specs.Runs.{run, item_of}
use Rattle.stage_flows.proofs.Running.{run-one}
use Rattle.source_reads.specs.Reading.{HasCause, IsOwnEnd}
use Rattle.stage_rules.specs.Chunking.{chunks_of as due_chunks}
use Rattle.pipe_laws.specs.Pipe.{IsPipeFault}
use Rattle.pipe_run.specs.Jobs.{JobView, IsJobBack, named_items}
use Rattle.keeper_catalog.specs.View.{View}
use Rattle.backup_jobs.specs.Backup.{IsBackupFault}
use Rattle.backup_jobs.specs.declared.closing.Rest.{Rest}
use Rattle.backup_jobs.specs.Going.{Began, IsUnderway, IsPutStop, IsStopped, HasPutAll, HasReadAll, part_of, rules_of, chunks_of}
use Rattle.backup_jobs.proofs.Causes.{put_is_cause}
use Rattle.seal_lane.specs.Lanes.{SealView}
use Rattle.pipe_backup.specs.declared.sealing.Halt.{Halt}
use Rattle.pipe_backup.specs.declared.sealing.Halt.TheVariants as halt
use Rattle.pipe_backup.specs.Piping.{IsJobFor}
use Rattle.pipe_backup.specs.Ending.{ComesTo, IsFilledFrom, as_begun}
use Rattle.pipe_backup.proofs.Flows.{bytes_run, last_cause, named_run}

front_len : {X : Type 0} (xs ys : List X) → IsFront xs ys → length xs ≤ length ys
front_len xs ys f = let e : length (xs ++ f.0) ≡ length ys = ap length f.1 in omega (arith, length-append xs f.0)

-- more reads only add chunks
settled_front : (c : Cutting) → IsCuttable c → (reads all : List (List ℕ)) → IsFront reads all → IsFront (settled (concat reads) c) (settled (concat all) c)
settled_front c h reads all f =
    let bytes : concat reads ++ concat f.0 ≡ concat all = sym (concat-append reads f.0) ∙ ap concat f.1 in (
      parts_by (settled_len c) (rest (settled_len c) (concat reads) ++ concat f.0),
      sym (parts-append (settled_len c) (settled_len-stable c h) (concat reads) (concat f.0)) ∙ ap (λ b. settled b c) bytes,
    )

-- the reading stage's own fault is a cause of the backup's
read_cause : (b : Began) (now : View) (to : SourceTold) (read : List ℕ) (f : Fault) → IsOwnEnd b.limits.chunks (length read) (Some (last.Failed f)) → HasCause b.source to (item_of (last.Failed f))
    → IsBackupFault b.config b.limits b.keeper.told.faults now.told.faults b.source to read f
read_cause b now to read fault.Memory o h = tt
read_cause b now to read (fault.ReadFault n) o h = h.failed
read_cause b now to read (fault.TooMany n) o h = (o.0, inr (inr o.1))
read_cause b now to read (fault.StoreFault n) o h = absurd o
read_cause b now to read fault.Usage o h = absurd o
read_cause b now to read (fault.NotKept s v floor latest) o h = absurd o
read_cause b now to read (fault.WriteFault n) o h = absurd o
read_cause b now to read (fault.Damaged kind number why) o h = absurd o
read_cause b now to read (fault.LastVersion s through latest) o h = absurd o
read_cause b now to read (fault.PlaceFault n) o h = absurd o
read_cause b now to read (fault.BadLine n) o h = absurd o
read_cause b now to read (fault.ScriptTooLong limit) o h = absurd o
read_cause b now to read (fault.Full s latest next) o h = absurd o

module _ (b : Began) (now : View) (lens : List ℕ) (to : SourceTold) (taken : List (Flow Decided)) (sum : Fp) (stopped raised : Bool) (cuttable : IsCuttable b.config.cutting)
    (h : IsJobBack b.config.cutting (found_in b.index) (rules_of b) b.limits.chunks b.source to taken sum stopped raised) where
  given : Gives b.source.left to.left (concat h.reads)
  given = subst (Gives b.source.left to.left) (bytes_run h.reads h.over) h.went.given

  cause : (l : Last) → h.over ≡ Some l → HasCause b.source to (item_of l)
  cause l e = last_cause (HasCause b.source to) h.reads l (subst (λ o. AllByRecursion (HasCause b.source to) (run h.reads o)) e h.went.causes)

  at_end : h.over ≡ Some last.End → IsAtEnd to
  at_end e = (cause last.End e).ended refl

  -- so many chunks were due to the chunking stage
  many : (reads : List (List ℕ)) (over : Option Last) → IsFront reads h.reads → (over ≡ None) ⊎ ((over ≡ h.over) × (reads ≡ h.reads)) → b.limits.chunks < length (due_chunks b.config.cutting reads over)
      → (b.limits.chunks < length (settled (concat h.reads) b.config.cutting)) ⊎ (IsAtEnd to × (b.limits.chunks < length (cuts (concat h.reads) b.config.cutting)))
  many reads None f e n = inl (let l = front_len (settled (concat reads) b.config.cutting) (settled (concat h.reads) b.config.cutting) (settled_front b.config.cutting cuttable reads h.reads f) in omega (arith, l, n))
  many reads (Some (last.Failed g)) f e n = inl (let l = front_len (settled (concat reads) b.config.cutting) (settled (concat h.reads) b.config.cutting) (settled_front b.config.cutting cuttable reads h.reads f) in omega (arith, l, n))
  many reads (Some last.Stopped) f e n = inl (let l = front_len (settled (concat reads) b.config.cutting) (settled (concat h.reads) b.config.cutting) (settled_front b.config.cutting cuttable reads h.reads f) in omega (arith, l, n))
  many reads (Some last.End) f (inl e) n = cc
  many reads (Some last.End) f (inr e) n = inr (at_end (sym e.0), subst (λ q. b.limits.chunks < length (cuts (concat q) b.config.cutting)) e.1 n)

  pipe_cause : (f : Fault) → IsPipeFault b.config.cutting b.limits.chunks h.reads h.over f → IsBackupFault b.config b.limits b.keeper.told.faults now.told.faults b.source to (concat h.reads) f
  pipe_cause f (inl own) = read_cause b now to (concat h.reads) f (subst (IsOwnEnd b.limits.chunks (length (concat h.reads))) own h.ended) (cause (last.Failed f) own)
  pipe_cause f (inr (inl memory)) = subst (IsBackupFault b.config b.limits b.keeper.told.faults now.told.faults b.source to (concat h.reads)) (sym memory) tt
  pipe_cause f (inr (inr more)) = subst (IsBackupFault b.config b.limits b.keeper.told.faults now.told.faults b.source to (concat h.reads)) (sym more.0)
      (refl, ⊎_elim (λ x. inl x) (λ x. inr (inl x)) (many more.1 more.2 more.3 more.4 more.5))

  stop_with : (f : Fault) (containers : List Container) → IsUnderway b now containers → IsBackupFault b.config b.limits b.keeper.told.faults now.told.faults b.source to (concat h.reads) f → IsStopped b now to f
  stop_with f containers under is = record {
    read = concat h.reads;
    given = given;
    within = h.within;
    source_later = h.went.later;
    containers = containers;
    underway = under;
    cause = is;
  }

  one : (parts : List Decided) (l : Last) → taken ≡ run parts (Some l) → (h.back.parts ≡ map part_of parts) × (h.back.l ≡ Some l)
  one parts l e = run-one h.back.parts (map part_of parts) h.back.l (Some l) (sym h.back.far_is ∙ ap named_items e ∙ named_run parts (Some l))

  -- a put stopped, or the job failed
  pub stopped_back : (parts : List Decided) (l : Last) (f : Fault) → taken ≡ run parts (Some l)
      → IsPutStop b now f ⊎ ((containers : List Container) × IsUnderway b now containers × (l ≡ last.Failed f)) → IsStopped b now to f
  stopped_back parts l f at (inl put) = stop_with f put.containers put.underway (put_is_cause b now to (concat h.reads) f put.cause)
  stopped_back parts l f at (inr failed) = stop_with f failed.0 failed.1 (pipe_cause f (h.back.failed f ((one parts l at).1 ∙ ap (λ k. Some k) failed.2)))

  -- all was put
  pub ended_back : (parts : List Decided) (l : Last) (r : Rest) → taken ≡ run parts (Some l) → l ≡ last.End
      → ((read : List ℕ) → map part_of parts ≡ decided_parts (found_in b.index) (rules_of b) (chunks_of b.config read) → HasPutAll b now r lens read)
      → HasReadAll b now to lens (record { rest = r; whole = sum })
  ended_back parts l r at end put =
      let at_the_end : taken ≡ run parts (Some last.End) = at ∙ ap (λ k. run parts (Some k)) end in
      let same = one parts last.End at_the_end in
      let all = h.back.ended same.1 in
      record {
        read = concat h.reads;
        given = given;
        source_later = h.went.later;
        end = at_end all.0;
        ended = record { put = put (concat h.reads) (sym same.0 ∙ all.1); whole = h.summed parts at_the_end };
      }

  -- no more parts came than the limit, and no stop of a job that was not stopped
  pub never_more : (parts : List Decided) (l : Last) → taken ≡ run parts (Some l) → b.limits.chunks < length parts → ⊥
  never_more parts l at many =
      let few = h.back.few in
      let same : length h.back.parts ≡ length parts = ap length (one parts l at).0 ∙ length-map parts part_of in
      omega (arith, few, same, many)

  pub never_stopped : (parts : List Decided) (l : Last) → taken ≡ run parts (Some l) → l ≡ last.Stopped → stopped ≡ false → ⊥
  never_stopped parts l at is not = let stops : stopped ≡ true = h.stopped_by parts (at ∙ ap (λ k. run parts (Some k)) is) in let clash : false ≡ true = sym not ∙ stops in cc

-- the job is that of this backup, also when it is back
pub back_for : {I : Type 0} (b : Began) (told : I → SourceTold) (from j : JobView I) (to : SourceTold) (sum : Fp) (raised : Bool) → IsJobFor b told from → as_begun j ≡ as_begun from
    → IsJobBack j.cutting (found_in j.index) j.rules j.limit (told j.source) to j.taken sum j.stopped raised
    → IsJobBack b.config.cutting (found_in b.index) (rules_of b) b.limits.chunks b.source to j.taken sum j.stopped raised
back_for {I} b told from j to sum raised is same back =
    let cutting : j.cutting ≡ b.config.cutting = ap (λ (k : JobView I). k.cutting) same ∙ is.cutting in
    let index : j.index ≡ b.index = ap (λ (k : JobView I). k.index) same ∙ is.index in
    let rules : j.rules ≡ rules_of b = ap (λ (k : JobView I). k.rules) same ∙ is.rules in
    let limit : j.limit ≡ b.limits.chunks = ap (λ (k : JobView I). k.limit) same ∙ is.limit in
    let source : told j.source ≡ b.source = ap (λ (k : JobView I). told k.source) same ∙ is.source in
    subst (λ (p : Cutting × List (Fp × List ℕ) × Rules × ℕ × SourceTold). IsJobBack p.0 (found_in p.1) p.2 p.3 p.4 to j.taken sum j.stopped raised)
    (λ i. (cutting i, index i, rules i, limit i, source i)) back

-- what the filling came to, when the job is back
pub over_put : {I : Type 0} (b : Began) (now : View) (lens : List ℕ) (from j : JobView I) (s : SealView) (to : SourceTold) (sum : Fp) (raised : Bool) (o : Result Rest Halt) (r : Rest)
    → IsCuttable b.config.cutting → IsJobBack b.config.cutting (found_in b.index) (rules_of b) b.limits.chunks b.source to j.taken sum j.stopped raised
    → IsFilledFrom b now lens from j s o → o ≡ Ok r → IsFront s.back s.given → HasReadAll b now to lens (record { rest = r; whole = sum })
over_put b now lens from j s to sum raised o r can back filled is front =
    let comes : ComesTo b now lens from j s filled.parts filled.l (Ok r) = subst (ComesTo b now lens from j s filled.parts filled.l) is filled.comes in
    ended_back b now lens to j.taken sum j.stopped raised can back filled.parts filled.l r filled.taken_are comes.0 (comes.1 front)

pub over_failed : {I : Type 0} (b : Began) (now : View) (lens : List ℕ) (from j : JobView I) (s : SealView) (to : SourceTold) (sum : Fp) (raised : Bool) (o : Result Rest Halt) (h : Halt) (f : Fault)
    → IsCuttable b.config.cutting → IsJobBack b.config.cutting (found_in b.index) (rules_of b) b.limits.chunks b.source to j.taken sum j.stopped raised
    → IsFilledFrom b now lens from j s o → o ≡ Err h → h ≡ halt.Failed f → IsStopped b now to f
over_failed b now lens from j s to sum raised o h f can back filled is failed =
    stopped_back b now lens to j.taken sum j.stopped raised can back filled.parts filled.l f filled.taken_are (subst (ComesTo b now lens from j s filled.parts filled.l) (is ∙ ap (λ k. Err k) failed) filled.comes)

pub never_over : {I : Type 0} (b : Began) (now : View) (lens : List ℕ) (from j : JobView I) (s : SealView) (to : SourceTold) (sum : Fp) (raised : Bool) (o : Result Rest Halt) (h : Halt)
    → IsCuttable b.config.cutting → IsJobBack b.config.cutting (found_in b.index) (rules_of b) b.limits.chunks b.source to j.taken sum j.stopped raised
    → from.stopped ≡ false → IsFilledFrom b now lens from j s o → o ≡ Err h → h ≡ halt.Never → IsFront s.back s.given → ⊥
never_over b now lens from j s to sum raised o h can back going filled is never front =
    let comes : ComesTo b now lens from j s filled.parts filled.l (Err halt.Never) = subst (ComesTo b now lens from j s filled.parts filled.l) (is ∙ ap (λ k. Err k) never) filled.comes in
    ⊎_elim
    (λ (many : b.limits.chunks < length filled.parts). never_more b now lens to j.taken sum j.stopped raised can back filled.parts filled.l filled.taken_are many)
    (λ (other : ((filled.l ≡ last.Stopped) × (j.stopped ≡ from.stopped)) ⊎ (IsFront s.back s.given → ⊥)). ⊎_elim
    (λ (stop : (filled.l ≡ last.Stopped) × (j.stopped ≡ from.stopped)). never_stopped b now lens to j.taken sum j.stopped raised can back filled.parts filled.l filled.taken_are stop.0 (stop.1 ∙ going))
    (λ (no_front : IsFront s.back s.given → ⊥). no_front front)
    other)
    comes
