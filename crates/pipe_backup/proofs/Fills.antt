-- Parts that fill containers, one by one.
use Rattle.std.proofs.Common.{◌≡◌, inl, inr, ℕ, ◌<◌, ◌≤◌, ◌+◌, List, [], ◌∷◌, ◌++◌, length, map, refl, sym, ap, ◌∙◌, subst, arith, length-append, append-nil, Option, Some, None}
use Rattle.std.specs.Prelude.{Result, Ok, Err, IfOk, IfErr, option_to_list}
use Rattle.std.proofs.lemmas.List.{length-map, map-append}
use Rattle.vault_types.specs.declared.Fault.TheVariants as fault
use Rattle.vault_types.specs.declared.Flow.TheVariants.{Part}
use Rattle.vault_types.specs.declared.How.{How}
use Rattle.vault_types.specs.Names.{NamedChunk}
use Rattle.vault_types.specs.Stages.{IsFront, decided_parts}
use Rattle.vault_types.specs.Tables.{Container}
use Rattle.fp_index.specs.Index.{found_in}
use Rattle.rewrite_stage.specs.declared.Decided.{Decided}
use Rattle.stage_flows.specs.declared.Last.{Last}
use Rattle.stage_flows.specs.declared.Last.TheVariants as last
use Rattle.stage_flows.specs.Runs.{run}
use Rattle.container_fill.specs.Filling.{Filling}
use Rattle.keeper_catalog.specs.View.{View}
use Rattle.pipe_run.specs.Jobs.{JobView}
use Rattle.seal_lane.specs.Lanes.{SealView}
use Rattle.backup_jobs.specs.declared.closing.Rest.{Rest}
use Rattle.backup_jobs.specs.Going.{Began, AreNumbered, AreOfJob, IsPutStop, HasFilledParts, HasPutAll, part_of, rules_of, chunks_of}
use Rattle.backup_jobs.proofs.Parts.{gone_of_job}
use Rattle.pipe_backup.specs.declared.sealing.Halt.{Halt}
use Rattle.pipe_backup.specs.declared.sealing.Halt.TheVariants as halt
use Rattle.pipe_backup.specs.declared.sealing.Span.{Span}
use Rattle.pipe_backup.specs.Sealing.{IsSpanOf, IsHalt, IsFilling}
use Rattle.pipe_backup.specs.Ending.{ComesTo}
use Rattle.pipe_backup.proofs.Handing.{handed_more, handed_part}

-- there is room for one more
pub room_for : (b : Began) (parts : List Decided) (s : Span) (count : ℕ) → IsSpanOf b s → count ≡ length parts → count < s.limit → length (map part_of parts) < b.limits.chunks
room_for b parts s count is counted less = omega (arith, is.limit, counted, less, length-map parts part_of)

-- there is not
pub too_many : (b : Began) (parts : List Decided) (d : Decided) (s : Span) (count : ℕ) → IsSpanOf b s → count ≡ length parts → s.limit ≤ count → b.limits.chunks < length (parts ++ d ∷ [])
too_many b parts d s count is counted most = omega (arith, is.limit, counted, most, length-append parts (d ∷ []))

-- the containers that were handed on are the job's
numbered_front : (cs ds : List Container) (id : ℕ) → AreNumbered id (cs ++ ds) → AreNumbered id cs
numbered_front [] ds id h = tt
numbered_front (c ∷ cs) ds id h = (h.0, numbered_front cs ds (id + 1) h.1)

pub front_of_job : (b : Began) (gone more : List Container) → AreOfJob b (gone ++ more) → AreOfJob b gone
front_of_job b gone more h = record { numbered = numbered_front gone more b.first h.numbered; few = let few = h.few in omega (arith, few, length-append gone more) }

pub handed_of_job : (b : Began) (now : View) (f : Filling) (held : Option Container) (lens : List ℕ) (s : SealView) (parts : List (NamedChunk × How)) → (h : IsFilling b now f held lens s parts) → AreOfJob b h.gone
handed_of_job b now f held lens s parts h = front_of_job b h.gone (option_to_list held) (gone_of_job b f (h.gone ++ option_to_list held) parts h.filled)

-- the container that was held is handed on
pub handed_on : (b : Began) (now : View) (f : Filling) (held : Option Container) (lens : List ℕ) (s t : SealView) (parts : List (NamedChunk × How)) (c : Container) → held ≡ Some c → t ≡ record s { given = s.given ++ Part c ∷ [] }
    → IsFilling b now f held lens s parts → IsFilling b now f None lens t parts
handed_on b now f held lens s t parts c is given h = record {
  gone = h.gone ++ c ∷ [];
  filled = subst (λ (g : List Container). HasFilledParts b f g parts) (ap (λ (o : Option Container). h.gone ++ option_to_list o) is ∙ sym (append-nil (h.gone ++ c ∷ []))) h.filled;
  handed = handed_part b now lens t h.gone c (handed_more b now lens s t (run h.gone None) (Part c) given h.handed);
}

-- one part more is in, and the filler may have given out a container
pub filled_on : (b : Began) (now : View) (f g : Filling) (lens : List ℕ) (s : SealView) (parts : List Decided) (d : Decided) (given : Option Container) → (h : IsFilling b now f None lens s (map part_of parts))
    → HasFilledParts b g ((h.gone ++ []) ++ option_to_list given) (map part_of parts ++ part_of d ∷ []) → IsFilling b now g given lens s (map part_of (parts ++ d ∷ []))
filled_on b now f g lens s parts d given h filled = record {
  gone = h.gone;
  filled = subst (λ (p : List Container × List (NamedChunk × How)). HasFilledParts b g (p.0 ++ option_to_list given) p.1) (λ i. (append-nil h.gone i, sym (map-append part_of parts (d ∷ [])) i)) filled;
  handed = h.handed;
}

-- there was no memory
pub no_memory : (b : Began) (now : View) (f : Filling) (held : Option Container) (lens : List ℕ) (s : SealView) (parts : List (NamedChunk × How)) → IsFilling b now f held lens s parts → IsPutStop b now fault.Memory
no_memory b now f held lens s parts h = record { containers = h.handed.put; underway = h.handed.all.underway; cause = tt }

-- what a filling that broke off comes to
pub halt_comes : {I : Type 0} (b : Began) (now : View) (lens : List ℕ) (from to : JobView I) (s : SealView) (parts : List Decided) (l : Last) (h : Halt) → IsHalt b now s h → ComesTo b now lens from to s parts l (Err h)
halt_comes b now lens from to s parts l (halt.Failed f) stop = inl stop
halt_comes b now lens from to s parts l halt.Never never = inr (inr never)

-- and one that came to the end
pub end_comes : {I : Type 0} (b : Began) (now : View) (lens : List ℕ) (from to : JobView I) (s : SealView) (parts : List Decided) (r : Result Rest Halt)
    → IfOk r (λ r. IsFront s.back s.given → (read : List ℕ) → map part_of parts ≡ decided_parts (found_in b.index) (rules_of b) (chunks_of b.config read) → HasPutAll b now r lens read)
    → IfErr r (IsHalt b now s) → ComesTo b now lens from to s parts last.End r
end_comes b now lens from to s parts (Ok r) put stop = (refl, put)
end_comes b now lens from to s parts (Err h) put stop = halt_comes b now lens from to s parts last.End h stop
