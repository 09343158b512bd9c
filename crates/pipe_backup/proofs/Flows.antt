-- Flows of what a job gives.
use Rattle.std.proofs.Common.{◌≡◌, List, [], ◌∷◌, ◌++◌, map, refl, ap, ◌∙◌, append_assoc, Option, Some, None}
use Rattle.std.specs.List.{concat, AllByRecursion}
use Rattle.vault_types.specs.declared.Flow.{Flow}
use Rattle.vault_types.specs.declared.Flow.TheVariants.{Part}
use Rattle.rewrite_stage.specs.declared.Decided.{Decided}
use Rattle.stage_flows.specs.declared.Last.{Last}
use Rattle.stage_flows.specs.declared.Last.TheVariants as last
use Rattle.stage_flows.specs.Runs.{run, item_of}
use Rattle.stage_flows.proofs.Running.{run-part, run-last}
use Rattle.source_reads.specs.Reading.{bytes_of}
use Rattle.pipe_run.specs.Jobs.{JobView, named_item, named_items}
use Rattle.backup_jobs.specs.Going.{part_of}
use Rattle.pipe_backup.specs.Ending.{as_begun}

-- parts, and then more of them
pub run-more : {X : Type 0} (xs ys : List X) (l : Option Last) → run xs None ++ run ys l ≡ run (xs ++ ys) l
run-more [] ys l = refl
run-more (x ∷ xs) ys l = ap (λ zs. Part x ∷ zs) (run-more xs ys l)

-- one item more, which is a part
one_more : {X : Type 0} (from now new : List (Flow X)) (more : List X) (item : Flow X) (x : X) → new ≡ now ++ item ∷ [] → now ≡ from ++ run more None → item ≡ Part x → new ≡ from ++ run (more ++ x ∷ []) None
one_more from now new more item x is at part =
    is ∙ ap (λ l. l ++ item ∷ []) at ∙ append_assoc from (run more None) (item ∷ []) ∙ ap (λ l. from ++ l) (ap (λ i. run more None ++ i ∷ []) part ∙ run-part more x)

-- or the last one
one_last : {X : Type 0} (now new : List (Flow X)) (parts : List X) (item : Flow X) (l : Last) → new ≡ now ++ item ∷ [] → now ≡ run parts None → item ≡ item_of l → new ≡ run parts (Some l)
one_last now new parts item l is at last_is = is ∙ ap (λ q. q ++ item ∷ []) at ∙ ap (λ i. run parts None ++ i ∷ []) last_is ∙ run-last parts l

-- or all that are left
pub all_more : {X : Type 0} (now new : List (Flow X)) (parts more : List X) (l : Option Last) → now ≡ run parts None → new ≡ now ++ run more l → new ≡ run (parts ++ more) l
all_more now new parts more l at is = is ∙ ap (λ q. q ++ run more l) at ∙ run-more parts more l

-- an item was taken of a job
module _ {I : Type 0} (now new : JobView I) (item : Flow Decided) (is : new ≡ record now { taken = now.taken ++ item ∷ [] }) where
  taken_one : new.taken ≡ now.taken ++ item ∷ []
  taken_one = ap (λ (j : JobView I). j.taken) is

  pub part_behind : (from : List (Flow Decided)) (more : List Decided) (d : Decided) → now.taken ≡ from ++ run more None → item ≡ Part d → new.taken ≡ from ++ run (more ++ d ∷ []) None
  part_behind from more d at part = one_more from now.taken new.taken more item d taken_one at part

  pub part_taken : (parts : List Decided) (d : Decided) → now.taken ≡ run parts None → item ≡ Part d → new.taken ≡ run (parts ++ d ∷ []) None
  part_taken parts d at part = one_more [] now.taken new.taken parts item d taken_one at part

  pub last_taken : (parts : List Decided) (l : Last) → now.taken ≡ run parts None → item ≡ item_of l → new.taken ≡ run parts (Some l)
  last_taken parts l at last_is = one_last now.taken new.taken parts item l taken_one at last_is

  pub begun_still : (from : JobView I) → as_begun now ≡ as_begun from → as_begun new ≡ as_begun from
  begun_still from same = ap (λ (j : JobView I). as_begun j) is ∙ same

-- the bytes of a flow of reads
pub bytes_run : (reads : List (List _)) (over : Option Last) → bytes_of (run reads over) ≡ concat reads
bytes_run [] None = refl
bytes_run [] (Some last.End) = refl
bytes_run [] (Some (last.Failed f)) = refl
bytes_run [] (Some last.Stopped) = refl
bytes_run (x ∷ xs) over = ap (λ l. x ++ l) (bytes_run xs over)

-- what holds of each item holds of the last one
pub last_cause : {X : Type 0} (P : Flow X → Type 0) (reads : List X) (l : Last) → AllByRecursion P (run reads (Some l)) → P (item_of l)
last_cause P [] l a = a.0
last_cause P (x ∷ xs) l a = last_cause P xs l a.1

-- with the names of the chunks
pub named_run : (xs : List Decided) (l : Option Last) → named_items (run xs l) ≡ run (map part_of xs) l
named_run [] None = refl
named_run [] (Some last.End) = refl
named_run [] (Some (last.Failed f)) = refl
named_run [] (Some last.Stopped) = refl
named_run (d ∷ ds) l = ap (λ zs. named_item (Part d) ∷ zs) (named_run ds l)
