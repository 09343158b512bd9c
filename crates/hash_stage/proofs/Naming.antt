-- One item more is named.
use Rattle.std.proofs.Common.{◌≡◌, ℕ, Bool, true, false, List, [], ◌∷◌, ◌++◌, refl, sym, ap, ◌∙◌, append-nil, Option, Some, None}
use Rattle.std.specs.Prelude.{filter, cond}
use Rattle.std.proofs.lemmas.List.Elements.{filter-append}
use Rattle.vault_types.specs.declared.Flow.{Flow}
use Rattle.vault_types.specs.declared.Flow.TheVariants.{Part}
use Rattle.vault_types.specs.Names.{named_chunk}
use Rattle.vault_types.specs.Stages.{is_chunk, as_parts, named_items}
use Rattle.stage_flows.specs.declared.Last.{Last}
use Rattle.stage_flows.specs.declared.Last.TheVariants as last
use Rattle.stage_flows.specs.Runs.{item_of, run}
use Rattle.stage_flows.proofs.Running.{run-part, run-last}
use Rattle.hash_stage.specs.Hashing.{IsHashed, with_names}

-- the chunk of one part, if it is one
one : (sent : List (List ℕ)) (x : List ℕ) → run sent None ++ as_parts (filter is_chunk (x ∷ [])) ≡ run (sent ++ filter is_chunk (x ∷ [])) None
one [] x = sym (append-nil (as_parts (filter is_chunk (x ∷ []))))
one (y ∷ ys) x = ap (λ l. Part y ∷ l) (one ys x)

pub IsHashed_part : (taken sent out : List (Flow (List ℕ))) (x : List ℕ) → IsHashed taken (sent ++ []) None → out ≡ as_parts (filter is_chunk (x ∷ [])) → IsHashed (taken ++ Part x ∷ []) (sent ++ out) None
IsHashed_part taken sent out x h e = record {
  parts = h.parts ++ x ∷ [];
  took = ap (λ l. l ++ Part x ∷ []) h.took ∙ run-part h.parts x;
  gave =
      (λ i. (sym (append-nil sent) ∙ h.gave) i ++ e i)
      ∙ one (filter is_chunk h.parts) x
      ∙ ap (λ l. run l None) (sym (filter-append is_chunk h.parts (x ∷ [])));
}

pub IsHashed_last : (taken sent : List (Flow (List ℕ))) (l : Last) → IsHashed taken (sent ++ []) None → IsHashed (taken ++ item_of l ∷ []) (sent ++ item_of l ∷ []) (Some l)
IsHashed_last taken sent l h = record {
  parts = h.parts;
  took = ap (λ q. q ++ item_of l ∷ []) h.took ∙ run-last h.parts l;
  gave = ap (λ q. q ++ item_of l ∷ []) (sym (append-nil sent) ∙ h.gave) ∙ run-last (filter is_chunk h.parts) l;
}

named_run : (parts : List (List ℕ)) (l : Option Last) → with_names (run (filter is_chunk parts) l) ≡ named_items (run parts l)
named_run [] None = refl
named_run [] (Some last.End) = refl
named_run [] (Some (last.Failed f)) = refl
named_run [] (Some last.Stopped) = refl
named_run (x ∷ xs) l = step (is_chunk x) (named_run xs l)
  where
    step : (b : Bool) → with_names (run (filter is_chunk xs) l) ≡ named_items (run xs l) → with_names (run (cond b (x ∷ filter is_chunk xs) (filter is_chunk xs)) l) ≡ cond b (Part (named_chunk x) ∷ named_items (run xs l)) (named_items (run xs l))
    step true e = ap (λ q. Part (named_chunk x) ∷ q) e
    step false e = e

pub named_of : (taken out : List (Flow (List ℕ))) (over : Option Last) → IsHashed taken out over → with_names out ≡ named_items taken
named_of taken out over h = ap with_names h.gave ∙ named_run h.parts over ∙ ap named_items (sym h.took)
