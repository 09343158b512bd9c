-- One item more is sealed.
use Rattle.std.proofs.Common.{List, [], ◌∷◌, ◌++◌, sym, ap, ◌∙◌, append-nil, Some, None}
use Rattle.vault_types.specs.declared.Flow.{Flow}
use Rattle.vault_types.specs.declared.Flow.TheVariants.{Part}
use Rattle.vault_types.specs.Tables.{Container}
use Rattle.stage_flows.specs.declared.Last.{Last}
use Rattle.stage_flows.specs.Runs.{item_of}
use Rattle.stage_flows.proofs.Running.{run-part, run-last}
use Rattle.seal_stage.specs.Sealing.{AreSealed}

pub AreSealed_part : (taken sent : List (Flow Container)) (c : Container) → AreSealed taken (sent ++ []) None → AreSealed (taken ++ Part c ∷ []) (sent ++ Part c ∷ []) None
AreSealed_part taken sent c h = record {
  containers = h.containers ++ c ∷ [];
  took = ap (λ l. l ++ Part c ∷ []) h.took ∙ run-part h.containers c;
  gave = ap (λ l. l ++ Part c ∷ []) (sym (append-nil sent) ∙ h.gave) ∙ run-part h.containers c;
}

pub AreSealed_last : (taken sent : List (Flow Container)) (l : Last) → AreSealed taken (sent ++ []) None → AreSealed (taken ++ item_of l ∷ []) (sent ++ item_of l ∷ []) (Some l)
AreSealed_last taken sent l h = record {
  containers = h.containers;
  took = ap (λ q. q ++ item_of l ∷ []) h.took ∙ run-last h.containers l;
  gave = ap (λ q. q ++ item_of l ∷ []) (sym (append-nil sent) ∙ h.gave) ∙ run-last h.containers l;
}
