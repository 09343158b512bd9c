-- What is printed and told at the end of a scrub.
use Rattle.std.proofs.Common.{◌≡◌, inl, inr, List, [], ◌∷◌, ◌++◌, Option, Some, None, refl, subst, ap}
use Rattle.std.specs.Prelude.{MatchOption}
use Rattle.vault_types.specs.declared.Fault.{Fault}
use Rattle.vault_types.specs.declared.Answer.{Answer}
use Rattle.vault_traits.specs.Told.{SinkTold}
use Rattle.payload_health.specs.declared.Findings.{Findings}
use Rattle.store_model.specs.World.{IsPrinted, IsTold, report_text}
use Rattle.scrub_model.specs.Words.{damage_lines, first_damage}
use Rattle.scrub_model.specs.Scrubbing.{EndsScrub, answer_to}

module _ (found : Findings) (answers : List Answer) (is : answers ≡ answer_to found ∷ []) (out out' report : SinkTold) where
  pub ends_unwritten : (f : Fault) → IsPrinted (damage_lines found.damaged ++ report_text answers) out out' (Some f) → EndsScrub found out out' report report (Some f)
  ends_unwritten f printed =
      inr (printed.0, ap Some printed.1, subst (λ (l : List Answer). IsPrinted (damage_lines found.damaged ++ report_text l) out out' (Some f)) is printed, refl)

  pub ends_written : (report' : SinkTold) (f : Option Fault) → IsPrinted (damage_lines found.damaged ++ report_text answers) out out' None → f ≡ first_damage found.damaged → MatchOption f (report' ≡ report) (λ d. IsTold d report report')
      → EndsScrub found out out' report report' f
  ends_written report' f printed first told =
      inl (subst (λ (l : List Answer). IsPrinted (damage_lines found.damaged ++ report_text l) out out' None) is printed, first, told)
