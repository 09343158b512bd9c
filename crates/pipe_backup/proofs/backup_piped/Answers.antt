use Rattle.pipe_backup.proofs.Starts.{started_backs_up}
use Rattle.pipe_backup.proofs.backup_piped.Goals as goal

pub run_steps-ended-requires : goal.run_steps-ended-requires
run_steps-ended-requires g c = let s = c.in-Ok.ensures.ok in (s.began, s.piping)

pub end_piped-requires : goal.end_piped-requires
end_piped-requires g c = let s = c.in-Ok.ensures.ok in (s.began, c.run_steps-ended.ensures s.began s.piping)

pub returns-in-Ok : goal.returns-in-Ok
returns-in-Ok g c =
    let s = c.in-Ok.ensures.ok in
    started_backs_up (λ s. g.I.Source.told s) _ _ _ _ _ _ _ s _ _ _ (c.end_piped.ensures s.began (c.run_steps-ended.ensures s.began s.piping))
