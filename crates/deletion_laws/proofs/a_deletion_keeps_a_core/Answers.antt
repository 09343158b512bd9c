use Rattle.std.proofs.Common.{refl, max, ◌+◌, ⊎_elim, inl, inr, ap, Some}
use Rattle.vault_types.specs.State.{floor_of}
use Rattle.vault_types.specs.Blobs.{floor_bytes}
use Rattle.vault_types.specs.Shelf.{Blobs, with_blob, floor_name}
use Rattle.deletion_laws.proofs.Keeping.{delete_core}
use Rattle.deletion_laws.proofs.Going.{told_deleted, told_cleans}
use Rattle.deletion_laws.proofs.Steps.{half_core, told_half}
use Rattle.deletion_laws.proofs.a_deletion_keeps_a_core.Goals as goal

pub returns-clause-done : goal.returns-clause-done
returns-clause-done c = λ K s n strays core below low no_job. delete_core K s n strays core below low no_job

pub returns-clause-held : goal.returns-clause-held
returns-clause-held c = λ K s n strays m core below low no_job alone are held.
    told_deleted K s n strays core.state below low are (max (floor_of K.state s) (n + 1)) refl no_job alone (Some m) (Some (with_blob m (floor_name s) (Some (floor_bytes s (max (floor_of K.state s) (n + 1)))))) refl held

pub returns-clause-may_go : goal.returns-clause-may_go
returns-clause-may_go c = λ K s n strays m core below low no_job alone are held. told_cleans K s n strays core.state below low are no_job alone (Some m) held refl

pub returns-clause-half : goal.returns-clause-half
returns-clause-half c = λ K s n core below low. half_core K s n core below low

pub returns-clause-half_held : goal.returns-clause-half_held
returns-clause-half_held c = λ K s n m b core below low no_job alone held may.
    told_half K s n (max (floor_of K.state s) (n + 1)) core.state below low refl no_job alone (Some m) (Some b)
    (⊎_elim (λ same. inl (ap (λ (d : Blobs). Some d) same)) (λ same. inr (ap (λ (d : Blobs). Some d) same)) may) held
