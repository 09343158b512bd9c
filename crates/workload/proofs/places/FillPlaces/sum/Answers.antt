use Rattle.std.proofs.Common.{◌∙◌, List, [], ℕ, Option, ap}
use Rattle.std.specs.Prelude.{unwrap_or}
use Rattle.vault_types.specs.Names.{fp}
use Rattle.workload.specs.declared.place.FillPlace.{FillPlace}
use Rattle.workload.specs.Places.{FilledPlaces, file_at}
use Rattle.workload.proofs.Placing.{version_file}
use Rattle.workload.proofs.places.FillPlaces.sum.Goals as goal

pub returns-in-Some : goal.returns-in-Some
returns-in-Some c =
    let seed = c.self.inside.seed in
    let name = c.args.name.now in
    c.sum_of_rest.ensures
    ∙ ap fp c.new.ensures
    ∙ ap (λ (o : Option (List ℕ)). fp (unwrap_or o [])) (
    version_file seed c.in-Some.version c.as_slice.result.now name c.in-Some.ensures.value
    ∙ ap (λ (l : List FillPlace). file_at seed l name) c.as_slice.ensures.value
    ∙ ap (λ (f : FilledPlaces). file_at f.seed f.places name) c.self.view_is
    )
