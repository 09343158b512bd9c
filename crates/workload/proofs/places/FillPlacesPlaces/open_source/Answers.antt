use Rattle.std.proofs.Common.{◌∙◌, ℕ, List, Some, ap}
use Rattle.workload.specs.declared.place.FillPlace.{FillPlace}
use Rattle.workload.specs.Places.{FilledPlaces, file_at}
use Rattle.workload.proofs.Placing.{version_file}
use Rattle.workload.proofs.places.FillPlacesPlaces.open_source.Goals as goal

pub returns-clause-reader : goal.returns-clause-reader
returns-clause-reader c =
    ap (λ (b : List ℕ). Some b) c.new.ensures
    ∙ version_file c.self.inside.seed c.in-Some.version c.as_slice.result.now c.args.name.now c.in-Some.ensures.value
    ∙ ap (λ (l : List FillPlace). file_at c.self.inside.seed l c.args.name.now) c.as_slice.ensures.value
    ∙ ap (λ (f : FilledPlaces). file_at f.seed f.places c.args.name.now) c.self.view_is
