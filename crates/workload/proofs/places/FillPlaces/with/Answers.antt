use Rattle.std.proofs.Common.{◌∙◌, List, ap}
use Rattle.workload.specs.declared.place.FillPlace.{FillPlace}
use Rattle.workload.specs.Places.{source_name, version_at, file_at}
use Rattle.workload.proofs.Placing.{filling, all_sources, source_version, source_bytes}
use Rattle.workload.proofs.places.FillPlaces.with.Goals as goal

pub returns-clause-value : goal.returns-clause-value
returns-clause-value c =
    ap (filling c.args.seed) (all_sources c.new-places.result.items c.add_sources.new.places.items c.new-places.ensures.items c.in_ok-add_sources.ensures)

pub returns-clause-versions : goal.returns-clause-versions
returns-clause-versions c v low high =
    ap (λ (l : List FillPlace). version_at l (source_name v)) (all_sources c.new-places.result.items c.add_sources.new.places.items c.new-places.ensures.items c.in_ok-add_sources.ensures) ∙ source_version v low high

pub returns-clause-bytes : goal.returns-clause-bytes
returns-clause-bytes c v low high =
    ap (λ (l : List FillPlace). file_at c.args.seed l (source_name v)) (all_sources c.new-places.result.items c.add_sources.new.places.items c.new-places.ensures.items c.in_ok-add_sources.ensures) ∙ source_bytes c.args.seed v low high
