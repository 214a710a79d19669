use Rattle.normal_laws.proofs.legality.Places.{meets_by_places, places_meet}
use Rattle.normal_laws.proofs.legality.Legal.{normal_has_names, normal_meets_at_places, normal_meets_types, normal_is_legal}
use Rattle.normal_laws.proofs.legality.Examples.{is_met}
use Rattle.normal_laws.proofs.legality.laws.Goals as goal

pub returns : goal.returns
returns c = record {
  places = meets_by_places;
  met_there = places_meet;
  names = normal_has_names;
  met_at_places = normal_meets_at_places;
  types = normal_meets_types;
  legal = normal_is_legal;
  met = is_met;
}
