-- The normal form of a legal program is legal.
use Rattle.std.proofs.Common.{refl, sym}
use Rattle.normal_laws.proofs.legality.numbers.Examples.{of-legal}
use Rattle.normal_laws.proofs.legality.checks.Joined.{normal_meets_checks}
use Rattle.normal_laws.proofs.legality.variables_marked.Bodies.{normal-places-met}
use Rattle.normal_laws.proofs.legality.declares_once.Whole.{normal_declares_once}
use Rattle.normal_model.specs.NormalTree.{variables_needed}
use Rattle.normal_laws.proofs.structure.types.Names.{names-begin}
use Rattle.normal_laws.proofs.structure.types.NamesApart.{normal-apart, front-kept}
use Rattle.normal_laws.specs.runs.forms.Normalisable.{setting_for, made_for}
use Rattle.normal_laws.specs.legality.Laws.{NormalHasNames, NormalMeetsAtPlaces, NormalMeetsTypes, NormalIsLegal}
use Rattle.normal_laws.proofs.legality.Places.{meets_by_places}

pub normal_has_names : NormalHasNames
normal_has_names p h few = record {
  begins = front-kept p.names (made_for p).names (names-begin (setting_for p) (variables_needed (setting_for p))) h.names.begins;
  distinct = normal-apart (setting_for p) (variables_needed (setting_for p)) h.names.distinct;
  fits = few;
}

pub normal_meets_at_places : NormalMeetsAtPlaces
normal_meets_at_places p h = normal-places-met p h

pub normal_meets_types : NormalMeetsTypes
normal_meets_types p h = meets_by_places (made_for p) (normal_meets_at_places p h) (normal_declares_once p h)

pub normal_is_legal : NormalIsLegal
normal_is_legal p h = record { type_rules = normal_meets_types p h; check_rules = normal_meets_checks p h; its_types = refl; its_numbers = sym (of-legal p h) }
