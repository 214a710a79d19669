-- Every legal program is as the law of normal forms asks, so it shows the same as its normal form.
use Rattle.ada_tree.specs.TypeTable.{TypeTable}
use Rattle.ada_static_rules.specs.Refusals.{types_in}
use Rattle.syn_event.specs.Numbering.{Numbering}
use Rattle.normal_laws.specs.runs.forms.Normalisable.{numbers_of}
use Rattle.normal_laws.proofs.runs.forms.Making.{made_is_normal, programs_show_same, made_is_calm}
use Rattle.normal_laws.specs.existence.variable_types.Ready.{IsReady}
use Rattle.normal_laws.proofs.existence.variable_types.Fields.{marks, families, truths, integers, scalar}
use Rattle.normal_laws.proofs.existence.units.Fields.{legal_is_ordered, legal_has_tokens, legal_names_tell, legal_is_own, legal_is_plain, legal_is_well, light_has_few}
use Rattle.normal_laws.proofs.existence.body_forms.Fields.{legal-text, legal-ready}
use Rattle.normal_laws.specs.existence.Laws.{LegalIsNormalisable, LegalIsNormal, LegalShowsSame, LegalIsCalm}

pub legal_is_normalisable : LegalIsNormalisable
legal_is_normalisable p h inputs = record {
  ordered = legal_is_ordered p types numbers h.legal h.placed;
  tokens = legal_has_tokens p h.placed;
  own = legal_is_own p types numbers h.legal h.placed h.names h.small;
  tell = legal_names_tell p types numbers h.legal h.placed h.names;
  few = light_has_few p h.light;
  marks = marks p inputs ready;
  families = families p inputs ready;
  truths = truths p;
  integers = integers p;
  scalar = scalar p ready;
  well = legal_is_well p types numbers h.legal h.placed h.small;
  plain = legal_is_plain p types numbers h.legal h.placed h.names h.small inputs;
  text = legal-text p types numbers h.legal h.placed h.names h.small inputs;
}
  where
    types : TypeTable
    types = types_in p

    numbers : Numbering
    numbers = numbers_of p

    ready : IsReady p
    ready = legal-ready p types numbers h.legal h.placed h.names h.small inputs

pub legal_is_normal : LegalIsNormal
legal_is_normal p h inputs = made_is_normal p inputs (legal_is_normalisable p h inputs)

pub legal_shows_same : LegalShowsSame
legal_shows_same p h inputs = programs_show_same p inputs (legal_is_normalisable p h inputs)

pub legal_is_calm : LegalIsCalm
legal_is_calm p h inputs = made_is_calm p inputs (legal_is_normalisable p h inputs)
