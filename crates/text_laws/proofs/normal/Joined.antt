-- What is asked of a legal program beside the static rules is so of each that is read from a text within the limit.
use Rattle.std.proofs.Common.{◌+◌, ◌≤◌, length, arith}
use Rattle.ada_tree.specs.NameList.{predefined}
use Rattle.ada_static_rules.specs.Refusals.{types_in}
use Rattle.ada_tree.specs.WellPlaced.{IsWellPlaced}
use Rattle.ada_parser.proofs.PlacedItems.{read_is_placed}
use Rattle.normal_laws.specs.runs.forms.Normalisable.{numbers_of}
use Rattle.normal_laws.proofs.existence.units.Fields.{few_names_small}
use Rattle.normal_laws.proofs.existence.Joined.{legal_is_normal, legal_shows_same, legal_is_calm}
use Rattle.text_laws.proofs.sizes.Read.{read_has_few_names, read_has_names, read_is_light}
use Rattle.text_laws.specs.normal.Laws.{TextIsLegal, TextIsNormal, TextShowsSame, TextIsCalm}

pub text_is_legal : TextIsLegal
text_is_legal bytes p h = record {
  legal = h.legal;
  placed = placed;
  names = read_has_names bytes p h.reads (omega (arith, h.short));
  small = few_names_small p (types_in p) (numbers_of p) h.legal placed (omega (arith, few, h.short));
  light = read_is_light bytes p h.reads (omega (arith, h.short));
}
  where
    placed : IsWellPlaced p
    placed = read_is_placed bytes p h.reads

    few : length p.names ≤ length predefined + length bytes
    few = read_has_few_names bytes p h.reads

pub text_is_normal : TextIsNormal
text_is_normal bytes p h inputs = legal_is_normal p (text_is_legal bytes p h) inputs

pub text_shows_same : TextShowsSame
text_shows_same bytes p h inputs = legal_shows_same p (text_is_legal bytes p h) inputs

pub text_is_calm : TextIsCalm
text_is_calm bytes p h inputs = legal_is_calm p (text_is_legal bytes p h) inputs
