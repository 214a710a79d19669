-- The numbers of the rules and the limits that they tell, and what is refused first of places that a rule refuses.
use Rattle.std.specs.Prelude.{ℕ, List, map, Option, Some, None}
use Rattle.ada_tree.specs.declared.naming.Span.{Span}
use Rattle.syn_event.specs.RuleLimit.{Over}
use Rattle.syn_event.specs.CheckRefusals.{CheckRefusal}
use Rattle.ada_check_rules.specs.rules.Sooner.{least_of}
use Rattle.ada_check_rules.specs.declared.rules.refusals.Rule.{Rule}
use Rattle.ada_check_rules.specs.declared.rules.refusals.Rule.TheVariants.{SharedVariable, AcceptPlace, SelectForm, SameEntryTwice, ReservedName, MainEntry, AbortOrder, BodyMissing, ExitPlace, RaisePlace, Limit}

abbrev pub number_of : Rule → ℕ
number_of SharedVariable = 13
number_of AcceptPlace = 14
number_of SelectForm = 15
number_of SameEntryTwice = 16
number_of ReservedName = 17
number_of MainEntry = 18
number_of AbortOrder = 19
number_of BodyMissing = 20
number_of ExitPlace = 21
number_of RaisePlace = 22
number_of (Limit what limit) = 23

abbrev pub over_of : Rule → Option Over
over_of (Limit what limit) = Some record { what = what; limit = limit }
over_of _ = None

-- what a rule and a place tell
abbrev pub refusal_by : Rule → Span → CheckRefusal
refusal_by rule span = record { rule = number_of rule; over = over_of rule; span = span }

-- the first of the places that a rule refuses
abbrev pub refused : Rule → List Span → Option CheckRefusal
refused rule spans = least_of (map (refusal_by rule) spans)
