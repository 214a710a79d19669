-- The collecting text of a legal program has the numbers of the definition, and meets the rules 13 to 23.
use Rattle.ada_static_rules.specs.Refusals.{types_in}
use Rattle.normal_laws.specs.runs.forms.Normalisable.{numbers_of}
use Rattle.normal_laws.proofs.legality.numbers.Numbered.{none_legal_is_ded}
use Rattle.normal_laws.proofs.legality.checks.Facts as facts
use Rattle.normal_laws.proofs.legality.checks.Joined.{normal_meets_checks}
use Rattle.replay_structure.specs.checkable.Prepared.{form_for}
use Rattle.collect_structure.specs.Laws.{CollectHasNumbers, CollectMeetsChecks}
use Rattle.collect_structure.proofs.texts.Numbered.{collect_numbered}
use Rattle.collect_structure.proofs.checked.Whole.{text-meets}
use Rattle.collect_structure.proofs.legal.Checkable.{prepared, legal_is_checkable}
use Rattle.collect_structure.proofs.legal.Values.{same-values}

pub collect_has_numbers : CollectHasNumbers
collect_has_numbers p h =
    let own = facts.olds p h in
    collect_numbered p (facts.ordered p h) own.0 own.2 (none_legal_is_ded p (types_in p) (numbers_of p) h.legal h.placed)

pub collect_meets_checks : CollectMeetsChecks
collect_meets_checks p h =
    let r = prepared p h in
    text-meets (form_for p) (legal_is_checkable p h (same-values p (types_in p) (numbers_of p) r.ordered r.own)) (normal_meets_checks p h)
