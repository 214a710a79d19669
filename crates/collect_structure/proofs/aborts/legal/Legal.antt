-- The collecting text of a legal program in which abort statements can stand has the numbers of the definition, and meets the rules 13 to 23.
use Rattle.std.proofs.Common.{List, []}
use Rattle.ada_tree.specs.PlainDecl.{PDecl}
use Rattle.ada_static_rules.specs.Refusals.{types_in}
use Rattle.syn_event.specs.DeclaredTasks.{decl_list}
use Rattle.task_model.specs.Setting.{Setting}
use Rattle.normal_model.specs.NormalTree.{first_decls, main_variables}
use Rattle.normal_laws.specs.runs.forms.Normalisable.{made_for, numbers_of, setting_for}
use Rattle.normal_laws.proofs.legality.numbers.Numbered.{none_legal_is_ded}
use Rattle.normal_laws.proofs.legality.checks.Facts as facts
use Rattle.normal_laws.proofs.legality.checks.Joined.{normal_meets_checks}
use Rattle.replay_structure.proofs.checkable.Sorted.{normal-sorted}
use Rattle.replay_structure.specs.checkable.Prepared.{form_for}
use Rattle.collect_structure.proofs.legal.Listed.{main-variables-added}
use Rattle.collect_structure.specs.scopes.Inner.{inner_told}
use Rattle.collect_structure.specs.aborts.Laws.{AbortHasNumbers, AbortMeetsChecks}
use Rattle.collect_structure.specs.aborts.Names.{kept_name}
use Rattle.collect_structure.proofs.aborts.checked.Whole.{text-meets}
use Rattle.collect_structure.proofs.aborts.legal.Checkable.{legal_is_abort_checkable}
use Rattle.collect_structure.proofs.aborts.legal.Listed.{text-list}
use Rattle.collect_structure.proofs.aborts.legal.Values.{same-values}
use Rattle.collect_structure.proofs.aborts.scopes.Fewer.{legal_is_tellable_here}
use Rattle.collect_structure.proofs.aborts.scopes.Told.{grown5}
use Rattle.collect_structure.proofs.aborts.scopes.Whole.{legal_is_placeable_here}
use Rattle.collect_structure.proofs.aborts.texts.Numbered.{abort_numbered}

pub abort_has_numbers : AbortHasNumbers
abort_has_numbers p h =
    let own = facts.olds p h in
    abort_numbered p (facts.ordered p h) own.0 own.2 (none_legal_is_ded p (types_in p) (numbers_of p) h.legal h.placed)

pub abort_meets_checks : AbortMeetsChecks
abort_meets_checks p h =
    let g : Setting = form_for p in
    let before : List PDecl = decl_list (first_decls [] p.decls) in
    let vars : List PDecl = main_variables (setting_for p) in
    let told = legal_is_tellable_here p h in
    let grown = grown5 g (kept_name (made_for p)) (inner_told p) before vars told (legal_is_placeable_here p h) in
    text-meets g
    (legal_is_abort_checkable p h
    (same-values g before vars (normal-sorted p (types_in p) (numbers_of p)) told.plain
    (text-list g before vars told.plain told.front (main-variables-added p)) grown.names.types))
    (normal_meets_checks p h)
