-- The collecting text of a legal program in which abort statements can stand meets the first twelve rules, so it is legal, and all that is promised of these texts.
use Rattle.std.proofs.Common.{List, [], refl, subst, sym}
use Rattle.ada_tree.specs.PlainDecl.{PDecl}
use Rattle.ada_tree.specs.PlainProgram.{PProgram}
use Rattle.ada_static_rules.specs.Sites.{sites}
use Rattle.syn_event.specs.DeclaredTasks.{decl_list}
use Rattle.normal_model.specs.NormalTree.{first_decls, main_variables}
use Rattle.normal_laws.proofs.legality.Places.{meets_by_places}
use Rattle.normal_laws.proofs.structure.typed.Variables.{AllMetBut}
use Rattle.normal_laws.specs.existence.Laws.{IsLegalOriginal}
use Rattle.normal_laws.specs.runs.forms.Normalisable.{setting_for}
use Rattle.replay_structure.specs.checkable.Prepared.{form_for}
use Rattle.replay_structure.proofs.legal.names.form_names.Whole.{legal_has_form_names}
use Rattle.collect_structure.proofs.declares_once.Legal.{legal_leaves_names}
use Rattle.collect_structure.proofs.legal.Listed.{main-variables-added}
use Rattle.collect_model.specs.aborts.AbortTeller.{AbortTeller}
use Rattle.collect_model.specs.aborts.AbortTree.{abort_of}
use Rattle.collect_structure.proofs.aborts.declares_once.Legal.{legal_abort_declares_once}
use Rattle.collect_structure.proofs.aborts.legal.Joined.{text-places-met}
use Rattle.collect_structure.proofs.aborts.legal.Legal.{abort_has_numbers, abort_meets_checks}
use Rattle.collect_structure.proofs.aborts.legal.Listed.{text-list}
use Rattle.collect_structure.proofs.aborts.legal.Placed.{legal_abort_is_placed}
use Rattle.collect_structure.proofs.aborts.scopes.Inner.{main-told-is}
use Rattle.collect_structure.proofs.aborts.scopes.Whole.{infos-free, legal_has_told_scopes}
use Rattle.collect_structure.specs.aborts.Laws.{AbortIsAsPromised, AbortIsLegal, AbortMeetsTypes, text_for}
use Rattle.collect_structure.proofs.legal.Bodies.{formed}

-- Nothing is refused at the places of the text by the rules 1 and 3 to 12.
pub legal_places_met : (p : PProgram) → IsLegalOriginal p → AllMetBut (sites (text_for p))
legal_places_met p h =
    let before : List PDecl = decl_list (first_decls [] p.decls) in
    let vars : List PDecl = main_variables (setting_for p) in
    let names = legal_has_form_names p h in
    subst (λ (y : AbortTeller). AllMetBut (sites (abort_of y (form_for p).program))) (sym (main-told-is (form_for p)))
    (text-places-met (form_for p) before vars (legal_leaves_names p h).begins (legal_has_told_scopes p h) (infos-free p h) (formed p h).few_tasks
    (text-list (form_for p) before vars names.plain names.front (main-variables-added p)))

-- It declares no name twice, so it meets the first twelve rules.
pub abort_meets_types : AbortMeetsTypes
abort_meets_types p h = meets_by_places (text_for p) (legal_places_met p h) (legal_abort_declares_once p h)

pub abort_is_legal : AbortIsLegal
abort_is_legal p h =
    record { type_rules = abort_meets_types p h; check_rules = abort_meets_checks p h; its_types = refl; its_numbers = sym (abort_has_numbers p h) }

pub abort_is_as_promised : AbortIsAsPromised
abort_is_as_promised p h = record { text = refl; legal = abort_is_legal p h; placed = legal_abort_is_placed p h }
