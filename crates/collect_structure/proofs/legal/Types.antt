-- The collecting text of a legal program meets the first twelve rules, so it is legal, and all that is promised of collecting texts.
use Rattle.std.proofs.Common.{List, [], refl, sym}
use Rattle.ada_tree.specs.PlainDecl.{PDecl}
use Rattle.syn_event.specs.DeclaredTasks.{decl_list}
use Rattle.normal_model.specs.NormalTree.{first_decls, main_variables}
use Rattle.normal_laws.proofs.legality.Places.{meets_by_places}
use Rattle.normal_laws.specs.runs.forms.Normalisable.{setting_for}
use Rattle.replay_structure.specs.checkable.Prepared.{form_for}
use Rattle.collect_structure.proofs.declares_once.Legal.{legal_collect_declares_once, legal_leaves_names}
use Rattle.collect_structure.proofs.legal.Joined.{text-places-met}
use Rattle.collect_structure.proofs.legal.Legal.{collect_has_numbers, collect_meets_checks}
use Rattle.collect_structure.proofs.legal.Listed.{main-variables-added, text-list}
use Rattle.collect_structure.proofs.legal.Placed.{legal_collect_is_placed}
use Rattle.collect_structure.proofs.scopes.Whole.{legal_has_told_scopes}
use Rattle.collect_structure.specs.Laws.{CollectIsAsPromised, CollectIsLegal, CollectMeetsTypes, text_for}
use Rattle.replay_structure.proofs.legal.names.form_names.Whole.{legal_has_form_names}

pub collect_meets_types : CollectMeetsTypes
collect_meets_types p h =
    let before : List PDecl = decl_list (first_decls [] p.decls) in
    let vars : List PDecl = main_variables (setting_for p) in
    let names = legal_has_form_names p h in
    meets_by_places (text_for p)
    (text-places-met (form_for p) before vars (legal_leaves_names p h).begins (legal_has_told_scopes p h) (text-list (form_for p) before vars names.plain names.front (main-variables-added p)))
    (legal_collect_declares_once p h)

pub collect_is_legal : CollectIsLegal
collect_is_legal p h = record { type_rules = collect_meets_types p h; check_rules = collect_meets_checks p h; its_types = refl; its_numbers = sym (collect_has_numbers p h) }

pub collect_is_as_promised : CollectIsAsPromised
collect_is_as_promised p h = record { text = refl; legal = collect_is_legal p h; placed = legal_collect_is_placed p h }
