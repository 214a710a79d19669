-- The numbers of a collecting text of a program with abort statements.
use Rattle.std.proofs.Common.{ℕ, List, refl, sym, subst, arith}
use Rattle.std.specs.List.{AllByRecursion}
use Rattle.common_lemmas.proofs.Lists.{all_joined}
use Rattle.ada_tree.specs.TypeTable.{TypeTable}
use Rattle.ada_tree.specs.PlainProgram.{PProgram}
use Rattle.ada_static_rules.specs.Refusals.{types_in}
use Rattle.syn_event.specs.Numbering.{Numbering}
use Rattle.syn_event.specs.AllNumbers.{all_numbers}
use Rattle.syn_event.specs.DeclaredTasks.{decl_list}
use Rattle.normal_model.specs.NormalTree.{normal_tree}
use Rattle.normal_laws.specs.structure.numbers.Single.{IsSingle}
use Rattle.normal_laws.proofs.structure.numbers.Named.{text-there, reserved-added}
use Rattle.normal_laws.proofs.structure.numbers.Listed.{tasks}
use Rattle.collect_model.specs.Names.{recorder_text, note_text}
use Rattle.collect_model.specs.CollectTree.{main_declared}
use Rattle.collect_structure.proofs.texts.Listed.{all-main}
use Rattle.collect_model.specs.aborts.Places.{places_in}
use Rattle.collect_model.specs.aborts.AbortTeller.{AbortTeller, names_told}
use Rattle.collect_model.specs.aborts.AbortTree.{places_declared, abort_decl, abort_decls, abort_tree, recorder_body_told}
use Rattle.collect_structure.specs.aborts.texts.Laws.{AbortNumbered}
use Rattle.collect_structure.proofs.aborts.texts.Named.{abort-begins, abort-has}
use Rattle.collect_structure.proofs.aborts.texts.Listed.{all-places, abort-tasks, abort-tells}
use Rattle.collect_structure.proofs.aborts.texts.Rooted.{told, more, abort-list, abort_agrees}
use Rattle.collect_structure.proofs.texts.Numbered.{told-numbered, told-single}

pub abort_numbered : AbortNumbered
abort_numbered p ordered main own ded =
    let T : TypeTable = types_in p in
    let numbers : Numbering = all_numbers T p in
    let q : PProgram = normal_tree p T numbers in
    let names : List (List ℕ) = names_told q in
    let x : AbortTeller = told p T numbers own in
    told-numbered p ordered main own ded x.teller.added names (abort_decls x q (decl_list q.decls)) (abort_tree p T numbers).body (record {
      begins = abort-begins q;
      recorder = reserved-added names recorder_text (abort-has q recorder_text refl) refl;
      note = text-there names note_text (abort-has q note_text refl);
      single =
          subst (AllByRecursion IsSingle) (sym (abort-list p T numbers own))
          (told-single p T numbers own x.teller.added (abort_decl x q.names) (abort-tells x q.names) (more p T numbers own) (recorder_body_told x q)
          (all_joined IsSingle (main_declared x.teller.added p.name.span _ _) (places_declared x p.name.span (places_in q.body))
          (all-main IsSingle x.teller.added p.name.span _ _ (tt, (tt, (tt, (tt, tt)))))
          (all-places IsSingle x p.name.span (places_in q.body) (places_in q.body) (omega arith) (λ k low high. (tt, tt)))) tt);
      tasks = abort-tasks x q;
      agrees = abort_agrees p T numbers ordered own;
    })
