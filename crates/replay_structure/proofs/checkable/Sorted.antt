-- The declarations of a normal form stand in the order that the replay text asks for.
use Rattle.std.proofs.Common.{◌≡◌, List, ◌++◌, sym, ap, ap₂, ◌∙◌, append_assoc}
use Rattle.std.specs.List.{filter}
use Rattle.ada_tree.specs.TypeTable.{TypeTable}
use Rattle.ada_tree.specs.PlainDecl.{PDecl}
use Rattle.ada_tree.specs.PlainProgram.{PProgram}
use Rattle.syn_event.specs.Numbering.{Numbering}
use Rattle.syn_event.specs.DeclaredTasks.{decl_list}
use Rattle.normal_model.specs.NormalTree.{normal_tree}
use Rattle.normal_laws.proofs.structure.numbers.Listed.{firsts, vars, tasks, bodies, normal-list}
use Rattle.replay_model.specs.ReplayTree.{is_task, is_body}
use Rattle.replay_structure.proofs.texts.Listed.{normal-plain, normal-tasks, normal-bodies}
use Rattle.replay_structure.specs.checked.Checkable.{is_plain}

module _ (p : PProgram) (types : TypeTable) (numbers : Numbering) where
  abbrev all : List PDecl
  all = decl_list (normal_tree p types numbers).decls

  pub normal-sorted : decl_list (normal_tree p types numbers).decls ≡ filter is_plain all ++ filter is_task all ++ filter is_body all
  normal-sorted =
      normal-list p types numbers
      ∙ sym (append_assoc (firsts p types numbers) (vars p types numbers ++ tasks p types numbers) (bodies p types numbers))
      ∙ ap (λ l. l ++ bodies p types numbers) (sym (append_assoc (firsts p types numbers) (vars p types numbers) (tasks p types numbers)))
      ∙ sym (ap₂ (λ (a b : List PDecl). a ++ b) (ap₂ (λ (a b : List PDecl). a ++ b) (normal-plain p types numbers) (normal-tasks p types numbers)) (normal-bodies p types numbers))
