-- The tables of a program and of its collecting text, where abort statements can stand.
use Rattle.std.proofs.Common.{◌≡◌, List, [], ◌++◌, refl, sym, ap, ◌∙◌, subst, arith}
use Rattle.std.specs.List.{AllByRecursion, list_any}
use Rattle.common_lemmas.proofs.Lists.{all_joined}
use Rattle.ada_tree.specs.TypeTable.{TypeTable}
use Rattle.ada_tree.specs.PlainDecl.{PDecl, PDecls, decls_of}
use Rattle.ada_tree.specs.PlainProgram.{PProgram}
use Rattle.ada_static_rules.specs.Declaring.{first_scope, after_decls}
use Rattle.ada_static_rules.specs.Refusals.{types_in}
use Rattle.syn_event.specs.Numbering.{Numbering}
use Rattle.syn_event.specs.DeclaredTasks.{decl_list}
use Rattle.task_model.specs.Setting.{Setting}
use Rattle.normal_model.specs.NormalTree.{first_decls, main_unit, normal_tree}
use Rattle.task_laws.specs.legal.rewritten_types.Agreement.{Rooted}
use Rattle.task_laws.specs.legal.rewritten_types.Rewriting.{IsAdded}
use Rattle.task_laws.specs.legal.rewritten_types.Laws.{behind}
use Rattle.task_laws.proofs.legal.rewritten_types.Rooting.{rooted_agrees}
use Rattle.normal_laws.specs.structure.types.Own.{own_name}
use Rattle.normal_laws.specs.structure.types.Laws.{AreOwn}
use Rattle.normal_laws.proofs.structure.numbers.Listed.{firsts, vars}
use Rattle.replay_model.specs.ReplayTree.{last_task, normal_setting}
use Rattle.replay_structure.proofs.texts.Listed.{normal-plain, normal-tasks, normal-bodies}
use Rattle.collect_model.specs.Names.{flags_text, answer_text, part_text}
use Rattle.collect_model.specs.CollectTree.{is_int_io, main_declared}
use Rattle.collect_structure.proofs.texts.Listed.{all-main}
use Rattle.collect_model.specs.aborts.Names.{taken_text, refused_text}
use Rattle.collect_model.specs.aborts.Places.{places_in}
use Rattle.collect_model.specs.aborts.AbortTeller.{AbortTeller, told_in}
use Rattle.collect_model.specs.aborts.AbortTree.{places_declared, abort_decl, units_told, recorder_body_told, abort_decls}
use Rattle.collect_structure.specs.aborts.texts.Laws.{AbortIsRooted, AbortAgrees}
use Rattle.collect_structure.proofs.aborts.texts.Named.{abort-has, abort-has-places, main-few, added-is-new}
use Rattle.collect_structure.proofs.aborts.texts.Listed.{all-places, abort-tells}
use Rattle.collect_structure.proofs.texts.Rooted.{told_behind, told-list, told-rooted}

module _ (p : PProgram) (types : TypeTable) (numbers : Numbering) (own : AreOwn p p.decls) where
  abbrev pub normal : PProgram
  normal = normal_tree p types numbers

  abbrev pub form : Setting
  form = normal_setting p types numbers

  -- what main is told
  abbrev pub told : AbortTeller
  told = told_in (main_unit form)

  -- what main declares more
  abbrev pub more : List PDecl
  more =
      main_declared told.teller.added p.name.span (list_any is_int_io (firsts p types numbers ++ vars p types numbers)) (last_task form.numbers)
      ++ places_declared told p.name.span (places_in normal.body)

  -- what stands behind the first declarations
  abbrev pub added_of : List PDecl
  added_of = told_behind p types numbers own told.teller.added (abort_decl told normal.names) (abort-tells told normal.names) more (recorder_body_told told normal)

  -- the declarations of the text are the first declarations and these
  pub abort-list : abort_decls told normal (decl_list normal.decls) ≡ firsts p types numbers ++ added_of
  abort-list =
      (λ i. units_told told normal (normal-plain p types numbers i) (normal-tasks p types numbers i) (normal-bodies p types numbers i))
      ∙ told-list p types numbers own told.teller.added (abort_decl told normal.names) (abort-tells told normal.names) more (recorder_body_told told normal)

  more-new : AllByRecursion (IsAdded (own_name p)) more
  more-new =
      all_joined (IsAdded (own_name p)) (main_declared told.teller.added p.name.span _ (last_task form.numbers)) (places_declared told p.name.span (places_in normal.body))
      (all-main (IsAdded (own_name p)) told.teller.added p.name.span _ (last_task form.numbers) (
        tt,
        (
          added-is-new p types numbers flags_text (abort-has normal flags_text refl) refl,
          ((added-is-new p types numbers answer_text (abort-has normal answer_text refl) refl, tt), ((added-is-new p types numbers part_text (abort-has normal part_text refl) refl, tt), tt)),
        ),
      ))
      (all-places (IsAdded (own_name p)) told p.name.span (places_in normal.body) (places_in normal.body) (omega arith)
      (λ n low high.
      let few = main-few normal in
      let has = abort-has-places normal n low (omega (arith, few, high)) in
      ((added-is-new p types numbers (taken_text n) has.0 refl, tt), (added-is-new p types numbers (refused_text n) has.1 refl, tt))))

pub abort_is_rooted : AbortIsRooted
abort_is_rooted p types numbers ordered own =
    let x = told p types numbers own in
    let names = (normal p types numbers own).names in
    subst (λ (l : PDecls). Rooted (own_name p) (behind p.name (first_decls [] p.decls)).types (types_in p) (after_decls (first_scope p.name) l).types)
    (sym (ap decls_of (abort-list p types numbers own)))
    (told-rooted p types numbers own x.teller.added (abort_decl x names) (abort-tells x names) (more p types numbers own) (recorder_body_told x (normal p types numbers own)) ordered
    (more-new p types numbers own) tt)

pub abort_agrees : AbortAgrees
abort_agrees p types numbers ordered own = rooted_agrees (own_name p) (behind p.name (first_decls [] p.decls)).types _ _ (abort_is_rooted p types numbers ordered own)
