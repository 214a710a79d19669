-- The names and the declarations of the normal form of a legal program are as its replay text asks.
use Rattle.std.proofs.Common.{◌≡◌, ℕ, Bool, true, false, List, [], ◌∷◌, ◌++◌, refl, sym, subst, ◌∙◌}
use Rattle.std.specs.List.{AllByRecursion, filter}
use Rattle.std.proofs.lemmas.List.Elements.{recursion_from_All}
use Rattle.common_lemmas.proofs.Lists.{all_back, all_first, all_kept, all_paired, all_weaker}
use Rattle.ada_tree.specs.TypeTable.{TypeTable}
use Rattle.ada_tree.specs.PlainDecl.{PTask, PDecl, DObject}
use Rattle.ada_tree.specs.PlainProgram.{PProgram}
use Rattle.ada_tree.specs.Every.{Rules, EveryWord, EveryDecl}
use Rattle.ada_tree.specs.WellPlaced.{well_placed}
use Rattle.ada_static_rules.specs.Refusals.{types_in}
use Rattle.syn_event.specs.CheckSites as check
use Rattle.syn_event.specs.Numbering.{Numbering}
use Rattle.syn_event.specs.DeclaredTasks.{decl_list}
use Rattle.syn_event.proofs.DeclLists.{every_listed}
use Rattle.task_model.specs.Setting.{Setting}
use Rattle.normal_model.specs.NormalTree.{first_decls, main_unit, variables_needed}
use Rattle.normal_laws.specs.structure.types.Own.{own_name}
use Rattle.normal_laws.proofs.structure.types.Variables.{unit-all}
use Rattle.normal_laws.proofs.structure.numbers.Listed.{IsOneTask, IsOneBody, firsts, vars, tasks, bodies, tasks-all, bodies-all, normal-list}
use Rattle.normal_laws.proofs.structure.numbers.Named.{added-longer, own-within, own-not-added}
use Rattle.normal_laws.proofs.structure.numbers.TaskNames.{normal-begins}
use Rattle.normal_laws.specs.structure.checked.Around.{own_rules}
use Rattle.normal_laws.specs.runs.forms.Normalisable.{numbers_of, setting_for, made_for}
use Rattle.normal_laws.specs.existence.Laws.{IsLegalOriginal}
use Rattle.normal_laws.proofs.legality.checks.Facts as facts
use Rattle.replay_model.specs.ReplayTree.{is_added_object, is_task, is_body}
use Rattle.replay_structure.proofs.texts.Listed.{normal-plain, normal-tasks, normal-bodies}
use Rattle.normal_laws.proofs.structure.types.NamesApart.{normal-apart}
use Rattle.replay_structure.proofs.checked.Along.{OnTask, on-tasks}
use Rattle.replay_structure.proofs.checkable.Kept.{rules_of}
use Rattle.replay_structure.proofs.checkable.KeptDecls.{firsts-kept}
use Rattle.replay_structure.proofs.checkable.Tasks.{in-tasks}
use Rattle.replay_structure.specs.scopes.Names.{old_name}
use Rattle.replay_structure.specs.scopes.More.{AreDoubled}
use Rattle.replay_structure.specs.scopes.Form.{IsVariableOf, IsTaskOf, IsEveryTask}
use Rattle.replay_structure.proofs.scopes.Names.{tasks-doubled}
use Rattle.replay_structure.specs.legal.names.form_names.Laws.{IsNamedBody, LegalHasFormNames}
use Rattle.replay_structure.proofs.legal.names.form_names.Apart.{names-apart, names-added}
use Rattle.replay_structure.proofs.legal.names.form_names.Owned.{names-old}
use Rattle.replay_structure.proofs.legal.names.form_names.Decls.{variable-of, task-named, task-of, every-of, body-of}

-- an object that has an own name first is no variable of the normal form
own-first : (p : PProgram) (d : PDecl) → EveryDecl (rules_of (own_name p)) d → is_added_object (made_for p).names d ≡ false
own-first p (DObject (w ∷ ws) c x i s) h =
    let own : own_name p w.name.0 ≡ true = (recursion_from_All (EveryWord (rules_of (own_name p))) (w ∷ ws) h.1.1).0 in
    added-longer p.names (made_for p).names w.name (normal-begins p (types_in p) (numbers_of p)) (own-within p w.name.0 own) ∙ own-not-added p w.name own
own-first p (DObject [] c x i s) h = refl
own-first p _ h = refl

module _ (p : PProgram) (h : IsLegalOriginal p) where
  abbrev q : PProgram
  q = made_for p

  abbrev g : Setting
  g = setting_for p

  abbrev T : TypeTable
  T = types_in p

  abbrev N : Numbering
  N = numbers_of p

  abbrev old : ℕ → Bool
  old = old_name q

  abbrev r : Rules
  r = own_rules old

  -- ---- all declarations

  every : AllByRecursion (EveryDecl r) (decl_list q.decls)
  every = every_listed r q.decls (names-old p h).2

  placed : AllByRecursion (EveryDecl (well_placed q.names)) (decl_list q.decls)
  placed = every_listed (well_placed q.names) q.decls (facts.placed p h).2

  sorted : AllByRecursion (EveryDecl r) (firsts p T N ++ (vars p T N ++ tasks p T N ++ bodies p T N))
  sorted = subst (AllByRecursion (EveryDecl r)) (normal-list p T N) every

  -- ---- the first ones

  firsts-own : AllByRecursion (λ x. is_added_object q.names x ≡ false) (firsts p T N)
  firsts-own =
      all_weaker (EveryDecl (rules_of (own_name p))) (λ x. is_added_object q.names x ≡ false) (firsts p T N) (own-first p)
      (every_listed (rules_of (own_name p)) (first_decls [] p.decls)
      (firsts-kept (own_name p) (own_name p) (λ n e. e) p.names (check.body_names p.decls) p.decls [] (facts.around p h) (facts.owns p h).2 (facts.decls-checked p h)))

  -- ---- variables

  variables-old : AllByRecursion (IsVariableOf old) (vars p T N)
  variables-old =
      all_weaker (λ d. (EveryDecl r d → IsVariableOf old d) × EveryDecl r d) (IsVariableOf old) (vars p T N) (λ d k. k.0 k.1)
      (all_paired (λ d. EveryDecl r d → IsVariableOf old d) (EveryDecl r) (vars p T N)
      (unit-all (λ d. EveryDecl r d → IsVariableOf old d) (main_unit g) (variable-of old g) p.body)
      (all_first (EveryDecl r) (vars p T N) (tasks p T N) (bodies p T N) (all_back (EveryDecl r) (firsts p T N) (vars p T N ++ tasks p T N ++ bodies p T N) sorted)))

  -- ---- tasks

  abbrev task_decls : List PDecl
  task_decls = filter is_task (decl_list q.decls)

  abbrev IsDoubled : PTask → Type 0
  IsDoubled t = AreDoubled q old t.entries

  doubled : AllByRecursion (OnTask IsDoubled) (decl_list q.decls)
  doubled =
      let P : PTask → Type 0 = λ (t : PTask). AllByRecursion (λ e. old e.name.name.0 ≡ true) t.entries in
      on-tasks IsDoubled (decl_list q.decls)
      (tasks-doubled q (normal-apart g (variables_needed g) h.names.distinct) (in-tasks P (decl_list q.decls) (all_weaker (EveryDecl r) (OnTask P) (decl_list q.decls) (task-named old) every)))

  one-tasks : AllByRecursion IsOneTask task_decls
  one-tasks = subst (AllByRecursion IsOneTask) (sym (normal-tasks p T N)) (tasks-all g)

  tasks-old : AllByRecursion (IsTaskOf q old) task_decls
  tasks-old =
      all_weaker (λ d. IsOneTask d × (EveryDecl r d × OnTask IsDoubled d)) (IsTaskOf q old) task_decls (λ d k. task-of old q d k.0 k.1.0 k.1.1)
      (all_paired IsOneTask (λ d. EveryDecl r d × OnTask IsDoubled d) task_decls one-tasks
      (all_kept (λ d. EveryDecl r d × OnTask IsDoubled d) is_task (decl_list q.decls) (all_paired (EveryDecl r) (OnTask IsDoubled) (decl_list q.decls) every doubled)))

  -- ---- bodies

  abbrev body_decls : List PDecl
  body_decls = filter is_body (decl_list q.decls)

  one-bodies : AllByRecursion IsOneBody body_decls
  one-bodies = subst (AllByRecursion IsOneBody) (sym (normal-bodies p T N)) (bodies-all g)

  bodies-old : AllByRecursion (IsNamedBody old) body_decls
  bodies-old =
      let Both : PDecl → Type 0 = λ (d : PDecl). EveryDecl r d × EveryDecl (well_placed q.names) d in
      all_weaker (λ d. IsOneBody d × Both d) (IsNamedBody old) body_decls (λ d k. body-of old q.names d k.0 k.1.0 k.1.1)
      (all_paired IsOneBody Both body_decls one-bodies (all_kept Both is_body (decl_list q.decls) (all_paired (EveryDecl r) (EveryDecl (well_placed q.names)) (decl_list q.decls) every placed)))

-- The normal form of each legal program has names and declarations as its replay text asks.
pub legal_has_form_names : LegalHasFormNames
legal_has_form_names p h = record {
  apart = names-apart p h;
  added = names-added p h;
  plain = normal-plain p (types_in p) (numbers_of p);
  front = firsts-own p h;
  variables = variables-old p h;
  tasks = tasks-old p h;
  every = all_kept (IsEveryTask (old_name (made_for p))) is_task (decl_list (made_for p).decls)
      (all_weaker (EveryDecl (own_rules (old_name (made_for p)))) (IsEveryTask (old_name (made_for p))) (decl_list (made_for p).decls) (every-of (old_name (made_for p))) (every p h));
  bodies = bodies-old p h;
  main = (names-old p h).3;
}
