-- What replay_checkable asks of a program and events is so of a legal program, but for what is left.
use Rattle.std.proofs.Common.{◌≡◌, ℕ, suc, ◌+◌, ◌≤◌, ◌==◌, Bool, true, false, List, [], ◌∷◌, ◌++◌, length, map, drop, is_some, refl, sym, ap, subst, ◌∙◌, eqb-true, true≢false, arith, lit<}
use Rattle.std.specs.List.{AllByRecursion, list_any}
use Rattle.std.proofs.lemmas.Bool.{or_from}
use Rattle.std.proofs.lemmas.List.{length-map}
use Rattle.common_lemmas.proofs.Lists.{all_front, all_back, all_joined, all_weaker}
use Rattle.ada_tree.specs.declared.naming.Word.{Word}
use Rattle.ada_tree.specs.Attributes.{false_name}
use Rattle.ada_tree.specs.TypeTable.{TypeTable}
use Rattle.ada_tree.specs.PlainDecl.{PDecl, DNumber, DObject, DEnumeration, DArray, DSubtype, DException, DIntIo, DPragma, PTask, DTask, DTaskBody, PDecls, no_decl, decl_then}
use Rattle.ada_tree.specs.PlainProgram.{PProgram}
use Rattle.ada_static_rules.specs.RuleDuplicate.{is_predefined}
use Rattle.ada_static_rules.specs.Scope.{Scope}
use Rattle.ada_static_rules.specs.Refusals.{types_in}
use Rattle.ada_static_rules.specs.Declaring.{after_decl, first_scope}
use Rattle.syn_event.specs.CheckScope.{CheckScope}
use Rattle.syn_event.specs.CheckSites as check
use Rattle.syn_event.specs.NamedTasks.{NamedTasks, type_named, with_type, task_names_of, NumberedTask, numbered_tasks}
use Rattle.syn_event.specs.AllNumbers.{info_of_task}
use Rattle.syn_event.specs.AddedNames.{task_info}
use Rattle.syn_event.specs.DeclaredTasks.{decl_list, tasks_of}
use Rattle.syn_event.specs.declared.numbering.TaskInfo.{TaskInfo}
use Rattle.task_model.specs.Setting.{Setting}
use Rattle.task_laws.specs.legal.rewritten_types.Rewriting.{IsUnused, DeclareOnce}
use Rattle.task_laws.proofs.legal.rewritten_types.Refused.{declared_once}
use Rattle.normal_model.specs.Names.{variable_name, task_name}
use Rattle.normal_model.specs.NormalTree.{first_decls, unless_left, mark_of, main_unit}
use Rattle.normal_laws.proofs.structure.types.Variables.{unit-all}
use Rattle.normal_laws.proofs.structure.numbers.Listed as list
use Rattle.normal_laws.proofs.structure.numbers.Tasked.{under, normal-tasks-of}
use Rattle.normal_laws.specs.runs.forms.Normalisable.{numbers_of, setting_for, made_for}
use Rattle.normal_laws.specs.existence.Laws.{IsLegalOriginal}
use Rattle.normal_laws.specs.structure.asked.Pieces.{IsAmong, first_among, later_among}
use Rattle.normal_laws.proofs.legality.declares_once.Ids.{variable-new, new-not-predefined}
use Rattle.replay_structure.proofs.legal.fits.Counted.{tasks-within}
use Rattle.normal_laws.proofs.legality.checks.Facts as facts
use Rattle.normal_laws.proofs.legality.checks.Counts as counts
use Rattle.replay_structure.specs.checked.Around.{kept_name}
use Rattle.replay_structure.specs.checked.Checkable.{IsOtherThanTruth, entries_count, IsBeside}
use Rattle.replay_structure.specs.checkable.Prepared.{form_for}
use Rattle.replay_structure.proofs.checkable.KeptNames.{own-kept}
use Rattle.replay_structure.proofs.legal.Kept.{new-kept, keeping, main-kept}
use Rattle.replay_structure.specs.legal.Laws.{LegalIsPrepared}

-- ---- no object is named FALSE

other-name : (n : ℕ) → is_predefined n ≡ false → (n == false_name) ≡ false
other-name n h = by_test (n == false_name) refl
  where
    by_test : (b : Bool) → (n == false_name) ≡ b → b ≡ false
    by_test false e = refl
    by_test true e = absurd (true≢false (sym (ap is_predefined (eqb-true n false_name e)) ∙ h))

words-other : (s : Scope) (ws : List Word) → AllByRecursion (IsUnused s) ws → list_any (λ w. w.name.0 == false_name) ws ≡ false
words-other s [] h = refl
words-other s (w ∷ ws) h = or_from (w.name.0 == false_name) (list_any (λ x. x.name.0 == false_name) ws) (other-name w.name.0 h.0.0) (words-other s ws h.1)

firsts-other : (ds : PDecls) (kinds : List PTask) (s : Scope) → DeclareOnce s ds → AllByRecursion IsOtherThanTruth (decl_list (first_decls kinds ds))
firsts-other no_decl kinds s h = tt
firsts-other (decl_then (DTask t p) rest) kinds s h = firsts-other rest (with_type kinds t.of_kind t) (after_decl s (DTask t p)) h.1
firsts-other (decl_then (DTaskBody w objects its p) rest) kinds s h = firsts-other rest kinds (after_decl s (DTaskBody w objects its p)) h.1
firsts-other (decl_then (DObject ws c x i p) rest) kinds s h = by_test (is_some (type_named kinds (mark_of x))) (firsts-other rest kinds (after_decl s (DObject ws c x i p)) h.1)
  where
    by_test : (b : Bool) → AllByRecursion IsOtherThanTruth (decl_list (first_decls kinds rest)) → AllByRecursion IsOtherThanTruth (decl_list (unless_left b (DObject ws c x i p) (first_decls kinds rest)))
    by_test true k = k
    by_test false k = (words-other s ws h.0, k)
firsts-other (decl_then (DNumber w e p) rest) kinds s h = (tt, firsts-other rest kinds (after_decl s (DNumber w e p)) h.1)
firsts-other (decl_then (DEnumeration w ws p) rest) kinds s h = (tt, firsts-other rest kinds (after_decl s (DEnumeration w ws p)) h.1)
firsts-other (decl_then (DArray w q x p) rest) kinds s h = (tt, firsts-other rest kinds (after_decl s (DArray w q x p)) h.1)
firsts-other (decl_then (DSubtype w x p) rest) kinds s h = (tt, firsts-other rest kinds (after_decl s (DSubtype w x p)) h.1)
firsts-other (decl_then (DException ws p) rest) kinds s h = (tt, firsts-other rest kinds (after_decl s (DException ws p)) h.1)
firsts-other (decl_then (DIntIo w p) rest) kinds s h = (tt, firsts-other rest kinds (after_decl s (DIntIo w p)) h.1)
firsts-other (decl_then (DPragma e p) rest) kinds s h = (tt, firsts-other rest kinds (after_decl s (DPragma e p)) h.1)

task-other : (d : PDecl) → list.IsOneTask d → IsOtherThanTruth d
task-other (DTask t s) h = tt
task-other (DTaskBody w objects its s) h = tt
task-other (DNumber w e s) h = tt
task-other (DObject ws c x i s) h = absurd h
task-other (DEnumeration w ws s) h = tt
task-other (DArray w q x s) h = tt
task-other (DSubtype w x s) h = tt
task-other (DException ws s) h = tt
task-other (DIntIo w s) h = tt
task-other (DPragma e s) h = tt

body-other : (d : PDecl) → list.IsOneBody d → IsOtherThanTruth d
body-other (DTask t s) h = tt
body-other (DTaskBody w objects its s) h = tt
body-other (DNumber w e s) h = tt
body-other (DObject ws c x i s) h = absurd h
body-other (DEnumeration w ws s) h = tt
body-other (DArray w q x s) h = tt
body-other (DSubtype w x s) h = tt
body-other (DException ws s) h = tt
body-other (DIntIo w s) h = tt
body-other (DPragma e s) h = tt

-- how many entries numbered tasks have
abbrev entries_of : List NumberedTask → ℕ
entries_of [] = 0
entries_of (y ∷ ys) = length y.unit.entries + entries_of ys

under-entries : (g : Setting) (ys : List NumberedTask) → entries_count (map (under g) ys) ≡ entries_of ys
under-entries g [] = refl
under-entries g (y ∷ ys) = ap (λ m. length y.unit.entries + m) (under-entries g ys)

module _ (p : PProgram) (h : IsLegalOriginal p) where
  abbrev g : Setting
  g = setting_for p

  abbrev n : PProgram
  n = made_for p

  abbrev T : TypeTable
  T = facts.T p h

  abbrev ys : List NumberedTask
  ys = numbered_tasks T p

  untrue : AllByRecursion IsOtherThanTruth (decl_list n.decls)
  untrue =
      let firsts : List PDecl = list.firsts p T (numbers_of p) in
      let vars : List PDecl = list.vars p T (numbers_of p) in
      let tasks : List PDecl = list.tasks p T (numbers_of p) in
      let bodies : List PDecl = list.bodies p T (numbers_of p) in
      let variables = unit-all IsOtherThanTruth (main_unit g) (λ s x k. or_from ((variable_name g k).0 == false_name) false (other-name (variable_name g k).0 (new-not-predefined p.names h.names (variable_name g k).0 (variable-new g k))) refl) p.body in
      subst (AllByRecursion IsOtherThanTruth) (sym (list.normal-list p T (numbers_of p)))
      (all_joined IsOtherThanTruth firsts (vars ++ tasks ++ bodies) (firsts-other p.decls [] (first_scope p.name) (declared_once p h.legal.type_rules).1)
      (all_joined IsOtherThanTruth (vars ++ tasks) bodies
      (all_joined IsOtherThanTruth vars tasks variables (all_weaker list.IsOneTask IsOtherThanTruth tasks task-other (list.tasks-all g)))
      (all_weaker list.IsOneBody IsOtherThanTruth bodies body-other (list.bodies-all g))))

  -- ---- counts

  tasks-are : tasks_of n ≡ map (under g) ys
  tasks-are = normal-tasks-of p T (facts.ordered p h)

  pub few-tasks : length (tasks_of n) ≤ 200
  few-tasks =
      let within : length (numbers_of p).tasks ≤ 201 = tasks-within p h.legal.check_rules in
      let same : length (numbers_of p).tasks ≡ suc (length ys) = ap (λ m. suc m) (length-map ys _) in
      let made : length (tasks_of n) ≡ length ys = ap (λ l. length l) tasks-are ∙ length-map ys (under g) in
      omega (arith, within, same, made)

  few-entries : entries_count (tasks_of n) ≤ 1000
  few-entries =
      let c : CheckScope = facts.around p h in
      let parts : List NamedTasks = task_names_of p in
      let m = all_front (facts.M p h) (check.tasks_sites c 0 parts ++ check.entries_sites c 0 parts) (check.all_copies_sites c parts p) (facts.counts-checked p h) in
      let few : 0 + counts.entries_total T parts ≤ 1000 = counts.entries-within p.names c parts 0 (counts.parts-plain p.decls [] tt) (omega arith) (all_back (facts.M p h) (check.tasks_sites c 0 parts) (check.entries_sites c 0 parts) m) in
      let total : entries_of ys ≡ counts.entries_total T parts = counts.entries-count T parts in
      let made : entries_count (tasks_of n) ≡ entries_of ys = ap entries_count tasks-are ∙ under-entries g ys in
      omega (arith, few, total, made)

  -- ---- names of tasks

  abbrev IsApart : NumberedTask → Type 0
  IsApart y = ((task_name g (info_of_task p.names y)).0 == p.name.name.0) ≡ false

  infos-apart : (zs : List NumberedTask) → ((i : TaskInfo) → IsAmong i (map (info_of_task p.names) zs) → ((task_name g i).0 == p.name.name.0) ≡ false) → AllByRecursion IsApart zs
  infos-apart [] k = tt
  infos-apart (z ∷ zs) k = (k (info_of_task p.names z) (first_among (map (info_of_task p.names) zs)), infos-apart zs (λ i a. k i (later_among (info_of_task p.names z) (map (info_of_task p.names) zs) a)))

  tasks-apart : (zs : List NumberedTask) → AllByRecursion IsApart zs → AllByRecursion (IsBeside n) (map (λ (task : PTask). task_info n.names task.name.name) (map (under g) zs))
  tasks-apart [] a = tt
  tasks-apart (z ∷ zs) a = (a.0, tasks-apart zs a.1)

  apart : AllByRecursion (IsBeside n) (drop 1 (form_for p).numbers.tasks)
  apart = subst (λ (l : List PTask). AllByRecursion (IsBeside n) (map (λ (task : PTask). task_info n.names task.name.name) l)) (sym tasks-are) (tasks-apart ys (infos-apart ys (facts.apart p h)))

pub legal_is_prepared : LegalIsPrepared
legal_is_prepared p events h kept = record {
  checks = h.legal.check_rules;
  ordered = facts.ordered p h;
  own = (facts.olds p h).2;
  main = (facts.olds p h).0;
  truth = facts.first-own p h false_name (lit< tt);
  declared = kept.declared;
  named = main-kept p h (kept_name (made_for p)) (keeping p (kept_name (made_for p)) (own-kept p (types_in p) (numbers_of p)) (new-kept p));
  untrue = untrue p h;
  few_tasks = few-tasks p h;
  few_entries = few-entries p h;
  apart = apart p h;
  few_events = kept.few;
  few_numbered = tasks-within p h.legal.check_rules;
}
