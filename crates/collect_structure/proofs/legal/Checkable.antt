-- The normal form of a legal program is as the rules 13 to 23 ask of it, where expressions of kept names have the same static values in the collecting text.
use Rattle.std.proofs.Common.{◌≡◌, ℕ, ◌≤◌, ◌==◌, Bool, true, false, ◌||◌, List, [], ◌∷◌, ◌++◌, is_some, refl, sym, ap, subst, ◌∙◌, eqb-true, true≢false, lit<, arith}
use Rattle.std.specs.List.{AllByRecursion, list_any}
use Rattle.std.proofs.lemmas.Bool.{or_from}
use Rattle.std.proofs.lemmas.List.Elements.{All-from_recursion}
use Rattle.common_lemmas.proofs.Lists.{all_joined, all_weaker}
use Rattle.ada_tree.specs.declared.naming.Word.{Word}
use Rattle.ada_tree.specs.Attributes.{false_name, true_name}
use Rattle.ada_tree.specs.TypeTable.{TypeTable}
use Rattle.ada_tree.specs.PlainExpr.{PExpr}
use Rattle.ada_tree.specs.PlainDecl.{PDecl, DNumber, DObject, DEnumeration, DArray, DSubtype, DException, DIntIo, DPragma, PTask, DTask, DTaskBody, PDecls, no_decl, decl_then}
use Rattle.ada_tree.specs.PlainProgram.{PProgram}
use Rattle.ada_tree.specs.Every.{EveryExpr}
use Rattle.ada_static_rules.specs.RuleDuplicate.{is_predefined}
use Rattle.ada_static_rules.specs.Scope.{Scope}
use Rattle.ada_static_rules.specs.Refusals.{types_in}
use Rattle.ada_static_rules.specs.Declaring.{after_decl, first_scope}
use Rattle.syn_event.specs.Extents.{fixed}
use Rattle.syn_event.specs.CheckSites as check
use Rattle.syn_event.specs.NamedTasks.{type_named, with_type}
use Rattle.syn_event.specs.Numbering.{Numbering}
use Rattle.syn_event.specs.DeclaredTasks.{decl_list}
use Rattle.seq_file.specs.Known.{is_known}
use Rattle.task_model.specs.Setting.{Setting}
use Rattle.task_laws.specs.legal.rewritten_types.Rewriting.{IsUnused, DeclareOnce}
use Rattle.task_laws.proofs.legal.rewritten_types.Refused.{declared_once}
use Rattle.normal_model.specs.Names.{variable_name}
use Rattle.normal_model.specs.NormalTree.{first_decls, unless_left, mark_of, main_unit}
use Rattle.normal_laws.proofs.structure.types.Normal.{normal_agrees}
use Rattle.normal_laws.proofs.structure.types.Variables.{unit-all}
use Rattle.normal_laws.proofs.structure.numbers.Listed as list
use Rattle.normal_laws.proofs.structure.numbers.Numbered.{normal-single}
use Rattle.normal_laws.specs.runs.forms.Normalisable.{numbers_of, setting_for, made_for}
use Rattle.normal_laws.specs.existence.Laws.{IsLegalOriginal}
use Rattle.normal_laws.proofs.legality.declares_once.Ids.{variable-new, new-not-predefined}
use Rattle.normal_laws.proofs.legality.checks.Facts as facts
use Rattle.normal_laws.proofs.legality.checks.Sizes.{EntrySized, DeclSized, decls-sized}
use Rattle.replay_structure.specs.checkable.Prepared.{form_for, IsPrepared}
use Rattle.replay_structure.proofs.checked.Along.{OnTask}
use Rattle.replay_structure.proofs.checkable.Form.{main-form, decls-form}
use Rattle.replay_structure.proofs.checkable.Sorted.{normal-sorted}
use Rattle.replay_structure.proofs.checkable.Ranges.{ranges-same}
use Rattle.replay_structure.proofs.checkable.Tasks.{normal-entries, last-number}
use Rattle.replay_structure.proofs.legal.Prepared.{legal_is_prepared}
use Rattle.replay_structure.proofs.legal.names.kept_names.Known.{legal_is_kept}
use Rattle.collect_structure.specs.Names.{kept_name, kept_names}
use Rattle.collect_structure.specs.Laws.{text_for}
use Rattle.collect_structure.specs.checked.Checkable.{is_truth, IsOtherThanTruths, HasFewFormals, IsCheckable}
use Rattle.collect_structure.proofs.texts.Rooted.{collect_agrees}
use Rattle.collect_structure.proofs.kept.Names.{own-kept, kept-keeping}
use Rattle.replay_structure.proofs.legal.Kept.{main-kept}
use Rattle.replay_structure.proofs.legal.Declared.{declarations-kept}

-- ---- no object is named FALSE or TRUE

truth-apart : (n k : ℕ) → is_predefined k ≡ true → is_predefined n ≡ false → (n == k) ≡ false
truth-apart n k p h = by_test (n == k) refl
  where
    by_test : (b : Bool) → (n == k) ≡ b → b ≡ false
    by_test false e = refl
    by_test true e = absurd (true≢false (sym p ∙ sym (ap is_predefined (eqb-true n k e)) ∙ h))

other-name : (n : ℕ) → is_predefined n ≡ false → is_truth n ≡ false
other-name n h = or_from (n == false_name) (n == true_name) (truth-apart n false_name refl h) (truth-apart n true_name refl h)

words-other : (s : Scope) (ws : List Word) → AllByRecursion (IsUnused s) ws → list_any (λ w. is_truth w.name.0) ws ≡ false
words-other s [] h = refl
words-other s (w ∷ ws) h = or_from (is_truth w.name.0) (list_any (λ x. is_truth x.name.0) ws) (other-name w.name.0 h.0.0) (words-other s ws h.1)

firsts-other : (ds : PDecls) (kinds : List PTask) (s : Scope) → DeclareOnce s ds → AllByRecursion IsOtherThanTruths (decl_list (first_decls kinds ds))
firsts-other no_decl kinds s h = tt
firsts-other (decl_then (DTask t p) rest) kinds s h = firsts-other rest (with_type kinds t.of_kind t) (after_decl s (DTask t p)) h.1
firsts-other (decl_then (DTaskBody w objects its p) rest) kinds s h = firsts-other rest kinds (after_decl s (DTaskBody w objects its p)) h.1
firsts-other (decl_then (DObject ws c x i p) rest) kinds s h = by_test (is_some (type_named kinds (mark_of x))) (firsts-other rest kinds (after_decl s (DObject ws c x i p)) h.1)
  where
    by_test : (b : Bool) → AllByRecursion IsOtherThanTruths (decl_list (first_decls kinds rest)) → AllByRecursion IsOtherThanTruths (decl_list (unless_left b (DObject ws c x i p) (first_decls kinds rest)))
    by_test true k = k
    by_test false k = (words-other s ws h.0, k)
firsts-other (decl_then (DNumber w e p) rest) kinds s h = (tt, firsts-other rest kinds (after_decl s (DNumber w e p)) h.1)
firsts-other (decl_then (DEnumeration w ws p) rest) kinds s h = (tt, firsts-other rest kinds (after_decl s (DEnumeration w ws p)) h.1)
firsts-other (decl_then (DArray w q x p) rest) kinds s h = (tt, firsts-other rest kinds (after_decl s (DArray w q x p)) h.1)
firsts-other (decl_then (DSubtype w x p) rest) kinds s h = (tt, firsts-other rest kinds (after_decl s (DSubtype w x p)) h.1)
firsts-other (decl_then (DException ws p) rest) kinds s h = (tt, firsts-other rest kinds (after_decl s (DException ws p)) h.1)
firsts-other (decl_then (DIntIo w p) rest) kinds s h = (tt, firsts-other rest kinds (after_decl s (DIntIo w p)) h.1)
firsts-other (decl_then (DPragma e p) rest) kinds s h = (tt, firsts-other rest kinds (after_decl s (DPragma e p)) h.1)

task-other : (d : PDecl) → list.IsOneTask d → IsOtherThanTruths d
task-other (DTask t s) h = tt
task-other (DTaskBody w objects its s) h = tt
task-other (DNumber w e s) h = tt
task-other (DObject ws c x i s) h = absurd h
task-other (DEnumeration w ws s) h = tt
task-other (DArray w q x s) h = tt
task-other (DSubtype w x s) h = tt
task-other (DException ws s) h = tt
task-other (DIntIo w s) h = tt
task-other (DPragma e s) h = tt

body-other : (d : PDecl) → list.IsOneBody d → IsOtherThanTruths d
body-other (DTask t s) h = tt
body-other (DTaskBody w objects its s) h = tt
body-other (DNumber w e s) h = tt
body-other (DObject ws c x i s) h = absurd h
body-other (DEnumeration w ws s) h = tt
body-other (DArray w q x s) h = tt
body-other (DSubtype w x s) h = tt
body-other (DException ws s) h = tt
body-other (DIntIo w s) h = tt
body-other (DPragma e s) h = tt

-- ---- formals

few-on : (T : TypeTable) (bodies : List ℕ) (d : PDecl) → DeclSized T bodies d → OnTask (λ t. AllByRecursion HasFewFormals t.entries) d
few-on T bodies (DTask t s) h = all_weaker (EntrySized T) HasFewFormals t.entries (λ e k. k.1) h.1
few-on T bodies (DTaskBody w objects its s) h = tt
few-on T bodies (DNumber w e s) h = tt
few-on T bodies (DObject ws c x i s) h = tt
few-on T bodies (DEnumeration w ws s) h = tt
few-on T bodies (DArray w q x s) h = tt
few-on T bodies (DSubtype w x s) h = tt
few-on T bodies (DException ws s) h = tt
few-on T bodies (DIntIo w s) h = tt
few-on T bodies (DPragma e s) h = tt

module _ (p : PProgram) (h : IsLegalOriginal p) where
  abbrev g : Setting
  g = setting_for p

  abbrev n : PProgram
  n = made_for p

  abbrev T : TypeTable
  T = types_in p

  abbrev N : Numbering
  N = numbers_of p

  -- what the replay text of no events asks
  pub prepared : IsPrepared p []
  prepared = legal_is_prepared p [] h (legal_is_kept p [] h (record { each = All-from_recursion (λ e. is_known N e ≡ true) [] tt; few = omega arith }))

  untrue : AllByRecursion IsOtherThanTruths (decl_list n.decls)
  untrue =
      let firsts : List PDecl = list.firsts p T N in
      let vars : List PDecl = list.vars p T N in
      let tasks : List PDecl = list.tasks p T N in
      let bodies : List PDecl = list.bodies p T N in
      let variables = unit-all IsOtherThanTruths (main_unit g) (λ s x k. or_from (is_truth (variable_name g k).0) false (other-name (variable_name g k).0 (new-not-predefined p.names h.names (variable_name g k).0 (variable-new g k))) refl) p.body in
      subst (AllByRecursion IsOtherThanTruths) (sym (list.normal-list p T N))
      (all_joined IsOtherThanTruths firsts (vars ++ tasks ++ bodies) (firsts-other p.decls [] (first_scope p.name) (declared_once p h.legal.type_rules).1)
      (all_joined IsOtherThanTruths (vars ++ tasks) bodies
      (all_joined IsOtherThanTruths vars tasks variables (all_weaker list.IsOneTask IsOtherThanTruths tasks task-other (list.tasks-all g)))
      (all_weaker list.IsOneBody IsOtherThanTruths bodies body-other (list.bodies-all g))))

  truths : (k : ℕ) → is_truth k ≡ true → kept_name n k ≡ true
  truths k e = by_false (k == false_name) refl
    where
      by_true : (b : Bool) → (k == true_name) ≡ b → b ≡ true → kept_name n k ≡ true
      by_true true f i = subst (λ x. kept_name n x ≡ true) (sym (eqb-true k true_name f)) (own-kept p true_name (facts.first-own p h true_name (lit< tt)))
      by_true false f i = absurd (true≢false (sym i))

      by_false : (b : Bool) → (k == false_name) ≡ b → kept_name n k ≡ true
      by_false true f = subst (λ x. kept_name n x ≡ true) (sym (eqb-true k false_name f)) (own-kept p false_name (facts.first-own p h false_name (lit< tt)))
      by_false false f = by_true (k == true_name) refl (sym (ap (λ b. b || (k == true_name)) f) ∙ e)

  -- The normal form is as asked.
  pub legal_is_checkable : ((k : ℕ) (e : PExpr) → EveryExpr (kept_names n) k e → fixed (types_in (text_for p)) e ≡ fixed (types_in n) e) → IsCheckable (form_for p)
  legal_is_checkable values = record {
    main = own-kept p p.name.name.0 prepared.main;
    declared = declarations-kept p h (kept_name n) (kept-keeping p);
    named = main-kept p h (kept_name n) (kept-keeping p);
    truths = truths;
    untrue = untrue;
    sorted = normal-sorted p T N;
    single = normal-single p T N;
    form = main-form p T N prepared.checks;
    forms = decls-form p T N prepared.checks;
    ranges = ranges-same p T N _ _ (normal_agrees p T N prepared.ordered) (collect_agrees p T N prepared.ordered prepared.own) prepared.own;
    values = values;
    few_tasks = prepared.few_tasks;
    few_entries = prepared.few_entries;
    few_numbers = subst (λ k. k ≤ 200) (sym (last-number p T N)) prepared.few_tasks;
    few_formals =
        normal-entries p T N (AllByRecursion HasFewFormals)
        (all_weaker (DeclSized (facts.around p h).types (check.body_names p.decls)) (OnTask (λ t. AllByRecursion HasFewFormals t.entries)) (decl_list p.decls) (few-on (facts.around p h).types (check.body_names p.decls))
        (decls-sized p.names (check.body_names p.decls) (facts.around p h).types p.decls (facts.around p h) refl (facts.decls-checked p h)));
  }
