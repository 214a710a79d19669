-- What is a shared variable behind all declarations of the normal form, and has an own name of the program, is so behind the first ones: the
-- variables of main have new names, and tasks and bodies are no variables.
use Rattle.std.proofs.Common.{◌≡◌, ℕ, Bool, true, false, ◌==◌, if◌then◌else◌, List, [], ◌∷◌, ◌++◌, Some, refl, sym, ap, ◌∙◌, true≢false}
use Rattle.std.specs.List.{AllByRecursion}
use Rattle.std.proofs.lemmas.Bool.{or_from}
use Rattle.ada_tree.specs.declared.naming.NameId.{NameId}
use Rattle.ada_tree.specs.PlainDecl.{OPlain, PTask, PDecl, DNumber, DObject, DEnumeration, DArray, DSubtype, DException, DIntIo, DPragma, DTask, DTaskBody, PDecls, no_decl, decl_then, decls_of}
use Rattle.ada_tree.specs.PlainProgram.{PProgram}
use Rattle.ada_tree.specs.TypeTable.{TypeTable}
use Rattle.syn_event.specs.Numbering.{Numbering}
use Rattle.syn_event.specs.declared.meanings.Meant.TheVariants.{TaskType, TaskOf, Shared}
use Rattle.syn_event.specs.CheckScope.{CheckScope, meaning}
use Rattle.syn_event.specs.CheckSites as check
use Rattle.task_model.specs.Setting.{Setting}
use Rattle.normal_model.specs.Names.{variable_name}
use Rattle.normal_model.specs.Ranges.{word_at}
use Rattle.normal_model.specs.NormalTree.{decls_front, first_decls, main_unit, normal_tree}
use Rattle.normal_laws.specs.structure.types.Own.{own_name}
use Rattle.normal_laws.specs.structure.types.Laws.{setting_of}
use Rattle.normal_laws.proofs.structure.types.Names.{added_names_are_new}
use Rattle.normal_laws.proofs.structure.types.Variables.{unit-all}
use Rattle.normal_laws.proofs.structure.numbers.Listed.{IsOneTask, IsOneBody, vars, tasks, bodies, tasks-all, bodies-all}
use Rattle.common_lemmas.proofs.Lists.{all_joined, all_weaker}
use Rattle.common_lemmas.proofs.Numbers.{equal_is}
use Rattle.normal_laws.proofs.legality.checks.UsedNames.{meant-kept}
use Rattle.normal_laws.proofs.legality.checks.Beside.{shape-out}

pub after-front : (xs ys : PDecls) (d : CheckScope) → check.after_decls d (decls_front xs ys) ≡ check.after_decls (check.after_decls d xs) ys
after-front no_decl ys d = refl
after-front (decl_then x xs) ys d = after-front xs ys (check.after_decl d x)

-- behind the declaration the name is shared only where it was before
abbrev pub IsNoShared : NameId → PDecl → Type 0
IsNoShared id x = (d : CheckScope) → meaning (check.after_decl d x) id ≡ Some Shared → meaning d id ≡ Some Shared

none-shared : (id : NameId) (xs : List PDecl) (d : CheckScope) → AllByRecursion (IsNoShared id) xs → meaning (check.after_decls d (decls_of xs)) id ≡ Some Shared → meaning d id ≡ Some Shared
none-shared id [] d h e = e
none-shared id (x ∷ xs) d h e = h.0 d (none-shared id xs (check.after_decl d x) h.1 e)

task-other : (t : PTask) → check.meant_by_task t ≡ Shared → ⊥
task-other t e = by_kind t.of_kind e
  where
    by_kind : (b : Bool) → (if b then TaskType else TaskOf t.name.name) ≡ Shared → ⊥
    by_kind true f = cc
    by_kind false f = cc

task-hides : (id : NameId) (x : PDecl) → IsOneTask x → IsNoShared id x
task-hides id (DTask t s) h = λ d e. meant-kept (check.meant_by_task t) Shared (t.name ∷ []) (record d { units = check.enclosing_unit t ∷ d.units }) id (task-other t) e
task-hides id (DTaskBody w objects its s) h = absurd h
task-hides id (DNumber w e s) h = absurd h
task-hides id (DObject ws c x i s) h = absurd h
task-hides id (DEnumeration w ws s) h = absurd h
task-hides id (DArray w q x s) h = absurd h
task-hides id (DSubtype w x s) h = absurd h
task-hides id (DException ws s) h = absurd h
task-hides id (DIntIo w s) h = absurd h
task-hides id (DPragma e s) h = absurd h

body-hides : (id : NameId) (x : PDecl) → IsOneBody x → IsNoShared id x
body-hides id (DTaskBody w objects its s) h = λ d e. e
body-hides id (DTask t s) h = absurd h
body-hides id (DNumber w e s) h = absurd h
body-hides id (DObject ws c x i s) h = absurd h
body-hides id (DEnumeration w ws s) h = absurd h
body-hides id (DArray w q x s) h = absurd h
body-hides id (DSubtype w x s) h = absurd h
body-hides id (DException ws s) h = absurd h
body-hides id (DIntIo w s) h = absurd h
body-hides id (DPragma e s) h = absurd h

module _ (p : PProgram) (T : TypeTable) (numbers : Numbering) where
  abbrev g : Setting
  g = setting_of p T numbers

  -- an own name is none of the variables
  pub own-other : (id : NameId) (k : ℕ) → own_name p id.0 ≡ true → ((variable_name g k).0 == id.0) ≡ false
  own-other id k o = by_test ((variable_name g k).0 == id.0) refl
    where
      by_test : (b : Bool) → ((variable_name g k).0 == id.0) ≡ b → b ≡ false
      by_test false e = refl
      by_test true e = absurd (true≢false (sym o ∙ ap (own_name p) (sym (equal_is (variable_name g k).0 id.0 e)) ∙ added_names_are_new g k))

  added-hide : (id : NameId) → own_name p id.0 ≡ true → AllByRecursion (IsNoShared id) (vars p T numbers ++ tasks p T numbers ++ bodies p T numbers)
  added-hide id o =
      all_joined (IsNoShared id) (vars p T numbers ++ tasks p T numbers) (bodies p T numbers)
      (all_joined (IsNoShared id) (vars p T numbers) (tasks p T numbers)
      (unit-all (IsNoShared id) (main_unit g)
      (λ s x k d e. sym (shape-out (OPlain x) (word_at s (variable_name g k) ∷ []) false d id (or_from ((variable_name g k).0 == id.0) false (own-other id k o) refl)) ∙ e) p.body)
      (all_weaker IsOneTask (IsNoShared id) (tasks p T numbers) (task-hides id) (tasks-all g)))
      (all_weaker IsOneBody (IsNoShared id) (bodies p T numbers) (body-hides id) (bodies-all g))

  pub later-shared : (d : CheckScope) (id : NameId) → own_name p id.0 ≡ true → meaning (check.after_decls d (normal_tree p T numbers).decls) id ≡ Some Shared → meaning (check.after_decls d (first_decls [] p.decls)) id ≡ Some Shared
  later-shared d id o e =
      none-shared id (vars p T numbers ++ tasks p T numbers ++ bodies p T numbers) (check.after_decls d (first_decls [] p.decls)) (added-hide id o)
      (ap (λ (y : CheckScope). meaning y id) (sym (after-front (first_decls [] p.decls) (decls_of (vars p T numbers ++ tasks p T numbers ++ bodies p T numbers)) d)) ∙ e)
