-- What is asked of a legal program's normal form, so that the scopes along its collecting text are as told: all but its bodies and its statements.
use Rattle.std.proofs.Common.{◌≡◌, ℕ, ℤ, Bool, true, false, List, [], ◌∷◌, ◌++◌, is_some, Option, Some, None, IfSome, refl, sym, ap, subst, ◌∙◌, true≢false, arith}
use Rattle.std.specs.List.{AllByRecursion, filter, list_any}
use Rattle.std.specs.Str.{bytes_eq}
use Rattle.std.proofs.lemmas.List.Elements.{recursion_from_All}
use Rattle.common_lemmas.proofs.Lists.{all_back, all_first, all_front, all_paired, all_second, all_weaker}
use Rattle.common_lemmas.proofs.Numbers.{equal_self, unequal, lt_true}
use Rattle.common_lemmas.proofs.Truth.{clash}
use Rattle.ada_tree.specs.declared.naming.NameId.{NameId}
use Rattle.ada_tree.specs.declared.naming.Word.{Word}
use Rattle.ada_tree.specs.TypeTable.{TypeTable}
use Rattle.ada_tree.specs.PlainExpr.{PDrange}
use Rattle.ada_tree.specs.PlainDecl.{PEntry, PDecl, DTask, PDecls, no_decl, decl_then}
use Rattle.ada_tree.specs.PlainProgram.{PProgram}
use Rattle.ada_tree.specs.Every.{Rules, EveryDrange, EveryFormal, EveryEntry, EveryDecl}
use Rattle.ada_static_rules.specs.Scope.{Scope, Thing, MainProcedure, meaning}
use Rattle.ada_static_rules.specs.StaticValue.{value_named}
use Rattle.ada_static_rules.specs.Declaring.{before_all, first_scope, after_decl, after_decls}
use Rattle.ada_static_rules.specs.RuleDuplicate.{is_predefined}
use Rattle.ada_static_rules.specs.Refusals.{types_in}
use Rattle.syn_event.specs.Numbering.{Numbering}
use Rattle.syn_event.specs.DeclaredTasks.{decl_list}
use Rattle.syn_event.proofs.DeclLists.{every_listed, list_again}
use Rattle.task_model.specs.Setting.{Setting}
use Rattle.task_laws.specs.legal.rewritten_types.Rewriting.{IsUnused, DeclareOnce, NamesOnce, names_declared}
use Rattle.task_laws.proofs.legal.rewritten_types.Keeping.{grows-self}
use Rattle.task_laws.proofs.legal.rewritten_types.Refused.{declared_once}
use Rattle.task_laws.specs.legal.alike_scopes.Alike.{SameNames}
use Rattle.task_laws.specs.legal.alike_scopes.Old.{IsOldDrange}
use Rattle.task_laws.proofs.legal.alike_scopes.Tables.{value-kept}
use Rattle.task_laws.proofs.legal.types.MainScopes.{StandsWhole, last-stands}
use Rattle.task_laws.proofs.legal.types.LaterScopes.{valued-means}
use Rattle.task_laws.proofs.legal.types.TypedValues.{anybody}
use Rattle.normal_model.specs.NormalTree.{first_decls, main_unit}
use Rattle.normal_laws.specs.structure.numbers.Single.{IsSingle}
use Rattle.normal_laws.specs.structure.checked.Around.{own_rules}
use Rattle.normal_laws.specs.runs.forms.Normalisable.{numbers_of, setting_for, made_for}
use Rattle.normal_laws.specs.existence.Laws.{IsLegalOriginal}
use Rattle.normal_laws.specs.legality.scopes.Plain.{plain_name}
use Rattle.normal_laws.proofs.structure.types.Variables.{unit-all}
use Rattle.normal_laws.proofs.structure.numbers.Listed as list
use Rattle.normal_laws.proofs.structure.numbers.Listed.{IsOneTask}
use Rattle.normal_laws.proofs.structure.numbers.Numbered.{normal-single}
use Rattle.normal_laws.proofs.structure.typed.Stays.{old-drange, old-formals}
use Rattle.normal_laws.proofs.legality.Legal.{normal_meets_types}
use Rattle.normal_laws.proofs.legality.scopes.Names.{plain-own}
use Rattle.normal_laws.proofs.legality.scopes.Fixed.{literal-plain}
use Rattle.normal_laws.proofs.legality.scopes.Main as main
use Rattle.replay_model.specs.ReplayTree.{is_added_object, is_task}
use Rattle.replay_structure.specs.checkable.Prepared.{form_for}
use Rattle.replay_structure.specs.scopes.Form.{IsOldEntry, IsVariableOf, first}
use Rattle.replay_structure.proofs.legal.names.form_names.Decls.{variable-of}
use Rattle.replay_structure.proofs.legal.names.form_names.TypeNames.{kinds-own}
use Rattle.replay_structure.proofs.legal.names.form_scopes.Joined.{tasks-are}
use Rattle.replay_structure.proofs.legal.names.form_scopes.Selves.{IsSelf, self-names, self-first}
use Rattle.collect_model.specs.Names.{added_texts}
use Rattle.collect_structure.specs.Names.{new_texts, added_id, kept_name}
use Rattle.collect_structure.specs.scopes.Language.{KnowsLanguage}
use Rattle.collect_structure.specs.scopes.Form.{AreNamesNew, IsNewName, DeclaresNew, SeesNoType, IsVariableTold, IsTaskTold}
use Rattle.collect_structure.proofs.checked.Names.{kept-other}
use Rattle.collect_structure.proofs.kept.Names.{own-kept, kept-keeping}
use Rattle.replay_structure.proofs.legal.Kept.{first-kept}
use Rattle.collect_structure.proofs.legal.Listed.{main-variables-added}
use Rattle.collect_structure.proofs.scopes.Language.{name-kept, language-on, language-decls}
use Rattle.collect_structure.proofs.scopes.Types.{decls-no-type, first-no-type}
use Rattle.collect_structure.proofs.scopes.Owned.{names-kept}

-- ---- names that are declared once are no predefined ones

once-new : (ds : PDecls) (s : Scope) → DeclareOnce s ds → AllByRecursion DeclaresNew (decl_list ds)
once-new no_decl s h = tt
once-new (decl_then d ds) s h = (all_weaker (IsUnused s) IsNewName (names_declared d) (λ w u. u.0) h.0, once-new ds (after_decl s d) h.1)

-- in front of all declarations of a program the language is known
language-first : (name : Word) → is_predefined name.name.0 ≡ false → KnowsLanguage (first_scope name)
language-first name n =
    language-on before_all (first_scope name) (grows-self _)
    (λ k l. name-kept MainProcedure before_all name (record { 0 = k }) (unequal name.name.0 k (λ e. clash (sym n ∙ ap is_predefined e ∙ lt_true k 18 l))))
    record { grows = grows-self _; means = λ k l. refl }

-- ---- tasks

module _ (old : ℕ → Bool) where
  abbrev r : Rules
  r = own_rules old

  entry-old : (e : PEntry) → EveryEntry r e → IsOldEntry old e
  entry-old e h = record { family = go e.family h.2; formals = old-formals old e.formals (recursion_from_All (EveryFormal r) e.formals h.3) }
    where
      go : (o : Option PDrange) → IfSome o (EveryDrange r 2) → IfSome o (IsOldDrange old)
      go None i = tt
      go (Some x) i = old-drange old 2 x i

  entries-old : (es : List PEntry) → AllByRecursion (EveryEntry r) es → AllByRecursion (IsOldEntry old) es
  entries-old [] h = tt
  entries-old (e ∷ es) h = (entry-old e h.0, entries-old es h.1)

  task-told : (d : PDecl) → IsOneTask d → EveryDecl r d → DeclaresNew d → IsTaskTold old d
  task-told (DTask t s) one h n = (one, entries-old t.entries (recursion_from_All (EveryEntry r) t.entries h.1.1), h.1, n.0)
  task-told _ one h n = absurd one

module _ (p : PProgram) (legal : IsLegalOriginal p) where
  abbrev q : PProgram
  q = made_for p

  abbrev g : Setting
  g = setting_for p

  abbrev T : TypeTable
  T = types_in p

  abbrev N : Numbering
  N = numbers_of p

  abbrev kept : ℕ → Bool
  kept = kept_name q

  abbrev before : List PDecl
  before = list.firsts p T N

  abbrev vars : List PDecl
  vars = list.vars p T N

  abbrev at_first : Scope
  at_first = first q before vars

  -- ---- names

  added-unkept : (t : List ℕ) → list_any (bytes_eq t) added_texts ≡ true → list_any (bytes_eq t) new_texts ≡ true → kept (added_id q t).0 ≡ false
  added-unkept t h k = by_test (kept (added_id q t).0) refl
    where
      by_test : (b : Bool) → kept (added_id q t).0 ≡ b → b ≡ false
      by_test false e = refl
      by_test true e = absurd (true≢false (sym (equal_self (added_id q t).0) ∙ kept-other q (added_id q t) t e h k))

  pub names-new : AreNamesNew (form_for p) kept
  names-new = record {
    added = added-unkept;
    language = λ k l. first-kept p legal kept (kept-keeping p) k (omega (arith, l));
    kinds = λ j. own-kept p _ (kinds-own p legal j);
  }

  -- ---- each name is declared once

  once : NamesOnce p.name q.decls
  once = declared_once q (normal_meets_types p legal)

  sorted-new : AllByRecursion DeclaresNew (before ++ (vars ++ list.tasks p T N ++ list.bodies p T N))
  sorted-new = subst (AllByRecursion DeclaresNew) (list.normal-list p T N) (once-new q.decls (first_scope p.name) once.1)

  behind-new : AllByRecursion DeclaresNew (vars ++ list.tasks p T N ++ list.bodies p T N)
  behind-new = all_back DeclaresNew before (vars ++ list.tasks p T N ++ list.bodies p T N) sorted-new

  -- ---- behind the first declarations

  pub language-known : KnowsLanguage at_first
  language-known = language-decls before (first_scope p.name) (all_front DeclaresNew before (vars ++ list.tasks p T N ++ list.bodies p T N) sorted-new) (language-first p.name once.0.0)

  first-is : main.first p legal ≡ at_first
  first-is = ap (λ ds. after_decls (first_scope p.name) ds) (sym (list_again (first_decls [] p.decls)))

  pub self-kept : SameNames kept at_first at_first
  self-kept = self-names kept at_first (subst IsSelf first-is (self-first p legal))

  pub no-types : SeesNoType at_first
  no-types =
      decls-no-type before (first_scope p.name)
      (all_front IsSingle before (vars ++ list.tasks p T N ++ list.bodies p T N) (subst (AllByRecursion IsSingle) (list.normal-list p T N) (normal-single p T N))) (first-no-type p.name)

  -- a name with a value is plain, so it is kept
  pub value-plain : (id : NameId) (v : ℤ) → value_named (main.first p legal).types id ≡ Some v → plain_name p id.0 ≡ true
  value-plain id v e =
      let stands : StandsWhole T (main.last p legal) = last-stands p (main.rules p legal) legal.placed legal.small in
      let there : value_named T id ≡ Some v = value-kept anybody (main.first p legal).types T (main.last-placed p legal).beside.keeps id refl ∙ e in
      let m : (x : Thing) × (meaning (main.last p legal) id ≡ Some x) = valued-means stands.stands.root (main.last p legal) stands.stands.over id
      (ap is_some (sym (value-kept anybody stands.stands.root T stands.whole id refl) ∙ there)) in
      literal-plain p legal id m.0 m.1

  pub new-value : (id : NameId) → kept id.0 ≡ false → value_named at_first.types id ≡ None
  new-value id n = ap (λ (s : Scope). value_named s.types id) (sym first-is) ∙ by_value (value_named (main.first p legal).types id) refl
    where
      by_value : (o : Option ℤ) → value_named (main.first p legal).types id ≡ o → o ≡ None
      by_value None e = refl
      by_value (Some v) e = absurd (true≢false (sym (own-kept p id.0 (plain-own p id.0 (value-plain id v e))) ∙ n))

  -- ---- variables and tasks

  every : AllByRecursion (EveryDecl (own_rules kept)) (before ++ (vars ++ list.tasks p T N ++ list.bodies p T N))
  every = subst (AllByRecursion (EveryDecl (own_rules kept))) (list.normal-list p T N) (every_listed (own_rules kept) q.decls (names-kept p legal).2)

  behind-every : AllByRecursion (EveryDecl (own_rules kept)) (vars ++ list.tasks p T N ++ list.bodies p T N)
  behind-every = all_back (EveryDecl (own_rules kept)) before (vars ++ list.tasks p T N ++ list.bodies p T N) every

  variables-kept : AllByRecursion (IsVariableOf kept) vars
  variables-kept =
      all_weaker (λ d. (EveryDecl (own_rules kept) d → IsVariableOf kept d) × EveryDecl (own_rules kept) d) (IsVariableOf kept) vars (λ d k. k.0 k.1)
      (all_paired (λ d. EveryDecl (own_rules kept) d → IsVariableOf kept d) (EveryDecl (own_rules kept)) vars
      (unit-all (λ d. EveryDecl (own_rules kept) d → IsVariableOf kept d) (main_unit g) (variable-of kept g) p.body)
      (all_first (EveryDecl (own_rules kept)) vars (list.tasks p T N) (list.bodies p T N) behind-every))

  pub variables-told : AllByRecursion (IsVariableTold kept q.names) vars
  variables-told =
      all_weaker (λ d. IsVariableOf kept d × (DeclaresNew d × (is_added_object q.names d ≡ true))) (IsVariableTold kept q.names) vars (λ d k. record { variable = k.0; new = k.1.0; added = k.1.1 })
      (all_paired (IsVariableOf kept) (λ d. DeclaresNew d × (is_added_object q.names d ≡ true)) vars variables-kept
      (all_paired DeclaresNew (λ d. is_added_object q.names d ≡ true) vars (all_first DeclaresNew vars (list.tasks p T N) (list.bodies p T N) behind-new) (main-variables-added p)))

  pub tasks-told : AllByRecursion (IsTaskTold kept) (filter is_task (decl_list q.decls))
  tasks-told =
      let R : PDecl → Type 0 = EveryDecl (own_rules kept) in
      subst (AllByRecursion (IsTaskTold kept)) (sym (tasks-are p legal))
      (all_weaker (λ d. IsOneTask d × (R d × DeclaresNew d)) (IsTaskTold kept) (list.tasks p T N) (λ d k. task-told kept d k.0 k.1.0 k.1.1)
      (all_paired IsOneTask (λ d. R d × DeclaresNew d) (list.tasks p T N) (list.tasks-all g)
      (all_paired R DeclaresNew (list.tasks p T N) (all_second R vars (list.tasks p T N) (list.bodies p T N) behind-every)
      (all_second DeclaresNew vars (list.tasks p T N) (list.bodies p T N) behind-new))))
