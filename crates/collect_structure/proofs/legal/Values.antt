-- Expressions of kept names have the same static values by the types of a normal form and by those of its collecting text.
use Rattle.std.proofs.Common.{◌≡◌, ℕ, ◌+◌, Bool, true, false, if◌then◌else◌, ℤ, List, [], ◌∷◌, ◌++◌, Option, Some, None, Result, refl, sym, ap, ap₂, subst, ◌∙◌, eq-eqb, true≢false}
use Rattle.std.specs.List.{AllByRecursion}
use Rattle.common_lemmas.proofs.Lists.{all_joined, all_weaker}
use Rattle.ada_tree.specs.declared.naming.Span.{Span}
use Rattle.ada_tree.specs.declared.naming.Word.{Word}
use Rattle.ada_tree.specs.TypeTable.{TypeTable}
use Rattle.ada_tree.specs.PlainExpr.{PExpr, EInteger, EName, EIndex, EAttribute, EAttributeOf, EParen, EUnary, EBinary, PDrange, PSubind}
use Rattle.ada_tree.specs.PlainDecl.{PShape, OPlain, OArray, PInit, PDecl, DNumber, DObject, DEnumeration, DArray, DSubtype, DException, DIntIo, DPragma, DTask, DTaskBody, decls_of}
use Rattle.ada_tree.specs.PlainProgram.{PProgram}
use Rattle.ada_tree.specs.Every.{EveryExpr}
use Rattle.ada_static_rules.specs.Scope.{Scope, EntryPart, Range, Marking, TaskMark, ArrayMark, ScalarMark, NoMark, UnknownMark, UnclearMark, marking}
use Rattle.ada_static_rules.specs.Refusals.{types_in}
use Rattle.ada_static_rules.specs.Declaring.{with_types, constant_mark, constant_value, add_constants, with_constants, task_object, task_array, object_meaning, plain_object, array_object, declared_object, after_object, after_decl, after_decls, first_scope, drange_range, made_subind, made_array}
use Rattle.syn_event.specs.Extents.{fixed, unraised_value}
use Rattle.syn_event.specs.Numbering.{Numbering}
use Rattle.task_laws.specs.legal.rewritten_types.Agreement.{Keeps, Rooted}
use Rattle.task_laws.specs.legal.rewritten_types.Rewriting.{IsAdded}
use Rattle.task_laws.specs.legal.rewritten_types.Laws.{behind}
use Rattle.task_laws.specs.legal.alike_scopes.Alike.{SameTypes}
use Rattle.task_laws.specs.legal.alike_scopes.Old.{IsOldExpr}
use Rattle.task_laws.proofs.legal.rewritten_types.Keeping.{keeps-self, keeps-on}
use Rattle.task_laws.proofs.legal.rewritten_types.Adding.{names-types, keeps-shape, keeps-decl}
use Rattle.task_laws.proofs.legal.alike_scopes.Tables.{rooted_is_same}
use Rattle.task_laws.proofs.legal.alike_scopes.Exprs.{static-same, value-same}
use Rattle.normal_model.specs.NormalTree.{first_decls, main_unit, normal_tree}
use Rattle.normal_model.proofs.WalkLemmas.{listed-front}
use Rattle.normal_laws.specs.structure.types.Own.{own_name}
use Rattle.normal_laws.specs.structure.types.Laws.{setting_of, IsOrdered, AreOwn}
use Rattle.normal_laws.proofs.structure.types.Normal.{front-after}
use Rattle.normal_laws.proofs.structure.types.Variables.{unit-all}
use Rattle.normal_laws.proofs.structure.numbers.Listed.{IsOneTask, IsOneBody, vars, tasks, bodies, tasks-all, bodies-all}
use Rattle.collect_model.specs.Names.{flags_text}
use Rattle.collect_model.specs.Teller.{Teller}
use Rattle.collect_model.specs.CollectTree.{collect_decl, recorder_body_told, collect_tree}
use Rattle.collect_structure.specs.Names.{added_id, kept_name, kept_names}
use Rattle.collect_structure.proofs.texts.Listed.{all-main}
use Rattle.collect_structure.proofs.texts.Rooted.{collect_is_rooted, collect-list, told, more, added_of, collect-tells, all-told-behind}
use Rattle.collect_structure.proofs.checked.Names.{kept-other}

-- ---- declarations that keep the table of types

module _ (old : ℕ → Bool) where
  -- a variable, or what gives no old name a meaning
  abbrev IsQuiet : PDecl → Type 0
  IsQuiet (DObject names false shape init s) = Prim.Unit {0}
  IsQuiet d = IsAdded old d

  -- what a variable is, is no constant
  pub task-none : (b : Bool) (entries : List EntryPart) → constant_mark (task_object b entries) ≡ None
  task-none true entries = refl
  task-none false entries = refl

  pub row-none : (b : Bool) (r : Option Range) (entries : List EntryPart) → constant_mark (task_array b r entries) ≡ None
  row-none true (Some r) entries = refl
  row-none true None entries = refl
  row-none false r entries = refl

  pub object-none : (m : Option ℕ) → constant_mark (object_meaning false m) ≡ None
  object-none (Some m) = refl
  object-none None = refl

  pub plain-none : (s : Scope) (m : Marking) (x : PSubind) → constant_mark (plain_object s false m x).thing ≡ None
  plain-none s (TaskMark entries) x = task-none s.in_main entries
  plain-none s (ArrayMark m r part) x = refl
  plain-none s (ScalarMark m k) x = object-none (made_subind s x).mark
  plain-none s NoMark x = object-none (made_subind s x).mark
  plain-none s UnknownMark x = object-none (made_subind s x).mark
  plain-none s UnclearMark x = object-none (made_subind s x).mark

  pub array-none : (s : Scope) (m : Marking) (index : PDrange) (x : PSubind) → constant_mark (array_object s false m index x).thing ≡ None
  array-none s (TaskMark entries) index x = row-none s.in_main (drange_range s index) entries
  array-none s (ArrayMark m r part) index x = object-none (made_array None (made_subind s x).types (drange_range s index) (made_subind s x).mark).mark
  array-none s (ScalarMark m k) index x = object-none (made_array None (made_subind s x).types (drange_range s index) (made_subind s x).mark).mark
  array-none s NoMark index x = object-none (made_array None (made_subind s x).types (drange_range s index) (made_subind s x).mark).mark
  array-none s UnknownMark index x = object-none (made_array None (made_subind s x).types (drange_range s index) (made_subind s x).mark).mark
  array-none s UnclearMark index x = object-none (made_array None (made_subind s x).types (drange_range s index) (made_subind s x).mark).mark

  pub shape-none : (s : Scope) (shape : PShape) → constant_mark (declared_object s false shape).thing ≡ None
  shape-none s (OPlain x) = plain-none s (marking s x.mark.name) x
  shape-none s (OArray index x) = array-none s (marking s x.mark.name) index x

  pub keeps-variable : (s : Scope) (names : List Word) (shape : PShape) (init : Option PInit) → Keeps old s.types (after_object s names false shape init).types
  keeps-variable s names shape init =
      let d = declared_object s false shape in
      subst (Keeps old s.types) (sym (names-types d.thing names (with_types (with_constants s names init d) s)))
      (keeps-on (keeps-shape s false shape)
      (by_main s.in_main
      (subst (λ o. Keeps old d.types (add_constants names o (constant_value s d.types o init) d.types)) (sym (shape-none s shape)) (keeps-self d.types))))
    where
      by_main : (b : Bool) →
          Keeps old (declared_object s false shape).types (add_constants names (constant_mark (declared_object s false shape).thing) (constant_value s (declared_object s false shape).types (constant_mark (declared_object s false shape).thing) init) (declared_object s false shape).types) →
          Keeps old (declared_object s false shape).types
          (if b then add_constants names (constant_mark (declared_object s false shape).thing) (constant_value s (declared_object s false shape).types (constant_mark (declared_object s false shape).thing) init) (declared_object s false shape).types
          else (declared_object s false shape).types)
      by_main true h = h
      by_main false h = keeps-self (declared_object s false shape).types

  keeps-quiet : (d : PDecl) (s : Scope) → IsQuiet d → Keeps old s.types (after_decl s d).types
  keeps-quiet (DObject names false shape init p) s h = keeps-variable s names shape init
  keeps-quiet (DObject names true shape init p) s h = keeps-decl (DObject names true shape init p) s h
  keeps-quiet (DNumber w e p) s h = keeps-decl (DNumber w e p) s h
  keeps-quiet (DEnumeration w ws p) s h = keeps-decl (DEnumeration w ws p) s h
  keeps-quiet (DArray w r x p) s h = keeps-decl (DArray w r x p) s h
  keeps-quiet (DSubtype w x p) s h = keeps-decl (DSubtype w x p) s h
  keeps-quiet (DException ws p) s h = keeps-decl (DException ws p) s h
  keeps-quiet (DIntIo w p) s h = keeps-decl (DIntIo w p) s h
  keeps-quiet (DPragma e p) s h = keeps-decl (DPragma e p) s h
  keeps-quiet (DTask t p) s h = keeps-decl (DTask t p) s h
  keeps-quiet (DTaskBody w objects its p) s h = keeps-decl (DTaskBody w objects its p) s h

  keeps-list : (ds : List PDecl) (s : Scope) → AllByRecursion IsQuiet ds → Keeps old s.types (after_decls s (decls_of ds)).types
  keeps-list [] s h = keeps-self s.types
  keeps-list (d ∷ ds) s h = keeps-on (keeps-quiet d s h.0) (keeps-list ds (after_decl s d) h.1)

  -- tasks and bodies are quiet
  task-quiet : (d : PDecl) → IsOneTask d → IsQuiet d
  task-quiet (DTask t s) h = tt
  task-quiet (DTaskBody w objects its s) h = absurd h
  task-quiet (DNumber w e s) h = absurd h
  task-quiet (DObject ws c x i s) h = absurd h
  task-quiet (DEnumeration w ws s) h = absurd h
  task-quiet (DArray w r x s) h = absurd h
  task-quiet (DSubtype w x s) h = absurd h
  task-quiet (DException ws s) h = absurd h
  task-quiet (DIntIo w s) h = absurd h
  task-quiet (DPragma e s) h = absurd h

  body-quiet : (d : PDecl) → IsOneBody d → IsQuiet d
  body-quiet (DTask t s) h = absurd h
  body-quiet (DTaskBody w objects its s) h = tt
  body-quiet (DNumber w e s) h = absurd h
  body-quiet (DObject ws c x i s) h = absurd h
  body-quiet (DEnumeration w ws s) h = absurd h
  body-quiet (DArray w r x s) h = absurd h
  body-quiet (DSubtype w x s) h = absurd h
  body-quiet (DException ws s) h = absurd h
  body-quiet (DIntIo w s) h = absurd h
  body-quiet (DPragma e s) h = absurd h

-- ---- both tables

-- the array type of flags has no kept name
pub flags-new : (q : PProgram) → kept_name q (added_id q flags_text).0 ≡ false
flags-new q = by_test (kept_name q (added_id q flags_text).0) refl
  where
    by_test : (b : Bool) → kept_name q (added_id q flags_text).0 ≡ b → b ≡ false
    by_test false e = refl
    by_test true e = absurd (true≢false (sym (eq-eqb (added_id q flags_text).0 (added_id q flags_text).0 refl) ∙ kept-other q (added_id q flags_text) flags_text e refl refl))

module _ (p : PProgram) (types : TypeTable) (numbers : Numbering) (ordered : IsOrdered p) (own : AreOwn p p.decls) where
  abbrev n : PProgram
  n = normal_tree p types numbers

  abbrev kept : ℕ → Bool
  kept = kept_name n

  abbrev root : TypeTable
  root = (behind p.name (first_decls [] p.decls)).types

  abbrev variables : List PDecl
  variables = vars p types numbers

  vars-quiet : AllByRecursion (IsQuiet kept) variables
  vars-quiet = unit-all (IsQuiet kept) (main_unit (setting_of p types numbers)) (λ s x k. tt) p.body

  pub keeps-normal : Keeps kept root (types_in n)
  keeps-normal =
      let added : List PDecl = variables ++ tasks p types numbers ++ bodies p types numbers in
      subst (λ (c : Scope). Keeps kept root c.types) (sym (front-after (first_decls [] p.decls) (decls_of added) (first_scope p.name)))
      (keeps-list kept added (behind p.name (first_decls [] p.decls))
      (all_joined (IsQuiet kept) (variables ++ tasks p types numbers) (bodies p types numbers)
      (all_joined (IsQuiet kept) variables (tasks p types numbers) vars-quiet (all_weaker IsOneTask (IsQuiet kept) (tasks p types numbers) (task-quiet kept) (tasks-all (setting_of p types numbers))))
      (all_weaker IsOneBody (IsQuiet kept) (bodies p types numbers) (body-quiet kept) (bodies-all (setting_of p types numbers)))))

  added-quiet : AllByRecursion (IsQuiet kept) (added_of p types numbers own)
  added-quiet =
      let x : Teller = told p types numbers own in
      all-told-behind p types numbers own x.added (collect_decl x n.names) (collect-tells x n.names) (more p types numbers own) (recorder_body_told x n) (IsQuiet kept)
      (λ t s one. tt) (λ w objects its s. tt) (all-main (IsQuiet kept) x.added p.name.span _ _ (tt, (flags-new n, (tt, (tt, tt))))) vars-quiet tt tt

  pub keeps-text : Keeps kept root (types_in (collect_tree p types numbers))
  keeps-text =
      let added : List PDecl = added_of p types numbers own in
      subst (λ l. Keeps kept root (after_decls (first_scope p.name) l).types) (sym (ap decls_of (collect-list p types numbers own) ∙ listed-front (first_decls [] p.decls) added))
      (subst (λ (c : Scope). Keeps kept root c.types) (sym (front-after (first_decls [] p.decls) (decls_of added) (first_scope p.name))) (keeps-list kept added (behind p.name (first_decls [] p.decls)) added-quiet))

  -- The two tables say the same of kept names.
  pub same-types : SameTypes kept (types_in n) (types_in (collect_tree p types numbers))
  same-types =
      let r : Rooted (own_name p) root (types_in p) (types_in (collect_tree p types numbers)) = collect_is_rooted p types numbers ordered own in
      rooted_is_same kept root (types_in n) (types_in (collect_tree p types numbers)) (record { sound = r.sound; whole = r.whole; left = keeps-normal; right = keeps-text })

  kept-expr : (k : ℕ) (e : PExpr) → EveryExpr (kept_names n) k e → IsOldExpr kept e
  kept-expr k (EInteger z s) h = tt
  kept-expr k (EName id s) h = h.1
  kept-expr k (EIndex w e s) h = (h.1, kept-expr (k + 1) e h.2)
  kept-expr k (EAttribute m w s) h = h.1
  kept-expr k (EAttributeOf m w e s) h = (h.1, kept-expr (k + 1) e h.3)
  kept-expr k (EParen e s) h = kept-expr (k + 1) e h.1
  kept-expr k (EUnary op e s) h = kept-expr (k + 1) e h.2
  kept-expr k (EBinary op x y s) h = (kept-expr (k + 1) x h.2, kept-expr (k + 1) y h.3)

  -- So expressions of these names have the same static values.
  pub same-values : (k : ℕ) (e : PExpr) → EveryExpr (kept_names n) k e → fixed (types_in (collect_tree p types numbers)) e ≡ fixed (types_in n) e
  same-values k e h =
      let o : IsOldExpr kept e = kept-expr k e h in
      sym
      (ap₂ (λ (b : Bool) (v : Result ℤ Span). if b then unraised_value v else None) (static-same kept (types_in n) (types_in (collect_tree p types numbers)) same-types e o)
      (value-same kept (types_in n) (types_in (collect_tree p types numbers)) same-types e o))
