-- The tables of types of a normal form and of its replay text agree on all names: what both add to the first declarations are variables, tasks and
-- bodies, which give no name a type, a constant or a literal.
use Rattle.std.proofs.Common.{◌≡◌, ℕ, ℤ, Bool, true, false, if◌then◌else◌, List, [], ◌∷◌, ◌++◌, map, flat_map, Option, Some, None, refl, sym, ap, ◌∙◌, subst}
use Rattle.std.specs.List.{AllByRecursion}
use Rattle.std.proofs.lemmas.Option.{none-some}
use Rattle.common_lemmas.proofs.Lists.{all_joined, all_weaker}
use Rattle.event_machine.specs.declared.Event.{Event}
use Rattle.ada_tree.specs.declared.naming.Span.{Span}
use Rattle.ada_tree.specs.declared.naming.Word.{Word}
use Rattle.ada_tree.specs.declared.static_types.Kind.{Kind}
use Rattle.ada_tree.specs.declared.static_types.Kind.TheVariants.{Integer, Truth, Enumeration, Array}
use Rattle.ada_tree.specs.TypeTable.{TypeTable}
use Rattle.ada_tree.specs.PlainExpr.{PSubind, PDrange}
use Rattle.ada_tree.specs.PlainDecl.{PShape, OPlain, OArray, PInit, PDecl, DNumber, DObject, DEnumeration, DArray, DSubtype, DException, DIntIo, DPragma, DTask, DTaskBody, PDecls, decls_of}
use Rattle.ada_tree.specs.PlainProgram.{PProgram}
use Rattle.ada_static_rules.specs.Refusals.{types_in}
use Rattle.ada_static_rules.specs.Scope.{Scope, Range, EntryPart, Marking, ScalarMark, ArrayMark, TaskMark, NoMark, UnknownMark, UnclearMark, marking, kind_at}
use Rattle.ada_static_rules.specs.Declaring.{first_scope, with_types, object_meaning, task_object, task_array, made_subind, made_array, drange_range, plain_object, array_object, declared_object, add_constants, constant_mark, constant_value, with_constants, after_object, in_body, after_decl, after_decls}
use Rattle.syn_event.specs.DeclaredTasks.{decl_list}
use Rattle.syn_event.proofs.Weaker.{placed_tokens}
use Rattle.task_model.specs.Setting.{Setting}
use Rattle.task_laws.specs.legal.types.Typed.{IsSmall, IsSmallKind}
use Rattle.task_laws.proofs.legal.types.FirmTables.{scalar-kind}
use Rattle.normal_model.specs.NormalTree.{first_decls, main_unit, main_variables, tasks_beside, task_declared, bodies_of}
use Rattle.replay_model.specs.ReplayTree.{permit_declared, replay_decl, script_of}
use Rattle.task_laws.specs.legal.rewritten_types.Agreement.{scalar_only, Keeps, Agrees}
use Rattle.task_laws.specs.legal.rewritten_types.Laws.{behind}
use Rattle.task_laws.proofs.legal.rewritten_types.Keeping.{keeps-self, keeps-on}
use Rattle.task_laws.proofs.legal.rewritten_types.Adding.{names-types, keeps-shape, keeps-objects}
use Rattle.task_laws.proofs.legal.rewritten_types.Rooting.{rooted_agrees}
use Rattle.task_laws.specs.legal.rewritten_values.Values.{AgreeOnValues}
use Rattle.task_laws.proofs.legal.rewritten_values.Saying.{tables_agree_on_values}
use Rattle.task_laws.proofs.legal.rewritten_values.Named.{literals_are_named}
use Rattle.normal_laws.proofs.structure.types.Normal.{front-after, normal_is_rooted}
use Rattle.normal_laws.proofs.structure.types.Variables.{IsTaskOrBody, tasks-only, bodies-only, unit-all}
use Rattle.normal_laws.proofs.structure.numbers.Listed.{vars, tasks, bodies}
use Rattle.normal_model.proofs.WalkLemmas.{listed-front}
use Rattle.normal_laws.specs.runs.forms.Normalisable.{numbers_of, setting_for, made_for}
use Rattle.normal_laws.specs.existence.Laws.{IsLegalOriginal}
use Rattle.normal_laws.proofs.legality.checks.Facts as facts
use Rattle.replay_structure.proofs.texts.Listed.{all-behind}
use Rattle.replay_structure.proofs.texts.Rooted.{replay-begins, added_of, replay-list}
use Rattle.replay_runs.specs.starts.Laws.{form_in, text_in}
use Rattle.replay_runs.specs.controls.translated.Laws.{form_and_text, LegalTypesAgree}

-- ---- variables, tasks and bodies

-- a variable, a task or a body
abbrev AddsNone : PDecl → Type 0
AddsNone (DObject names false shape init s) = Unit {0}
AddsNone (DTask t s) = Unit {0}
AddsNone (DTaskBody name objects its s) = Unit {0}
AddsNone _ = ⊥

no-thing : (o : Option ℕ) → constant_mark (object_meaning false o) ≡ None
no-thing (Some m) = refl
no-thing None = refl

no-task : (in_main : Bool) (entries : List EntryPart) → constant_mark (task_object in_main entries) ≡ None
no-task true entries = refl
no-task false entries = refl

no-tasks : (in_main : Bool) (r : Option Range) (entries : List EntryPart) → constant_mark (task_array in_main r entries) ≡ None
no-tasks true (Some r) entries = refl
no-tasks true None entries = refl
no-tasks false (Some r) entries = refl
no-tasks false None entries = refl

no-plain : (s : Scope) (m : Marking) (x : PSubind) → constant_mark (plain_object s false m x).thing ≡ None
no-plain s (TaskMark entries) x = no-task s.in_main entries
no-plain s (ArrayMark m r part) x = refl
no-plain s (ScalarMark m k) x = no-thing (made_subind s x).mark
no-plain s NoMark x = no-thing (made_subind s x).mark
no-plain s UnknownMark x = no-thing (made_subind s x).mark
no-plain s UnclearMark x = no-thing (made_subind s x).mark

no-row : (s : Scope) (m : Marking) (r : PDrange) (x : PSubind) → constant_mark (array_object s false m r x).thing ≡ None
no-row s (TaskMark entries) r x = no-tasks s.in_main (drange_range s r) entries
no-row s (ArrayMark m q part) r x = no-thing (made_array None (made_subind s x).types (drange_range s r) (made_subind s x).mark).mark
no-row s (ScalarMark m k) r x = no-thing (made_array None (made_subind s x).types (drange_range s r) (made_subind s x).mark).mark
no-row s NoMark r x = no-thing (made_array None (made_subind s x).types (drange_range s r) (made_subind s x).mark).mark
no-row s UnknownMark r x = no-thing (made_array None (made_subind s x).types (drange_range s r) (made_subind s x).mark).mark
no-row s UnclearMark r x = no-thing (made_array None (made_subind s x).types (drange_range s r) (made_subind s x).mark).mark

-- a variable is no constant
no-constant : (s : Scope) (shape : PShape) → constant_mark (declared_object s false shape).thing ≡ None
no-constant s (OPlain x) = no-plain s (marking s x.mark.name) x
no-constant s (OArray index x) = no-row s (marking s x.mark.name) index x

module _ {old : ℕ → Bool} where
  same-table : (in_main : Bool) (names : List Word) (m : Option ℕ) (z : Option ℤ) (T : TypeTable) → m ≡ None → Keeps old T (if in_main then add_constants names m z T else T)
  same-table true names None z T e = keeps-self T
  same-table true names (Some m) z T e = absurd (none-some m (sym e))
  same-table false names m z T e = keeps-self T

  keeps-variable : (s : Scope) (names : List Word) (shape : PShape) (init : Option PInit) → Keeps old s.types (after_object s names false shape init).types
  keeps-variable s names shape init =
      let d = declared_object s false shape in
      subst (Keeps old s.types) (sym (names-types d.thing names (with_types (with_constants s names init d) s)))
      (keeps-on (keeps-shape s false shape) (same-table s.in_main names (constant_mark d.thing) (constant_value s d.types (constant_mark d.thing) init) d.types (no-constant s shape)))

  keeps-none : (d : PDecl) (s : Scope) → AddsNone d → Keeps old s.types (after_decl s d).types
  keeps-none (DObject names false shape init sp) s h = keeps-variable s names shape init
  keeps-none (DObject names true shape init sp) s h = absurd h
  keeps-none (DTask t sp) s h = keeps-self s.types
  keeps-none (DTaskBody name objects its sp) s h = keeps-objects objects (in_body s name) refl
  keeps-none (DNumber w e sp) s h = absurd h
  keeps-none (DEnumeration w ws sp) s h = absurd h
  keeps-none (DArray w r x sp) s h = absurd h
  keeps-none (DSubtype w x sp) s h = absurd h
  keeps-none (DException ws sp) s h = absurd h
  keeps-none (DIntIo w sp) s h = absurd h
  keeps-none (DPragma e sp) s h = absurd h

  -- such declarations keep the table, whatever is old
  keeps-nones : (ds : List PDecl) (s : Scope) → AllByRecursion AddsNone ds → Keeps old s.types (after_decls s (decls_of ds)).types
  keeps-nones [] s h = keeps-self s.types
  keeps-nones (d ∷ ds) s h = keeps-on (keeps-none d s h.0) (keeps-nones ds (after_decl s d) h.1)

-- ---- what is added

unit-none : (d : PDecl) → IsTaskOrBody d → AddsNone d
unit-none (DTask t s) h = tt
unit-none (DTaskBody w objects its s) h = tt
unit-none (DNumber w e s) h = absurd h
unit-none (DObject ws c x i s) h = absurd h
unit-none (DEnumeration w ws s) h = absurd h
unit-none (DArray w r x s) h = absurd h
unit-none (DSubtype w x s) h = absurd h
unit-none (DException ws s) h = absurd h
unit-none (DIntIo w s) h = absurd h
unit-none (DPragma e s) h = absurd h

-- so is each in the replay text
replayed-none : (g : Setting) (ds : List PDecl) → AllByRecursion IsTaskOrBody ds → AllByRecursion AddsNone (map (replay_decl g) ds)
replayed-none g [] h = tt
replayed-none g (d ∷ ds) h = (one d h.0, replayed-none g ds h.1)
  where
    one : (d : PDecl) → IsTaskOrBody d → AddsNone (replay_decl g d)
    one (DTask t s) k = tt
    one (DTaskBody w objects its s) k = tt
    one (DNumber w e s) k = absurd k
    one (DObject ws c x i s) k = absurd k
    one (DEnumeration w ws s) k = absurd k
    one (DArray w r x s) k = absurd k
    one (DSubtype w x s) k = absurd k
    one (DException ws s) k = absurd k
    one (DIntIo w s) k = absurd k
    one (DPragma e s) k = absurd k

module _ (p : PProgram) (h : IsLegalOriginal p) where
  abbrev g : Setting
  g = setting_for p

  abbrev T : TypeTable
  T = types_in p

  -- the table of the first declarations
  abbrev root : TypeTable
  root = (behind p.name (first_decls [] p.decls)).types

  abbrev pub q : PProgram
  q = made_for p

  variables-none : AllByRecursion AddsNone (main_variables g)
  variables-none = unit-all AddsNone (main_unit g) (λ s x k. tt) p.body

  tasks-none : AllByRecursion AddsNone (flat_map (task_declared g) (tasks_beside g))
  tasks-none = all_weaker IsTaskOrBody AddsNone _ unit-none (tasks-only g)

  bodies-none : AllByRecursion AddsNone (flat_map (bodies_of g) (decl_list p.decls))
  bodies-none = all_weaker IsTaskOrBody AddsNone _ unit-none (bodies-only g)

  -- the normal form keeps the table of the first declarations
  normal-keeps : (old : ℕ → Bool) → Keeps old root (types_in q)
  normal-keeps old =
      let added = main_variables g ++ flat_map (task_declared g) (tasks_beside g) ++ flat_map (bodies_of g) (decl_list p.decls) in
      subst (λ (s : Scope). Keeps old root s.types) (sym (front-after (first_decls [] p.decls) (decls_of added) (first_scope p.name)))
      (keeps-nones added (behind p.name (first_decls [] p.decls))
      (all_joined AddsNone (main_variables g ++ flat_map (task_declared g) (tasks_beside g)) _ (all_joined AddsNone (main_variables g) _ variables-none tasks-none) bodies-none))

  module _ (events : List Event) where
    abbrev U : TypeTable
    U = types_in (text_in p events)

    -- so does the replay text
    text-none : (s : Span) → AllByRecursion AddsNone (added_of p T (numbers_of p) (script_of (numbers_of p) events) (facts.olds p h).2 s)
    text-none s =
        let N = numbers_of p in
        let f = form_in p in
        all_joined AddsNone _ _
        (all_joined AddsNone _ _
        (all_joined AddsNone _ _
        (all_joined AddsNone _ _ (all-behind AddsNone q.names (permit_declared q s) (vars p T N) tt variables-none) (replayed-none f (tasks p T N) (tasks-only g)))
        (tt, (tt, tt)))
        (replayed-none f (bodies p T N) (bodies-only g)))
        (tt, (tt, tt))

    text-keeps : (old : ℕ → Bool) → Keeps old root U
    text-keeps old =
        let ops = script_of (numbers_of p) events in
        let s = p.name.span in
        let added = added_of p T (numbers_of p) ops (facts.olds p h).2 s in
        subst (λ (l : PDecls). Keeps old root (after_decls (first_scope p.name) l).types)
        (sym (ap decls_of (replay-list p T (numbers_of p) ops (facts.olds p h).2 s) ∙ listed-front (first_decls [] p.decls) added))
        (subst (λ (c : Scope). Keeps old root c.types) (sym (front-after (first_decls [] p.decls) (decls_of added) (first_scope p.name)))
        (keeps-nones added (behind p.name (first_decls [] p.decls)) (text-none s)))

    -- So both agree, whatever is old.
    pub alike : (old : ℕ → Bool) → Agrees old (types_in q) U
    alike old =
        let r = normal_is_rooted p T (numbers_of p) (facts.ordered p h) in
        rooted_agrees old root (types_in q) U record { sound = r.sound; whole = r.whole; left = normal-keeps old; right = text-keeps old }

    pub values-alike : (old : ℕ → Bool) → AgreeOnValues old (types_in q) U q.names (text_in p events).names
    values-alike old =
        let begins = replay-begins q in
        subst (AgreeOnValues old (types_in q) U q.names) (sym begins.joined)
        (tables_agree_on_values old (types_in q) U q.names begins.more (alike old) (literals_are_named q (placed_tokens q (facts.placed p h))))

  -- ---- the size of the table

  -- the enumerations of the normal form are those of the program
  pub form-small : IsSmall (types_in q)
  form-small = record { kinds = λ k x e. of-kind k x e (sym ((facts.alike p h).kinds k)) }
    where
      of-kind : (k : ℕ) (x : Kind) → kind_at (types_in q) k ≡ Some x → scalar_only (kind_at (types_in q) k) ≡ scalar_only (kind_at T k) → IsSmallKind k x
      of-kind k Integer e a = tt
      of-kind k Truth e a = tt
      of-kind k (Array index first last part) e a = tt
      of-kind k (Enumeration names) e a = h.small.kinds k (Enumeration names) (scalar-kind (kind_at T k) (Enumeration names) (sym a ∙ ap scalar_only e))

pub legal_types_agree : LegalTypesAgree
legal_types_agree p events h =
    let v = values-alike p h events (form_and_text p events).is_old in
    record {
      marks = v.marks;
      fixed = v.fixed;
      fixed_known = v.fixed_known;
      values = v.values;
      values_known = v.values_known;
      bases = v.bases;
      kinds = v.kinds;
      integers = v.integers;
      truths = v.truths;
      texts = v.images;
    }
