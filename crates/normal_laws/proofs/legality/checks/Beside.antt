-- What stands around the declarations of main in the program, beside what stands around the first declarations of its normal form: what is a shared
-- variable there is one here, and has the name of no value.
use Rattle.std.proofs.Common.{◌≡◌, ℕ, Bool, true, false, not, ◌||◌, ◌==◌, if◌then◌else◌, List, [], ◌∷◌, Option, Some, None, is_some, refl, sym, ap, ◌∙◌, true≢false}
use Rattle.std.specs.List.{AllByRecursion}
use Rattle.ada_tree.specs.declared.naming.NameId.{NameId}
use Rattle.ada_tree.specs.declared.naming.Span.{Span}
use Rattle.ada_tree.specs.declared.naming.Word.{Word}
use Rattle.ada_tree.specs.declared.static_types.Mark.{Mark}
use Rattle.ada_tree.specs.TypeTable.{TypeTable}
use Rattle.ada_tree.specs.PlainDecl.{PShape, OPlain, OArray, PInit, PTask, PDecl, DObject, DTask, no_decl, decl_then}
use Rattle.ada_tree.specs.Every.{EveryShape}
use Rattle.ada_static_rules.specs.Scope.{Scope}
use Rattle.ada_static_rules.specs.StaticValue.{mark_named, value_named}
use Rattle.ada_static_rules.specs.Declaring.{after_decl}
use Rattle.ada_static_rules.specs.RuleDuplicate.{is_predefined}
use Rattle.syn_event.specs.declared.meanings.Meant.TheVariants.{TaskType, TaskOf, Shared}
use Rattle.syn_event.specs.CheckScope.{CheckScope, meaning}
use Rattle.syn_event.specs.CheckSites as check
use Rattle.syn_event.specs.CheckSites.{with_meant, with_declared_object}
use Rattle.syn_event.specs.Extents.{is_array_kind, is_array_mark, is_array_type}
use Rattle.syn_event.specs.NamedTasks.{type_named, with_type}
use Rattle.task_laws.specs.legal.rewritten_types.Agreement.{Agrees}
use Rattle.task_laws.specs.legal.rewritten_types.Rewriting.{IsUsed, IsUnused}
use Rattle.task_laws.specs.legal.rewritten_values.Values.{old_names}
use Rattle.normal_model.specs.NormalTree.{mark_of}
use Rattle.normal_laws.proofs.structure.once.TaskTypes.{HasTypes, types-after}
use Rattle.normal_laws.proofs.existence.seen_tasks.Scopes.{is_one_of, meant-out, meant-in}
use Rattle.common_lemmas.proofs.Numbers.{equal_self}
use Rattle.common_lemmas.proofs.Options.{some_same}
use Rattle.normal_laws.proofs.structure.checked.MainScopes.{decls-frame}
use Rattle.normal_laws.proofs.legality.checks.UsedNames.{one-of-all, unused-out, declared-used, object-out, object-type, object-value}
use Rattle.normal_laws.proofs.structure.units.Pairs.{used-decl}

-- ---- objects that are shared

-- an object of main is shared where it is a variable or an array
abbrev pub is_shared : TypeTable → Bool → PShape → Bool
is_shared T constant (OPlain x) = not constant || is_array_type T x.mark.name
is_shared T constant (OArray r x) = true

pub shape-value : (x : PShape) (ws : List Word) (constant : Bool) (c : CheckScope) → (meaning c (mark_of x) ≡ Some TaskType → ⊥) → check.after_object c ws constant x ≡ with_declared_object (is_shared c.types constant x) c ws
shape-value (OPlain x) ws constant c never = object-value (meaning c x.mark.name) x.mark (not constant || is_array_type c.types x.mark.name) ws c never
shape-value (OArray r x) ws constant c never = object-value (meaning c x.mark.name) x.mark true ws c never

pub shape-out : (x : PShape) (ws : List Word) (constant : Bool) (c : CheckScope) (id : NameId) → is_one_of ws id ≡ false → meaning (check.after_object c ws constant x) id ≡ meaning c id
shape-out (OPlain x) ws constant c id e = object-out (meaning c x.mark.name) x.mark (not constant || is_array_type c.types x.mark.name) ws c id e
shape-out (OArray r x) ws constant c id e = object-out (meaning c x.mark.name) x.mark true ws c id e

shape-type : (x : PShape) (ws : List Word) (constant : Bool) (c : CheckScope) (id : NameId) → meaning (check.after_object c ws constant x) id ≡ Some TaskType → meaning c id ≡ Some TaskType
shape-type (OPlain x) ws constant c id e = object-type (meaning c x.mark.name) x.mark (not constant || is_array_type c.types x.mark.name) ws c id e
shape-type (OArray r x) ws constant c id e = object-type (meaning c x.mark.name) x.mark true ws c id e

module _ (own : ℕ → Bool) (T U : TypeTable) (agree : Agrees own T U) where
  -- the same names are those of array types
  array-alike : (id : NameId) → own id.0 ≡ true → is_array_type U id ≡ is_array_type T id
  array-alike id o = go (mark_named T id) refl
    where
      go : (q : Option Mark) → mark_named T id ≡ q → is_array_type U id ≡ is_array_type T id
      go None e = ap (is_array_mark U) (sym (agree.marks id o) ∙ e) ∙ sym (ap (is_array_mark T) e)
      go (Some m) e = ap (is_array_mark U) (sym (agree.marks id o) ∙ e) ∙ ap is_array_kind (sym (agree.mark_kinds id m o e)) ∙ sym (ap (is_array_mark T) e)

  shared-alike : (x : PShape) (constant : Bool) → EveryShape (old_names own) x → is_shared U constant x ≡ is_shared T constant x
  shared-alike (OPlain x) constant h = ap (λ b. not constant || b) (array-alike x.mark.name h.0)
  shared-alike (OArray r x) constant h = refl

  -- ---- what is known of a place of main

  -- a name that is shared in the program, used there, and that of no value and no predefined one
  pub record IsSharedName (s : Scope) (c : CheckScope) (id : NameId) : Type 0 where
    pub shared : meaning c id ≡ Some Shared
    pub used : IsUsed s id
    pub free : value_named T id ≡ None
    pub new : is_predefined id.0 ≡ false

  -- The scopes before some declarations of the program, behind which it has these task types, and before those that are left of them in its normal form.
  pub record IsBeside (kinds : List PTask) (s : Scope) (c d : CheckScope) : Type 0 where
    pub main : s.in_main ≡ true
    pub types : HasTypes kinds s
    pub table : c.types ≡ T
    pub table' : d.types ≡ U
    pub named : (id : NameId) → meaning c id ≡ Some TaskType → is_some (type_named kinds id) ≡ true
    pub plain : (id : NameId) → meaning d id ≡ Some TaskType → ⊥
    pub shared : (id : NameId) → meaning d id ≡ Some Shared → IsSharedName s c id

  -- ---- one declaration

  -- a declaration that adds no meaning to either
  pub nothing-added : (d : PDecl) (kinds : List PTask) (s s' : Scope) (a b : CheckScope) → s'.in_main ≡ s.in_main → HasTypes kinds s' → ((id : NameId) → IsUsed s id → IsUsed s' id) → IsBeside kinds s a b → IsBeside kinds s' a b
  nothing-added d kinds s s' a b main types used h = record {
    main = main ∙ h.main;
    types = types;
    table = h.table;
    table' = h.table';
    named = h.named;
    plain = h.plain;
    shared = λ id e. let x = h.shared id e in record { shared = x.shared; used = used id x.used; free = x.free; new = x.new };
  }

  -- an object that stays
  pub object-stays : (ws : List Word) (constant : Bool) (x : PShape) (i : Option PInit) (sp : Span) (kinds : List PTask) (s : Scope) (a b : CheckScope) → is_some (type_named kinds (mark_of x)) ≡ false → (after_decl s (DObject ws constant x i sp)).in_main ≡ s.in_main →
      EveryShape (old_names own) x → AllByRecursion (IsUnused s) ws → (is_shared T constant x ≡ true → AllByRecursion (λ (w : Word). value_named T w.name ≡ None) ws) →
      IsBeside kinds s a b → IsBeside kinds (after_decl s (DObject ws constant x i sp)) (check.after_object a ws constant x) (check.after_object b ws constant x)
  object-stays ws constant x i sp kinds s a b none main every unused free h = record {
    main = main ∙ h.main;
    types = types-after kinds (DObject ws constant x i sp) s h.types;
    table = (decls-frame (decl_then (DObject ws constant x i sp) no_decl) a).types ∙ h.table;
    table' = (decls-frame (decl_then (DObject ws constant x i sp) no_decl) b).types ∙ h.table';
    named = λ id e. h.named id (shape-type x ws constant a id e);
    plain = λ id e. h.plain id (shape-type x ws constant b id e);
    shared = λ id e. by_test (is_shared T constant x) refl id (ap (λ (y : CheckScope). meaning y id) (sym in-normal) ∙ e);
  }
    where
      s' : Scope
      s' = after_decl s (DObject ws constant x i sp)

      in-program : check.after_object a ws constant x ≡ with_declared_object (is_shared T constant x) a ws
      in-program = shape-value x ws constant a (λ e. true≢false (sym (h.named (mark_of x) e) ∙ none)) ∙ ap (λ V. with_declared_object (is_shared V constant x) a ws) h.table

      in-normal : check.after_object b ws constant x ≡ with_declared_object (is_shared T constant x) b ws
      in-normal =
          shape-value x ws constant b (h.plain (mark_of x)) ∙ ap (λ V. with_declared_object (is_shared V constant x) b ws) h.table'
          ∙ ap (λ t. with_declared_object t b ws) (shared-alike x constant every)

      -- names of the object, and others
      stays : (id : NameId) → meaning (check.after_object a ws constant x) id ≡ meaning a id → IsSharedName s a id → IsSharedName s' (check.after_object a ws constant x) id
      stays id e y = record { shared = e ∙ y.shared; used = used-decl (DObject ws constant x i sp) s id y.used; free = y.free; new = y.new }

      others : (id : NameId) → is_one_of ws id ≡ false → meaning b id ≡ Some Shared → IsSharedName s' (check.after_object a ws constant x) id
      others id out e = stays id (shape-out x ws constant a id out) (h.shared id e)

      by_word : (id : NameId) → is_shared T constant x ≡ true → (o : Bool) → is_one_of ws id ≡ o → meaning (with_meant Shared b ws) id ≡ Some Shared → IsSharedName s' (check.after_object a ws constant x) id
      by_word id t true one e = record {
        shared = ap (λ (y : CheckScope). meaning y id) in-program ∙ ap (λ q. meaning (with_declared_object q a ws) id) t ∙ meant-in Shared ws a id one;
        used = declared-used (DObject ws constant x i sp) s id one;
        free = one-of-all (λ n. value_named T n ≡ None) ws id one (free t);
        new = one-of-all (λ n. is_predefined n.0 ≡ false) ws id one (firsts ws unused);
      }
        where
          firsts : (vs : List Word) → AllByRecursion (IsUnused s) vs → AllByRecursion (λ (w : Word). is_predefined w.name.0 ≡ false) vs
          firsts [] u = tt
          firsts (v ∷ vs) u = (u.0.0, firsts vs u.1)
      by_word id t false out e = others id out (sym (meant-out Shared ws b id out) ∙ e)

      by_test : (t : Bool) → is_shared T constant x ≡ t → (id : NameId) → meaning (with_declared_object t b ws) id ≡ Some Shared → IsSharedName s' (check.after_object a ws constant x) id
      by_test true f id e = by_word id f (is_one_of ws id) refl e
      by_test false f id e = stays id (ap (λ (y : CheckScope). meaning y id) in-program ∙ ap (λ q. meaning (with_declared_object q a ws) id) f) (h.shared id e)

  -- an object that is left out
  pub object-left : (ws : List Word) (constant : Bool) (x : PShape) (i : Option PInit) (sp : Span) (kinds : List PTask) (s : Scope) (a b : CheckScope) → (after_decl s (DObject ws constant x i sp)).in_main ≡ s.in_main →
      AllByRecursion (IsUnused s) ws → IsBeside kinds s a b → IsBeside kinds (after_decl s (DObject ws constant x i sp)) (check.after_object a ws constant x) b
  object-left ws constant x i sp kinds s a b main unused h = record {
    main = main ∙ h.main;
    types = types-after kinds (DObject ws constant x i sp) s h.types;
    table = (decls-frame (decl_then (DObject ws constant x i sp) no_decl) a).types ∙ h.table;
    table' = h.table';
    named = λ id e. h.named id (shape-type x ws constant a id e);
    plain = h.plain;
    shared = λ id e.
        let y = h.shared id e in record { shared = shape-out x ws constant a id (unused-out s ws id y.used unused) ∙ y.shared; used = used-decl (DObject ws constant x i sp) s id y.used; free = y.free; new = y.new };
  }

  type-kept : (b : Bool) (kinds : List PTask) (t : PTask) (id : NameId) → is_some (type_named kinds id) ≡ true → is_some (type_named (with_type kinds b t) id) ≡ true
  type-kept false kinds t id e = e
  type-kept true kinds t id e = by_test (t.name.name.0 == id.0)
    where
      by_test : (q : Bool) → is_some (if q then Some t else type_named kinds id) ≡ true
      by_test true = refl
      by_test false = e

  -- a task
  pub task-left : (t : PTask) (sp : Span) (kinds : List PTask) (s : Scope) (a b : CheckScope) → (after_decl s (DTask t sp)).in_main ≡ s.in_main → AllByRecursion (IsUnused s) (t.name ∷ []) → IsBeside kinds s a b →
      IsBeside (with_type kinds t.of_kind t) (after_decl s (DTask t sp)) (check.after_task a t) b
  task-left t sp kinds s a b main unused h = record {
    main = main ∙ h.main;
    types = types-after kinds (DTask t sp) s h.types;
    table = (decls-frame (decl_then (DTask t sp) no_decl) a).types ∙ h.table;
    table' = h.table';
    named = λ id e. by_test (is_one_of (t.name ∷ []) id) id e refl;
    plain = h.plain;
    shared = λ id e.
        let y = h.shared id e in record { shared = meant-out (check.meant_by_task t) (t.name ∷ []) a' id (unused-out s (t.name ∷ []) id y.used unused) ∙ y.shared; used = used-decl (DTask t sp) s id y.used; free = y.free; new = y.new };
  }
    where
      a' : CheckScope
      a' = record a { units = check.enclosing_unit t ∷ a.units }

      the_type : (id : NameId) → is_one_of (t.name ∷ []) id ≡ true → (q : Bool) → t.of_kind ≡ q → (if q then TaskType else TaskOf t.name.name) ≡ TaskType → is_some (type_named (with_type kinds t.of_kind t) id) ≡ true
      the_type id one false f e = cc
      the_type id one true f e =
          ap (λ q. is_some (type_named (with_type kinds q t) id)) f
          ∙ one-of-all (λ n. is_some (if t.name.name.0 == n.0 then Some t else type_named kinds n) ≡ true) (t.name ∷ []) id one (here, tt)
        where
          here : is_some (if t.name.name.0 == t.name.name.0 then Some t else type_named kinds t.name.name) ≡ true
          here = by_self (t.name.name.0 == t.name.name.0) (equal_self t.name.name.0)
            where
              by_self : (q : Bool) → q ≡ true → is_some (if q then Some t else type_named kinds t.name.name) ≡ true
              by_self true g = refl
              by_self false g = absurd (true≢false (sym g))

      by_test : (o : Bool) (id : NameId) → meaning (check.after_task a t) id ≡ Some TaskType → is_one_of (t.name ∷ []) id ≡ o → is_some (type_named (with_type kinds t.of_kind t) id) ≡ true
      by_test true id e one = the_type id one t.of_kind refl (some_same (sym (meant-in (check.meant_by_task t) (t.name ∷ []) a' id one) ∙ e))
      by_test false id e out = type-kept t.of_kind kinds t id (h.named id (sym (meant-out (check.meant_by_task t) (t.name ∷ []) a' id out) ∙ e))
