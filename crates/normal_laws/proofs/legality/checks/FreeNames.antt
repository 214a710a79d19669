-- A shared object of main has the name of no value: a variable has a name of its own, and an array constant has one that no other declaration has.
use Rattle.std.proofs.Common.{◌≡◌, ℕ, Bool, true, false, not, ◌||◌, ◌&&◌, List, ◌++◌, Option, Some, None, is_some, is_none, refl, sym, ap, subst, ◌∙◌, true≢false}
use Rattle.std.specs.List.{AllByRecursion}
use Rattle.ada_tree.specs.declared.naming.Span.{Span}
use Rattle.ada_tree.specs.declared.naming.Word.{Word}
use Rattle.ada_tree.specs.declared.static_types.Kind.{Kind}
use Rattle.ada_tree.specs.declared.static_types.Kind.TheVariants.{Integer, Truth, Enumeration, Array}
use Rattle.ada_tree.specs.declared.static_types.Mark.{Mark}
use Rattle.ada_tree.specs.TypeTable.{TypeTable}
use Rattle.ada_tree.specs.PlainExpr.{PSubind, PDrange}
use Rattle.ada_tree.specs.PlainDecl.{PShape, OPlain, OArray, PInit, PTask, DObject}
use Rattle.ada_static_rules.specs.Scope.{Scope, kind_at}
use Rattle.ada_static_rules.specs.StaticValue.{mark_named, value_named}
use Rattle.ada_static_rules.specs.Sites.{if_there, names_sites, drange_sites, subind_sites, may_be_task, component_marks, shape_sites, init_sites, object_marking, is_task_object, decl_sites}
use Rattle.ada_static_rules.specs.Declaring.{declared_object}
use Rattle.syn_event.specs.Extents.{is_array_kind, is_array_mark, is_array_type}
use Rattle.syn_event.specs.NamedTasks.{type_named}
use Rattle.ada_value.specs.declared.values.Form.{Form}
use Rattle.ada_value.specs.Variables.{form_of_mark, form_of_kind}
use Rattle.task_model.specs.Starting.{form_of, plain_form, marked_form, array_form}
use Rattle.task_laws.specs.legal.rewritten_values.Values.{AgreeOnValues}
use Rattle.normal_model.specs.NormalTree.{mark_of}
use Rattle.task_laws.specs.legal.sites.Met.{IsMet}
use Rattle.task_laws.specs.legal.types.Typed.{IsScalarName}
use Rattle.task_laws.proofs.legal.types.StaticParts.{HasSubtype, subind-met}
use Rattle.task_laws.proofs.legal.types.MainScopes.{Stands}
use Rattle.task_laws.proofs.legal.types.TaskTypes.{name-here}
use Rattle.task_laws.proofs.legal.types.InnerScopes.{IsApartName, AreApart, names-apart}
use Rattle.normal_laws.proofs.existence.units.Plain.{ArrayFree}
use Rattle.normal_laws.proofs.structure.once.TaskTypes.{HasTypes, no-task}
use Rattle.common_lemmas.proofs.Lists.{all_front, all_back, all_weaker}
use Rattle.common_lemmas.proofs.Truth.{and_false}
use Rattle.normal_laws.proofs.legality.checks.Beside.{is_shared}

module _ (old : ℕ → Bool) (T U : TypeTable) (before after : List (List ℕ)) (agree : AgreeOnValues old T U before after) where
  abbrev pub AreFreeWords : List Word → Type 0
  AreFreeWords ws = AllByRecursion (λ (w : Word). value_named T w.name ≡ None) ws

  -- ---- variables

  variables-free : (ws : List Word) (x : PShape) (i : Option PInit) (sp : Span) (kinds : List PTask) (s : Scope) → HasTypes kinds s → is_some (type_named kinds (mark_of x)) ≡ false → AreApart T (decl_sites s (DObject ws false x i sp)) → AreFreeWords ws
  variables-free ws x i sp kinds s types none apart =
      let d = declared_object s false x in
      let flag : (s.in_main && (false || is_task_object d.thing)) ≡ false = ap (λ b. s.in_main && b) (no-task kinds s false x types none) ∙ and_false s.in_main in
      let names = names_sites (s.in_main && (false || is_task_object d.thing)) s ws in
      let places = all_front _ names (shape_sites s false x i) (all_front _ (names ++ shape_sites s false x i) (if_there (init_sites s d.types (object_marking d)) i) apart) in
      all_weaker (λ (w : Word). IsApartName T w.name) (λ (w : Word). value_named T w.name ≡ None) ws (λ w h. h.value) (names-apart T ws s (subst (λ b. AreApart T (names_sites b s ws)) flag places))

  -- ---- arrays

  -- an object of an array's mark is an array
  kind-index : (m : Mark) (o : Option Kind) → is_array_kind o ≡ true → is_none (form_of_kind T m o).index ≡ false
  kind-index m (Some (Array index first last part)) e = refl
  kind-index m (Some Integer) e = absurd (true≢false (sym e))
  kind-index m (Some Truth) e = absurd (true≢false (sym e))
  kind-index m (Some (Enumeration ids)) e = absurd (true≢false (sym e))
  kind-index m None e = absurd (true≢false (sym e))

  -- a form of such an object, which is an array
  record HasIndex (x : PShape) : Type 0 where
    form : Form
    is : form_of T x ≡ Some form
    index : is_none form.index ≡ false

  plain-index : (x : PSubind) → is_array_type T x.mark.name ≡ true → HasIndex (OPlain x)
  plain-index x e = go (mark_named T x.mark.name) refl e
    where
      marked : (m : Mark) → (o : Bool) → is_none (form_of_mark T m).index ≡ o → o ≡ false → is_none (marked_form T x m (form_of_mark T m).index).index ≡ false
      marked m o f g = by_index (form_of_mark T m).index refl (f ∙ g)
        where
          by_index : (q : Option _) → (form_of_mark T m).index ≡ q → is_none q ≡ false → is_none (marked_form T x m q).index ≡ false
          by_index None h k = absurd (true≢false k)
          by_index (Some l) h k = ap is_none h ∙ k

      go : (o : Option Mark) → mark_named T x.mark.name ≡ o → is_array_mark T o ≡ true → HasIndex (OPlain x)
      go None f h = absurd (true≢false (sym h))
      go (Some m) f h = record { form = marked_form T x m (form_of_mark T m).index; is = ap (plain_form T x) f; index = marked m _ refl (kind-index m (kind_at T m.kind) h) }

  -- the mark of an array of its own is in the table
  row-index : (r : PDrange) (x : PSubind) (i : Option PInit) (s : Scope) → s.in_main ≡ true → Stands T s → AllByRecursion IsMet (shape_sites s true (OArray r x) i) → HasIndex (OArray r x)
  row-index r x i s main stands met =
      let never : may_be_task s true x.bounds i ≡ false = ap (λ b. b && not true && is_none x.bounds && is_none i) main in
      let marks : AllByRecursion IsMet (subind_sites true (component_marks false) s x) =
      subst (λ b. AllByRecursion IsMet (subind_sites true (component_marks b) s x)) never (all_back IsMet (drange_sites true s r) (subind_sites true (component_marks (may_be_task s true x.bounds i)) s x) met) in
      let h : HasSubtype s x = subind-met s stands.over.clear x marks in
      let n : IsScalarName T x.mark.name = name-here T s stands x.mark.name h.mark in
      record { form = _; is = ap (array_form T r x) n.named; index = refl }

  constants-free : (ws : List Word) (x : PShape) (i : Option PInit) (sp : Span) (s : Scope) → s.in_main ≡ true → Stands T s → AllByRecursion IsMet (decl_sites s (DObject ws true x i sp)) → ArrayFree old T U before after agree (DObject ws true x i sp) →
      is_shared T true x ≡ true → AreFreeWords ws
  constants-free ws (OPlain x) i sp s main stands met free e = let h = plain-index x e in free h.form h.is h.index
  constants-free ws (OArray r x) i sp s main stands met free e =
      let d = declared_object s true (OArray r x) in
      let names = names_sites (s.in_main && (true || is_task_object d.thing)) s ws in
      let shape = all_back IsMet names (shape_sites s true (OArray r x) i) (all_front IsMet (names ++ shape_sites s true (OArray r x) i) (if_there (init_sites s d.types (object_marking d)) i) met) in
      let h = row-index r x i s main stands shape in free h.form h.is h.index

  -- ---- both

  -- The names of an object that is shared are those of no value.
  pub shared-free : (ws : List Word) (constant : Bool) (x : PShape) (i : Option PInit) (sp : Span) (kinds : List PTask) (s : Scope) → s.in_main ≡ true → HasTypes kinds s → Stands T s → is_some (type_named kinds (mark_of x)) ≡ false →
      AllByRecursion IsMet (decl_sites s (DObject ws constant x i sp)) → AreApart T (decl_sites s (DObject ws constant x i sp)) → ArrayFree old T U before after agree (DObject ws constant x i sp) → is_shared T constant x ≡ true → AreFreeWords ws
  shared-free ws true x i sp kinds s main types stands none met apart free e = constants-free ws x i sp s main stands met free e
  shared-free ws false x i sp kinds s main types stands none met apart free e = variables-free ws x i sp kinds s types none apart
