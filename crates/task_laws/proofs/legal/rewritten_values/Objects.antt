-- The objects of a unit are the same by tables that agree on old names.
use Rattle.std.proofs.Common.{◌≡◌, ℕ, Bool, true, if◌then◌else◌, List, [], ◌∷◌, map, replicate, is_some, IfSome, Option, Some, None, Result, Ok, Err, refl, sym, ap, ap₂, ◌∙◌, true≢false}
use Rattle.std.specs.List.{AllByRecursion}
use Rattle.std.proofs.lemmas.List.Elements.{recursion_from_All}
use Rattle.ada_tree.specs.declared.naming.NameId.{NameId}
use Rattle.ada_tree.specs.declared.naming.Word.{Word}
use Rattle.ada_tree.specs.declared.static_types.Kind.{Kind}
use Rattle.ada_tree.specs.declared.static_types.Kind.TheVariants as kind
use Rattle.ada_tree.specs.declared.static_types.Mark.{Mark}
use Rattle.ada_tree.specs.TypeTable.{TypeTable}
use Rattle.ada_tree.specs.PlainExpr.{PExpr, PBounds, PSubind, PDrange}
use Rattle.ada_tree.specs.PlainDecl.{PShape, OPlain, OArray, PInit, IOne, IList, IOthers, PDecl, DNumber, DObject, DEnumeration, DArray, DSubtype, DException, DIntIo, DPragma, DTask, DTaskBody, PDecls, no_decl, decl_then}
use Rattle.ada_tree.specs.Every.{EveryExpr, EveryBounds, EverySubind, EveryDrange, EveryShape, EveryInit, EveryDecl, EveryDecls}
use Rattle.ada_static_rules.specs.Scope.{kind_at}
use Rattle.ada_static_rules.specs.StaticValue.{mark_named}
use Rattle.ada_value.specs.declared.values.Value.{Value}
use Rattle.ada_value.specs.declared.values.Form.{Form}
use Rattle.ada_value.specs.declared.values.Limits.{Limits}
use Rattle.ada_value.specs.declared.values.Raised.{Raised}
use Rattle.ada_value.specs.Values.{position_of, lies_in, lower_bound, limits_of, limits_or}
use Rattle.ada_value.specs.Variables.{Variables, form_of_kind, form_of_mark, object_with}
use Rattle.ada_value.specs.Evaluating.{evaluated}
use Rattle.task_model.specs.Starting.{known_range, indicated, marked_form, plain_form, array_form, form_of, value_or_lower, initial, value_count, initials, object_of, with_objects, is_in_types, declared_objects, after_declaration, objects_of}
use Rattle.task_laws.specs.legal.rewritten_types.Agreement.{scalar_only, Agrees}
use Rattle.task_laws.specs.legal.rewritten_values.Values.{old_names}
use Rattle.task_laws.specs.legal.rewritten_values.Laws.{FormsAlike, ObjectsAlike, MarkedForm}
use Rattle.task_laws.proofs.legal.rewritten_values.Saying.{values-alike}
use Rattle.task_laws.proofs.legal.rewritten_values.Evaluating.{expr-alike, narrowed-alike, range-alike}

module _ (old : ℕ → Bool) (T U : TypeTable) (h : Agrees old T U) where
  -- ---- what an object is

  indicated-alike : (m : Mark) (b : Option PBounds) → IfSome b (EveryBounds (old_names old) 2) → indicated T m b ≡ indicated U m b
  indicated-alike m b p = ap known_range (narrowed-alike old T U h (limits_of m) b 2 p [])

  -- the form of a mark, whose kind may be that of an array
  kind-form : (id : NameId) (m : Mark) (o : Option Kind) → old id.0 ≡ true → mark_named T id ≡ Some m → kind_at T m.kind ≡ o → form_of_kind T m o ≡ form_of_kind U m o
  kind-form id m (Some (kind.Array index first last part)) e f g =
      ap (λ (x : Option Mark). record { limits = limits_or x; index = Some record { kind = index; first = first; last = last } }) (h.part_marks id m index first last part e f g)
  kind-form id m (Some kind.Integer) e f g = refl
  kind-form id m (Some kind.Truth) e f g = refl
  kind-form id m (Some (kind.Enumeration names)) e f g = refl
  kind-form id m None e f g = refl

  mark-form : (id : NameId) (m : Mark) → old id.0 ≡ true → mark_named T id ≡ Some m → form_of_mark T m ≡ form_of_mark U m
  mark-form id m e f = kind-form id m (kind_at T m.kind) e f refl ∙ ap (form_of_kind U m) (h.mark_kinds id m e f)

  marked-alike : (x : PSubind) (m : Mark) (o : Option Limits) → EverySubind (old_names old) 2 x → form_of_mark T m ≡ form_of_mark U m → marked_form T x m o ≡ marked_form U x m o
  marked-alike x m None p e = ap (λ l. record { limits = l; index = None }) (indicated-alike m x.bounds p.1)
  marked-alike x m (Some index) p e = e

  plain-alike : (x : PSubind) (o : Option Mark) → EverySubind (old_names old) 2 x → mark_named T x.mark.name ≡ o → plain_form T x o ≡ plain_form U x o
  plain-alike x None p e = refl
  plain-alike x (Some m) p e =
      let f = mark-form x.mark.name m p.0 e in
      ap Some (marked-alike x m (form_of_mark T m).index p f ∙ ap (λ (g : Form). marked_form U x m g.index) f)

  row-alike : (index : PDrange) (x : PSubind) (o : Option Mark) → EveryDrange (old_names old) 2 index → EverySubind (old_names old) 2 x → array_form T index x o ≡ array_form U index x o
  row-alike index x None q p = refl
  row-alike index x (Some m) q p =
      ap Some (ap₂ (λ l r. record { limits = l; index = Some (known_range r) }) (indicated-alike m x.bounds p.1) (range-alike old T U h index 2 q []))

  pub form-alike : (shape : PShape) → EveryShape (old_names old) shape → form_of T shape ≡ form_of U shape
  form-alike (OPlain x) p = plain-alike x (mark_named T x.mark.name) p refl ∙ ap (plain_form U x) (h.marks x.mark.name p.0)
  form-alike (OArray index x) p = row-alike index x (mark_named T x.mark.name) p.0 p.1 ∙ ap (array_form U index x) (h.marks x.mark.name p.1.0)

  -- ---- initial values

  lower-alike : (l : Limits) → lower_bound T l ≡ lower_bound U l
  lower-alike l = values-alike old T U h l.kind l.first

  value-alike : (l : Limits) (r : Result Value Raised) → value_or_lower T l r ≡ value_or_lower U l r
  value-alike l (Ok v) = ap (λ x. if lies_in l (position_of v) then v else x) (lower-alike l)
  value-alike l (Err x) = lower-alike l

  initial-alike : (l : Limits) (e : PExpr) → EveryExpr (old_names old) 2 e → initial T l e ≡ initial U l e
  initial-alike l e p = ap (value_or_lower T l) (expr-alike old T U h e 2 p []) ∙ value-alike l (evaluated U [] e)

  list-alike : (l : Limits) (es : List PExpr) → AllByRecursion (EveryExpr (old_names old) 2) es → map (initial T l) es ≡ map (initial U l) es
  list-alike l [] p = refl
  list-alike l (e ∷ es) p = ap₂ (λ x xs. x ∷ xs) (initial-alike l e p.0) (list-alike l es p.1)

  initials-alike : (form : Form) (init : Option PInit) → IfSome init (EveryInit (old_names old)) → initials T form init ≡ initials U form init
  initials-alike form None p = ap (replicate (value_count form.index)) (lower-alike form.limits)
  initials-alike form (Some (IOne e)) p = ap (replicate (value_count form.index)) (initial-alike form.limits e p)
  initials-alike form (Some (IList es s)) p = list-alike form.limits es (recursion_from_All _ es p.1)
  initials-alike form (Some (IOthers e s)) p = ap (replicate (value_count form.index)) (initial-alike form.limits e p)

  -- ---- the objects of a unit

  named-alike : (form : Form) (init : Option PInit) → IfSome init (EveryInit (old_names old)) → (ws : List Word) (vars : Variables) → with_objects T form init ws vars ≡ with_objects U form init ws vars
  named-alike form init p [] vars = refl
  named-alike form init p (w ∷ ws) vars =
      ap (λ v. with_objects T form init ws (object_with w.name form v ∷ vars)) (initials-alike form init p) ∙ named-alike form init p ws (object_of U form init w ∷ vars)

  declared-alike : (in_main : Bool) (ws : List Word) (constant : Bool) (init : Option PInit) (o : Option Form) → IfSome init (EveryInit (old_names old)) → (vars : Variables) →
      declared_objects T in_main ws constant init o vars ≡ declared_objects U in_main ws constant init o vars
  declared-alike in_main ws constant init None p vars = refl
  declared-alike in_main ws constant init (Some form) p vars = ap (λ v. if is_in_types in_main constant form then vars else v) (named-alike form init p ws vars)

  declaration-alike : (in_main : Bool) (d : PDecl) → EveryDecl (old_names old) d → (vars : Variables) → after_declaration T in_main d vars ≡ after_declaration U in_main d vars
  declaration-alike in_main (DObject ws constant shape init s) p vars =
      declared-alike in_main ws constant init (form_of T shape) p.4 vars ∙ ap (λ o. declared_objects U in_main ws constant init o vars) (form-alike shape p.2)
  declaration-alike in_main (DNumber w e s) p vars = refl
  declaration-alike in_main (DEnumeration w ws s) p vars = refl
  declaration-alike in_main (DArray w r x s) p vars = refl
  declaration-alike in_main (DSubtype w x s) p vars = refl
  declaration-alike in_main (DException ws s) p vars = refl
  declaration-alike in_main (DIntIo w s) p vars = refl
  declaration-alike in_main (DPragma e s) p vars = refl
  declaration-alike in_main (DTask t s) p vars = refl
  declaration-alike in_main (DTaskBody w ds b s) p vars = refl

  pub unit-alike : (in_main : Bool) (ds : PDecls) → EveryDecls (old_names old) ds → (vars : Variables) → objects_of T in_main ds vars ≡ objects_of U in_main ds vars
  unit-alike in_main no_decl p vars = refl
  unit-alike in_main (decl_then d rest) p vars = ap (objects_of T in_main rest) (declaration-alike in_main d p.0 vars) ∙ unit-alike in_main rest p.1 (after_declaration U in_main d vars)

pub forms_alike : FormsAlike
forms_alike = form-alike

pub objects_alike : ObjectsAlike
objects_alike = unit-alike

-- ---- an object of a scalar mark

pub no-index : (T : TypeTable) (m : Mark) (o : Option Kind) → is_some (scalar_only o) ≡ true → (form_of_kind T m o).index ≡ None
no-index T m (Some (kind.Array index first last part)) e = absurd (true≢false (sym e))
no-index T m (Some kind.Integer) e = refl
no-index T m (Some kind.Truth) e = refl
no-index T m (Some (kind.Enumeration names)) e = refl
no-index T m None e = refl

pub marked_has_form : MarkedForm
marked_has_form T w m e f =
    ap (plain_form T record { mark = w; bounds = None }) e
    ∙ ap (λ o. Some (marked_form T record { mark = w; bounds = None } m o)) (no-index T m (kind_at T m.kind) f)
    ∙ ap (λ (o : Option Mark). Some record { limits = limits_or o; index = None }) (sym e)
