-- The objects of a legal program start with values whose positions are numbers of INTEGER, and so have their subtypes' bounds.
use Rattle.std.proofs.Common.{◌≡◌, Bool, true, false, if◌then◌else◌, List, [], ◌∷◌, replicate, map, slice_index_or, Option, Some, None, Result, Ok, Err, pos, refl, sym, ◌∙◌, subst}
use Rattle.std.specs.List.{AllByRecursion}
use Rattle.std.proofs.lemmas.Option.{none-some}
use Rattle.common_lemmas.proofs.Options.{some_same}
use Rattle.ada_tree.specs.declared.naming.NameId.{NameId}
use Rattle.ada_tree.specs.declared.naming.Word.{Word}
use Rattle.ada_tree.specs.declared.static_types.Mark.{Mark}
use Rattle.ada_tree.specs.TypeTable.{TypeTable}
use Rattle.ada_static_rules.specs.StaticValue.{mark_named}
use Rattle.ada_tree.specs.PlainExpr.{PExpr, PSubind}
use Rattle.ada_tree.specs.PlainDecl.{PShape, OPlain, OArray, PInit, IOne, IList, IOthers, PDecl, DNumber, DObject, DEnumeration, DArray, DSubtype, DException, DIntIo, DPragma, DTask, DTaskBody, PDecls, no_decl, decl_then}
use Rattle.ada_value.specs.declared.values.Value.{Value}
use Rattle.ada_value.specs.declared.values.Value.TheVariants.{Number}
use Rattle.ada_value.specs.declared.values.Raised.{Raised}
use Rattle.ada_value.specs.declared.values.Form.{Form}
use Rattle.ada_value.specs.declared.values.Limits.{Limits}
use Rattle.ada_value.specs.Values.{position_of, lies_in, lower_bound, limits_of, limits_or}
use Rattle.ada_value.specs.Variables.{Object, Variables, value_there, form_of_mark}
use Rattle.ada_value.specs.Evaluating.{evaluated, narrowed, range_of}
use Rattle.task_model.specs.Starting.{known_range, marked_form, plain_form, array_form, form_of, value_or_lower, initial, value_count, initials, object_of, with_objects, is_in_types, declared_objects, after_declaration, objects_of}
use Rattle.task_laws.specs.legal.rewritten_types.Agreement.{Keeps}
use Rattle.task_laws.specs.legal.types.Typed.{IsSmall}
use Rattle.task_laws.proofs.legal.types.TypedValues.{anybody, IsTyped}
use Rattle.replay_runs.proofs.controls.indices.Bounded.{InInteger, AreInInteger, Gives, limits-in, worth-in, narrowed-in, lower-in}

-- the bounds of its subtype and the position of its value are numbers of INTEGER
pub record IsOfInteger (o : Object) : Type 0 where
  pub limits : AreInInteger o.limits
  pub value : InInteger (value_there o 0)

-- so it is where the object is no array
abbrev pub IfScalar : Object → Type 0
IfScalar o = o.index ≡ None → IsOfInteger o

abbrev FormIn : Form → Type 0
FormIn form = form.index ≡ None → AreInInteger form.limits

module _ (T R : TypeTable) (typed : IsTyped R) (keeps : Keeps anybody R T) (small : IsSmall T) where
  -- ---- forms

  mark-in : (id : NameId) (m : Mark) → mark_named T id ≡ Some m → AreInInteger (limits_of m)
  mark-in id m e = subst (λ (o : Option Mark). AreInInteger (limits_or o)) e (limits-in T R typed keeps small id)

  known-in : (r : Result Limits Raised) → Gives AreInInteger r → AreInInteger (known_range r)
  known-in (Ok l) h = h
  known-in (Err x) h = (refl, refl)

  marked-in : (x : PSubind) (m : Mark) → AreInInteger (limits_of m) → (i : Option Limits) → (form_of_mark T m).index ≡ i → FormIn (marked_form T x m i)
  marked-in x m h None e = λ n. known-in (narrowed T [] (limits_of m) x.bounds) (narrowed-in T R typed keeps small (limits_of m) x.bounds h)
  marked-in x m h (Some index) e = λ n. absurd (none-some index (sym n ∙ e))

  form-in : (shape : PShape) (form : Form) → form_of T shape ≡ Some form → FormIn form
  form-in (OPlain x) form e = by_mark (mark_named T x.mark.name) refl e
    where
      by_mark : (o : Option Mark) → mark_named T x.mark.name ≡ o → plain_form T x o ≡ Some form → FormIn form
      by_mark None f g = absurd (none-some form g)
      by_mark (Some m) f g = subst FormIn (some_same g) (marked-in x m (mark-in x.mark.name m f) (form_of_mark T m).index refl)
  form-in (OArray index x) form e = by_mark (mark_named T x.mark.name) e
    where
      by_mark : (o : Option Mark) → array_form T index x o ≡ Some form → FormIn form
      by_mark None g = absurd (none-some form g)
      by_mark (Some m) g = subst FormIn (some_same g) (λ n. absurd (none-some (known_range (range_of T [] index)) (sym n)))

  -- ---- values

  initial-in : (l : Limits) (e : PExpr) → AreInInteger l → InInteger (initial T l e)
  initial-in l e h = by_value (evaluated T [] e) (worth-in T R typed keeps small e)
    where
      by_test : (v : Value) → InInteger v → (b : Bool) → InInteger (if b then v else lower_bound T l)
      by_test v i true = i
      by_test v i false = lower-in T R typed keeps small l h

      by_value : (r : Result Value Raised) → Gives InInteger r → InInteger (value_or_lower T l r)
      by_value (Ok v) i = by_test v i (lies_in l (position_of v))
      by_value (Err x) i = lower-in T R typed keeps small l h

  one-in : (i : Option Limits) (v : Value) → i ≡ None → InInteger v → InInteger (slice_index_or (replicate (value_count i) v) 0 (Number (pos 0)))
  one-in None v e h = h
  one-in (Some index) v e h = absurd (none-some index (sym e))

  list-in : (l : Limits) (es : List PExpr) → AreInInteger l → InInteger (slice_index_or (map (initial T l) es) 0 (Number (pos 0)))
  list-in l [] h = refl
  list-in l (e ∷ es) h = initial-in l e h

  initials-in : (form : Form) (init : Option PInit) → form.index ≡ None → AreInInteger form.limits → InInteger (slice_index_or (initials T form init) 0 (Number (pos 0)))
  initials-in form None n h = one-in form.index _ n (lower-in T R typed keeps small form.limits h)
  initials-in form (Some (IOne e)) n h = one-in form.index _ n (initial-in form.limits e h)
  initials-in form (Some (IList es s)) n h = list-in form.limits es h
  initials-in form (Some (IOthers e s)) n h = one-in form.index _ n (initial-in form.limits e h)

  -- ---- objects

  object-in : (form : Form) (init : Option PInit) (w : Word) → FormIn form → IfScalar (object_of T form init w)
  object-in form init w h n = record { limits = h n; value = initials-in form init n (h n) }

  names-in : (form : Form) (init : Option PInit) (ws : List Word) (vars : Variables) → FormIn form → AllByRecursion IfScalar vars → AllByRecursion IfScalar (with_objects T form init ws vars)
  names-in form init [] vars h k = k
  names-in form init (w ∷ ws) vars h k = names-in form init ws (object_of T form init w ∷ vars) h (object-in form init w h, k)

  declared-in : (in_main : Bool) (ws : List Word) (constant : Bool) (init : Option PInit) (o : Option Form) (vars : Variables) → ((form : Form) → o ≡ Some form → FormIn form) → AllByRecursion IfScalar vars →
      AllByRecursion IfScalar (declared_objects T in_main ws constant init o vars)
  declared-in in_main ws constant init None vars h k = k
  declared-in in_main ws constant init (Some form) vars h k = by_test (is_in_types in_main constant form)
    where
      by_test : (b : Bool) → AllByRecursion IfScalar (if b then vars else with_objects T form init ws vars)
      by_test true = k
      by_test false = names-in form init ws vars (h form refl) k

  declaration-in : (in_main : Bool) (d : PDecl) (vars : Variables) → AllByRecursion IfScalar vars → AllByRecursion IfScalar (after_declaration T in_main d vars)
  declaration-in in_main (DObject ws constant shape init s) vars k = declared-in in_main ws constant init (form_of T shape) vars (form-in shape) k
  declaration-in in_main (DNumber name e s) vars k = k
  declaration-in in_main (DEnumeration name ws s) vars k = k
  declaration-in in_main (DArray name index x s) vars k = k
  declaration-in in_main (DSubtype name x s) vars k = k
  declaration-in in_main (DException ws s) vars k = k
  declaration-in in_main (DIntIo name s) vars k = k
  declaration-in in_main (DPragma e s) vars k = k
  declaration-in in_main (DTask t s) vars k = k
  declaration-in in_main (DTaskBody w objects its s) vars k = k

  pub objects-in : (in_main : Bool) (ds : PDecls) (vars : Variables) → AllByRecursion IfScalar vars → AllByRecursion IfScalar (objects_of T in_main ds vars)
  objects-in in_main no_decl vars k = k
  objects-in in_main (decl_then d rest) vars k = objects-in in_main rest (after_declaration T in_main d vars) (declaration-in in_main d vars k)
