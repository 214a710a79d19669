-- What is known of the types of a legal program gives what accepts and objects want of them.
use Rattle.std.proofs.Common.{◌≡◌, ℕ, Bool, true, false, Option, Some, None, is_none, is_some, refl, sym, ap, ◌∙◌, true≢false}
use Rattle.std.proofs.lemmas.Option.{none-some}
use Rattle.ada_tree.specs.declared.naming.NameId.{NameId}
use Rattle.ada_tree.specs.declared.static_types.Kind.{Kind}
use Rattle.ada_tree.specs.declared.static_types.Kind.TheVariants.{Integer, Truth, Enumeration, Array}
use Rattle.ada_tree.specs.declared.static_types.Mark.{Mark}
use Rattle.ada_tree.specs.TypeTable.{TypeTable}
use Rattle.ada_tree.specs.PlainExpr.{PSubind}
use Rattle.ada_tree.specs.PlainDecl.{OPlain, OArray, DNumber, DObject, DEnumeration, DArray, DSubtype, DException, DIntIo, DPragma, DTask, DTaskBody, PDecls, no_decl, decl_then}
use Rattle.ada_tree.specs.PlainProgram.{PProgram}
use Rattle.ada_static_rules.specs.Scope.{Scope, Thing, Marking, ScalarMark, marking_of, marking, meaning, kind_at}
use Rattle.ada_static_rules.specs.RuleMismatch.{is_allowed}
use Rattle.ada_static_rules.specs.Demand.{scalar_only}
use Rattle.ada_value.specs.declared.values.Form.{Form}
use Rattle.ada_value.specs.declared.values.Limits.{Limits}
use Rattle.ada_value.specs.Variables.{form_of_kind, form_of_mark}
use Rattle.syn_event.specs.DeclaredTasks.{tasks_of}
use Rattle.task_model.specs.Starting.{marked_form, plain_form, form_of}
use Rattle.task_laws.specs.legal.rewritten_types.Agreement.{scalar_only as scalar_kind_only}
use Rattle.task_laws.specs.legal.types.Typed.{IsScalarName, HasTypedTasks}
use Rattle.task_laws.proofs.legal.types.ExprKinds.{scalar-mark}
use Rattle.task_laws.proofs.legal.types.MainScopes.{Stands, AllStand}
use Rattle.task_laws.proofs.legal.types.TaskTypes.{name-here}
use Rattle.normal_laws.proofs.existence.units.Lowers.{AreWorth}
use Rattle.normal_laws.proofs.existence.units.ArrayConstants.{AreScalarStill}
use Rattle.common_lemmas.proofs.Lists.{all_weaker}
use Rattle.common_lemmas.proofs.Options.{some_same}

-- a scalar mark is no array
scalar-index : (T : TypeTable) (y : Mark) (o : Option Kind) (k : Kind) → scalar_kind_only o ≡ Some k → (form_of_kind T y o).index ≡ None
scalar-index T y (Some Integer) k e = refl
scalar-index T y (Some Truth) k e = refl
scalar-index T y (Some (Enumeration ids)) k e = refl
scalar-index T y (Some (Array index first last part)) k e = absurd (none-some k e)
scalar-index T y None k e = absurd (none-some k e)

module _ (T : TypeTable) (s : Scope) (stands : Stands T s) where
  is-meant : (id : NameId) (m k : ℕ) → marking s id ≡ ScalarMark m k → is_some (meaning s id) ≡ true
  is-meant id m k e = by_thing (meaning s id) e
    where
      by_thing : (o : Option Thing) → marking_of s.types o ≡ ScalarMark m k → is_some o ≡ true
      by_thing (Some x) f = refl
      by_thing None f = absurd (true≢false (ap is_scalar f))
        where
          is_scalar : Marking → Bool
          is_scalar (ScalarMark a b) = false
          is_scalar _ = true

  named : (id : NameId) (m k : ℕ) → marking s id ≡ ScalarMark m k → IsScalarName T id
  named id m k e = name-here T s stands id (scalar-mark s stands.over.clear id (is-meant id m k e) (ap (is_allowed scalar_only) e))

  -- an object of a scalar mark is scalar by the whole table
  scalar-still : (x : PSubind) (m k : ℕ) → marking s x.mark.name ≡ ScalarMark m k → (form : Form) → form_of T (OPlain x) ≡ Some form → is_none form.index ≡ true
  scalar-still x m k e form f =
      let h = named x.mark.name m k e in
      let index : (form_of_mark T h.mark).index ≡ None = scalar-index T h.mark (kind_at T h.mark.kind) h.scalar.0 h.scalar.1 in
      let same : marked_form T x h.mark (form_of_mark T h.mark).index ≡ form = some_same (sym (ap (plain_form T x) h.named) ∙ f) in
      sym (ap (λ (y : Form). is_none y.index) same) ∙ ap (λ (o : Option Limits). is_none (marked_form T x h.mark o).index) index

-- so it is along the declarations of main
pub stand-still : (T : TypeTable) (ds : PDecls) (s : Scope) → AllStand T s ds → AreScalarStill T s ds
stand-still T no_decl s h = tt
stand-still T (decl_then (DObject ws true (OPlain x) i sp) rest) s h = ((λ m k. scalar-still T s h.0 x m k), stand-still T rest _ h.2)
stand-still T (decl_then (DObject ws true (OArray r x) i sp) rest) s h = (tt, stand-still T rest _ h.2)
stand-still T (decl_then (DObject ws false x i sp) rest) s h = (tt, stand-still T rest _ h.2)
stand-still T (decl_then (DNumber w e sp) rest) s h = (tt, stand-still T rest _ h.2)
stand-still T (decl_then (DEnumeration w ws sp) rest) s h = (tt, stand-still T rest _ h.2)
stand-still T (decl_then (DArray w i x sp) rest) s h = (tt, stand-still T rest _ h.2)
stand-still T (decl_then (DSubtype w x sp) rest) s h = (tt, stand-still T rest _ h.2)
stand-still T (decl_then (DException ws sp) rest) s h = (tt, stand-still T rest _ h.2)
stand-still T (decl_then (DIntIo w sp) rest) s h = (tt, stand-still T rest _ h.2)
stand-still T (decl_then (DPragma e sp) rest) s h = (tt, stand-still T rest _ h.2)
stand-still T (decl_then (DTask t sp) rest) s h = (tt, stand-still T rest _ h.2)
stand-still T (decl_then (DTaskBody w ds b sp) rest) s h = (tt, stand-still T rest _ h.2)

-- the marks of formals have lower bounds that are values
pub formals-worth : (p : PProgram) → HasTypedTasks p → AreWorth p
formals-worth p h =
    all_weaker _ _ (tasks_of p)
    (λ t k. all_weaker _ _ t.entries (λ e q. all_weaker _ _ e.formals (λ f n. record { mark = n.mark; named = n.named; first = n.first.same }) q.formals) k.entries) h.tasks
