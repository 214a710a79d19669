-- Actuals of a call that go to variables, and to which variables come: an actual that is written is a variable or a formal that can be written, and
-- so may be read and assigned.
use Rattle.std.proofs.Common.{◌≡◌, ℕ, ◌==◌, Bool, true, false, if◌then◌else◌, [], Option, Some, None, refl, sym, ap, true≢false, eqb-true}
use Rattle.std.proofs.lemmas.Bool.{eq-eqb}
use Rattle.ada_tree.specs.declared.naming.NameId.{NameId}
use Rattle.ada_tree.specs.declared.naming.Span.{Span}
use Rattle.ada_tree.specs.declared.statements.ParMode.{ParMode}
use Rattle.ada_tree.specs.declared.statements.ParMode.TheVariants.{Both}
use Rattle.ada_tree.specs.declared.static_types.Kind.{Kind}
use Rattle.ada_tree.specs.declared.static_types.Kind.TheVariants as kind
use Rattle.ada_tree.specs.declared.static_types.Mark.{Mark}
use Rattle.ada_tree.specs.TypeTable.{TypeTable}
use Rattle.ada_tree.specs.PlainExpr.{EName}
use Rattle.ada_tree.specs.PlainStmt.{PTarget}
use Rattle.ada_static_rules.specs.Scope.{Scope, Thing, TypeMark, TaskType, SingleTask, TaskObject, TaskArray, Variable, ConstantObject, Parameter, LoopParameter, Literal, AnException, MainProcedure, AnotherUnit, Unclear, Reading, AsScalar, AsArray, AsNoValue, AsUnknown, AsUnclear, meaning, reading, reading_of, reading_of_mark, reading_of_kind, kind_at, mark_at}
use Rattle.ada_static_rules.specs.ExprTypes.{name_kind, is_other_kind}
use Rattle.ada_static_rules.specs.Demand.{node, writes, is_actual}
use Rattle.ada_static_rules.specs.Sites.{site}
use Rattle.ada_static_rules.specs.RuleMismatch.{no_value, target_kind}
use Rattle.ada_static_rules.specs.RuleNotVariable.{is_variable, is_array, whole_written}
use Rattle.ada_static_rules.specs.RuleArrayUse.{whole_array}
use Rattle.task_laws.specs.legal.alike_scopes.Laws.{IsMetBut}
use Rattle.normal_laws.proofs.structure.typed.Places.{met-node, met-writes}

-- ---- what can be written has a value

kind-valued : (k : ℕ) (o : Option Kind) (s : Span) → no_value (reading_of_kind k o) s ≡ []
kind-valued k (Some kind.Integer) s = refl
kind-valued k (Some kind.Truth) s = refl
kind-valued k (Some (kind.Enumeration names)) s = refl
kind-valued k (Some (kind.Array index first last part)) s = refl
kind-valued k None s = refl

mark-valued : (T : TypeTable) (o : Option Mark) (s : Span) → no_value (reading_of_mark T o) s ≡ []
mark-valued T (Some m) s = kind-valued m.kind (kind_at T m.kind) s
mark-valued T None s = refl

variable-valued : (T : TypeTable) (o : Option Thing) (s : Span) → is_variable o ≡ true → no_value (reading_of T o) s ≡ []
variable-valued T None s h = refl
variable-valued T (Some (Variable m)) s h = mark-valued T (mark_at T m) s
variable-valued T (Some (Parameter mode m)) s h = mark-valued T (mark_at T m) s
variable-valued T (Some Unclear) s h = refl
variable-valued T (Some (TypeMark m)) s h = absurd (true≢false (sym h))
variable-valued T (Some (TaskType es)) s h = absurd (true≢false (sym h))
variable-valued T (Some (SingleTask es)) s h = absurd (true≢false (sym h))
variable-valued T (Some (TaskObject es)) s h = absurd (true≢false (sym h))
variable-valued T (Some (TaskArray range es)) s h = absurd (true≢false (sym h))
variable-valued T (Some (ConstantObject m)) s h = absurd (true≢false (sym h))
variable-valued T (Some (LoopParameter m)) s h = absurd (true≢false (sym h))
variable-valued T (Some (Literal k)) s h = absurd (true≢false (sym h))
variable-valued T (Some AnException) s h = absurd (true≢false (sym h))
variable-valued T (Some MainProcedure) s h = absurd (true≢false (sym h))
variable-valued T (Some AnotherUnit) s h = absurd (true≢false (sym h))

written-variable : (r : Reading) (b : Bool) (s : Span) → whole_array r s ≡ [] → whole_written (is_array r) b s ≡ [] → b ≡ true
written-variable (AsScalar k) true s a w = refl
written-variable (AsScalar k) false s a w = cc
written-variable (AsArray index part) b s a w = cc
written-variable AsNoValue true s a w = refl
written-variable AsNoValue false s a w = cc
written-variable AsUnknown true s a w = refl
written-variable AsUnknown false s a w = cc
written-variable AsUnclear true s a w = refl
written-variable AsUnclear false s a w = cc

-- the name of an actual that is written, as what is assigned
abbrev pub actual_target : NameId → Span → PTarget
actual_target id s = record { name = record { name = id; span = s }; index = None }

module _ (c : Scope) (id : NameId) (s : Span) where
  -- an actual that is written and read may be read as any expression
  pub both-read : IsMetBut (site c (is_actual Both (EName id s))) → IsMetBut (site c (node false (EName id s)))
  both-read m = met-node c false (EName id s) record {
    known = m.known;
    matched = variable-valued c.types (meaning c id) s (written-variable (reading c id) (is_variable (meaning c id)) s m.arrays m.variable);
    readable = m.readable;
    counted = refl;
    arrays = m.arrays;
    texts = refl;
  }

  -- and one that is written may be assigned
  pub actual-written : (mode : ParMode) → IsMetBut (site c (is_actual mode (EName id s))) → IsMetBut (site c (writes (actual_target id s)))
  actual-written mode m = met-writes c (actual_target id s) record { known = m.known; matched = refl; variable = m.variable; counted = refl; arrays = m.arrays }

  -- its kind as a target is that as an expression
  pub target-name : target_kind c (actual_target id s) ≡ name_kind (reading c id)
  target-name = refl

-- no other kind, the other way round
pub other-turned : (k : ℕ) (o : Option ℕ) → is_other_kind (Some k) o ≡ false → is_other_kind o (Some k) ≡ false
other-turned k None e = refl
other-turned k (Some j) e = by_test (k == j) refl e
  where
    by_test : (b : Bool) → (k == j) ≡ b → (if b then false else true) ≡ false → (if j == k then false else true) ≡ false
    by_test true f g = ap (λ b. if b then false else true) (eq-eqb j k (sym (eqb-true k j f)))
    by_test false f g = absurd (true≢false g)
