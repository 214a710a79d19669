-- What a name that means the same by two tables is in an expression and as a mark.
use Rattle.std.proofs.Common.{◌≡◌, ℕ, List, Option, Some, None, sym, ap, ◌∙◌}
use Rattle.ada_tree.specs.declared.static_types.Kind.{Kind}
use Rattle.ada_tree.specs.TypeTable.{TypeTable}
use Rattle.ada_static_rules.specs.Scope.{EntryPart, Thing, TypeMark, Variable, Reading, AsScalar, AsArray, AsNoValue, AsUnknown, AsUnclear, reading_of, Marking, ScalarMark, ArrayMark, TaskMark, NoMark, UnknownMark, UnclearMark, marking_of, scalar_kind, kind_at}
use Rattle.ada_static_rules.specs.ExprTypes.{name_kind, component_kind, if_kind}
use Rattle.task_laws.specs.legal.rewritten_types.Agreement.{scalar_only, IsScalar}
use Rattle.task_laws.specs.legal.alike_scopes.Alike.{SameScalar, SameArray, SameMark, of_values, of_arrays, IsNoValue, no_thing, a_task_type, a_task, a_task_object, a_task_array, the_procedure, a_unit, SameThing, same_type, same_variable, same_constant, same_parameter, same_loop_parameter, same_literal, same_exception, same_unclear, no_values}
use Rattle.task_laws.proofs.legal.alike_scopes.Marks.{kind-ranged, values-reading, values-marking, array-reading, array-marking}

-- ---- in an expression

-- no value stands there
pub data IsNothing (r : Reading) : Type 0 where
  is_no_value : r ≡ AsNoValue → IsNothing r
  is_unknown : r ≡ AsUnknown → IsNothing r

-- what two names are in expressions by two tables
pub data SameReading (T U : TypeTable) (r q : Reading) : Type 0 where
  both_scalar : (k : ℕ) → IsScalar T k → r ≡ AsScalar k → q ≡ AsScalar k → SameReading T U r q
  both_rows : (index part part' : ℕ) → SameScalar T U part part' → r ≡ AsArray index part → q ≡ AsArray index part' → SameReading T U r q
  both_nothing : IsNothing r → IsNothing q → SameReading T U r q
  both_unclear : r ≡ AsUnclear → q ≡ AsUnclear → SameReading T U r q

-- what is no value is none in an expression
pub nothing-read : (T : TypeTable) (a : Option Thing) → IsNoValue a → IsNothing (reading_of T a)
nothing-read T a (no_thing e) = is_unknown (ap (reading_of T) e)
nothing-read T a (a_task_type entries e) = is_no_value (ap (reading_of T) e)
nothing-read T a (a_task entries e) = is_no_value (ap (reading_of T) e)
nothing-read T a (a_task_object entries e) = is_no_value (ap (reading_of T) e)
nothing-read T a (a_task_array range entries e) = is_no_value (ap (reading_of T) e)
nothing-read T a (the_procedure e) = is_no_value (ap (reading_of T) e)
nothing-read T a (a_unit e) = is_no_value (ap (reading_of T) e)

-- ---- as a mark

-- no mark of values stands there
pub data IsNoMark (m : Marking) : Type 0 where
  is_task_mark : (entries : List EntryPart) → m ≡ TaskMark entries → IsNoMark m
  is_no_mark : m ≡ NoMark → IsNoMark m
  is_unknown_mark : m ≡ UnknownMark → IsNoMark m

pub data SameMarking (T U : TypeTable) (p q : Marking) : Type 0 where
  both_scalars : (m n : ℕ) (x : SameScalar T U m n) → p ≡ ScalarMark m x.range.kind → q ≡ ScalarMark n x.range.kind → SameMarking T U p q
  both_arrays : (m n : ℕ) (x : SameArray T U m n) → p ≡ ArrayMark m record { kind = x.index; first = x.first; last = x.last } x.left_part →
      q ≡ ArrayMark n record { kind = x.index; first = x.first; last = x.last } x.right_part → SameMarking T U p q
  both_no_marks : IsNoMark p → IsNoMark q → SameMarking T U p q
  both_unclear_marks : p ≡ UnclearMark → q ≡ UnclearMark → SameMarking T U p q

pub nothing-marked : (T : TypeTable) (a : Option Thing) → IsNoValue a → IsNoMark (marking_of T a)
nothing-marked T a (no_thing e) = is_unknown_mark (ap (marking_of T) e)
nothing-marked T a (a_task_type entries e) = is_task_mark entries (ap (marking_of T) e)
nothing-marked T a (a_task entries e) = is_no_mark (ap (marking_of T) e)
nothing-marked T a (a_task_object entries e) = is_no_mark (ap (marking_of T) e)
nothing-marked T a (a_task_array range entries e) = is_no_mark (ap (marking_of T) e)
nothing-marked T a (the_procedure e) = is_no_mark (ap (marking_of T) e)
nothing-marked T a (a_unit e) = is_no_mark (ap (marking_of T) e)

module _ (T U : TypeTable) (kinds : (k : ℕ) (x : Kind) → scalar_only (kind_at T k) ≡ Some x → scalar_only (kind_at U k) ≡ Some x) where
  -- a kind of values of the one table is one of the other
  pub scalar-too : (k : ℕ) → IsScalar T k → IsScalar U k
  scalar-too k h = (h.0, kinds k h.0 h.1)

  -- an object of these marks
  object-reading : (m n : ℕ) → SameMark T U m n → (r q : Reading) → r ≡ reading_of T (Some (Variable m)) → q ≡ reading_of U (Some (Variable n)) → SameReading T U r q
  object-reading m n (of_values x) r q e f =
      both_scalar x.range.kind x.kind (e ∙ values-reading T m x.range x.left x.kind) (f ∙ values-reading U n x.range x.right (scalar-too x.range.kind x.kind))
  object-reading m n (of_arrays x) r q e f =
      both_rows x.index x.left_part x.right_part x.parts
      (e ∙ array-reading T m x.left_mark x.index x.first x.last x.left_part x.left x.left_kind)
      (f ∙ array-reading U n x.right_mark x.index x.first x.last x.right_part x.right x.right_kind)

  pub reading-same : (a b : Option Thing) → SameThing T U a b → SameReading T U (reading_of T a) (reading_of U b)
  reading-same a b (same_type m n e f x) = both_nothing (is_no_value (ap (reading_of T) e)) (is_no_value (ap (reading_of U) f))
  reading-same a b (same_variable m n e f x) = object-reading m n x _ _ (ap (reading_of T) e) (ap (reading_of U) f)
  reading-same a b (same_constant m n e f x) = object-reading m n x _ _ (ap (reading_of T) e) (ap (reading_of U) f)
  reading-same a b (same_parameter mode m n e f x) = object-reading m n x _ _ (ap (reading_of T) e) (ap (reading_of U) f)
  reading-same a b (same_loop_parameter m n e f x) = object-reading m n x _ _ (ap (reading_of T) e) (ap (reading_of U) f)
  reading-same a b (same_literal k e f x) = both_scalar k x (ap (reading_of T) e) (ap (reading_of U) f)
  reading-same a b (same_exception e f) = both_nothing (is_no_value (ap (reading_of T) e)) (is_no_value (ap (reading_of U) f))
  reading-same a b (same_unclear e f) = both_unclear (ap (reading_of T) e) (ap (reading_of U) f)
  reading-same a b (no_values x y) = both_nothing (nothing-read T a x) (nothing-read U b y)

  type-marking : (m n : ℕ) → SameMark T U m n → (p q : Marking) → p ≡ marking_of T (Some (TypeMark m)) → q ≡ marking_of U (Some (TypeMark n)) → SameMarking T U p q
  type-marking m n (of_values x) p q e f =
      both_scalars m n x (e ∙ values-marking T m x.range x.left x.kind) (f ∙ values-marking U n x.range x.right (scalar-too x.range.kind x.kind))
  type-marking m n (of_arrays x) p q e f =
      both_arrays m n x
      (e ∙ array-marking T m x.left_mark x.index x.first x.last x.left_part x.left x.left_kind)
      (f ∙ array-marking U n x.right_mark x.index x.first x.last x.right_part x.right x.right_kind)

  pub marking-same : (a b : Option Thing) → SameThing T U a b → SameMarking T U (marking_of T a) (marking_of U b)
  marking-same a b (same_type m n e f x) = type-marking m n x _ _ (ap (marking_of T) e) (ap (marking_of U) f)
  marking-same a b (same_variable m n e f x) = both_no_marks (is_no_mark (ap (marking_of T) e)) (is_no_mark (ap (marking_of U) f))
  marking-same a b (same_constant m n e f x) = both_no_marks (is_no_mark (ap (marking_of T) e)) (is_no_mark (ap (marking_of U) f))
  marking-same a b (same_parameter mode m n e f x) = both_no_marks (is_no_mark (ap (marking_of T) e)) (is_no_mark (ap (marking_of U) f))
  marking-same a b (same_loop_parameter m n e f x) = both_no_marks (is_no_mark (ap (marking_of T) e)) (is_no_mark (ap (marking_of U) f))
  marking-same a b (same_literal k e f x) = both_no_marks (is_no_mark (ap (marking_of T) e)) (is_no_mark (ap (marking_of U) f))
  marking-same a b (same_exception e f) = both_no_marks (is_no_mark (ap (marking_of T) e)) (is_no_mark (ap (marking_of U) f))
  marking-same a b (same_unclear e f) = both_unclear_marks (ap (marking_of T) e) (ap (marking_of U) f)
  marking-same a b (no_values x y) = both_no_marks (nothing-marked T a x) (nothing-marked U b y)

-- ---- kinds

pub nothing-kind : (r : Reading) → IsNothing r → name_kind r ≡ None
nothing-kind r (is_no_value e) = ap name_kind e
nothing-kind r (is_unknown e) = ap name_kind e

pub nothing-part : (T : TypeTable) (r : Reading) (o : Option ℕ) → IsNothing r → component_kind T r o ≡ None
nothing-part T r o (is_no_value e) = ap (λ x. component_kind T x o) e
nothing-part T r o (is_unknown e) = ap (λ x. component_kind T x o) e

pub no-mark-kind : (m : Marking) → IsNoMark m → scalar_kind m ≡ None
no-mark-kind m (is_task_mark entries e) = ap scalar_kind e
no-mark-kind m (is_no_mark e) = ap scalar_kind e
no-mark-kind m (is_unknown_mark e) = ap scalar_kind e

module _ (T U : TypeTable) where
  -- the kind of a name
  pub name-same : (r q : Reading) → SameReading T U r q → name_kind r ≡ name_kind q
  name-same r q (both_scalar k h e f) = ap name_kind e ∙ sym (ap name_kind f)
  name-same r q (both_rows index part part' h e f) = ap name_kind e ∙ sym (ap name_kind f)
  name-same r q (both_nothing x y) = nothing-kind r x ∙ sym (nothing-kind q y)
  name-same r q (both_unclear e f) = ap name_kind e ∙ sym (ap name_kind f)

  -- that of a component
  pub component-same : (r q : Reading) (o : Option ℕ) → SameReading T U r q → component_kind T r o ≡ component_kind U q o
  component-same r q o (both_scalar k h e f) = ap (λ x. component_kind T x o) e ∙ sym (ap (λ x. component_kind U x o) f)
  component-same r q o (both_rows index part part' h e f) =
      ap (λ x. component_kind T x o) e
      ∙ ap (if_kind index o) (kind-ranged T part h.range h.left ∙ sym (kind-ranged U part' h.range h.right))
      ∙ sym (ap (λ x. component_kind U x o) f)
  component-same r q o (both_nothing x y) = nothing-part T r o x ∙ sym (nothing-part U q o y)
  component-same r q o (both_unclear e f) = ap (λ x. component_kind T x o) e ∙ sym (ap (λ x. component_kind U x o) f)

  -- that of a mark
  pub scalar-same : (p q : Marking) → SameMarking T U p q → scalar_kind p ≡ scalar_kind q
  scalar-same p q (both_scalars m n x e f) = ap scalar_kind e ∙ sym (ap scalar_kind f)
  scalar-same p q (both_arrays m n x e f) = ap scalar_kind e ∙ sym (ap scalar_kind f)
  scalar-same p q (both_no_marks x y) = no-mark-kind p x ∙ sym (no-mark-kind q y)
  scalar-same p q (both_unclear_marks e f) = ap scalar_kind e ∙ sym (ap scalar_kind f)
