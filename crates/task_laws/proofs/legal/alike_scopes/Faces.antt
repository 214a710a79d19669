-- What the static rules see of a name that means the same by two tables: either it is the same on both sides, or the name means no value on either.
use Rattle.std.proofs.Common.{◌≡◌, ℕ, Bool, true, false, not, ◌||◌, if◌then◌else◌, List, [], ◌∷◌, Option, Some, is_some, ◌⊎◌, inl, inr, refl, sym, ap, ◌∙◌, subst}
use Rattle.common_lemmas.proofs.Lists.{not_empty}
use Rattle.common_lemmas.proofs.Truth.{clash}
use Rattle.ada_tree.specs.declared.naming.Span.{Span}
use Rattle.ada_tree.specs.declared.naming.Word.{Word}
use Rattle.ada_tree.specs.declared.statements.ParMode.{ParMode}
use Rattle.ada_tree.specs.declared.statements.ParMode.TheVariants.{Take, Give, Both}
use Rattle.ada_tree.specs.declared.static_types.Kind.{Kind}
use Rattle.ada_tree.specs.TypeTable.{TypeTable}
use Rattle.ada_static_rules.specs.Scope.{Range, EntryPart, Thing, TypeMark, Variable, Parameter, Reading, reading_of, Marking, ArrayMark, TaskMark, NoMark, marking_of, kind_at}
use Rattle.ada_static_rules.specs.Demand.{MarkUse, scalar_only, or_array, or_task, or_array_or_task}
use Rattle.ada_static_rules.specs.RuleMismatch.{no_value, is_allowed}
use Rattle.ada_static_rules.specs.RuleNotVariable.{is_variable, is_array, unless, whole_written}
use Rattle.ada_static_rules.specs.RuleReadOut.{out_formal}
use Rattle.ada_static_rules.specs.RuleNotException.{no_exception}
use Rattle.ada_static_rules.specs.RuleArgCount.{index_on_scalar}
use Rattle.ada_static_rules.specs.RuleArrayUse.{whole_array}
use Rattle.task_laws.specs.legal.rewritten_types.Agreement.{scalar_only as only_scalar}
use Rattle.task_laws.specs.legal.rewritten_types.Rewriting.{is_no_task}
use Rattle.task_laws.specs.legal.alike_scopes.Old.{allows_task}
use Rattle.task_laws.specs.legal.alike_scopes.Alike.{SameMark, of_values, of_arrays, IsNoValue, no_thing, a_task_type, a_task, a_task_object, a_task_array, the_procedure, a_unit, SameThing, same_type, same_variable, same_constant, same_parameter, same_loop_parameter, same_literal, same_exception, same_unclear, no_values}
use Rattle.task_laws.proofs.legal.alike_scopes.Marks.{values-reading, values-marking, array-reading, array-marking}
use Rattle.task_laws.proofs.legal.alike_scopes.Readings.{IsNothing, is_no_value, is_unknown, SameReading, both_scalar, both_rows, both_nothing, both_unclear, scalar-too}

-- ---- what hangs on the reading alone

nothing-index : (r : Reading) (sp : Span) → IsNothing r → index_on_scalar r sp ≡ []
nothing-index r sp (is_no_value e) = ap (λ x. index_on_scalar x sp) e
nothing-index r sp (is_unknown e) = ap (λ x. index_on_scalar x sp) e

nothing-whole : (r : Reading) (sp : Span) → IsNothing r → whole_array r sp ≡ []
nothing-whole r sp (is_no_value e) = ap (λ x. whole_array x sp) e
nothing-whole r sp (is_unknown e) = ap (λ x. whole_array x sp) e

nothing-array : (r : Reading) → IsNothing r → is_array r ≡ false
nothing-array r (is_no_value e) = ap is_array e
nothing-array r (is_unknown e) = ap is_array e

module _ (T U : TypeTable) where
  pub index-same : (r q : Reading) (sp : Span) → SameReading T U r q → index_on_scalar r sp ≡ index_on_scalar q sp
  index-same r q sp (both_scalar k h e f) = ap (λ x. index_on_scalar x sp) e ∙ sym (ap (λ x. index_on_scalar x sp) f)
  index-same r q sp (both_rows index part part' h e f) = ap (λ x. index_on_scalar x sp) e ∙ sym (ap (λ x. index_on_scalar x sp) f)
  index-same r q sp (both_nothing x y) = nothing-index r sp x ∙ sym (nothing-index q sp y)
  index-same r q sp (both_unclear e f) = ap (λ x. index_on_scalar x sp) e ∙ sym (ap (λ x. index_on_scalar x sp) f)

  pub whole-same : (r q : Reading) (sp : Span) → SameReading T U r q → whole_array r sp ≡ whole_array q sp
  whole-same r q sp (both_scalar k h e f) = ap (λ x. whole_array x sp) e ∙ sym (ap (λ x. whole_array x sp) f)
  whole-same r q sp (both_rows index part part' h e f) = ap (λ x. whole_array x sp) e ∙ sym (ap (λ x. whole_array x sp) f)
  whole-same r q sp (both_nothing x y) = nothing-whole r sp x ∙ sym (nothing-whole q sp y)
  whole-same r q sp (both_unclear e f) = ap (λ x. whole_array x sp) e ∙ sym (ap (λ x. whole_array x sp) f)

  pub array-same : (r q : Reading) → SameReading T U r q → is_array r ≡ is_array q
  array-same r q (both_scalar k h e f) = ap is_array e ∙ sym (ap is_array f)
  array-same r q (both_rows index part part' h e f) = ap is_array e ∙ sym (ap is_array f)
  array-same r q (both_nothing x y) = nothing-array r x ∙ sym (nothing-array q y)
  array-same r q (both_unclear e f) = ap is_array e ∙ sym (ap is_array f)

-- ---- what hangs on the meaning

-- what the rules see of a name is the same on both sides
pub record SameFace (T U : TypeTable) (a b : Option Thing) : Type 0 where
  pub seen : is_some a ≡ is_some b
  pub variable : is_variable a ≡ is_variable b
  pub out : (sp : Span) → out_formal a sp ≡ out_formal b sp
  pub exception : (w : Word) → no_exception a w ≡ no_exception b w
  pub value : (sp : Span) → no_value (reading_of T a) sp ≡ no_value (reading_of U b) sp
  pub allowed : (u : MarkUse) → is_allowed u (marking_of T a) ≡ is_allowed u (marking_of U b)

-- the name means no value on both sides
pub record AreNoValues (a b : Option Thing) : Type 0 where
  pub left : IsNoValue a
  pub right : IsNoValue b

-- two names with fixed meanings, of which the rules see the same
face-of : (T U : TypeTable) (a b : Option Thing) (x y : Thing) → a ≡ Some x → b ≡ Some y → SameFace T U (Some x) (Some y) → SameFace T U a b
face-of T U a b x y e f h = subst (λ z. SameFace T U z b) (sym e) (subst (SameFace T U (Some x)) (sym f) h)

array-allowed : (u : MarkUse) (m n : ℕ) (r : Range) (part part' : ℕ) → is_allowed u (ArrayMark m r part) ≡ is_allowed u (ArrayMark n r part')
array-allowed scalar_only m n r part part' = refl
array-allowed or_array m n r part part' = refl
array-allowed or_task m n r part part' = refl
array-allowed or_array_or_task m n r part part' = refl

out-same : (mode : ParMode) (m n : ℕ) (sp : Span) → out_formal (Some (Parameter mode m)) sp ≡ out_formal (Some (Parameter mode n)) sp
out-same Take m n sp = refl
out-same Give m n sp = refl
out-same Both m n sp = refl

parameter-same : (mode : ParMode) (m n : ℕ) → is_variable (Some (Parameter mode m)) ≡ is_variable (Some (Parameter mode n))
parameter-same Take m n = refl
parameter-same Give m n = refl
parameter-same Both m n = refl

module _ (T U : TypeTable) (kinds : (k : ℕ) (x : Kind) → only_scalar (kind_at T k) ≡ Some x → only_scalar (kind_at U k) ≡ Some x) where
  -- an object has a value
  object-value : (m n : ℕ) → SameMark T U m n → (sp : Span) → no_value (reading_of T (Some (Variable m))) sp ≡ no_value (reading_of U (Some (Variable n))) sp
  object-value m n (of_values x) sp =
      ap (λ r. no_value r sp) (values-reading T m x.range x.left x.kind)
      ∙ sym (ap (λ r. no_value r sp) (values-reading U n x.range x.right (scalar-too T U kinds x.range.kind x.kind)))
  object-value m n (of_arrays x) sp =
      ap (λ r. no_value r sp) (array-reading T m x.left_mark x.index x.first x.last x.left_part x.left x.left_kind)
      ∙ sym (ap (λ r. no_value r sp) (array-reading U n x.right_mark x.index x.first x.last x.right_part x.right x.right_kind))

  -- a type is allowed in the same places
  type-allowed : (m n : ℕ) → SameMark T U m n → (u : MarkUse) → is_allowed u (marking_of T (Some (TypeMark m))) ≡ is_allowed u (marking_of U (Some (TypeMark n)))
  type-allowed m n (of_values x) u =
      ap (is_allowed u) (values-marking T m x.range x.left x.kind) ∙ sym (ap (is_allowed u) (values-marking U n x.range x.right (scalar-too T U kinds x.range.kind x.kind)))
  type-allowed m n (of_arrays x) u =
      ap (is_allowed u) (array-marking T m x.left_mark x.index x.first x.last x.left_part x.left x.left_kind)
      ∙ array-allowed u m n _ x.left_part x.right_part
      ∙ sym (ap (is_allowed u) (array-marking U n x.right_mark x.index x.first x.last x.right_part x.right x.right_kind))

  pub face-same : (a b : Option Thing) → SameThing T U a b → SameFace T U a b ⊎ AreNoValues a b
  face-same a b (same_type m n e f x) =
      inl (face-of T U a b _ _ e f record { seen = refl; variable = refl; out = λ sp. refl; exception = λ w. refl; value = λ sp. refl; allowed = type-allowed m n x })
  face-same a b (same_variable m n e f x) =
      inl (face-of T U a b _ _ e f record { seen = refl; variable = refl; out = λ sp. refl; exception = λ w. refl; value = object-value m n x; allowed = λ u. refl })
  face-same a b (same_constant m n e f x) =
      inl (face-of T U a b _ _ e f record { seen = refl; variable = refl; out = λ sp. refl; exception = λ w. refl; value = object-value m n x; allowed = λ u. refl })
  face-same a b (same_parameter mode m n e f x) =
      inl (face-of T U a b _ _ e f record { seen = refl; variable = parameter-same mode m n; out = out-same mode m n; exception = λ w. refl; value = object-value m n x; allowed = λ u. refl })
  face-same a b (same_loop_parameter m n e f x) =
      inl (face-of T U a b _ _ e f record { seen = refl; variable = refl; out = λ sp. refl; exception = λ w. refl; value = object-value m n x; allowed = λ u. refl })
  face-same a b (same_literal k e f x) =
      inl (face-of T U a b _ _ e f record { seen = refl; variable = refl; out = λ sp. refl; exception = λ w. refl; value = λ sp. refl; allowed = λ u. refl })
  face-same a b (same_exception e f) =
      inl (face-of T U a b _ _ e f record { seen = refl; variable = refl; out = λ sp. refl; exception = λ w. refl; value = λ sp. refl; allowed = λ u. refl })
  face-same a b (same_unclear e f) =
      inl (face-of T U a b _ _ e f record { seen = refl; variable = refl; out = λ sp. refl; exception = λ w. refl; value = λ sp. refl; allowed = λ u. refl })
  face-same a b (no_values x y) = inr record { left = x; right = y }

-- ---- what is no value is refused

-- a name that is seen nowhere, where it stands
abbrev pub unless_seen : Option Thing → Span → List Span
unless_seen a sp = if is_some a then [] else sp ∷ []

refused : {A : Type 0} (xs : List Span) (sp : Span) → xs ≡ sp ∷ [] → xs ≡ [] → A
refused xs sp e f = absurd (not_empty sp [] (sym e ∙ f))

-- as a value
pub no-value-there : {A : Type 0} (T : TypeTable) (a : Option Thing) (sp sq : Span) → IsNoValue a → unless_seen a sp ≡ [] → no_value (reading_of T a) sq ≡ [] → A
no-value-there T a sp sq (no_thing e) h k = refused _ sp (ap (λ x. unless_seen x sp) e) h
no-value-there T a sp sq (a_task_type entries e) h k = refused _ sq (ap (λ x. no_value (reading_of T x) sq) e) k
no-value-there T a sp sq (a_task entries e) h k = refused _ sq (ap (λ x. no_value (reading_of T x) sq) e) k
no-value-there T a sp sq (a_task_object entries e) h k = refused _ sq (ap (λ x. no_value (reading_of T x) sq) e) k
no-value-there T a sp sq (a_task_array range entries e) h k = refused _ sq (ap (λ x. no_value (reading_of T x) sq) e) k
no-value-there T a sp sq (the_procedure e) h k = refused _ sq (ap (λ x. no_value (reading_of T x) sq) e) k
no-value-there T a sp sq (a_unit e) h k = refused _ sq (ap (λ x. no_value (reading_of T x) sq) e) k

-- as what is written, with an index and without
pub no-variable-at : {A : Type 0} (a : Option Thing) (sp sq : Span) → IsNoValue a → unless_seen a sp ≡ [] → unless (is_variable a) sq ≡ [] → A
no-variable-at a sp sq (no_thing e) h k = refused _ sp (ap (λ x. unless_seen x sp) e) h
no-variable-at a sp sq (a_task_type entries e) h k = refused _ sq (ap (λ x. unless (is_variable x) sq) e) k
no-variable-at a sp sq (a_task entries e) h k = refused _ sq (ap (λ x. unless (is_variable x) sq) e) k
no-variable-at a sp sq (a_task_object entries e) h k = refused _ sq (ap (λ x. unless (is_variable x) sq) e) k
no-variable-at a sp sq (a_task_array range entries e) h k = refused _ sq (ap (λ x. unless (is_variable x) sq) e) k
no-variable-at a sp sq (the_procedure e) h k = refused _ sq (ap (λ x. unless (is_variable x) sq) e) k
no-variable-at a sp sq (a_unit e) h k = refused _ sq (ap (λ x. unless (is_variable x) sq) e) k

abbrev written : TypeTable → Option Thing → Span → List Span
written T a sp = whole_written (is_array (reading_of T a)) (is_variable a) sp

pub no-variable-there : {A : Type 0} (T : TypeTable) (a : Option Thing) (sp sq : Span) → IsNoValue a → unless_seen a sp ≡ [] → whole_written (is_array (reading_of T a)) (is_variable a) sq ≡ [] → A
no-variable-there T a sp sq (no_thing e) h k = refused _ sp (ap (λ x. unless_seen x sp) e) h
no-variable-there T a sp sq (a_task_type entries e) h k = refused _ sq (ap (λ x. written T x sq) e) k
no-variable-there T a sp sq (a_task entries e) h k = refused _ sq (ap (λ x. written T x sq) e) k
no-variable-there T a sp sq (a_task_object entries e) h k = refused _ sq (ap (λ x. written T x sq) e) k
no-variable-there T a sp sq (a_task_array range entries e) h k = refused _ sq (ap (λ x. written T x sq) e) k
no-variable-there T a sp sq (the_procedure e) h k = refused _ sq (ap (λ x. written T x sq) e) k
no-variable-there T a sp sq (a_unit e) h k = refused _ sq (ap (λ x. written T x sq) e) k

-- as an exception
pub no-exception-there : {A : Type 0} (a : Option Thing) (w : Word) → IsNoValue a → unless_seen a w.span ≡ [] → no_exception a w ≡ [] → A
no-exception-there a w (no_thing e) h k = refused _ w.span (ap (λ x. unless_seen x w.span) e) h
no-exception-there a w (a_task_type entries e) h k = refused _ w.span (ap (λ x. no_exception x w) e) k
no-exception-there a w (a_task entries e) h k = refused _ w.span (ap (λ x. no_exception x w) e) k
no-exception-there a w (a_task_object entries e) h k = refused _ w.span (ap (λ x. no_exception x w) e) k
no-exception-there a w (a_task_array range entries e) h k = refused _ w.span (ap (λ x. no_exception x w) e) k
no-exception-there a w (the_procedure e) h k = refused _ w.span (ap (λ x. no_exception x w) e) k
no-exception-there a w (a_unit e) h k = refused _ w.span (ap (λ x. no_exception x w) e) k

-- as a mark, where no task type may stand, or none does
abbrev task_free : MarkUse → Marking → Bool
task_free u m = not (allows_task u) || is_no_task m

no-task-type : {A : Type 0} (u : MarkUse) (entries : List EntryPart) (sp : Span) → task_free u (TaskMark entries) ≡ true → (if is_allowed u (TaskMark entries) then [] else sp ∷ []) ≡ [] → A
no-task-type scalar_only entries sp h k = absurd (not_empty sp [] k)
no-task-type or_array entries sp h k = absurd (not_empty sp [] k)
no-task-type or_task entries sp h k = clash h
no-task-type or_array_or_task entries sp h k = clash h

no-mark-allowed : (u : MarkUse) → is_allowed u NoMark ≡ false
no-mark-allowed scalar_only = refl
no-mark-allowed or_array = refl
no-mark-allowed or_task = refl
no-mark-allowed or_array_or_task = refl

abbrev wrong : MarkUse → Marking → Span → List Span
wrong u m sp = if is_allowed u m then [] else sp ∷ []

no-mark-wrong : (u : MarkUse) (sp : Span) → wrong u NoMark sp ≡ sp ∷ []
no-mark-wrong u sp = ap (λ b. if b then [] else sp ∷ []) (no-mark-allowed u)

pub no-type-there : {A : Type 0} (T : TypeTable) (a : Option Thing) (sp sq : Span) (u : MarkUse) → IsNoValue a → (not (allows_task u) || is_no_task (marking_of T a)) ≡ true →
    unless_seen a sp ≡ [] → (if is_allowed u (marking_of T a) then [] else sq ∷ []) ≡ [] → A
no-type-there T a sp sq u (no_thing e) f h k = refused _ sp (ap (λ x. unless_seen x sp) e) h
no-type-there T a sp sq u (a_task_type entries e) f h k =
    no-task-type u entries sq (sym (ap (λ x. task_free u (marking_of T x)) e) ∙ f) (sym (ap (λ x. wrong u (marking_of T x) sq) e) ∙ k)
no-type-there T a sp sq u (a_task entries e) f h k = refused _ sq (ap (λ x. wrong u (marking_of T x) sq) e ∙ no-mark-wrong u sq) k
no-type-there T a sp sq u (a_task_object entries e) f h k = refused _ sq (ap (λ x. wrong u (marking_of T x) sq) e ∙ no-mark-wrong u sq) k
no-type-there T a sp sq u (a_task_array range entries e) f h k = refused _ sq (ap (λ x. wrong u (marking_of T x) sq) e ∙ no-mark-wrong u sq) k
no-type-there T a sp sq u (the_procedure e) f h k = refused _ sq (ap (λ x. wrong u (marking_of T x) sq) e ∙ no-mark-wrong u sq) k
no-type-there T a sp sq u (a_unit e) f h k = refused _ sq (ap (λ x. wrong u (marking_of T x) sq) e ∙ no-mark-wrong u sq) k
