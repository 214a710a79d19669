-- What objects of a mark are, and what their initial value is for.
use Rattle.std.specs.Prelude.{◌≡◌, ◌⊎◌, ℕ, zero, suc, ℤ, Bool, true, false, List, [], ◌∷◌, ◌++◌, length, slice_get, Option, Some, None, option_map, refl}
use Rattle.std.proofs.Common.{sym, ap, ◌∙◌, subst, ⊎_elim}
use Rattle.ada_tree.specs.declared.static_types.Kind.{Kind}
use Rattle.ada_tree.specs.declared.static_types.Kind.TheVariants.{Integer, Truth, Enumeration, Array}
use Rattle.ada_tree.specs.declared.static_types.Mark.{Mark}
use Rattle.ada_tree.specs.TypeTable.{TypeTable}
use Rattle.ada_tree.specs.PlainExpr.{PBounds, PSubind, PDrange}
use Rattle.ada_tree.specs.PlainDecl.{PInit, OPlain, OArray}
use Rattle.ada_static_rules.specs.Scope.{Scope, Range, Thing, TypeMark, TaskType, SingleTask, TaskObject, TaskArray, Variable, ConstantObject, Parameter, LoopParameter, Literal, AnException, MainProcedure, AnotherUnit, Unclear, Marking, ScalarMark, ArrayMark, TaskMark, NoMark, UnknownMark, UnclearMark, meaning, marking, marking_of, marking_of_mark, marking_of_kind, mark_at, kind_at, range_of_mark}
use Rattle.ada_static_rules.specs.ExprTypes.{static_in, range_between}
use Rattle.ada_static_rules.specs.Demand.{for_scalar, for_array, initializes, Site}
use Rattle.ada_static_rules.specs.Declaring.{Declared, of_made, made_none, made_range, made_array, mark_for, add_mark, subind_made, made_subind, marked_range, drange_range, plain_object, array_object}
use Rattle.ada_static_rules.specs.Sites.{site, scalar_init_sites, array_init_sites, init_sites, object_marking}
use Rattle.ada_scopes.specs.Readings.{plain_marking}
use Rattle.ada_scopes.specs.Entries.{plain_range}
use Rattle.ada_decl_rules.specs.objects.inner.Initials.{holder_sites}
use Rattle.ada_expr_rules.specs.Ranges.{made_as}
use Rattle.ada_decl_rules.specs.objects.inner.Plans.{scalar_sites, array_sites, IsPlanned}
use Rattle.ada_scopes.specs.declared.denotations.Range as code_range
use Rattle.ada_scopes.specs.declared.readings.Marking as code
use Rattle.ada_scopes.specs.declared.readings.Marking.TheVariants as code_mark
use Rattle.ada_decl_rules.specs.declared.objects.initials.Holder.{Holder}
use Rattle.ada_expr_rules.specs.declared.ranges.Making.{Making}
use Rattle.ada_decl_rules.specs.declared.objects.plans.Plan.TheVariants.{Object, ConstrainedArray}
use Rattle.common_lemmas.proofs.Lists.{last_at}
use Rattle.common_lemmas.proofs.Options.{not_missing}

-- ---- lists that are one longer

kept : {X : Type 0} (xs : List X) (y x : X) (i : ℕ) → slice_get xs i ≡ Some x → slice_get (xs ++ y ∷ []) i ≡ Some x
kept [] y x i h = absurd (not_missing x h)
kept (z ∷ xs) y x zero h = h
kept (z ∷ xs) y x (suc i) h = kept xs y x i h

-- ---- marks that are found

abbrev range_of : Mark → Range
range_of mark = record { kind = mark.kind; first = mark.first; last = mark.last }

-- a scalar mark is found at its place, and its kind is a scalar one
pub record IsScalar (types : TypeTable) (m k : ℕ) : Type 0 where
  pub mark : Mark
  pub mark_is : mark_at types m ≡ Some mark
  pub marking_is : marking_of_mark types m (mark_at types m) ≡ ScalarMark m k
  pub kind_is : (n : ℕ) → marking_of_kind n k (kind_at types k) ≡ ScalarMark n k

-- what is known of a mark that is found by its name
abbrev pub Found : TypeTable → Marking → Type 0
Found types (ScalarMark m k) = IsScalar types m k
Found types (ArrayMark m range part) = marking_of_mark types m (mark_at types m) ≡ ArrayMark m range part
Found types (TaskMark entries) = Unit {0}
Found types NoMark = Unit {0}
Found types UnknownMark = Unit {0}
Found types UnclearMark = Unit {0}

scalar_found : (types : TypeTable) (m : ℕ) (mark : Mark) (kind : Kind) → mark_at types m ≡ Some mark → kind_at types mark.kind ≡ Some kind
    → ((n k : ℕ) → marking_of_kind n k (Some kind) ≡ ScalarMark n k) → IsScalar types m mark.kind
scalar_found types m mark kind h g scalar = record {
  mark = mark;
  mark_is = h;
  marking_is = ap (marking_of_mark types m) h ∙ ap (marking_of_kind m mark.kind) g ∙ scalar m mark.kind;
  kind_is = λ n. ap (marking_of_kind n mark.kind) g ∙ scalar n mark.kind;
}

kind_found : (types : TypeTable) (m : ℕ) (mark : Mark) (kind : Option Kind) → mark_at types m ≡ Some mark → kind_at types mark.kind ≡ kind
    → Found types (marking_of_kind m mark.kind kind)
kind_found types m mark None h g = tt
kind_found types m mark (Some Integer) h g = scalar_found types m mark Integer h g (λ n k. refl)
kind_found types m mark (Some Truth) h g = scalar_found types m mark Truth h g (λ n k. refl)
kind_found types m mark (Some (Enumeration names)) h g = scalar_found types m mark (Enumeration names) h g (λ n k. refl)
kind_found types m mark (Some (Array index first last part)) h g = ap (marking_of_mark types m) h ∙ ap (marking_of_kind m mark.kind) g

mark_found : (types : TypeTable) (m : ℕ) (mark : Option Mark) → mark_at types m ≡ mark → Found types (marking_of_mark types m mark)
mark_found types m None h = tt
mark_found types m (Some mark) h = kind_found types m mark (kind_at types mark.kind) h refl

pub found_as : (types : TypeTable) (thing : Option Thing) → Found types (marking_of types thing)
found_as types None = tt
found_as types (Some (TypeMark m)) = mark_found types m (mark_at types m) refl
found_as types (Some (TaskType entries)) = tt
found_as types (Some (SingleTask entries)) = tt
found_as types (Some (TaskObject entries)) = tt
found_as types (Some (TaskArray range entries)) = tt
found_as types (Some (Variable m)) = tt
found_as types (Some (ConstantObject m)) = tt
found_as types (Some (Parameter mode m)) = tt
found_as types (Some (LoopParameter m)) = tt
found_as types (Some (Literal k)) = tt
found_as types (Some AnException) = tt
found_as types (Some MainProcedure) = tt
found_as types (Some AnotherUnit) = tt
found_as types (Some Unclear) = tt

-- ---- objects of a scalar mark

abbrev as_scalar : Scope → Option Range → PInit → List Site
as_scalar scope range value = scalar_init_sites scope range value ++ site scope (initializes for_scalar value) ∷ []

abbrev as_array : Scope → Range → Option Range → PInit → List Site
as_array scope index range value = array_init_sites scope range value ++ site scope (initializes (for_array index) value) ∷ []

-- an object of a mark that is a scalar one in the table that its declaration leaves
scalar_held : (scope : Scope) (constant : Bool) (types : TypeTable) (m k : ℕ) (range : Range) (value : PInit)
    → marking_of_mark types m (mark_at types m) ≡ ScalarMark m k → range_of_mark types m ≡ Some range
    → scalar_sites scope (Some range) value ≡ init_sites scope types (object_marking (of_made constant record { types = types; mark = Some m })) value
scalar_held scope true types m k range value h g = ap (λ r. as_scalar scope r value) (sym g) ∙ ap (λ mk. init_sites scope types mk value) (sym h)
scalar_held scope false types m k range value h g = ap (λ r. as_scalar scope r value) (sym g) ∙ ap (λ mk. init_sites scope types mk value) (sym h)

-- an object of a refused declaration
none_held : (scope : Scope) (constant : Bool) (types : TypeTable) (value : PInit)
    → scalar_sites scope None value ≡ init_sites scope types (object_marking (of_made constant (made_none types))) value
none_held scope true types value = refl
none_held scope false types value = refl

between_held : (scope : Scope) (constant : Bool) (m k : ℕ) (low high : Option ℤ) (value : PInit) → IsScalar scope.types m k
    → scalar_sites scope (range_between k low high) value ≡ init_sites scope (of_made constant (made_range scope.types (range_between k low high))).types (object_marking (of_made constant (made_range scope.types (range_between k low high)))) value
between_held scope constant m k None high value h = none_held scope constant scope.types value
between_held scope constant m k (Some low) None value h = none_held scope constant scope.types value
between_held scope constant m k (Some low) (Some high) value h =
    let range : Range = record { kind = k; first = low; last = high } in
    let types = add_mark scope.types (mark_for None range) in
    let n = length scope.types.marks in
    let at : mark_at types n ≡ Some (mark_for None range) = last_at scope.types.marks (mark_for None range) in
    scalar_held scope constant types n k range value (ap (marking_of_mark types n) at ∙ h.kind_is n) (ap (option_map range_of) at)

pub object_held : (scope : Scope) (constant : Bool) (marking : Marking) (bounds : Option PBounds) (value : PInit) → Found scope.types marking
    → scalar_sites scope (marked_range scope marking bounds) value ≡ init_sites scope (of_made constant (subind_made scope marking bounds)).types (object_marking (of_made constant (subind_made scope marking bounds))) value
object_held scope constant (ScalarMark m k) None value h =
    ap (λ o. scalar_sites scope (option_map range_of o) value) h.mark_is
    ∙ scalar_held scope constant scope.types m k (range_of h.mark) value h.marking_is (ap (option_map range_of) h.mark_is)
object_held scope constant (ScalarMark m k) (Some b) value h = between_held scope constant m k (static_in scope k b.first) (static_in scope k b.last) value h
object_held scope constant (ArrayMark m range part) bounds value h = none_held scope constant scope.types value
object_held scope constant (TaskMark entries) bounds value h = none_held scope constant scope.types value
object_held scope constant NoMark bounds value h = none_held scope constant scope.types value
object_held scope constant UnknownMark bounds value h = none_held scope constant scope.types value
object_held scope constant UnclearMark bounds value h = none_held scope constant scope.types value

-- an object of an array type
pub array_held : (scope : Scope) (constant : Bool) (m : ℕ) (range : Range) (part : ℕ) (value : PInit) → Found scope.types (ArrayMark m range part)
    → as_array scope range (range_of_mark scope.types part) value ≡ init_sites scope scope.types (object_marking (of_made constant record { types = scope.types; mark = Some m })) value
array_held scope true m range part value h = ap (λ mk. init_sites scope scope.types mk value) (sym h)
array_held scope false m range part value h = ap (λ mk. init_sites scope scope.types mk value) (sym h)

-- ---- objects of an array type of their own

abbrev array_of : TypeTable → Range → ℕ → TypeTable
array_of types index part = (made_array None types (Some index) (Some part)).types

abbrev array_mark : TypeTable → Range → Mark
array_mark types index = record { name = None; kind = length types.kinds; first = index.first; last = index.last }

own_marking : (types : TypeTable) (index : Range) (part : ℕ) → marking_of_mark (array_of types index part) (length types.marks) (mark_at (array_of types index part) (length types.marks)) ≡ ArrayMark (length types.marks) index part
own_marking types index part =
    ap (marking_of_mark (array_of types index part) (length types.marks)) (last_at types.marks (array_mark types index))
    ∙ ap (marking_of_kind (length types.marks) (length types.kinds)) (last_at types.kinds (Array index.kind index.first index.last part))

own_held : (scope : Scope) (constant : Bool) (types : TypeTable) (index : Range) (part : ℕ) (mark : Mark) (value : PInit) → mark_at types part ≡ Some mark
    → array_sites scope (Some index) (Some (range_of mark)) value ≡ init_sites scope (array_of types index part) (object_marking (of_made constant (made_array None types (Some index) (Some part)))) value
own_held scope true types index part mark value h =
    ap (λ o. as_array scope index (option_map range_of o) value) (sym (kept types.marks (array_mark types index) mark part h))
    ∙ ap (λ mk. init_sites scope (array_of types index part) mk value) (sym (own_marking types index part))
own_held scope false types index part mark value h =
    ap (λ o. as_array scope index (option_map range_of o) value) (sym (kept types.marks (array_mark types index) mark part h))
    ∙ ap (λ mk. init_sites scope (array_of types index part) mk value) (sym (own_marking types index part))

between_array : (scope : Scope) (constant : Bool) (index : Range) (k : ℕ) (low high : Option ℤ) (value : PInit)
    → array_sites scope (Some index) (range_between k low high) value
    ≡ init_sites scope (made_array None (made_range scope.types (range_between k low high)).types (Some index) (made_range scope.types (range_between k low high)).mark).types
    (object_marking (of_made constant (made_array None (made_range scope.types (range_between k low high)).types (Some index) (made_range scope.types (range_between k low high)).mark))) value
between_array scope constant index k None high value = none_held scope constant scope.types value
between_array scope constant index k (Some low) None value = none_held scope constant scope.types value
between_array scope constant index k (Some low) (Some high) value =
    let mark : Mark = mark_for None record { kind = k; first = low; last = high } in
    own_held scope constant (add_mark scope.types mark) index (length scope.types.marks) mark value (last_at scope.types.marks mark)

known_array : (scope : Scope) (constant : Bool) (index : Range) (marking : Marking) (bounds : Option PBounds) (value : PInit) → Found scope.types marking
    → array_sites scope (Some index) (marked_range scope marking bounds) value
    ≡ init_sites scope (made_array None (subind_made scope marking bounds).types (Some index) (subind_made scope marking bounds).mark).types
    (object_marking (of_made constant (made_array None (subind_made scope marking bounds).types (Some index) (subind_made scope marking bounds).mark))) value
known_array scope constant index (ScalarMark m k) None value h =
    ap (λ o. array_sites scope (Some index) (option_map range_of o) value) h.mark_is
    ∙ own_held scope constant scope.types index m h.mark value h.mark_is
known_array scope constant index (ScalarMark m k) (Some b) value h = between_array scope constant index k (static_in scope k b.first) (static_in scope k b.last) value
known_array scope constant index (ArrayMark m range part) bounds value h = none_held scope constant scope.types value
known_array scope constant index (TaskMark entries) bounds value h = none_held scope constant scope.types value
known_array scope constant index NoMark bounds value h = none_held scope constant scope.types value
known_array scope constant index UnknownMark bounds value h = none_held scope constant scope.types value
known_array scope constant index UnclearMark bounds value h = none_held scope constant scope.types value

pub constrained_held : (scope : Scope) (constant : Bool) (index : Option Range) (marking : Marking) (bounds : Option PBounds) (value : PInit) → Found scope.types marking
    → array_sites scope index (marked_range scope marking bounds) value
    ≡ init_sites scope (made_array None (subind_made scope marking bounds).types index (subind_made scope marking bounds).mark).types
    (object_marking (of_made constant (made_array None (subind_made scope marking bounds).types index (subind_made scope marking bounds).mark))) value
constrained_held scope constant None marking bounds value h = none_held scope constant (subind_made scope marking bounds).types value
constrained_held scope constant (Some index) marking bounds value h = known_array scope constant index marking bounds value h

-- ---- plans

-- a mark that is none of an array and of tasks, and one that is none of tasks
abbrev pub IsPlainMark : Marking → Type 0
IsPlainMark (ScalarMark m k) = Unit {0}
IsPlainMark (ArrayMark m range part) = ⊥
IsPlainMark (TaskMark entries) = ⊥
IsPlainMark NoMark = Unit {0}
IsPlainMark UnknownMark = Unit {0}
IsPlainMark UnclearMark = Unit {0}

abbrev pub IsNoTask : Marking → Type 0
IsNoTask (ScalarMark m k) = Unit {0}
IsNoTask (ArrayMark m range part) = Unit {0}
IsNoTask (TaskMark entries) = ⊥
IsNoTask NoMark = Unit {0}
IsNoTask UnknownMark = Unit {0}
IsNoTask UnclearMark = Unit {0}

pub no_other : (w : code.Marking) → ((m : ℕ) × (k : ℕ) × (w ≡ code_mark.Scalar m k)) ⊎ ((w ≡ code_mark.NoMark) ⊎ ((w ≡ code_mark.Unknown) ⊎ (w ≡ code_mark.Unclear))) → IsPlainMark (plain_marking w)
no_other w h =
    ⊎_elim (λ s. subst (λ v. IsPlainMark (plain_marking v)) (sym s.2) tt)
    (⊎_elim (λ e. subst (λ v. IsPlainMark (plain_marking v)) (sym e) tt)
    (⊎_elim (λ e. subst (λ v. IsPlainMark (plain_marking v)) (sym e) tt)
    (λ e. subst (λ v. IsPlainMark (plain_marking v)) (sym e) tt)))
    h

plain_no_task : (marking : Marking) → IsPlainMark marking → IsNoTask marking
plain_no_task (ScalarMark m k) h = tt
plain_no_task (ArrayMark m range part) h = tt
plain_no_task (TaskMark entries) h = h
plain_no_task NoMark h = tt
plain_no_task UnknownMark h = tt
plain_no_task UnclearMark h = tt

pub no_task : (w : code.Marking) → ((m : ℕ) × (r : code_range.Range) × (p : ℕ) × (w ≡ code_mark.Array m r p)) ⊎ (((m : ℕ) × (k : ℕ) × (w ≡ code_mark.Scalar m k)) ⊎ ((w ≡ code_mark.NoMark) ⊎ ((w ≡ code_mark.Unknown) ⊎ (w ≡ code_mark.Unclear)))) → IsNoTask (plain_marking w)
no_task w h = ⊎_elim (λ s. subst (λ v. IsNoTask (plain_marking v)) (sym s.3) tt) (λ o. plain_no_task (plain_marking w) (no_other w o)) h

of_plain : (scope : Scope) (constant : Bool) (marking : Marking) (x : PSubind) → IsPlainMark marking → of_made constant (made_subind scope x) ≡ plain_object scope constant marking x
of_plain scope constant (ScalarMark m k) x h = refl
of_plain scope constant (ArrayMark m range part) x h = absurd h
of_plain scope constant (TaskMark entries) x h = absurd h
of_plain scope constant NoMark x h = refl
of_plain scope constant UnknownMark x h = refl
of_plain scope constant UnclearMark x h = refl

abbrev own_array : Scope → Bool → PDrange → PSubind → Declared
own_array scope constant index x = of_made constant (made_array None (made_subind scope x).types (drange_range scope index) (made_subind scope x).mark)

of_array : (scope : Scope) (constant : Bool) (marking : Marking) (index : PDrange) (x : PSubind) → IsNoTask marking → own_array scope constant index x ≡ array_object scope constant marking index x
of_array scope constant (ScalarMark m k) index x h = refl
of_array scope constant (ArrayMark m range part) index x h = refl
of_array scope constant (TaskMark entries) index x h = absurd h
of_array scope constant NoMark index x h = refl
of_array scope constant UnknownMark index x h = refl
of_array scope constant UnclearMark index x h = refl

-- objects of a mark that is none of an array and of tasks
pub plain_planned : (scope : Scope) (x : PSubind) (making : Making) (holder : Holder) (range : Option Range) → IsPlainMark (marking scope x.mark.name)
    → made_as scope.types making ≡ made_subind scope x
    → range ≡ marked_range scope (marking scope x.mark.name) x.bounds
    → ((s : Scope) (value : PInit) → holder_sites s holder value ≡ scalar_sites s range value)
    → (constant : Bool) → IsPlanned scope constant (OPlain x) record { plan = Object making; holder = holder }
plain_planned scope x making holder range is_plain is_made is_range held constant =
    let same : of_made constant (made_subind scope x) ≡ plain_object scope constant (marking scope x.mark.name) x = of_plain scope constant (marking scope x.mark.name) x is_plain in
    record {
      declared_is = ap (of_made constant) is_made ∙ same;
      holder_is = λ value.
          held scope value
          ∙ ap (λ r. scalar_sites scope r value) is_range
          ∙ object_held scope constant (marking scope x.mark.name) x.bounds value (found_as scope.types (meaning scope x.mark.name))
          ∙ ap (λ d. init_sites scope d.types (object_marking d) value) same;
    }

-- arrays of a type of their own, whose components are no tasks
pub array_planned : (scope : Scope) (index : PDrange) (x : PSubind) (at : Option code_range.Range) (making : Making) (holder : Holder) (range : Option Range) → IsNoTask (marking scope x.mark.name)
    → option_map plain_range at ≡ drange_range scope index
    → made_as scope.types making ≡ made_subind scope x
    → range ≡ marked_range scope (marking scope x.mark.name) x.bounds
    → ((s : Scope) (value : PInit) → holder_sites s holder value ≡ array_sites s (option_map plain_range at) range value)
    → (constant : Bool) → IsPlanned scope constant (OArray index x) record { plan = ConstrainedArray at making; holder = holder }
array_planned scope index x at making holder range is_array is_index is_made is_range held constant =
    let same : own_array scope constant index x ≡ array_object scope constant (marking scope x.mark.name) index x = of_array scope constant (marking scope x.mark.name) index x is_array in
    record {
      declared_is =
          ap (λ m. of_made constant (made_array None m.types (option_map plain_range at) m.mark)) is_made
          ∙ ap (λ i. of_made constant (made_array None (made_subind scope x).types i (made_subind scope x).mark)) is_index
          ∙ same;
      holder_is = λ value.
          held scope value
          ∙ ap (λ i. array_sites scope i range value) is_index
          ∙ ap (λ r. array_sites scope (drange_range scope index) r value) is_range
          ∙ constrained_held scope constant (drange_range scope index) (marking scope x.mark.name) x.bounds value (found_as scope.types (meaning scope x.mark.name))
          ∙ ap (λ d. init_sites scope d.types (object_marking d) value) same;
    }
