-- Rule ChoiceBad: two choices of a case overlap, a case over INTEGER has no others, or another case leaves out a value and has no others (5.4). The values are those of the selector's subtype where it names an object, else all of its type. A left-out value is looked for only where no choice of the case is refused.
use Rattle.std.specs.Prelude.{ℕ, zero, suc, ℤ, pos, negsuc, ◌+ℤ◌, ◌-ℤ◌, int_le, Bool, true, false, not, ◌&&◌, ◌==◌, if◌then◌else◌, List, [], ◌∷◌, ◌++◌, length, Option, Some, None}
use Rattle.std.specs.List.{list_any, list_all}
use Rattle.ada_tree.specs.declared.naming.Span.{Span}
use Rattle.ada_tree.specs.declared.static_types.Kind.{Kind}
use Rattle.ada_tree.specs.declared.static_types.Kind.TheVariants.{Integer, Truth, Enumeration, Array}
use Rattle.ada_tree.specs.PlainExpr.{PExpr, EName, EIndex}
use Rattle.ada_tree.specs.PlainStmt.{PChoice}
use Rattle.ada_static_rules.specs.Scope.{Scope, integer_kind, Range, Thing, Variable, ConstantObject, Parameter, LoopParameter, Reading, AsArray, reading, meaning, kind_at, range_of_mark, and_then}
use Rattle.ada_static_rules.specs.ExprTypes.{expr_place, kind_of, static_in, range_between}
use Rattle.ada_static_rules.specs.Demand.{Demand, chooses}

-- all values of a scalar type
abbrev pub range_of_kind : ℕ → Option Kind → Option Range
range_of_kind k (Some Integer) = Some record { kind = k; first = negsuc 2147483647; last = pos 2147483647 }
range_of_kind k (Some Truth) = Some record { kind = k; first = pos 0; last = pos 1 }
range_of_kind k (Some (Enumeration names)) = Some record { kind = k; first = pos 0; last = pos (length names) -ℤ pos 1 }
range_of_kind k (Some (Array index first last part)) = None
range_of_kind k None = None

-- the mark of the object that an expression names: a variable, constant, formal or loop parameter, or a component
abbrev pub mark_of_thing : Option Thing → Option ℕ
mark_of_thing (Some (Variable m)) = Some m
mark_of_thing (Some (ConstantObject m)) = Some m
mark_of_thing (Some (Parameter mode m)) = Some m
mark_of_thing (Some (LoopParameter m)) = Some m
mark_of_thing _ = None

-- the mark of the components of an array (3.6)
abbrev pub mark_of_part : Reading → Option ℕ
mark_of_part (AsArray index part) = Some part
mark_of_part _ = None

-- the mark of the object or component that an expression names, none where it names no object (5.4)
abbrev pub mark_of_object : Scope → PExpr → Option ℕ
mark_of_object scope (EName id s) = mark_of_thing (meaning scope id)
mark_of_object scope (EIndex w e s) = mark_of_part (reading scope w.name)
mark_of_object scope _ = None

-- the values of a selector: those of the subtype of the object that it names, else those of its type
abbrev pub selected_range : Scope → PExpr → Option Range
selected_range scope e = of_mark (mark_of_object scope e)
  where
    of_mark : Option ℕ → Option Range
    of_mark (Some m) = range_of_mark scope.types m
    of_mark None = and_then (λ k. range_of_kind k (kind_at scope.types k)) (kind_of scope e)

-- the last bound of a choice, which is the first one where it is a single value
abbrev pub last_bound : PChoice → PExpr
last_bound choice = or_first choice.last
  where
    or_first : Option PExpr → PExpr
    or_first (Some e) = e
    or_first None = choice.first

-- the values of a choice of that kind, where they are static
abbrev pub choice_range : Scope → ℕ → PChoice → Option Range
choice_range scope k choice = range_between k (static_in scope k choice.first) (static_in scope k (last_bound choice))

-- the place of a choice, from its first bound to its last (3.7.3)
abbrev pub choice_span : PChoice → Span
choice_span choice = record { start = (expr_place choice.first).start; end = (expr_place (last_bound choice)).end }

-- two ranges have a value in common
abbrev pub do_overlap : Range → Range → Bool
do_overlap r q = int_le r.first r.last && int_le q.first q.last && int_le r.first q.last && int_le q.first r.last

-- the range of a choice is known, and it has a value in common with one of the ranges seen (5.4)
abbrev pub overlaps_one : List Range → Option Range → Bool
overlaps_one seen (Some range) = list_any (do_overlap range) seen
overlaps_one seen None = false

-- the ranges seen, with one more where it is known
abbrev pub with_range : Option Range → List Range → List Range
with_range (Some range) seen = range ∷ seen
with_range None seen = seen

-- the choices that overlap an earlier one; `seen` are the values of those before
abbrev pub overlapping : Scope → ℕ → List Range → List PChoice → List Span
overlapping scope k seen [] = []
overlapping scope k seen (choice ∷ rest) =
    (if overlaps_one seen (choice_range scope k choice) then choice_span choice ∷ [] else [])
    ++ overlapping scope k (with_range (choice_range scope k choice) seen) rest

-- the choice is static, not empty and within the values of the selector
abbrev pub is_good : Option Range → Option Range → Bool
is_good (Some values) (Some range) = int_le range.first range.last && int_le values.first range.first && int_le range.last values.last
is_good _ _ = false

-- each choice is static, not empty and within the values of the selector, and none overlaps an earlier one (5.4)
abbrev pub no_choice_refused : Scope → ℕ → Option Range → List PChoice → Bool
no_choice_refused scope k values choices =
    list_all (λ c. is_good values (choice_range scope k c)) choices && (length (overlapping scope k [] choices) == 0)

-- the n integers from one on
abbrev pub integers_from : ℤ → ℕ → List ℤ
integers_from z zero = []
integers_from z (suc n) = z ∷ integers_from (z +ℤ pos 1) n

-- an integer as a number of values, 0 where it is negative
abbrev pub how_many : ℤ → ℕ
how_many (pos n) = n
how_many (negsuc n) = 0

-- the values of a range, in order
abbrev pub values_in : Range → List ℤ
values_in range = integers_from range.first (how_many (range.last -ℤ range.first +ℤ pos 1))

-- the value lies in the range of a choice, where that range is known (5.4)
abbrev pub is_covered : ℤ → Option Range → Bool
is_covered z (Some range) = int_le range.first z && int_le z range.last
is_covered z None = false

-- some value of the selector is in no choice
abbrev pub leaves_out : Scope → ℕ → Option Range → List PChoice → Bool
leaves_out scope k (Some values) choices = list_any (λ z. not (list_any (λ c. is_covered z (choice_range scope k c)) choices)) (values_in values)
leaves_out scope k None choices = false

-- the values that are left out of a case without others
abbrev pub left_out : Scope → ℕ → Option Range → List PChoice → Bool
left_out scope k values choices = if k == integer_kind then true else no_choice_refused scope k values choices && leaves_out scope k values choices

-- what is refused of a case, where the kind of its selector is known (5.4)
abbrev pub bad_choices : Scope → Option ℕ → PExpr → List PChoice → Bool → Span → List Span
bad_choices scope (Some k) e choices others s =
    overlapping scope k [] choices
    ++ (if not others && left_out scope k (selected_range scope e) choices then s ∷ [] else [])
bad_choices scope None e choices others s = []

-- The choices that overlap an earlier one, and cases that leave out a value.
abbrev pub choice_bad : Scope → Demand → List Span
choice_bad scope (chooses e choices others s) = bad_choices scope (kind_of scope e) e choices others s
choice_bad scope _ = []
