-- The kind of a target and the values of a selector are the same in both scopes, and so is what is refused of the choices of a case.
use Rattle.std.proofs.Common.{◌≡◌, ℕ, Bool, true, not, ◌&&◌, ◌||◌, ◌==◌, if◌then◌else◌, List, [], ◌∷◌, ◌++◌, length, Option, Some, None, IfSome, refl, sym, ap, ap₂, ◌∙◌}
use Rattle.std.proofs.lemmas.Option.{none-some}
use Rattle.std.specs.List.{AllByRecursion, list_any, list_all}
use Rattle.common_lemmas.proofs.Lists.{not_empty}
use Rattle.ada_tree.specs.declared.naming.Span.{Span}
use Rattle.ada_tree.specs.declared.naming.Word.{Word}
use Rattle.ada_tree.specs.declared.static_types.Kind.{Kind}
use Rattle.ada_tree.specs.declared.static_types.Kind.TheVariants.{Integer, Truth, Enumeration, Array}
use Rattle.ada_tree.specs.TypeTable.{TypeTable}
use Rattle.ada_tree.specs.PlainExpr.{PExpr, EInteger, EName, EIndex, EAttribute, EAttributeOf, EParen, EUnary, EBinary}
use Rattle.ada_tree.specs.PlainStmt.{PTarget, PChoice}
use Rattle.ada_static_rules.specs.Scope.{Scope, Range, Thing, Variable, Reading, AsScalar, AsArray, AsNoValue, AsUnknown, AsUnclear, reading_of, reading, meaning, kind_at, range_of_mark, integer_kind, and_then}
use Rattle.ada_static_rules.specs.ExprTypes.{name_kind, kind_of, range_between}
use Rattle.ada_static_rules.specs.RuleMismatch.{target_kind}
use Rattle.ada_static_rules.specs.RuleArrayUse.{whole_array, array_in_node}
use Rattle.ada_static_rules.specs.RuleChoiceBad.{range_of_kind, mark_of_thing, mark_of_part, mark_of_object, selected_range, last_bound, choice_range, choice_span, overlaps_one, with_range, overlapping, is_good, no_choice_refused, values_in, is_covered, leaves_out, left_out, bad_choices}
use Rattle.task_laws.specs.legal.rewritten_types.Agreement.{scalar_only, IsScalar}
use Rattle.task_laws.specs.legal.alike_scopes.Alike.{SameScalar, SameMark, of_values, of_arrays, IsNoValue, no_thing, a_task_type, a_task, a_task_object, a_task_array, the_procedure, a_unit, SameThing, same_type, same_variable, same_constant, same_parameter, same_loop_parameter, same_literal, same_exception, same_unclear, no_values, SameNames}
use Rattle.task_laws.specs.legal.alike_scopes.Old.{IsOldExpr, IsOldTarget, IsOldChoice}
use Rattle.task_laws.specs.legal.alike_scopes.Laws.{SelectorsAreSame, TargetsAreSame}
use Rattle.task_laws.proofs.legal.alike_scopes.Marks.{array-reading}
use Rattle.task_laws.proofs.legal.alike_scopes.Readings.{IsNothing, is_no_value, is_unknown, SameReading, both_scalar, both_rows, both_nothing, both_unclear, name-same}
use Rattle.task_laws.proofs.legal.alike_scopes.Exprs.{read-same, kind-same, kind-each, Each, static-in-same}

-- ---- targets

-- a name without an index has the kind of the name
plain-target : (s : Scope) (w : Word) (r : Reading) → reading s w.name ≡ r → target_kind s record { name = w; index = None } ≡ name_kind r
plain-target s w (AsScalar k) h = rw h refl
plain-target s w (AsArray index part) h = rw h refl
plain-target s w AsNoValue h = rw h refl
plain-target s w AsUnknown h = rw h refl
plain-target s w AsUnclear h = rw h refl

module _ (old : ℕ → Bool) (s t : Scope) (n : SameNames old s t) where
  target-at : (w : Word) (i : Option PExpr) → old w.name.0 ≡ true → IfSome i (IsOldExpr old) → target_kind s record { name = w; index = i } ≡ target_kind t record { name = w; index = i }
  target-at w None o p =
      plain-target s w (reading s w.name) refl
      ∙ name-same s.types t.types (reading s w.name) (reading t w.name) (read-same old s t n w.name o)
      ∙ sym (plain-target t w (reading t w.name) refl)
  target-at w (Some e) o p = kind-same old s t n (EIndex w e w.span) (o, p)

  pub target-same : (x : PTarget) → IsOldTarget old x → target_kind s x ≡ target_kind t x
  target-same x o = target-at x.name x.index o.0 o.1

-- ---- selectors

-- the values of a selector by the mark of its object
pub marked-selector : (s : Scope) (e : PExpr) (m : ℕ) → mark_of_object s e ≡ Some m → selected_range s e ≡ range_of_mark s.types m
marked-selector s e m h = rw h refl

-- those of its type
abbrev typed : Scope → PExpr → Option Range
typed s e = and_then (λ k. range_of_kind k (kind_at s.types k)) (kind_of s e)

unmarked-selector : (s : Scope) (e : PExpr) → mark_of_object s e ≡ None → selected_range s e ≡ typed s e
unmarked-selector s e h = rw h refl

no-value-mark : (a : Option Thing) → IsNoValue a → mark_of_thing a ≡ None
no-value-mark a (no_thing e) = ap mark_of_thing e
no-value-mark a (a_task_type entries e) = ap mark_of_thing e
no-value-mark a (a_task entries e) = ap mark_of_thing e
no-value-mark a (a_task_object entries e) = ap mark_of_thing e
no-value-mark a (a_task_array range entries e) = ap mark_of_thing e
no-value-mark a (the_procedure e) = ap mark_of_thing e
no-value-mark a (a_unit e) = ap mark_of_thing e

nothing-part-mark : (r : Reading) → IsNothing r → mark_of_part r ≡ None
nothing-part-mark r (is_no_value e) = ap mark_of_part e
nothing-part-mark r (is_unknown e) = ap mark_of_part e

-- the values of a kind are told by the kinds of values alone
range-only : (k : ℕ) (o : Option Kind) → range_of_kind k o ≡ range_of_kind k (scalar_only o)
range-only k (Some Integer) = refl
range-only k (Some Truth) = refl
range-only k (Some (Enumeration names)) = refl
range-only k (Some (Array index first last part)) = refl
range-only k None = refl

-- the marks of two objects: both have none, or marks of the same values
pub data SamePlace (T U : TypeTable) (o p : Option ℕ) : Type 0 where
  same_place : (m n : ℕ) → o ≡ Some m → p ≡ Some n → SameScalar T U m n → SamePlace T U o p
  no_places : o ≡ None → p ≡ None → SamePlace T U o p

-- an object that is no array, since it is no whole array in an expression
object-place : (T U : TypeTable) (a b : Option Thing) (m n : ℕ) (x y : Thing) (sp : Span) → a ≡ Some x → b ≡ Some y → mark_of_thing (Some x) ≡ Some m → mark_of_thing (Some y) ≡ Some n →
    reading_of T (Some x) ≡ reading_of T (Some (Variable m)) → SameMark T U m n → whole_array (reading_of T a) sp ≡ [] → SamePlace T U (mark_of_thing a) (mark_of_thing b)
object-place T U a b m n x y sp e f g h r (of_values z) w = same_place m n (ap mark_of_thing e ∙ g) (ap mark_of_thing f ∙ h) z
object-place T U a b m n x y sp e f g h r (of_arrays z) w =
    absurd
    (not_empty sp []
    (sym (ap (λ q. whole_array q sp) (ap (reading_of T) e ∙ r ∙ array-reading T m z.left_mark z.index z.first z.last z.left_part z.left z.left_kind)) ∙ w))

thing-place : (T U : TypeTable) (a b : Option Thing) (sp : Span) → SameThing T U a b → whole_array (reading_of T a) sp ≡ [] → SamePlace T U (mark_of_thing a) (mark_of_thing b)
thing-place T U a b sp (same_variable m n e f x) w = object-place T U a b m n _ _ sp e f refl refl refl x w
thing-place T U a b sp (same_constant m n e f x) w = object-place T U a b m n _ _ sp e f refl refl refl x w
thing-place T U a b sp (same_parameter mode m n e f x) w = object-place T U a b m n _ _ sp e f refl refl refl x w
thing-place T U a b sp (same_loop_parameter m n e f x) w = object-place T U a b m n _ _ sp e f refl refl refl x w
thing-place T U a b sp (same_type m n e f x) w = no_places (ap mark_of_thing e) (ap mark_of_thing f)
thing-place T U a b sp (same_literal k e f x) w = no_places (ap mark_of_thing e) (ap mark_of_thing f)
thing-place T U a b sp (same_exception e f) w = no_places (ap mark_of_thing e) (ap mark_of_thing f)
thing-place T U a b sp (same_unclear e f) w = no_places (ap mark_of_thing e) (ap mark_of_thing f)
thing-place T U a b sp (no_values x y) w = no_places (no-value-mark a x) (no-value-mark b y)

part-place : (T U : TypeTable) (r q : Reading) → SameReading T U r q → SamePlace T U (mark_of_part r) (mark_of_part q)
part-place T U r q (both_rows index part part' h e f) = same_place part part' (ap mark_of_part e) (ap mark_of_part f) h
part-place T U r q (both_scalar k h e f) = no_places (ap mark_of_part e) (ap mark_of_part f)
part-place T U r q (both_nothing x y) = no_places (nothing-part-mark r x) (nothing-part-mark q y)
part-place T U r q (both_unclear e f) = no_places (ap mark_of_part e) (ap mark_of_part f)

-- a name with the kind of a value is no whole array
kind-no-array : (r : Reading) (k : ℕ) (sp : Span) → name_kind r ≡ Some k → whole_array r sp ≡ []
kind-no-array (AsScalar j) k sp e = refl
kind-no-array (AsArray index part) k sp e = absurd (none-some k e)
kind-no-array AsNoValue k sp e = refl
kind-no-array AsUnknown k sp e = refl
kind-no-array AsUnclear k sp e = refl

pub kind-no-row : (s : Scope) (e : PExpr) (k : ℕ) → kind_of s e ≡ Some k → array_in_node s e ≡ []
kind-no-row s (EName id sp) k h = kind-no-array (reading s id) k sp h
kind-no-row s (EInteger z sp) k h = refl
kind-no-row s (EIndex w e sp) k h = refl
kind-no-row s (EAttribute m w sp) k h = refl
kind-no-row s (EAttributeOf m w e sp) k h = refl
kind-no-row s (EParen e sp) k h = refl
kind-no-row s (EUnary op e sp) k h = refl
kind-no-row s (EBinary op l r sp) k h = refl

module _ (old : ℕ → Bool) (s t : Scope) (n : SameNames old s t) where
  typed-same : (e : PExpr) → IsOldExpr old e → typed s e ≡ typed t e
  typed-same e o = by_kind (kind_of s e) (kind-each old s t n e o) ∙ ap (and_then (λ k. range_of_kind k (kind_at t.types k))) (kind-same old s t n e o)
    where
      by_kind : (q : Option ℕ) → Each (IsScalar s.types) q → and_then (λ k. range_of_kind k (kind_at s.types k)) q ≡ and_then (λ k. range_of_kind k (kind_at t.types k)) q
      by_kind (Some k) h = range-only k (kind_at s.types k) ∙ ap (range_of_kind k) (h.1 ∙ sym (n.types.kinds k h.0 h.1)) ∙ sym (range-only k (kind_at t.types k))
      by_kind None h = refl

  object-places : (e : PExpr) → IsOldExpr old e → array_in_node s e ≡ [] → SamePlace s.types t.types (mark_of_object s e) (mark_of_object t e)
  object-places (EName id sp) o h = thing-place s.types t.types (meaning s id) (meaning t id) sp (n.things id o) h
  object-places (EIndex w e sp) o h = part-place s.types t.types (reading s w.name) (reading t w.name) (read-same old s t n w.name o.0)
  object-places (EInteger z sp) o h = no_places refl refl
  object-places (EAttribute m w sp) o h = no_places refl refl
  object-places (EAttributeOf m w e sp) o h = no_places refl refl
  object-places (EParen e sp) o h = no_places refl refl
  object-places (EUnary op e sp) o h = no_places refl refl
  object-places (EBinary op l r sp) o h = no_places refl refl

  pub selected-same : (e : PExpr) → IsOldExpr old e → array_in_node s e ≡ [] → selected_range s e ≡ selected_range t e
  selected-same e o h = by_place (object-places e o h)
    where
      by_place : SamePlace s.types t.types (mark_of_object s e) (mark_of_object t e) → selected_range s e ≡ selected_range t e
      by_place (same_place i j a b x) = marked-selector s e i a ∙ x.left ∙ sym x.right ∙ sym (marked-selector t e j b)
      by_place (no_places a b) = unmarked-selector s e a ∙ typed-same e o ∙ sym (unmarked-selector t e b)

-- ---- choices

-- the last bound of a choice is old too
last-old : (old : ℕ → Bool) (e : PExpr) (l : Option PExpr) → IsOldExpr old e → IfSome l (IsOldExpr old) → IsOldExpr old (last_bound record { first = e; last = l })
last-old old e None o p = o
last-old old e (Some l) o p = p

-- tests that are the same for each element
any-along : {A : Type 0} (f g : A → Bool) (xs : List A) → AllByRecursion (λ x. f x ≡ g x) xs → list_any f xs ≡ list_any g xs
any-along f g [] h = refl
any-along f g (x ∷ xs) h = ap₂ (λ a b. a || b) h.0 (any-along f g xs h.1)

all-along : {A : Type 0} (f g : A → Bool) (xs : List A) → AllByRecursion (λ x. f x ≡ g x) xs → list_all f xs ≡ list_all g xs
all-along f g [] h = refl
all-along f g (x ∷ xs) h = ap₂ (λ a b. a && b) h.0 (all-along f g xs h.1)

each-same : {A : Type 0} (f g : A → Bool) (xs : List A) → ((x : A) → f x ≡ g x) → AllByRecursion (λ x. f x ≡ g x) xs
each-same f g [] h = tt
each-same f g (x ∷ xs) h = (h x, each-same f g xs h)

module _ (old : ℕ → Bool) (s t : Scope) (n : SameNames old s t) where
  pub choice-same : (k : ℕ) (c : PChoice) → IsOldChoice old c → choice_range s k c ≡ choice_range t k c
  choice-same k c o =
      ap₂ (range_between k) (static-in-same old s t n k c.first o.0) (static-in-same old s t n k (last_bound c) (last-old old c.first c.last o.0 o.1))

  overlapping-same : (k : ℕ) (seen : List Range) (cs : List PChoice) → AllByRecursion (IsOldChoice old) cs → overlapping s k seen cs ≡ overlapping t k seen cs
  overlapping-same k seen [] o = refl
  overlapping-same k seen (c ∷ cs) o =
      let e = choice-same k c o.0 in
      ap₂ (λ a b. (if overlaps_one seen a then choice_span c ∷ [] else []) ++ b) e
      (ap (λ a. overlapping s k (with_range a seen) cs) e ∙ overlapping-same k (with_range (choice_range t k c) seen) cs o.1)

  -- what is asked of the range of each choice is the same
  along : (k : ℕ) (f : Option Range → Bool) (cs : List PChoice) → AllByRecursion (IsOldChoice old) cs → AllByRecursion (λ c. f (choice_range s k c) ≡ f (choice_range t k c)) cs
  along k f [] o = tt
  along k f (c ∷ cs) o = (ap f (choice-same k c o.0), along k f cs o.1)

  refused-same : (k : ℕ) (values : Option Range) (cs : List PChoice) → AllByRecursion (IsOldChoice old) cs → no_choice_refused s k values cs ≡ no_choice_refused t k values cs
  refused-same k values cs o =
      ap₂ (λ a b. a && (length b == 0))
      (all-along (λ c. is_good values (choice_range s k c)) (λ c. is_good values (choice_range t k c)) cs (along k (is_good values) cs o))
      (overlapping-same k [] cs o)

  leaves-same : (k : ℕ) (values : Option Range) (cs : List PChoice) → AllByRecursion (IsOldChoice old) cs → leaves_out s k values cs ≡ leaves_out t k values cs
  leaves-same k (Some values) cs o =
      any-along _ _ (values_in values)
      (each-same _ _ (values_in values)
      (λ z. ap not (any-along (λ c. is_covered z (choice_range s k c)) (λ c. is_covered z (choice_range t k c)) cs (along k (is_covered z) cs o))))
  leaves-same k None cs o = refl

  left-same : (k : ℕ) (values : Option Range) (cs : List PChoice) → AllByRecursion (IsOldChoice old) cs → left_out s k values cs ≡ left_out t k values cs
  left-same k values cs o = ap₂ (λ a b. if k == integer_kind then true else a && b) (refused-same k values cs o) (leaves-same k values cs o)

  pub bad-same : (q : Option ℕ) (e : PExpr) (cs : List PChoice) (others : Bool) (sp : Span) → IsOldExpr old e → kind_of s e ≡ q → AllByRecursion (IsOldChoice old) cs →
      bad_choices s q e cs others sp ≡ bad_choices t q e cs others sp
  bad-same (Some k) e cs others sp o h c =
      ap₂ (λ a b. a ++ (if not others && b then sp ∷ [] else []))
      (overlapping-same k [] cs c)
      (ap (λ v. left_out s k v cs) (selected-same old s t n e o (kind-no-row s e k h)) ∙ left-same k (selected_range t e) cs c)
  bad-same None e cs others sp o h c = refl

-- ---- the laws

pub selectors_are_same : SelectorsAreSame
selectors_are_same old s t n e o h = selected-same old s t n e o h

pub targets_are_same : TargetsAreSame
targets_are_same old s t n x o = target-same old s t n x o
