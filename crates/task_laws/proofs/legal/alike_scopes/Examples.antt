-- Two scopes that are alike, by which the definitions can be tried: a body of a task, and the same body behind an object more, so that all its marks
-- and the kind of its array have other places.
use Rattle.std.proofs.Common.{◌≡◌, ℕ, Bool, true, false, ◌==◌, nat_lt, if◌then◌else◌, List, [], ◌∷◌, find, Option, Some, None, option_map, refl, sym, subst}
use Rattle.std.specs.List.{AllByRecursion}
use Rattle.ada_tree.specs.declared.naming.NameId.{NameId}
use Rattle.ada_tree.specs.declared.naming.Span.{Span}
use Rattle.ada_tree.specs.declared.naming.Word.{Word}
use Rattle.ada_tree.specs.declared.static_types.Kind.TheVariants.{Integer, Truth}
use Rattle.ada_tree.specs.PlainExpr.{PExpr, EInteger, EName, EIndex, PSubind, PBounds, RGiven}
use Rattle.ada_tree.specs.PlainStmt.{PCall}
use Rattle.ada_tree.specs.PlainDecl.{PEntry, OPlain, OArray, DObject, DTask, PDecls, decls_of}
use Rattle.ada_static_rules.specs.Scope.{Scope, Range, Thing, Variable, Literal, AnException, AnotherUnit, NameMeaning, meaning, reading, AsArray, range_of_mark}
use Rattle.ada_static_rules.specs.Declaring.{predefined_types, first_scope, after_decls, in_body, inner_scope, after_objects}
use Rattle.ada_static_rules.specs.Demand.{node, addresses, calls}
use Rattle.ada_static_rules.specs.Sites.{site}
use Rattle.task_laws.specs.legal.rewritten_types.Agreement.{IsScalar}
use Rattle.task_laws.proofs.legal.rewritten_types.Owning.{whole-first}
use Rattle.task_laws.specs.legal.alike_scopes.Alike.{SameMark, of_values, no_thing, a_task, the_procedure, a_unit, SameThing, same_type, same_literal, same_exception, no_values, Alike}
use Rattle.task_laws.specs.legal.alike_scopes.Laws.{IsMetBut, IsMet}
use Rattle.task_laws.proofs.legal.alike_scopes.Tables.{types-self}
use Rattle.task_laws.proofs.legal.alike_scopes.Naming.{inside-alike}
use Rattle.task_laws.proofs.legal.alike_scopes.Inner.{objects-alike, new-objects}
use Rattle.task_laws.proofs.legal.alike_scopes.Demands.{alike_refuses_same}

abbrev at : Span
at = record { start = 0; end = 0 }

abbrev w : ℕ → Word
w id = record { name = record { 0 = id }; span = at }

-- `first .. last`
abbrev between : ℕ → ℕ → PBounds
between a b = record { first = EInteger a at; last = EInteger b at }

-- `INTEGER range first .. last`
abbrev ranged : ℕ → ℕ → PSubind
ranged a b = record { mark = w 0; bounds = Some (between a b) }

-- `entry E;`
abbrev entry : PEntry
entry = record { name = w 29; family = None; formals = []; span = at }

-- the body of the task T of a procedure, before its objects
abbrev before_objects : Scope
before_objects = in_body (after_decls (first_scope (w 25)) (decls_of (DTask record { name = w 26; of_kind = false; entries = entry ∷ []; priorities = [] } at ∷ []))) (w 26)

-- `A : array (1 .. 2) of INTEGER range 0 .. 1; X : INTEGER range 1 .. 3;`
abbrev objects : PDecls
objects = decls_of (DObject (w 27 ∷ []) false (OArray (RGiven (between 1 2)) (ranged 0 1)) None at ∷ DObject (w 28 ∷ []) false (OPlain (ranged 1 3)) None at ∷ [])

-- `NEW : INTEGER range 1 .. 9;`
abbrev added : PDecls
added = decls_of (DObject (w 40 ∷ []) false (OPlain (ranged 1 9)) None at ∷ [])

abbrev left : Scope
left = inner_scope (after_objects before_objects objects)

abbrev right : Scope
right = inner_scope (after_objects (after_objects before_objects added) objects)

-- the names of the program
abbrev old : ℕ → Bool
old n = nat_lt n 40

-- ---- places have moved

array_left : meaning left record { 0 = 27 } ≡ Some (Variable 5)
array_left = refl

array_right : meaning right record { 0 = 27 } ≡ Some (Variable 6)
array_right = refl

part_left : reading left record { 0 = 27 } ≡ AsArray 0 4
part_left = refl

part_right : reading right record { 0 = 27 } ≡ AsArray 0 5
part_right = refl

-- ---- the scopes are alike

-- what holds of each thing that a scope has, and of none, holds of what a name means
pub meant : (P : Option Thing → Type 0) (names : List NameMeaning) (id : NameId) → P None → AllByRecursion (λ x. P (Some x.thing)) names → P (option_map (λ x. x.thing) (find (λ x. x.name == id.0) names))
meant P [] id none h = none
meant P (x ∷ xs) id none h = by_test (x.name == id.0) (meant P xs id none h.1)
  where
    by_test : (b : Bool) → P (option_map (λ y. y.thing) (find (λ y. y.name == id.0) xs)) → P (option_map (λ y. y.thing) (if b then Some x else find (λ y. y.name == id.0) xs))
    by_test true g = h.0
    by_test false g = g

abbrev pub Self : Option Thing → Type 0
Self a = SameThing predefined_types predefined_types a a

-- INTEGER, NATURAL and POSITIVE, and BOOLEAN
number_mark : (m : ℕ) (r : Range) → range_of_mark predefined_types m ≡ Some r → r.kind ≡ 0 → SameMark predefined_types predefined_types m m
number_mark m r e f = of_values record { range = r; left = e; right = e; kind = subst (IsScalar predefined_types) (sym f) (Integer, refl) }

truth_mark : SameMark predefined_types predefined_types 3 3
truth_mark = of_values record { range = _; left = refl; right = refl; kind = (Truth, refl) }

unit : Self (Some AnotherUnit)
unit = no_values (a_unit refl) (a_unit refl)

raised : Self (Some AnException)
raised = same_exception refl refl

literal : Self (Some (Literal 1))
literal = same_literal 1 refl refl (Truth, refl)

pub all_self : AllByRecursion (λ (x : NameMeaning). Self (Some x.thing)) before_objects.names
all_self = (no_values (a_task _ refl) (a_task _ refl), (no_values (the_procedure refl) (the_procedure refl), (same_type 0 0 refl refl (number_mark 0 _ refl refl), (same_type 1 1 refl refl (number_mark 1 _ refl refl), (same_type 2 2 refl refl (number_mark 2 _ refl refl), (same_type 3 3 refl refl truth_mark, (literal, (literal, (raised, (raised, (raised, (raised, (raised, (raised, (unit, (unit, (unit, (unit, (unit, (unit, tt))))))))))))))))))))

start : Alike old before_objects before_objects
start = record {
  names = record { types = types-self old predefined_types (whole-first (w 25)); things = λ id o. meant Self before_objects.names id (no_values (no_thing refl) (no_thing refl)) all_self };
  own = λ id o. refl;
  main = refl;
}

alike : Alike old left right
alike =
    inside-alike old (after_objects before_objects objects) (after_objects (after_objects before_objects added) objects)
    (objects-alike old objects before_objects (after_objects before_objects added) (new-objects old added before_objects before_objects start refl ((refl, tt), tt)) refl
    (((tt, tt), (refl, (tt, tt))), ((refl, (tt, tt)), tt)))

-- ---- so what is met in the one is met in the other

-- `A(X)`
abbrev component : PExpr
component = EIndex (w 27) (EName record { 0 = 28 } at) at

met : IsMetBut (site left (node false component))
met = record { known = refl; matched = refl; static = refl; ranged = refl; variable = refl; readable = refl; counted = refl; chosen = refl; arrays = refl; texts = refl; exceptions = refl }

met_there : IsMetBut (site right (node false component))
met_there = alike_refuses_same old left right alike (node false component) (refl, refl) met

-- a name that is not old may mean anything on the right
new_there : meaning right record { 0 = 40 } ≡ Some (Variable 4)
new_there = refl

-- ---- what is asked is met

-- `T.E`
abbrev call : PCall
call = record { task = record { name = w 26; index = None }; entry = w 29; args = None }

pub is_met : IsMet
is_met = (
  old,
  left,
  right,
  record { 0 = 27 },
  component,
  call,
  record {
    alike = alike;
    moved = λ h. cc;
    old_expr = (refl, refl);
    met = met;
    same_task = record { left = _; right = _; left_means = refl; right_means = refl; entries = λ id o. refl };
    old_entry = refl;
    addressed = record { known = refl; matched = refl; static = refl; ranged = refl; variable = refl; readable = refl; counted = refl; chosen = refl; arrays = refl; texts = refl; exceptions = refl };
    called = record { known = refl; matched = refl; static = refl; ranged = refl; variable = refl; readable = refl; counted = refl; chosen = refl; arrays = refl; texts = refl; exceptions = refl };
  },
)
