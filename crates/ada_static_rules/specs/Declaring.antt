-- What can be used behind a declaration, and what it adds to the types, marks and constants of the program (3.1; this project's rule). Inside its own declaration a name means what it meant before it. Kinds and marks are numbered in the order in which they end in the text: each enumeration and each array adds a kind and a mark, each subtype a mark, and each subtype indication with a range of its own a mark without a name, where it stands in a declaration.
use Rattle.std.specs.Prelude.{ℕ, ℤ, pos, negsuc, ◌-ℤ◌, Bool, true, false, ◌==◌, if◌then◌else◌, List, [], ◌∷◌, ◌++◌, length, map, flat_map, position, Option, Some, None, option_map, unwrap_or}
use Rattle.ada_tree.specs.declared.naming.NameId.{NameId}
use Rattle.ada_tree.specs.declared.naming.Word.{Word}
use Rattle.ada_tree.specs.declared.statements.ParMode.{ParMode}
use Rattle.ada_tree.specs.declared.static_types.Kind.{Kind}
use Rattle.ada_tree.specs.declared.static_types.Kind.TheVariants.{Integer, Truth, Enumeration, Array}
use Rattle.ada_tree.specs.declared.static_types.Mark.{Mark}
use Rattle.ada_tree.specs.declared.static_types.Constant.{Constant}
use Rattle.ada_tree.specs.TypeTable.{TypeTable}
use Rattle.ada_tree.specs.PlainExpr.{PBounds, PSubind, PDrange, RGiven, RMarked}
use Rattle.ada_tree.specs.PlainStmt.{PFormal}
use Rattle.ada_tree.specs.PlainDecl.{PShape, OPlain, OArray, PInit, IOne, PEntry, PTask, PDecl, DNumber, DObject, DEnumeration, DArray, DSubtype, DException, DIntIo, DPragma, DTask, DTaskBody, PDecls, no_decl, decl_then}
use Rattle.ada_static_rules.specs.Scope.{Scope, NameMeaning, Thing, TypeMark, TaskType, SingleTask, TaskObject, TaskArray, Variable, ConstantObject, Parameter, LoopParameter, Literal, AnException, MainProcedure, AnotherUnit, Unclear, Range, Family, single, family, unclear, EntryPart, FormalPart, integer_kind, truth_kind, Marking, ScalarMark, ArrayMark, TaskMark, marking, scalar_kind, range_of_mark, mark_at, meaning, entries_of, and_then}
use Rattle.ada_static_rules.specs.ExprTypes.{kind_of, static_in, static_range}

-- ---- before all declarations

-- the mark of a predefined type or subtype: its id, the place of its kind and its bounds (3.5.3, 3.5.4)
abbrev pub first_mark : ℕ → ℕ → ℤ → ℤ → Mark
first_mark name kind first last = record { name = Some record { 0 = name }; kind = kind; first = first; last = last }

-- INTEGER, NATURAL, POSITIVE and BOOLEAN, whose names are the first four
abbrev pub predefined_types : TypeTable
predefined_types = record {
  kinds = Integer ∷ Truth ∷ [];
  marks =
      first_mark 0 0 (negsuc 2147483647) (pos 2147483647)
      ∷ first_mark 1 0 (pos 0) (pos 2147483647)
      ∷ first_mark 2 0 (pos 1) (pos 2147483647)
      ∷ first_mark 3 1 (pos 0) (pos 1)
      ∷ [];
  constants = [];
}

-- a name with what it means (8.3)
abbrev pub seen_as : Thing → ℕ → NameMeaning
seen_as thing name = record { name = name; thing = thing }

-- the predefined names: four types and subtypes, two truth values, six exceptions, two packages and four procedures
abbrev pub predefined_names : List NameMeaning
predefined_names =
    seen_as (TypeMark 0) 0 ∷ seen_as (TypeMark 1) 1 ∷ seen_as (TypeMark 2) 2 ∷ seen_as (TypeMark 3) 3
    ∷ map (seen_as (Literal truth_kind)) (4 ∷ 5 ∷ [])
    ++ map (seen_as AnException) (6 ∷ 7 ∷ 8 ∷ 9 ∷ 10 ∷ 11 ∷ [])
    ++ map (seen_as AnotherUnit) (12 ∷ 13 ∷ 14 ∷ 15 ∷ 16 ∷ 17 ∷ [])

-- one name more, and several
abbrev pub with_name : Thing → Scope → Word → Scope
with_name thing scope w = record scope { names = seen_as thing w.name.0 ∷ scope.names; here = w.name.0 ∷ scope.here }

-- several names more, each of which means this thing (8.3)
abbrev pub with_names : Thing → Scope → List Word → Scope
with_names thing scope [] = scope
with_names thing scope (w ∷ ws) = with_names thing (with_name thing scope w) ws

-- what can be used before a program begins
abbrev pub before_all : Scope
before_all = record { types = predefined_types; names = predefined_names; here = []; in_main = true; own = []; bodies = []; has_instance = false }

-- what can be used before all declarations of a program of that name, which is a name of main
abbrev pub first_scope : Word → Scope
first_scope name = with_name MainProcedure before_all name

-- ---- scopes

-- the scope with this table of types, marks and constants
abbrev pub with_types : TypeTable → Scope → Scope
with_types types scope = record scope { types = types }

-- an inner scope, in which no name is declared yet
abbrev pub inner_scope : Scope → Scope
inner_scope scope = record scope { here = [] }

-- ---- the table

-- the table with one mark more at its end (this project's rule)
abbrev pub add_mark : TypeTable → Mark → TypeTable
add_mark types mark = record types { marks = types.marks ++ mark ∷ [] }

-- the table with one kind more at its end (this project's rule)
abbrev pub add_kind : TypeTable → Kind → TypeTable
add_kind types kind = record types { kinds = types.kinds ++ kind ∷ [] }

-- a mark with this name or none, and with the kind and the bounds of the range (3.3)
abbrev pub mark_for : Option NameId → Range → Mark
mark_for name range = record { name = name; kind = range.kind; first = range.first; last = range.last }

-- the table with a new mark, and its place
pub record Made : Type 0 where
  pub types : TypeTable
  pub mark : Option ℕ

-- the table with this mark at its end, and its place there (this project's rule)
abbrev pub made : TypeTable → Mark → Made
made types mark = record { types = add_mark types mark; mark = Some (length types.marks) }

-- the table as it was, with no mark (this project's rule)
abbrev pub made_none : TypeTable → Made
made_none types = record { types = types; mark = None }

-- the mark of a subtype indication with a range
abbrev pub made_range : TypeTable → Option Range → Made
made_range types (Some range) = made types (mark_for None range)
made_range types None = made_none types

-- the mark of a subtype indication over a scalar mark
abbrev pub subind_made : Scope → Marking → Option PBounds → Made
subind_made scope (ScalarMark m k) None = record { types = scope.types; mark = Some m }
subind_made scope (ScalarMark m k) (Some b) = made_range scope.types (static_range scope k b)
subind_made scope _ bounds = made_none scope.types

-- the mark of a subtype indication, with the table that it leaves (3.3.2)
abbrev pub made_subind : Scope → PSubind → Made
made_subind scope x = subind_made scope (marking scope x.mark.name) x.bounds

-- the range of a discrete range, where its bounds are static
abbrev pub given_range : Scope → Option ℕ → PBounds → Option Range
given_range scope (Some k) b = static_range scope k b
given_range scope None b = None

-- the range of a discrete range with a mark, by its own bounds or else by those of the mark (3.6)
abbrev pub marked_range : Scope → Marking → Option PBounds → Option Range
marked_range scope (ScalarMark m k) None = range_of_mark scope.types m
marked_range scope (ScalarMark m k) (Some b) = static_range scope k b
marked_range scope _ bounds = None

-- the range of a discrete range, where its bounds are known (3.6)
abbrev pub drange_range : Scope → PDrange → Option Range
drange_range scope (RGiven b) = given_range scope (kind_of scope b.first) b
drange_range scope (RMarked x) = marked_range scope (marking scope x.mark.name) x.bounds

-- an array with that index range and components of that mark: a kind and a mark
abbrev pub made_array : Option NameId → TypeTable → Option Range → Option ℕ → Made
made_array name types (Some range) (Some part) =
    made (add_kind types (Array range.kind range.first range.last part))
    record { name = name; kind = length types.kinds; first = range.first; last = range.last }
made_array name types _ _ = made_none types

-- ---- objects

-- what an object is
abbrev pub object_meaning : Bool → Option ℕ → Thing
object_meaning true (Some m) = ConstantObject m
object_meaning false (Some m) = Variable m
object_meaning constant None = Unclear

-- task objects are declared in main alone
abbrev pub task_object : Bool → List EntryPart → Thing
task_object true entries = TaskObject entries
task_object false entries = Unclear

-- arrays of tasks are declared in main alone, with an index range that is known (this project's rule)
abbrev pub task_array : Bool → Option Range → List EntryPart → Thing
task_array true (Some range) entries = TaskArray range entries
task_array _ _ entries = Unclear

-- an object's thing, with the table that its declaration leaves
pub record Declared : Type 0 where
  pub types : TypeTable
  pub thing : Thing

-- an object, constant or not, with the mark that was made for it and the table that it leaves (3.2.1)
abbrev pub of_made : Bool → Made → Declared
of_made constant m = record { types = m.types; thing = object_meaning constant m.mark }

-- an object of a named type
abbrev pub plain_object : Scope → Bool → Marking → PSubind → Declared
plain_object scope constant (TaskMark entries) x = record { types = scope.types; thing = task_object scope.in_main entries }
plain_object scope constant (ArrayMark m range part) x = record { types = scope.types; thing = object_meaning constant (Some m) }
plain_object scope constant _ x = of_made constant (made_subind scope x)

-- an object of an array type of its own
abbrev pub array_object : Scope → Bool → Marking → PDrange → PSubind → Declared
array_object scope constant (TaskMark entries) index x = record { types = scope.types; thing = task_array scope.in_main (drange_range scope index) entries }
array_object scope constant _ index x = of_made constant (made_array None (made_subind scope x).types (drange_range scope index) (made_subind scope x).mark)

-- what an object declaration of this shape declares, with the table that it leaves (3.2.1)
abbrev pub declared_object : Scope → Bool → PShape → Declared
declared_object scope constant (OPlain x) = plain_object scope constant (marking scope x.mark.name) x
declared_object scope constant (OArray index x) = array_object scope constant (marking scope x.mark.name) index x

-- a scalar constant of main is one of the program's constants
abbrev pub constants_for : List Word → ℕ → ℤ → List Constant
constants_for names m z = map (λ w. record { name = w.name; mark = m; value = z }) names

-- the table with one constant more for each name, where the mark and the static value are known (this project's rule)
abbrev pub add_constants : List Word → Option ℕ → Option ℤ → TypeTable → TypeTable
add_constants names (Some m) (Some z) types = record types { constants = types.constants ++ constants_for names m z }
add_constants names _ _ types = types

-- the kind of the values of a mark, and 0 where there is no such mark (this project's rule)
abbrev pub kind_at_mark : TypeTable → ℕ → ℕ
kind_at_mark types m = unwrap_or (option_map (λ mark. mark.kind) (mark_at types m)) 0

-- the mark of a scalar constant
abbrev pub constant_mark : Thing → Option ℕ
constant_mark (ConstantObject m) = Some m
constant_mark _ = None

-- the static value of an initial value of that kind
abbrev pub initial_value : Scope → ℕ → Option PInit → Option ℤ
initial_value scope k (Some (IOne e)) = static_in scope k e
initial_value scope k _ = None

-- the static value of a constant, where it has a mark and a static initial value (3.2.1, 4.9)
abbrev pub constant_value : Scope → TypeTable → Option ℕ → Option PInit → Option ℤ
constant_value scope types (Some m) init = initial_value scope (kind_at_mark types m) init
constant_value scope types None init = None

-- the table with the constants that a declaration of main adds
abbrev pub with_constants : Scope → List Word → Option PInit → Declared → TypeTable
with_constants scope names init d =
    if scope.in_main
    then add_constants names (constant_mark d.thing) (constant_value scope d.types (constant_mark d.thing) init) d.types
    else d.types

-- what can be used after an object declaration: its names too, and what it adds to the table (3.2.1)
abbrev pub after_object : Scope → List Word → Bool → PShape → Option PInit → Scope
after_object scope names constant shape init =
    with_names (declared_object scope constant shape).thing
    (with_types (with_constants scope names init (declared_object scope constant shape)) scope)
    names

-- ---- types

-- what can be used after an enumeration type: its name and its literals too (3.5.1)
abbrev pub after_enumeration : Scope → Word → List Word → Scope
after_enumeration scope name literals =
    with_names (Literal (length scope.types.kinds))
    (with_name (TypeMark (length scope.types.marks))
    (with_types (made (add_kind scope.types (Enumeration (map (λ w. w.name) literals))) record { name = Some name.name; kind = length scope.types.kinds; first = pos 0; last = pos (length literals) -ℤ pos 1 }).types scope)
    name)
    literals

-- a type or subtype, or a name whose declaration is refused
abbrev pub type_of_mark : Option ℕ → Thing
type_of_mark (Some m) = TypeMark m
type_of_mark None = Unclear

-- what can be used after a type or subtype whose mark was made so: its name too (3.3.1, 3.3.2)
abbrev pub after_type : Scope → Word → Made → Scope
after_type scope name m = with_name (type_of_mark m.mark) (with_types m.types scope) name

-- the kind and the mark of an array type with this name, where its index range and its components are known (3.6)
abbrev pub made_named_array : Scope → Word → PDrange → PSubind → Made
made_named_array scope name index x = made_array (Some name.name) (made_subind scope x).types (drange_range scope index) (made_subind scope x).mark

-- a subtype has the bounds of its subtype indication
abbrev pub renamed : Word → TypeTable → Option Range → Made
renamed name types (Some range) = made types (mark_for (Some name.name) range)
renamed name types None = made_none types

-- the mark of a subtype with this name, which has the bounds of its subtype indication (3.3.2)
abbrev pub made_subtype : Scope → Word → PSubind → Made
made_subtype scope name x = renamed name (made_subind scope x).types (and_then (range_of_mark (made_subind scope x).types) (made_subind scope x).mark)

-- ---- tasks

-- the members of a family with this index range, unclear where the range is not known (9.5)
abbrev pub family_of : Option Range → Family
family_of (Some range) = family range
family_of None = unclear

-- the members of an entry: one, or those of the index range of its family (9.5)
abbrev pub entry_family : Scope → Option PDrange → Family
entry_family scope (Some index) = family_of (drange_range scope index)
entry_family scope None = single

-- the formals of an entry one by one, each with its mode and its mark (6.1, 9.5)
abbrev pub formal_parts : Scope → List PFormal → List FormalPart
formal_parts scope formals =
    flat_map (λ f. map (λ w. record { name = w.name; mode = f.mode; mark = f.mark.name; kind = scalar_kind (marking scope f.mark.name) }) f.names) formals

-- an entry with its name, its members and its formals, as its declaration says (9.5)
abbrev pub entry_part : Scope → PEntry → EntryPart
entry_part scope e = record { name = e.name.name; family = entry_family scope e.family; formals = formal_parts scope e.formals }

-- what a task's declaration declares: a task type, or a single task (9.1)
abbrev pub task_thing : Bool → List EntryPart → Thing
task_thing true entries = TaskType entries
task_thing false entries = SingleTask entries

-- what can be used after a task's declaration: its name too, with its entries (9.1)
abbrev pub after_task : Scope → PTask → Scope
after_task scope t = with_name (task_thing t.of_kind (map (entry_part scope) t.entries)) scope t.name

-- the entries of the task whose body it is
abbrev pub own_entries : Option Thing → List EntryPart
own_entries (Some thing) = entries_of thing
own_entries None = []

-- what can be used in a task body before its objects
abbrev pub in_body : Scope → Word → Scope
in_body scope name = record scope { here = []; in_main = false; own = own_entries (meaning scope name.name) }

-- ---- declarations

-- behind the objects of a task body; no other declarations stand there
abbrev pub after_own_object : Scope → PDecl → Scope
after_own_object scope (DObject names constant shape init s) = after_object scope names constant shape init
after_own_object scope _ = scope

-- what can be used after the objects of a task body (3.9, 9.1)
abbrev pub after_objects : Scope → PDecls → Scope
after_objects scope no_decl = scope
after_objects scope (decl_then d rest) = after_objects (after_own_object scope d) rest

-- what can be used behind a declaration of main; of a task body nothing is left but the marks that its objects add
abbrev pub after_decl : Scope → PDecl → Scope
after_decl scope (DNumber name e s) = with_name (ConstantObject 0) (with_types (add_constants (name ∷ []) (Some 0) (static_in scope integer_kind e) scope.types) scope) name
after_decl scope (DObject names constant shape init s) = after_object scope names constant shape init
after_decl scope (DEnumeration name literals s) = after_enumeration scope name literals
after_decl scope (DArray name index x s) = after_type scope name (made_named_array scope name index x)
after_decl scope (DSubtype name x s) = after_type scope name (made_subtype scope name x)
after_decl scope (DException names s) = with_names AnException scope names
after_decl scope (DIntIo name s) = record (with_name AnotherUnit scope name) { has_instance = true }
after_decl scope (DPragma e s) = scope
after_decl scope (DTask t s) = after_task scope t
after_decl scope (DTaskBody name objects its s) = record scope { types = (after_objects (in_body scope name) objects).types; bodies = name.name.0 ∷ scope.bodies }

-- what can be used behind the declarations of main
abbrev pub after_decls : Scope → PDecls → Scope
after_decls scope no_decl = scope
after_decls scope (decl_then d rest) = after_decls (after_decl scope d) rest

-- ---- inner scopes of statements

-- what a formal is: a parameter of its mode where its mark is a scalar one, else unclear (6.1; this project's rule)
abbrev pub formal_thing : ParMode → Marking → Thing
formal_thing mode (ScalarMark m k) = Parameter mode m
formal_thing mode _ = Unclear

-- the scope in which the names of these formals can be used too (8.1, 9.5)
abbrev pub with_formals : Scope → List PFormal → Scope
with_formals scope [] = scope
with_formals scope (f ∷ fs) = with_formals (with_names (formal_thing f.mode (marking scope f.mark.name)) scope f.names) fs

-- the first mark of a kind
abbrev pub first_mark_of : TypeTable → ℕ → Option ℕ
first_mark_of types k = position (λ mark. mark.kind == k) types.marks

-- what a loop's name is: a loop parameter of this mark, unclear where no mark is known (5.5)
abbrev pub loop_thing : Option ℕ → Thing
loop_thing (Some m) = LoopParameter m
loop_thing None = Unclear

-- the kind of a discrete range
abbrev pub drange_kind : Scope → PDrange → Option ℕ
drange_kind scope (RGiven b) = kind_of scope b.first
drange_kind scope (RMarked x) = scalar_kind (marking scope x.mark.name)

-- the inner scope of a loop over a discrete range, in which its parameter is declared (5.5, 8.1)
abbrev pub with_loop_parameter : Scope → Word → PDrange → Scope
with_loop_parameter scope name range = with_name (loop_thing (and_then (first_mark_of scope.types) (drange_kind scope range))) (inner_scope scope) name
