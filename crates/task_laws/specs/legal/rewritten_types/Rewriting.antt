-- How a rewriter may change the declarations of a program (this project's rule): it may leave out tasks, objects of task types and bodies, and put
-- other declarations behind those that stay.
use Rattle.std.specs.Prelude.{◌≡◌, ℕ, Bool, true, false, ◌||◌, List, [], ◌∷◌, Option, Some, None}
use Rattle.std.specs.List.{AllByRecursion}
use Rattle.ada_tree.specs.declared.naming.NameId.{NameId}
use Rattle.ada_tree.specs.declared.naming.Span.{Span}
use Rattle.ada_tree.specs.declared.naming.Word.{Word}
use Rattle.ada_tree.specs.PlainStmt.{PBody}
use Rattle.ada_tree.specs.PlainDecl.{PShape, OPlain, OArray, PInit, PTask, PDecl, DNumber, DObject, DEnumeration, DArray, DSubtype, DException, DIntIo, DPragma, DTask, DTaskBody, PDecls, no_decl, decl_then}
use Rattle.ada_static_rules.specs.Scope.{Scope, Thing, TypeMark, Variable, ConstantObject, Parameter, LoopParameter, Literal, Marking, TaskMark, meaning, marking}
use Rattle.ada_static_rules.specs.Declaring.{before_all, first_scope, after_decl}
use Rattle.ada_static_rules.specs.RuleDuplicate.{is_predefined, is_among}

-- ---- what is added

-- a name that is not old
abbrev pub IsNew : (ℕ → Bool) → Word → Type 0
IsNew old w = old w.name.0 ≡ false

-- A declaration that gives no old name a meaning of a value or a type. Exceptions, instances, tasks and bodies give none to any name; what a body
-- declares cannot be seen outside it.
abbrev pub IsAdded : (ℕ → Bool) → PDecl → Type 0
IsAdded old (DNumber name e s) = IsNew old name
IsAdded old (DObject names constant shape init s) = AllByRecursion (IsNew old) names
IsAdded old (DEnumeration name literals s) = ⊥
IsAdded old (DArray name index x s) = IsNew old name
IsAdded old (DSubtype name x s) = IsNew old name
IsAdded old (DException names s) = Unit {0}
IsAdded old (DIntIo name s) = Unit {0}
IsAdded old (DPragma e s) = Unit {0}
IsAdded old (DTask t s) = Unit {0}
IsAdded old (DTaskBody name objects its s) = Unit {0}

abbrev pub AreAdded : (ℕ → Bool) → PDecls → Type 0
AreAdded old no_decl = Unit {0}
AreAdded old (decl_then d rest) = IsAdded old d × AreAdded old rest

-- ---- what is left out

-- what a name means, where it is a type, an object, a constant, a parameter or a literal
abbrev pub valued : Option Thing → Option Thing
valued (Some (TypeMark m)) = Some (TypeMark m)
valued (Some (Variable m)) = Some (Variable m)
valued (Some (ConstantObject m)) = Some (ConstantObject m)
valued (Some (Parameter mode m)) = Some (Parameter mode m)
valued (Some (LoopParameter m)) = Some (LoopParameter m)
valued (Some (Literal k)) = Some (Literal k)
valued (Some _) = None
valued None = None

-- the name means no value and no type that has values
abbrev pub IsFree : Scope → NameId → Type 0
IsFree scope id = valued (meaning scope id) ≡ None

-- the names are free
abbrev pub AreFree : Scope → List Word → Type 0
AreFree scope names = AllByRecursion (λ w. IsFree scope w.name) names

-- the name is a predefined one, or main has declared it before
abbrev pub IsUsed : Scope → NameId → Type 0
IsUsed scope id = (is_predefined id.0 || is_among scope.here id.0) ≡ true

-- the mark of an object, or of its components
abbrev pub mark_of : PShape → NameId
mark_of (OPlain x) = x.mark.name
mark_of (OArray index x) = x.mark.name

-- a declaration that is no body
abbrev pub IsFirst : PDecl → Type 0
IsFirst (DTaskBody w objects its s) = ⊥
IsFirst _ = Unit {0}

-- The second declarations are those of the first, which stand behind a body, that are instances of INTEGER_IO; else tasks and bodies alone stand there (3.9).
pub data Behind : PDecls → PDecls → Type 0 where
  behind_none : Behind no_decl no_decl
  behind_task : {t : PTask} {s : Span} {ds es : PDecls} → Behind ds es → Behind (decl_then (DTask t s) ds) es
  behind_body : {w : Word} {objects : PDecls} {its : PBody} {s : Span} {ds es : PDecls} → Behind ds es → Behind (decl_then (DTaskBody w objects its s) ds) es
  behind_instance : {w : Word} {s : Span} {ds es : PDecls} → Behind ds es → Behind (decl_then (DIntIo w s) ds) (decl_then (DIntIo w s) es)

-- The second declarations are the first ones of a program, at that scope, without bodies, some tasks and some objects of task types: these have names
-- that were free, the types of such objects are declared and have no values, and behind the first body nothing but bodies, tasks and instances
-- stands.
pub data Front : Scope → PDecls → PDecls → Type 0 where
  front_none : {scope : Scope} → Front scope no_decl no_decl
  front_stays : {scope : Scope} {d : PDecl} {ds es : PDecls} → IsFirst d → Front (after_decl scope d) ds es → Front scope (decl_then d ds) (decl_then d es)
  front_task : {scope : Scope} {t : PTask} {s : Span} {ds es : PDecls} → IsFree scope t.name.name → Front (after_decl scope (DTask t s)) ds es → Front scope (decl_then (DTask t s) ds) es
  front_object : {scope : Scope} {names : List Word} {constant : Bool} {shape : PShape} {init : Option PInit} {s : Span} {ds es : PDecls} →
      IsUsed scope (mark_of shape) → IsFree scope (mark_of shape) → AreFree scope names → Front (after_decl scope (DObject names constant shape init s)) ds es → Front scope (decl_then (DObject names constant shape init s) ds) es
  front_body : {scope : Scope} {w : Word} {objects : PDecls} {its : PBody} {s : Span} {ds es : PDecls} → Behind ds es → Front scope (decl_then (DTaskBody w objects its s) ds) es

-- a declaration in front, if it stays
abbrev pub if_stays : Bool → PDecl → PDecls → PDecls
if_stays true d rest = decl_then d rest
if_stays false d rest = rest

-- the mark of an object is no task type
abbrev pub is_no_task : Marking → Bool
is_no_task (TaskMark entries) = false
is_no_task _ = true

-- The declarations but tasks, task types, objects of task types and bodies.
abbrev pub staying : Scope → PDecls → PDecls
staying scope no_decl = no_decl
staying scope (decl_then (DTask t s) rest) = staying (after_decl scope (DTask t s)) rest
staying scope (decl_then (DTaskBody w objects its s) rest) = staying (after_decl scope (DTaskBody w objects its s)) rest
staying scope (decl_then (DObject names constant shape init s) rest) =
    if_stays (is_no_task (marking scope (mark_of shape))) (DObject names constant shape init s) (staying (after_decl scope (DObject names constant shape init s)) rest)
staying scope (decl_then d rest) = decl_then d (staying (after_decl scope d) rest)

-- ---- names that are declared once

-- the names that a declaration of main gives to main
abbrev pub names_declared : PDecl → List Word
names_declared (DNumber name e s) = name ∷ []
names_declared (DObject names constant shape init s) = names
names_declared (DEnumeration name literals s) = name ∷ literals
names_declared (DArray name index x s) = name ∷ []
names_declared (DSubtype name x s) = name ∷ []
names_declared (DException names s) = names
names_declared (DIntIo name s) = name ∷ []
names_declared (DPragma e s) = []
names_declared (DTask t s) = t.name ∷ []
names_declared (DTaskBody name objects its s) = []

-- the name is no predefined one, and main has not declared it before
abbrev pub IsUnused : Scope → Word → Type 0
IsUnused scope w = (is_predefined w.name.0 ≡ false) × (is_among scope.here w.name.0 ≡ false)

-- Each declaration declares names that main has not declared before (8.3).
abbrev pub DeclareOnce : Scope → PDecls → Type 0
DeclareOnce scope no_decl = Unit {0}
DeclareOnce scope (decl_then d rest) = AllByRecursion (IsUnused scope) (names_declared d) × DeclareOnce (after_decl scope d) rest

-- The same of a program of that name, whose name is no predefined one.
abbrev pub NamesOnce : Word → PDecls → Type 0
NamesOnce name ds = IsUnused before_all name × DeclareOnce (first_scope name) ds
