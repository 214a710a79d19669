-- The plain mirror of declarations, with the view of each type in it.
use Rattle.std.specs.Prelude.{ℕ, Bool, List, [], ◌∷◌, Option, map, option_map}
use Rattle.ada_tree.specs.declared.naming.Span.{Span}
use Rattle.ada_tree.specs.declared.naming.Word.{Word}
use Rattle.ada_tree.specs.declared.declarations.Shape.{Shape}
use Rattle.ada_tree.specs.declared.declarations.Shape.TheVariants.{Plain, ConstrainedArray}
use Rattle.ada_tree.specs.declared.declarations.Init.{Init}
use Rattle.ada_tree.specs.declared.declarations.Init.TheVariants.{One, List as Listed, Others}
use Rattle.ada_tree.specs.declared.declarations.TaskUnit.{TaskUnit}
use Rattle.ada_tree.specs.declared.declarations.Priority.{Priority}
use Rattle.ada_tree.specs.declared.declarations.EntryDecl.{EntryDecl}
use Rattle.ada_tree.specs.declared.declarations.Decl.{Decl}
use Rattle.ada_tree.specs.declared.declarations.DeclKind.{DeclKind, Number, Object, Enumeration, Array, Subtype, Exception, IntIo, Pragma, Task, TaskBody', Row_of-Decl, end_of-Decl, more_of-Decl}
use Rattle.ada_tree.specs.PlainExpr.{PExpr, PSubind, PDrange, plain_expr, plain_subind, plain_drange}
use Rattle.ada_tree.specs.PlainStmt.{PFormal, PBody, plain_formal, plain_body}

-- what an object is: a scalar or a named array, or an array of its own type
pub data PShape : Type 0 where
  OPlain : PSubind → PShape
  OArray : PDrange → PSubind → PShape

-- an initial value
pub data PInit : Type 0 where
  IOne : PExpr → PInit
  IList : List PExpr → Span → PInit
  IOthers : PExpr → Span → PInit

-- a pragma PRIORITY of a task
pub record PPriority : Type 0 where
  pub place : ℕ
  pub value : PExpr

-- an entry or a family
pub record PEntry : Type 0 where
  pub name : Word
  pub family : Option PDrange
  pub formals : List PFormal
  pub span : Span

-- a task or a task type
pub record PTask : Type 0 where
  pub name : Word
  pub of_kind : Bool
  pub entries : List PEntry
  pub priorities : List PPriority

mutual
  -- a declaration with its place in the text (3.1, 9.1, 11.1)
  pub data PDecl : Type 0 where
    DNumber : Word → PExpr → Span → PDecl
    DObject : List Word → Bool → PShape → Option PInit → Span → PDecl
    DEnumeration : Word → List Word → Span → PDecl
    DArray : Word → PDrange → PSubind → Span → PDecl
    DSubtype : Word → PSubind → Span → PDecl
    DException : List Word → Span → PDecl
    DIntIo : Word → Span → PDecl
    DPragma : PExpr → Span → PDecl
    DTask : PTask → Span → PDecl
    DTaskBody : Word → PDecls → PBody → Span → PDecl

  -- declarations in their order (3.9)
  pub data PDecls : Type 0 where
    no_decl : PDecls
    decl_then : PDecl → PDecls → PDecls

-- the row of a list
abbrev pub decls_of : List PDecl → PDecls
decls_of [] = no_decl
decls_of (x ∷ xs) = decl_then x (decls_of xs)

abbrev pub plain_shape : Shape → PShape
plain_shape (Plain x) = OPlain (plain_subind x)
plain_shape (ConstrainedArray r x) = OArray (plain_drange r) (plain_subind x)

abbrev pub plain_init : Init → PInit
plain_init (One e) = IOne (plain_expr e)
plain_init (Listed es s) = IList (map plain_expr es.items) s
plain_init (Others e s) = IOthers (plain_expr e) s

abbrev pub plain_priority : Priority → PPriority
plain_priority x = record { place = x.place; value = plain_expr x.value }

abbrev pub plain_entry : EntryDecl → PEntry
plain_entry x = record { name = x.name; family = option_map plain_drange x.family; formals = map plain_formal x.formals.items; span = x.span }

abbrev pub plain_task : TaskUnit → PTask
plain_task x = record { name = x.name; of_kind = x.of_kind; entries = map plain_entry x.entries.items; priorities = map plain_priority x.priorities.items }

-- `decl_at` is the declaration of a kind that stands at a place
abbrev mutual
  pub decl_at : DeclKind → Span → PDecl
  decl_at (Number w e) s = DNumber w (plain_expr e) s
  decl_at (Object ws c x i) s = DObject ws.items c (plain_shape x) (option_map plain_init i) s
  decl_at (Enumeration w ws) s = DEnumeration w ws.items s
  decl_at (Array w r x) s = DArray w (plain_drange r) (plain_subind x) s
  decl_at (Subtype w x) s = DSubtype w (plain_subind x) s
  decl_at (Exception ws) s = DException ws.items s
  decl_at (IntIo w) s = DIntIo w s
  decl_at (Pragma e) s = DPragma (plain_expr e) s
  decl_at (Task t) s = DTask (plain_task t) s
  decl_at (TaskBody' w n k b) s = DTaskBody w (plain_decls k) (plain_body b) s

  pub plain_decls : {n : _} → Row_of-Decl n → PDecls
  plain_decls end_of-Decl = no_decl
  plain_decls (more_of-Decl k s rest) = decl_then (decl_at k s) (plain_decls rest)

abbrev pub plain_decl : Decl → PDecl
plain_decl x = decl_at x.kind x.span
