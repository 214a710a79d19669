-- The laws of values and objects of rewritten programs.
use Rattle.std.specs.Prelude.{◌≡◌, ℕ, ◌++◌, Bool, true, List, length, Some, None}
use Rattle.ada_tree.specs.declared.naming.Word.{Word}
use Rattle.ada_tree.specs.declared.static_types.Mark.{Mark}
use Rattle.ada_tree.specs.TypeTable.{TypeTable}
use Rattle.ada_tree.specs.PlainExpr.{PExpr}
use Rattle.ada_tree.specs.PlainDecl.{PShape, OPlain, PDecls}
use Rattle.ada_tree.specs.PlainProgram.{PProgram}
use Rattle.ada_tree.specs.Every.{EveryExpr, EveryShape, EveryDecls}
use Rattle.ada_tree.specs.WellPlaced.{BodiesLast, HasTokens}
use Rattle.ada_static_rules.specs.StaticValue.{mark_named}
use Rattle.ada_static_rules.specs.Declaring.{first_scope}
use Rattle.ada_static_rules.specs.Refusals.{MeetsTypeRules, types_in}
use Rattle.ada_value.specs.Values.{limits_named}
use Rattle.ada_value.specs.Variables.{Variables}
use Rattle.ada_value.specs.Evaluating.{evaluated}
use Rattle.task_model.specs.Starting.{form_of, objects_of}
use Rattle.task_laws.specs.legal.rewritten_types.Agreement.{Agrees}
use Rattle.task_laws.specs.legal.rewritten_types.Rewriting.{Front, staying, NamesOnce}
use Rattle.task_laws.specs.legal.rewritten_types.Laws.{behind}
use Rattle.task_laws.specs.legal.rewritten_values.Values.{AgreeOnValues, LiteralsWithin, is_known, old_names}

-- Tables that agree on old names say the same of values, where the second program has more names behind those of the first.
abbrev pub TablesAgreeOnValues : Type 0
TablesAgreeOnValues = (old : ℕ → Bool) (T U : TypeTable) (before more : List (List ℕ)) → Agrees old T U → LiteralsWithin (length before) T → AgreeOnValues old T U before (before ++ more)

-- The literals of a program whose names the source can hold have names of it.
abbrev pub LiteralsAreNamed : Type 0
LiteralsAreNamed = (p : PProgram) → HasTokens p → LiteralsWithin (length p.names) (types_in p)

-- An expression in which all names are old is evaluated alike by both tables.
abbrev pub EvaluatedAlike : Type 0
EvaluatedAlike = (old : ℕ → Bool) (T U : TypeTable) → Agrees old T U → (k : ℕ) (e : PExpr) → EveryExpr (old_names old) k e → (vars : Variables) → evaluated T vars e ≡ evaluated U vars e

-- An object is the same by both tables: its subtype, and for an array the range of its index.
abbrev pub FormsAlike : Type 0
FormsAlike = (old : ℕ → Bool) (T U : TypeTable) → Agrees old T U → (shape : PShape) → EveryShape (old_names old) shape → form_of T shape ≡ form_of U shape

-- The objects of a unit are the same by both tables, with the same values at the start.
abbrev pub ObjectsAlike : Type 0
ObjectsAlike = (old : ℕ → Bool) (T U : TypeTable) → Agrees old T U → (in_main : Bool) (ds : PDecls) → EveryDecls (old_names old) ds → (vars : Variables) → objects_of T in_main ds vars ≡ objects_of U in_main ds vars

-- The objects of main are those of the declarations that stay: what is left out is no object.
abbrev pub ObjectsStay : Type 0
ObjectsStay =
    (name : Word) (ds es : PDecls) → NamesOnce name ds → Front (first_scope name) ds es → (vars : Variables) →
    objects_of (behind name ds).types true ds vars ≡ objects_of (behind name ds).types true es vars

-- An object of a scalar type or subtype, as a rewriter adds it, has the bounds of its mark.
abbrev pub MarkedForm : Type 0
MarkedForm = (T : TypeTable) (w : Word) (m : Mark) → mark_named T w.name ≡ Some m → is_known T m.kind ≡ true →
    form_of T (OPlain record { mark = w; bounds = None }) ≡ Some record { limits = limits_named T w.name; index = None }

-- Of a program whose bodies stand last: its first declarations may stay, and declare each name once, and the tables of both agree on old names.
pub record FirstAgree (old : ℕ → Bool) (p : PProgram) (first : PDecls) : Type 0 where
  pub once : NamesOnce p.name p.decls
  pub front : Front (first_scope p.name) p.decls first
  pub agree : Agrees old (types_in p) (behind p.name first).types
  pub literals : LiteralsWithin (length p.names) (types_in p)

-- So it is of each program that meets the rules on types, whichever names are old, with what is left without its tasks and bodies.
abbrev pub IsMet : Type 0
IsMet = (old : ℕ → Bool) (p : PProgram) → MeetsTypeRules p → BodiesLast p.decls → HasTokens p → FirstAgree old p (staying (first_scope p.name) p.decls)
