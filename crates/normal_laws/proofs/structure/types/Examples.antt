-- A program by which the laws can be tried: an array of tasks of a type, a constant, a variable, and a body with an array of its own.
use Rattle.std.specs.Prelude.{◌≡◌, ℕ, pos, negsuc, true, false, [], ◌∷◌, ◌++◌, codes, All, Some, None, refl}
use Rattle.std.specs.Fmt.{digits}
use Rattle.std.proofs.lemmas.List.Elements.{All-nil, All-cons}
use Rattle.ada_tree.specs.declared.naming.Span.{Span}
use Rattle.ada_tree.specs.declared.naming.Word.{Word}
use Rattle.ada_tree.specs.NameList.{predefined}
use Rattle.ada_tree.specs.PlainExpr.{EInteger, EName, PSubind, PDrange, RGiven}
use Rattle.ada_tree.specs.PlainStmt.{SCall, SAccept, no_stmt, stmt_then, absent, accepting, body, no_handler}
use Rattle.ada_tree.specs.PlainDecl.{PEntry, OPlain, OArray, IOne, DObject, DTask, DTaskBody, PDecls, no_decl, decl_then}
use Rattle.ada_tree.specs.PlainProgram.{PProgram}
use Rattle.ada_tree.specs.Every.{Rules, EveryWord, EveryFormal, EveryEntry, EveryPriority, EveryBody}
use Rattle.ada_static_rules.specs.Refusals.{types_in}
use Rattle.syn_event.specs.Numbering.{Numbering}
use Rattle.syn_event.specs.AllNumbers.{all_numbers}
use Rattle.ada_value.specs.declared.values.Value.TheVariants.{Number}
use Rattle.task_model.specs.Starting.{objects_of}
use Rattle.normal_model.specs.NormalTree.{normal_tree}
use Rattle.task_laws.specs.legal.rewritten_types.Agreement.{Agrees}
use Rattle.task_laws.specs.legal.rewritten_values.Values.{old_names}
use Rattle.normal_laws.specs.structure.types.Own.{own_name}
use Rattle.normal_laws.specs.structure.types.Laws.{IsOrdered, AreOwn}
use Rattle.normal_laws.proofs.structure.types.Normal.{normal_agrees}

abbrev o : Span
o = record { start = 0; end = 0 }

abbrev w : ℕ → Word
w id = record { name = record { 0 = id }; span = o }

abbrev marked : ℕ → PSubind
marked id = record { mark = w id; bounds = None }

-- `1 .. n`
abbrev up_to : ℕ → PDrange
up_to n = RGiven record { first = EInteger 1 o; last = EInteger n o }

-- procedure P is
--    task type W is
--       entry E;
--    end W;
--    A : array (1 .. 2) of W;
--    N : constant INTEGER := 3;
--    V : INTEGER;
--    task body W is
--       L : array (1 .. 3) of INTEGER;
--    begin
--       accept E;
--    end W;
-- begin
--    A(V).E;
-- end P;
abbrev pub declared : PDecls
declared =
    decl_then (DTask record { name = w 26; of_kind = true; entries = record { name = w 27; family = None; formals = []; span = o } ∷ []; priorities = [] } o)
    (decl_then (DObject (w 28 ∷ []) false (OArray (up_to 2) (marked 26)) None o)
    (decl_then (DObject (w 29 ∷ []) true (OPlain (marked 0)) (Some (IOne (EInteger 3 o))) o)
    (decl_then (DObject (w 30 ∷ []) false (OPlain (marked 0)) None o)
    (decl_then (DTaskBody (w 26) (decl_then (DObject (w 31 ∷ []) false (OArray (up_to 3) (marked 0)) None o) no_decl)
    (body (stmt_then (SAccept (accepting record { entry = w 27; index = None; formals = []; span = o } absent) o) no_stmt) no_handler) o)
    no_decl))))

abbrev pub original : PProgram
original = record {
  names = predefined ++ codes "P" ∷ codes "W" ∷ codes "E" ∷ codes "A" ∷ codes "N" ∷ codes "V" ∷ codes "L" ∷ [];
  text_io = false;
  name = w 25;
  decls = declared;
  body = body (stmt_then (SCall record { task = record { name = w 28; index = Some (EName record { 0 = 30 } o) }; entry = w 27; args = None } o) no_stmt) no_handler;
}

abbrev numbers : Numbering
numbers = all_numbers (types_in original) original

abbrev made : PProgram
made = normal_tree original (types_in original) numbers

-- ---- the premises are met

pub ordered : IsOrdered original
ordered = record { rules = refl; last = tt }

-- `entry E;`
abbrev entry_e : PEntry
entry_e = record { name = w 27; family = None; formals = []; span = o }

abbrev own_names : Rules
own_names = old_names (own_name original)

entry_own : EveryEntry own_names entry_e
entry_own = (tt, refl, tt, All-nil (EveryFormal own_names))

-- a declaration's only name
name_own : (id : ℕ) → own_name original id ≡ true → All (EveryWord own_names) (w id ∷ [])
name_own id e = All-cons (EveryWord own_names) (w id) [] e (All-nil (EveryWord own_names))

accept_own : EveryBody own_names 1 (body (stmt_then (SAccept (accepting record { entry = w 27; index = None; formals = []; span = o } absent) o) no_stmt) no_handler)
accept_own = ((tt, (tt, (refl, tt, All-nil (EveryFormal own_names)), tt), tt), tt, tt)

pub own : AreOwn original declared
own = (
  (tt, (refl, All-cons (EveryEntry own_names) entry_e [] entry_own (All-nil (EveryEntry own_names)), All-nil (EveryPriority own_names), tt)),
  (
    (tt, (tt, name_own 28 refl), ((tt, (tt, tt), (tt, tt)), (refl, tt)), tt, tt),
    (
      (tt, (tt, name_own 29 refl), (refl, tt), tt, (tt, tt)),
      (
        (tt, (tt, name_own 30 refl), (refl, tt), tt, tt),
        ((tt, refl, tt, ((tt, (tt, name_own 31 refl), ((tt, (tt, tt), (tt, tt)), (refl, tt)), tt, tt), tt), accept_own), tt),
      ),
    ),
  ),
)

agrees : Agrees (own_name original) (types_in original) (types_in made)
agrees = normal_agrees original (types_in original) numbers ordered

-- ---- what the laws say here

-- a variable of the normal form is no name of the program's own, and the program's names are
not_own : own_name original 34 ≡ false
not_own = refl

is_own : own_name original 30 ≡ true
is_own = refl

-- main starts with V in the program, and with a variable of range 1 .. 2 in front of it in the normal form
before : objects_of (types_in original) true declared [] ≡ record { name = record { 0 = 30 }; limits = record { kind = 0; first = negsuc 2147483647; last = pos 2147483647 }; index = None; values = Number (negsuc 2147483647) ∷ [] } ∷ []
before = refl

after : objects_of (types_in made) true made.decls []
    ≡ record { name = record { 0 = 34 }; limits = record { kind = 0; first = pos 1; last = pos 2 }; index = None; values = Number (pos 1) ∷ [] }
    ∷ record { name = record { 0 = 30 }; limits = record { kind = 0; first = negsuc 2147483647; last = pos 2147483647 }; index = None; values = Number (negsuc 2147483647) ∷ [] } ∷ []
unfolding digits
after = refl
