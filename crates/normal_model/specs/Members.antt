-- Callees of the normal form (9.1, 9.5, 9.10; this project's rule): each task has a name of its own there. A callee with a static index becomes that member's name. One whose index is not static is chosen by a case statement over the index's variable, with a branch for each member.
use Rattle.std.specs.Prelude.{ℕ, ◌==◌, suc, ℤ, pos, negsuc, unsigned_abs, ◌&&◌, if◌then◌else◌, List, [], ◌∷◌, map, slice_get, Option, Some, None, is_some, unwrap_or, Result, Ok, Err}
use Rattle.std.specs.List.{filter}
use Rattle.std.specs.Ordering.{int_eq}
use Rattle.ada_tree.specs.declared.naming.NameId.{NameId}
use Rattle.ada_tree.specs.declared.naming.Span.{Span}
use Rattle.ada_tree.specs.declared.naming.Word.{Word}
use Rattle.ada_tree.specs.declared.static_types.Kind.{Kind}
use Rattle.ada_tree.specs.declared.static_types.Kind.TheVariants as kind
use Rattle.ada_tree.specs.declared.expressions.UnaryOp.TheVariants as unary
use Rattle.ada_tree.specs.TypeTable.{TypeTable}
use Rattle.ada_tree.specs.Attributes.{false_name, true_name}
use Rattle.ada_tree.specs.PlainExpr.{PExpr, EInteger, EName, EAttribute, EUnary, PDrange}
use Rattle.ada_tree.specs.PlainStmt.{PCallee, PStmt, SNull, SCase, PStmts, PCaseArm, case_arm, case_arms_of, present}
use Rattle.syn_event.specs.declared.numbering.TaskInfo.{TaskInfo}
use Rattle.ada_value.specs.declared.values.Raised.{Raised}
use Rattle.task_model.specs.Setting.{Setting, callee_task}
use Rattle.normal_model.specs.Names.{task_name, task_name_at}
use Rattle.normal_model.specs.Ranges.{word_at, kind_of_range, array_range, subtype_of_range}
use Rattle.normal_model.specs.Making.{one, variable, Kept, kept_if, moving}

-- ---- choices

-- `-n`, and INTEGER'FIRST of the number that has no literal
abbrev pub negative_literal : Span → ℕ → PExpr
negative_literal s n =
    if n == 2147483647
    then EAttribute (word_at s record { 0 = 0 }) (word_at s record { 0 = 18 }) s
    else EUnary unary.Minus (EInteger (suc n) s) s

abbrev pub integer_literal : Span → ℤ → PExpr
integer_literal s (pos n) = EInteger n s
integer_literal s (negsuc n) = negative_literal s n

abbrev pub truth_literal : Span → ℤ → PExpr
truth_literal s z = EName record { 0 = if int_eq z (pos 0) then false_name else true_name } s

-- The literal of a kind at a position; of an enumeration its name (3.5.1).
abbrev pub literal_in : Option Kind → Span → ℤ → PExpr
literal_in (Some kind.Truth) s z = truth_literal s z
literal_in (Some (kind.Enumeration names)) s z = EName (unwrap_or (slice_get names (unsigned_abs z)) (record { 0 = 0 })) s
literal_in _ s z = integer_literal s z

-- the kind of a range's values, where there is a range
abbrev pub kind_of_index : TypeTable → Option PDrange → Option Kind
kind_of_index types None = None
kind_of_index types (Some r) = slice_get types.kinds (kind_of_range types r)

-- the literal of a member's index
abbrev pub index_literal : Option Kind → Span → Option ℤ → PExpr
index_literal k s None = integer_literal s (pos 0)
index_literal k s (Some i) = literal_in k s i

-- ---- a known callee

-- the number of a task that is known without variables; 0 where it is not, as in no legal program
abbrev pub known_task : Result ℕ Raised → ℕ
known_task (Ok t) = t
known_task (Err x) = 0

-- The name of a callee without index or with a static one.
abbrev pub known_callee : Setting → PCallee → Word
known_callee g callee = word_at callee.name.span (task_name_at g (known_task (callee_task g [] callee)))

-- ---- a callee that is chosen

-- the index of a callee, where it is not static: its variable is of the array's range
abbrev pub callee_kept : Setting → Span → PCallee → List Kept
callee_kept g s callee = kept_if (subtype_of_range g.types s (array_range g.program callee.name.name)) (moving g.types callee.index)

-- the members of an array of tasks, by ascending index
abbrev pub members_of : Setting → NameId → List TaskInfo
members_of g name = filter (λ info. (info.name.0 == name.0) && is_some info.member) g.numbers.tasks

-- the branch of a member: what stands there is told by its name
abbrev pub member_arm : Setting → Span → PCallee → (Word → PStmts) → TaskInfo → PCaseArm
member_arm g s callee what info =
    case_arm
    (record { first = index_literal (kind_of_index g.types (array_range g.program callee.name.name)) s info.member; last = None } ∷ [])
    (what (word_at callee.name.span (task_name g info)))

-- A case statement over the variable of a callee's index, with a branch for each member, ascending, and `when others => null;`.
abbrev pub by_member : Setting → Span → PCallee → ℕ → (Word → PStmts) → PStmt
by_member g s callee k what =
    SCase (variable g s k) (case_arms_of (map (member_arm g s callee what) (members_of g callee.name.name))) (present (one (SNull s))) s

-- what stands for a callee, by whether its index moves: what is told by its name, or the case statement over the variable of number k
abbrev pub chosen_if : Option PExpr → Setting → Span → PCallee → ℕ → (Word → PStmts) → PStmts
chosen_if None g s callee k what = what (known_callee g callee)
chosen_if (Some e) g s callee k what = one (by_member g s callee k what)

-- What stands for a callee, where the variable of its index, if it has one, has the number k.
abbrev pub chosen : Setting → Span → PCallee → ℕ → (Word → PStmts) → PStmts
chosen g s callee k what = chosen_if (moving g.types callee.index) g s callee k what
