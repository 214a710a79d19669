-- Entry calls in the normal form (9.5, 9.7.2, 9.7.3, 6.4.1; this project's rule). In front of a call, in this order, the callee's index goes to a variable where it is not static, a family's index always, and then each `in` and `in out` actual; an `out` actual has a variable too. The call has these variables. Behind it the variables of `out` and `in out` actuals are assigned to the actuals, in order.
use Rattle.std.specs.Prelude.{ℕ, ◌+◌, Bool, true, false, List, [], ◌∷◌, ◌++◌, length, map, flat_map, Option, Some, None, option_map, is_some, unwrap_or}
use Rattle.ada_tree.specs.declared.naming.NameId.{NameId}
use Rattle.ada_tree.specs.declared.naming.Span.{Span}
use Rattle.ada_tree.specs.declared.naming.Word.{Word}
use Rattle.ada_tree.specs.declared.statements.ParMode.{ParMode}
use Rattle.ada_tree.specs.declared.statements.ParMode.TheVariants.{Take, Give, Both}
use Rattle.ada_tree.specs.declared.expressions.BinaryOp.TheVariants.{Equal}
use Rattle.ada_static_rules.specs.ExprTypes.{expr_place}
use Rattle.ada_tree.specs.PlainExpr.{PExpr, EInteger, EBinary, PSubind}
use Rattle.ada_tree.specs.PlainStmt.{PCall, PArgs, PFormal, PStmt, SAssign, SCall, SConditional, STimed, SIf, PStmts, no_stmt, stmt_then, present, arm, no_arm, arm_then}
use Rattle.syn_event.specs.Numbering.{task_named, entry_at}
use Rattle.task_model.specs.Setting.{Setting, entry_of, is_family, formals_of_info, Lists, lists_of}
use Rattle.task_model.specs.Calls.{variable_of}
use Rattle.task_model.specs.Frames.{in_front}
use Rattle.normal_model.specs.Ranges.{word_at, marked, integer_subtype, subtype_of_range, family_range}
use Rattle.normal_model.specs.Making.{one, or_null, variable, assignment, Kept, kept_before, kept_subtypes, kept_if, moving}
use Rattle.normal_model.specs.Members.{callee_kept, by_member, known_callee, chosen}

-- ---- what is called

-- the first task that a callee's name stands for: all members of an array have the same entries
abbrev pub first_named : Setting → PCall → ℕ
first_named g c = unwrap_or (task_named g.numbers c.task.name.name) 0

-- the entry that is called, of that task
abbrev pub entry_called : Setting → PCall → ℕ
entry_called g c = entry_of g.numbers (first_named g c) c.entry.name

-- the index and the actuals of a call
abbrev pub lists_called : Setting → PCall → Lists
lists_called g c = lists_of g.numbers (entry_called g c) c.args

-- ---- actuals

-- A formal parameter: its mode and its mark.
pub record Slot : Type 0 where
  pub mode : ParMode
  pub mark : Word

-- the formals of a formal part, one by one and in order
abbrev pub slots_of : List PFormal → List Slot
slots_of formals = flat_map (λ f. map (λ w. record { mode = f.mode; mark = f.mark }) f.names) formals

abbrev pub slots_called : Setting → PCall → List Slot
slots_called g c = slots_of (formals_of_info g (entry_at g.numbers (entry_called g c)))

-- the assignment in front of a call: of an `in` or `in out` actual to its variable
abbrev pub actual_before : Setting → Span → ParMode → PExpr → ℕ → PStmts
actual_before g s Take e k = one (assignment g s k e)
actual_before g s Give e k = no_stmt
actual_before g s Both e k = one (assignment g s k e)

-- those of actuals, whose variables are numbered from k on
abbrev pub actuals_before : Setting → Span → List Slot → List PExpr → ℕ → PStmts
actuals_before g s [] es k = no_stmt
actuals_before g s (x ∷ xs) [] k = no_stmt
actuals_before g s (x ∷ xs) (e ∷ es) k = in_front (actual_before g s x.mode e k) (actuals_before g s xs es (k + 1))

-- the actuals of the new call: the variables
abbrev pub actuals_passed : Setting → Span → List Slot → List PExpr → ℕ → List PExpr
actuals_passed g s [] es k = []
actuals_passed g s (x ∷ xs) [] k = []
actuals_passed g s (x ∷ xs) (e ∷ es) k = variable g s k ∷ actuals_passed g s xs es (k + 1)

-- the assignment of a variable to an actual that is one
abbrev pub copied_to : Setting → Span → PExpr → Option NameId → ℕ → PStmts
copied_to g s e None k = no_stmt
copied_to g s e (Some id) k = one (SAssign (record { name = word_at (expr_place e) id; index = None }) (variable g s k) s)

-- the assignment behind a call: of the variable of an `out` or `in out` actual to that actual
abbrev pub actual_behind : Setting → Span → ParMode → PExpr → ℕ → PStmts
actual_behind g s Take e k = no_stmt
actual_behind g s Give e k = copied_to g s e (variable_of e) k
actual_behind g s Both e k = copied_to g s e (variable_of e) k

abbrev pub actuals_behind : Setting → Span → List Slot → List PExpr → ℕ → PStmts
actuals_behind g s [] es k = no_stmt
actuals_behind g s (x ∷ xs) [] k = no_stmt
actuals_behind g s (x ∷ xs) (e ∷ es) k = in_front (actual_behind g s x.mode e k) (actuals_behind g s xs es (k + 1))

-- the subtypes of the actuals' variables: the formals' marks
abbrev pub actual_subtypes : List Slot → List PExpr → List PSubind
actual_subtypes [] es = []
actual_subtypes (x ∷ xs) [] = []
actual_subtypes (x ∷ xs) (e ∷ es) = marked x.mark ∷ actual_subtypes xs es

-- ---- a call

-- the indices that are kept in front of a call: the callee's where it is not static, and a family's
abbrev pub indices_kept : Setting → Span → PCall → List Kept
indices_kept g s c = callee_kept g s c.task ++ kept_if (subtype_of_range g.types s (family_range g (entry_called g c))) (lists_called g c).index

-- the numbers of the variables of a family's index and of the first actual, where n variables were made before
abbrev pub index_number : Setting → Span → PCall → ℕ → ℕ
index_number g s c n = n + length (callee_kept g s c.task)

abbrev pub actual_number : Setting → Span → PCall → ℕ → ℕ
actual_number g s c n = n + length (indices_kept g s c)

-- what stands in front of a call
abbrev pub call_before : Setting → Span → PCall → ℕ → PStmts
call_before g s c n =
    in_front (kept_before g s (indices_kept g s c) n) (actuals_before g s (slots_called g c) (lists_called g c).actuals (actual_number g s c n))

-- what stands behind it
abbrev pub call_behind : Setting → Span → PCall → ℕ → PStmts
call_behind g s c n = actuals_behind g s (slots_called g c) (lists_called g c).actuals (actual_number g s c n)

-- the lists of the new call: of a family the index's variable, and then those of the actuals
abbrev pub lists_passed : Bool → Setting → Span → PCall → ℕ → PArgs → PArgs
lists_passed true g s c n args = record {
  first = variable g s (index_number g s c n) ∷ [];
  second = option_map (λ es. actuals_passed g s (slots_called g c) es (actual_number g s c n)) args.second;
}
lists_passed false g s c n args = record { first = actuals_passed g s (slots_called g c) args.first (actual_number g s c n); second = args.second }

abbrev pub args_passed : Setting → Span → PCall → ℕ → Option PArgs → Option PArgs
args_passed g s c n None = None
args_passed g s c n (Some args) = Some (lists_passed (is_family g.numbers (entry_called g c)) g s c n args)

-- The call of the task of a name, with variables alone.
abbrev pub call_to : Setting → Span → PCall → ℕ → Word → PCall
call_to g s c n w = record { task = record { name = w; index = None }; entry = c.entry; args = args_passed g s c n c.args }

-- the subtypes of the variables of a call, in their order
abbrev pub call_subtypes : Setting → Span → PCall → List PSubind
call_subtypes g s c = kept_subtypes (indices_kept g s c) ++ actual_subtypes (slots_called g c) (lists_called g c).actuals

-- ---- plain calls

-- What stands in the place of a plain call: the assignments to variables, the call or the choice of the member, and the assignments to the actuals.
abbrev pub plain_image : Setting → Span → PCall → ℕ → PStmts
plain_image g s c n =
    in_front (call_before g s c n)
    (in_front (chosen g s c.task n (λ w. one (SCall (call_to g s c n w) s)))
    (call_behind g s c n))

-- ---- conditional and timed calls

-- the callee is a member that is chosen where the call is made
abbrev pub is_chosen : Setting → PCall → Bool
is_chosen g c = is_some (moving g.types c.task.index)

-- the number of the variable that tells which part of the select came, which is the last of the call
abbrev pub flag_number : Setting → Span → PCall → ℕ → ℕ
flag_number g s c n = n + length (call_subtypes g s c)

abbrev pub flag_subtypes : Bool → Span → List PSubind
flag_subtypes true s = integer_subtype s ∷ []
flag_subtypes false s = []

-- the subtypes of the variables of a conditional or timed call: those of the call, and an INTEGER behind them where the member is chosen
abbrev pub select_subtypes : Setting → Span → PCall → List PSubind
select_subtypes g s c = call_subtypes g s c ++ flag_subtypes (is_chosen g c) s

-- the variable tells this part
abbrev pub flagged : Setting → Span → PCall → ℕ → ℕ → PStmts
flagged g s c n part = one (assignment g s (flag_number g s c n) (EInteger part s))

-- `if F = 1 then` these statements `else` those `end if;`
abbrev pub part_taken : Setting → Span → PCall → ℕ → PStmts → PStmts → PStmt
part_taken g s c n met other =
    SIf (arm_then (arm (EBinary Equal (variable g s (flag_number g s c n)) (EInteger 1 s) s) (or_null s met)) no_arm) (present (or_null s other)) s

-- a conditional or timed call of a chosen member, by its form: each branch tells which part came, and behind the case stand the parts
abbrev pub select_chosen : (PCall → PStmts → PStmts → PStmt) → Setting → Span → PCall → ℕ → PStmts → PStmts → PStmts
select_chosen form g s c n met other =
    stmt_then
    (by_member g s c.task n (λ w. one (form (call_to g s c n w) (flagged g s c n 1) (flagged g s c n 2))))
    (one (part_taken g s c n met other))

abbrev pub select_if : Bool → (PCall → PStmts → PStmts → PStmt) → Setting → Span → PCall → ℕ → PStmts → PStmts → PStmts
select_if true form g s c n met other = select_chosen form g s c n met other
select_if false form g s c n met other = one (form (call_to g s c n (known_callee g c.task)) met other)

-- What stands in the place of a conditional or timed call of that form: the assignments to the actuals stand first behind the call.
abbrev pub select_image : (PCall → PStmts → PStmts → PStmt) → Setting → Span → PCall → ℕ → PStmts → PStmts → PStmts
select_image form g s c n behind other =
    in_front (call_before g s c n) (select_if (is_chosen g c) form g s c n (in_front (call_behind g s c n) behind) other)

abbrev pub conditional_image : Setting → Span → PCall → ℕ → PStmts → PStmts → PStmts
conditional_image g s c n behind otherwise = select_image (λ call met other. SConditional call met other s) g s c n behind otherwise

abbrev pub timed_image : Setting → Span → PCall → ℕ → PStmts → ℕ → PStmts → PStmts
timed_image g s c n behind duration after = select_image (λ call met other. STimed call met duration other s) g s c n behind after
