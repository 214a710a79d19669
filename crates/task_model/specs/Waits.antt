-- Accept statements and selective waits (9.5, 9.7.1): which alternatives are open where the task stands, and which choices they give.
use Rattle.std.specs.Prelude.{ℕ, ℤ, ◌+◌, ◌==◌, nat_lt, Bool, true, false, if◌then◌else◌, List, [], ◌∷◌, ◌++◌, find, Option, Some, None, Result, Ok, Err}
use Rattle.std.specs.List.{filter_map, list_any}
use Rattle.ada_tree.specs.PlainExpr.{PExpr}
use Rattle.ada_tree.specs.PlainStmt.{PHead, PStmt, SAccept, SWait, PStmts, no_stmt, stmt_then, PMaybe, absent, present, PAccept, accepting, alternative, PAltKind, AAccept, ADelay, ATerminate, PAlts, no_alt, alt_then}
use Rattle.event_machine.specs.declared.Choice.{Choice}
use Rattle.event_machine.specs.declared.Choice.TheVariants as choice
use Rattle.event_machine.specs.Offers.{same_member}
use Rattle.ada_value.specs.declared.values.Raised.{Raised}
use Rattle.ada_value.specs.Values.{and_then, is_true_value, checked, truth_limits}
use Rattle.task_model.specs.Setting.{entry_of, member_index}
use Rattle.task_model.specs.Tasks.{Task, rest_of, vars_of, value_of, stmts_or_none}

-- An open alternative.
pub data Open : Type 0 where
  -- it accepts the member of an entry: with this head, these statements of the accept body, and these behind the accept
  Accepts : ℕ → ℤ → PHead → PStmts → PStmts → Open
  -- it is the delay alternative of this number, from 1, with this duration in thousandths, and these statements behind the delay
  Delays : ℕ → ℕ → PStmts → Open
  -- it terminates
  Terminates : Open

-- ---- guards (9.7.1)

-- A guard holds where its value is TRUE; it is checked as an assignment to a variable of BOOLEAN would check it, which refuses no value of BOOLEAN. No guard is one that holds.
abbrev pub guard_holds : Task → Option PExpr → Result Bool Raised
guard_holds t None = Ok true
guard_holds t (Some e) = and_then (value_of t e) (λ v. and_then (checked truth_limits v) (λ w. Ok (is_true_value w)))

-- ---- open alternatives

-- an accept, with the statements behind it: its index is evaluated and checked against the family's range (9.5)
abbrev pub accept_opened : Task → PAccept → PStmts → Result Open Raised
accept_opened t (accepting head body) behind =
    and_then (member_index t.setting (vars_of t) (entry_of t.setting.numbers t.number head.entry.name) head.index)
    (λ i. Ok (Accepts (entry_of t.setting.numbers t.number head.entry.name) i head (stmts_or_none body) behind))

-- an alternative whose guard holds, where k delay alternatives are written before it
abbrev pub kind_opened : Task → PAltKind → ℕ → Result Open Raised
kind_opened t (AAccept accept stmts) k = accept_opened t accept stmts
kind_opened t (ADelay duration stmts) k = Ok (Delays (k + 1) duration stmts)
kind_opened t ATerminate k = Ok Terminates

-- the number of delay alternatives up to and with this one: closed ones count too
abbrev pub delays_with : PAltKind → ℕ → ℕ
delays_with (AAccept accept stmts) k = k
delays_with (ADelay duration stmts) k = k + 1
delays_with ATerminate k = k

-- an alternative in front of open ones; where its guard does not hold it is closed, and its index is not evaluated
abbrev pub opened_if : Bool → Result Open Raised → Result (List Open) Raised → Result (List Open) Raised
opened_if true here rest = and_then here (λ o. and_then rest (λ os. Ok (o ∷ os)))
opened_if false here rest = rest

-- The open alternatives of a selective wait, in written order: of each in turn its guard is evaluated, and the index where it is open (the order is this project's rule).
abbrev pub alternatives_open : Task → PAlts → ℕ → Result (List Open) Raised
alternatives_open t no_alt k = Ok []
alternatives_open t (alt_then (alternative guard what s) rest) k =
    and_then (guard_holds t guard) (λ b. opened_if b (kind_opened t what k) (alternatives_open t rest (delays_with what k)))

-- What is open at a statement: an accept statement is one open alternative (9.5).
abbrev pub open_at : Task → PStmt → Result (List Open) Raised
open_at t (SAccept accept s) = and_then (accept_opened t accept no_stmt) (λ o. Ok (o ∷ []))
open_at t (SWait alts otherwise s) = alternatives_open t alts 0
open_at t _ = Ok []

-- ---- choices

-- the choice of an open accept alternative: the member that it accepts (9.7.1)
abbrev pub accept_choice : Open → Option Choice
accept_choice (Accepts e i head body behind) = Some (choice.Accept e i)
accept_choice (Delays k duration stmts) = None
accept_choice Terminates = None

-- an open delay of a duration below this one
abbrev pub is_shorter : ℕ → Open → Bool
is_shorter bound (Accepts e i head body behind) = false
is_shorter bound (Delays k duration stmts) = nat_lt duration bound
is_shorter bound Terminates = false

-- of the open delays those of the least duration can be taken (this project's rule for 9.7.1: time is abstract)
abbrev pub delay_choice : List Open → Open → Option Choice
delay_choice all (Accepts e i head body behind) = None
delay_choice all (Delays k duration stmts) = if list_any (is_shorter duration) all then None else Some (choice.Delay k)
delay_choice all Terminates = None

-- the choice of an open terminate alternative (9.7.1)
abbrev pub terminate_choice : Open → Option Choice
terminate_choice (Accepts e i head body behind) = None
terminate_choice (Delays k duration stmts) = None
terminate_choice Terminates = Some choice.Terminate

-- the choice of an else part, where there is one (9.7.1)
abbrev pub else_choice : Bool → List Choice
else_choice true = choice.Else ∷ []
else_choice false = []

-- The choices of a wait: the open accepts in written order, the else part, the delays that can be taken by their numbers, and terminate.
abbrev pub choices_of : Bool → List Open → List Choice
choices_of has_else all =
    filter_map accept_choice all ++ (else_choice has_else ++ (filter_map (delay_choice all) all ++ filter_map terminate_choice all))

-- a part that may be left out is there
abbrev pub is_present : PMaybe → Bool
is_present absent = false
is_present (present stmts) = true

-- ---- what is taken

-- the alternative accepts this member
abbrev pub accepts_member : ℕ → ℤ → Open → Bool
accepts_member e i (Accepts f j head body behind) = same_member e i f j
accepts_member e i (Delays k duration stmts) = false
accepts_member e i Terminates = false

-- the first of the open alternatives that accepts this member, if one does
abbrev pub first_accepting : ℕ → ℤ → Result (List Open) Raised → Option Open
first_accepting e i (Ok all) = find (accepts_member e i) all
first_accepting e i (Err x) = None

-- the first open alternative of the next statement that accepts this member, if one does
abbrev pub accepting_at : Task → PStmts → ℕ → ℤ → Option Open
accepting_at t no_stmt e i = None
accepting_at t (stmt_then s rest) e i = first_accepting e i (open_at t s)

-- The first open alternative that accepts this member, where the task stands.
abbrev pub alternative_for : Task → ℕ → ℤ → Option Open
alternative_for t e i = accepting_at t (rest_of t) e i

-- the statements of an alternative, if it is a delay (9.7.1)
abbrev pub delay_part : PAltKind → Option PStmts
delay_part (AAccept accept stmts) = None
delay_part (ADelay duration stmts) = Some stmts
delay_part ATerminate = None

-- the delay of this number among alternatives with m delays before them
abbrev pub delay_here : Option PStmts → Bool → PStmts → PStmts
delay_here (Some stmts) true later = stmts
delay_here (Some stmts) false later = later
delay_here None is_it later = later

-- The statements of the k-th delay alternative, with m delays before these alternatives; none where there is no such.
abbrev pub delay_stmts : PAlts → ℕ → ℕ → PStmts
delay_stmts no_alt m k = no_stmt
delay_stmts (alt_then (alternative guard what s) rest) m k =
    delay_here (delay_part what) (k == m + 1) (delay_stmts rest (delays_with what m) k)
