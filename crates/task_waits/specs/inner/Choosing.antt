-- How the choices of a wait are found one alternative after another.
use Rattle.std.specs.Prelude.{ℕ, ℤ, ◌+◌, nat_lt, Bool, true, false, if◌then◌else◌, List, [], ◌∷◌, ◌++◌, ◌==◌, Option, Some, None, Result, Ok, Err}
use Rattle.ada_tree.specs.PlainStmt.{PAccept, accepting, PAlt, alternative, PAltKind, AAccept, ADelay, ATerminate, PStmts}
use Rattle.event_machine.specs.declared.Choice.{Choice}
use Rattle.event_machine.specs.declared.Choice.TheVariants as choice
use Rattle.ada_value.specs.declared.values.Raised.{Raised}
use Rattle.ada_value.specs.Values.{and_then}
use Rattle.task_model.specs.Setting.{entry_of, member_index}
use Rattle.task_model.specs.Tasks.{Task, vars_of}
use Rattle.task_model.specs.Waits.{Open, Accepts, Delays, Terminates, guard_holds, kind_opened, accepts_member, delay_part}
use Rattle.task_waits.specs.declared.calls.calls.Member.{Member}
use Rattle.task_waits.specs.declared.choosing.Sort.{Sort}
use Rattle.task_waits.specs.declared.choosing.Sort.TheVariants as sort

-- the member that an accept is for: its index is evaluated and checked (9.5)
abbrev pub member_accepted : Task → PAccept → Result Member Raised
member_accepted t (accepting head stmts) =
    and_then (member_index t.setting (vars_of t) (entry_of t.setting.numbers t.number head.entry.name) head.index)
    (λ i. Ok record { entry = entry_of t.setting.numbers t.number head.entry.name; index = i })

-- an alternative that is open where it is the truth value
abbrev pub if_open : Bool → Result Open Raised → Result (Option Open) Raised
if_open true here = and_then here (λ o. Ok (Some o))
if_open false here = Ok None

-- one alternative, with k delay alternatives before it: open or closed (9.7.1)
abbrev pub alternative_open : Task → PAlt → ℕ → Result (Option Open) Raised
alternative_open t (alternative guard what s) k = and_then (guard_holds t guard) (λ b. if_open b (kind_opened t what k))

-- the duration of an open delay
abbrev pub duration_of : Open → Option ℕ
duration_of (Accepts e i head stmts behind) = None
duration_of (Delays k d stmts) = Some d
duration_of Terminates = None

-- the duration of an alternative that may be closed
abbrev pub duration_if : Option Open → Option ℕ
duration_if None = None
duration_if (Some o) = duration_of o

-- the lesser of two durations that may be none
abbrev pub lesser : Option ℕ → Option ℕ → Option ℕ
lesser least None = least
lesser None (Some d) = Some d
lesser (Some m) (Some d) = if nat_lt d m then Some d else Some m

-- the least duration of open delays, and of one before them
abbrev pub least_among : Option ℕ → List Open → Option ℕ
least_among least [] = least
least_among least (o ∷ os) = least_among (lesser least (duration_of o)) os

-- a duration above the least one
abbrev pub is_longer : Option ℕ → ℕ → Bool
is_longer None d = false
is_longer (Some m) d = nat_lt m d

-- the choice of an open alternative, where it is of this sort
abbrev pub chosen : Sort → Open → Option Choice
chosen sort.Accepts (Accepts e i head stmts behind) = Some (choice.Accept e i)
chosen sort.Accepts (Delays k d stmts) = None
chosen sort.Accepts Terminates = None
chosen (sort.Delays least) (Accepts e i head stmts behind) = None
chosen (sort.Delays least) (Delays k d stmts) = if is_longer least d then None else Some (choice.Delay k)
chosen (sort.Delays least) Terminates = None
chosen sort.Terminates (Accepts e i head stmts behind) = None
chosen sort.Terminates (Delays k d stmts) = None
chosen sort.Terminates Terminates = Some choice.Terminate

-- the choice of an alternative that may be closed
abbrev pub chosen_if : Sort → Option Open → Option Choice
chosen_if s None = None
chosen_if s (Some o) = chosen s o

-- choices with one more, which may be none
abbrev pub with_choice : List Choice → Option Choice → List Choice
with_choice choices None = choices
with_choice choices (Some c) = choices ++ c ∷ []

-- an alternative is of a sort
abbrev pub is_of : Sort → PAltKind → Bool
is_of sort.Accepts (AAccept accept stmts) = true
is_of sort.Accepts (ADelay d stmts) = false
is_of sort.Accepts ATerminate = false
is_of (sort.Delays least) (AAccept accept stmts) = false
is_of (sort.Delays least) (ADelay d stmts) = true
is_of (sort.Delays least) ATerminate = false
is_of sort.Terminates (AAccept accept stmts) = false
is_of sort.Terminates (ADelay d stmts) = false
is_of sort.Terminates ATerminate = true

-- the open alternatives; where an exception is raised there are none
abbrev pub opens_or_none : Result (List Open) Raised → List Open
opens_or_none (Ok all) = all
opens_or_none (Err x) = []

-- the statements of an alternative, where it is the delay of this number and m delays are before it
abbrev pub delay_at : PAltKind → ℕ → ℕ → Option PStmts
delay_at what m k = if k == m + 1 then delay_part what else None

-- ---- the alternative that is taken

-- the accept that could be evaluated is for this member
abbrev pub accepts_in : ℕ → ℤ → Result Open Raised → Bool
accepts_in e i (Ok o) = accepts_member e i o
accepts_in e i (Err x) = false

-- an open alternative, where it accepts this member
abbrev pub taken : ℕ → ℤ → Open → Option Open
taken e i o = if accepts_member e i o then Some o else None

-- an alternative that may be closed, where it is open and accepts this member
abbrev pub taken_if : ℕ → ℤ → Option Open → Option Open
taken_if e i None = None
taken_if e i (Some o) = taken e i o
