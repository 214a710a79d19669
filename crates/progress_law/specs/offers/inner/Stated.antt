-- What is known of each statement of a task, so that what the task offers at it is known (this project's rule).
use Rattle.std.specs.Prelude.{◌≡◌, ◌<◌, ◌≤◌, ℕ, true, Ok}
use Rattle.std.specs.List.{AllByRecursion}
use Rattle.ada_tree.specs.PlainStmt.{PCallee, PCall, PStmt, SAbort, SCall, SAccept, SWait, SConditional, STimed, PAlts, no_alt, alt_then, alternative}
use Rattle.ada_value.specs.Variables.{Variables}
use Rattle.seq_file.specs.Known.{is_task_beside_main, is_known_member}
use Rattle.task_model.specs.Setting.{Setting, callee_task}
use Rattle.task_model.specs.Calls.{Called, called}
use Rattle.task_model.specs.Waits.{delays_with}
use Rattle.task_laws.specs.statements.Each.{Loops}

-- whatever the variables, the call comes to a member that there is, or raises
abbrev pub IsKnownCall : Setting → PCall → Type 0
IsKnownCall g c = (V : Variables) (r : Called) → called g V c ≡ Ok r → is_known_member g.numbers r.entry r.index ≡ true

-- and the callee to a task beside main
abbrev pub IsKnownCallee : Setting → PCallee → Type 0
IsKnownCallee g x = (V : Variables) (t : ℕ) → callee_task g V x ≡ Ok t → is_task_beside_main g.numbers t ≡ true

-- Calls and callees are known, and only a task beside main accepts.
abbrev pub IsKnownAt : Setting → ℕ → Loops → PStmt → Type 0
IsKnownAt g t loops (SCall c s) = IsKnownCall g c
IsKnownAt g t loops (SConditional c l o s) = IsKnownCall g c
IsKnownAt g t loops (STimed c l d o s) = IsKnownCall g c
IsKnownAt g t loops (SAbort xs s) = AllByRecursion (IsKnownCallee g) xs
IsKnownAt g t loops (SAccept a s) = 0 < t
IsKnownAt g t loops (SWait x o s) = 0 < t
IsKnownAt g t loops _ = Unit {0}

-- the delay alternatives of a wait, behind k others
abbrev pub delays_behind : PAlts → ℕ → ℕ
delays_behind no_alt k = k
delays_behind (alt_then (alternative g x s) l) k = delays_behind l (delays_with x k)

-- A wait has few delay alternatives.
abbrev pub HasFewDelays : Loops → PStmt → Type 0
HasFewDelays loops (SWait x o s) = delays_behind x 0 ≤ 32
HasFewDelays loops _ = Unit {0}
