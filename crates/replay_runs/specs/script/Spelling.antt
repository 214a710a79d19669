-- The operations of the law of replaying, spelled in numbers as the controller has them (this project's rule).
use Rattle.std.specs.Prelude.{ℕ, ℤ, pos}
use Rattle.run_laws.specs.replaying.Permits as law
use Rattle.run_laws.specs.replaying.Permits.{Permit, ToMeet, ToFinish, ToElse, ToDelay, ToCallElse, ToExpire, ToFail, ToEnd, ToAbort, ToClose}
use Rattle.control_script.specs.declared.Op.{Op}
use Rattle.control_script.specs.declared.Op.TheVariants.{Go, Done, Join, Hold}

-- the kind of event that a permit is for
abbrev pub kind : Permit → ℕ
kind (ToMeet e i) = 1
kind ToFinish = 2
kind ToElse = 3
kind (ToDelay k) = 4
kind (ToCallElse e i) = 5
kind (ToExpire e i) = 6
kind (ToFail e i) = 7
kind ToEnd = 8
kind (ToAbort x) = 9
kind ToClose = 10

-- its entry, delay alternative or aborted task
abbrev pub arg : Permit → ℕ
arg (ToMeet e i) = e
arg ToFinish = 0
arg ToElse = 0
arg (ToDelay k) = k
arg (ToCallElse e i) = e
arg (ToExpire e i) = e
arg (ToFail e i) = e
arg ToEnd = 0
arg (ToAbort x) = x
arg ToClose = 0

-- the member of a family
abbrev pub index : Permit → ℤ
index (ToMeet e i) = i
index ToFinish = pos 0
index ToElse = pos 0
index (ToDelay k) = pos 0
index (ToCallElse e i) = i
index (ToExpire e i) = i
index (ToFail e i) = i
index ToEnd = pos 0
index (ToAbort x) = pos 0
index ToClose = pos 0

-- An operation in numbers.
abbrev pub spelled : law.Op → Op
spelled (law.Go t permit) = Go t (kind permit) (arg permit) (index permit)
spelled (law.Done t) = Done t
spelled (law.Join t) = Join t
spelled law.Hold = Hold
