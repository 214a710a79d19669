-- Rule SelectForm: a selective wait has no accept alternative, has two terminate alternatives, or has more than one of the three kinds terminate, delay and else part (9.7.1).
use Rattle.std.specs.Prelude.{ℕ, ◌+◌, ◌||◌, ◌==◌, nat_lt, Bool, true, false, if◌then◌else◌, List, [], ◌∷◌, count_by}
use Rattle.ada_tree.specs.declared.naming.Span.{Span}
use Rattle.ada_tree.specs.PlainStmt.{PAltKind, AAccept, ADelay, ATerminate, PAlts, no_alt, alt_then, alternative}
use Rattle.syn_event.specs.CheckScope.{CheckScope, CheckDemand, waits}

-- the alternatives in order, without their guards
abbrev pub alt_kinds : PAlts → List PAltKind
alt_kinds no_alt = []
alt_kinds (alt_then (alternative g x s) l) = x ∷ alt_kinds l

-- it is an accept alternative (9.7.1)
abbrev pub is_accept : PAltKind → Bool
is_accept (AAccept a l) = true
is_accept _ = false

-- it is a delay alternative (9.7.1)
abbrev pub is_delay : PAltKind → Bool
is_delay (ADelay d l) = true
is_delay _ = false

-- it is a terminate alternative (9.7.1)
abbrev pub is_terminate : PAltKind → Bool
is_terminate ATerminate = true
is_terminate _ = false

-- one where there are some
abbrev pub some : ℕ → ℕ
some n = if n == 0 then 0 else 1

-- 1 where it is so, else 0
abbrev pub one_if : Bool → ℕ
one_if true = 1
one_if false = 0

-- how many of the kinds terminate, delay and else part a wait has
abbrev pub kinds_count : List PAltKind → Bool → ℕ
kinds_count xs has_else = some (count_by is_terminate xs) + some (count_by is_delay xs) + one_if has_else

-- the wait has no accept, several terminates, or more than one of the kinds terminate, delay and else part (9.7.1)
abbrev pub is_malformed : List PAltKind → Bool → Bool
is_malformed xs has_else = (count_by is_accept xs == 0) || nat_lt 1 (count_by is_terminate xs) || nat_lt 1 (kinds_count xs has_else)

-- The selective waits of a wrong form.
abbrev pub select_form : CheckScope → CheckDemand → List Span
select_form around (waits x has_else s) = if is_malformed (alt_kinds x) has_else then s ∷ [] else []
select_form around _ = []
