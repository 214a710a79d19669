-- The limits of a program by the mode in which it is checked (this project's rule).
use Rattle.std.specs.Prelude.{ℕ, Option, Some, None}
use Rattle.syn_event.specs.declared.numbering.Mode.{Mode}
use Rattle.syn_event.specs.declared.numbering.Mode.TheVariants as mode
use Rattle.syn_event.specs.declared.limits.What.{What}
use Rattle.syn_event.specs.declared.limits.What.TheVariants.{Name, Nesting, Tasks, Entries, Members, Components, Alternatives, Formals, Copies}

-- in an original
abbrev pub original_limit : What → Option ℕ
original_limit Name = Some 120
original_limit Nesting = Some 40
original_limit Tasks = Some 200
original_limit Entries = Some 1000
original_limit Members = Some 1000
original_limit Components = Some 10000
original_limit Alternatives = Some 32
original_limit Formals = Some 16
original_limit Copies = Some 4194304

-- in any text; a rewritten one may be larger, and nothing is copied from it
abbrev pub any_limit : What → Option ℕ
any_limit Name = Some 150
any_limit Nesting = Some 300
any_limit Tasks = Some 202
any_limit Entries = Some 2600
any_limit Members = Some 1000
any_limit Components = Some 1000000
any_limit Alternatives = Some 33
any_limit Formals = Some 17
any_limit Copies = None

-- the limit of that in a program of that mode; none where it has no limit (this project's rule)
abbrev pub limit_of : Mode → What → Option ℕ
limit_of mode.Original what = original_limit what
limit_of mode.Any what = any_limit what

-- the order in which limits are told that are passed at one place
abbrev pub what_order : What → ℕ
what_order Name = 0
what_order Nesting = 1
what_order Tasks = 2
what_order Entries = 3
what_order Members = 4
what_order Components = 5
what_order Alternatives = 6
what_order Formals = 7
what_order Copies = 8
