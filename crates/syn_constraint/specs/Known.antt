-- The exact numbers that patterns may have in a program (this project's rule).
use Rattle.std.specs.Prelude.{ℕ, ℤ, pos, negsuc, Bool, true, false, ◌&&◌, nat_le, length}
use Rattle.syn_event.specs.Numbering.{Numbering}
use Rattle.seq_file.specs.Known.{is_task, is_task_beside_main, is_index, is_known_member, is_alternative}
use Rattle.syn_constraint.specs.declared.constraints.Num.{Num}
use Rattle.syn_constraint.specs.declared.constraints.Num.TheVariants.{Every, Same, Exact}
use Rattle.syn_constraint.specs.declared.constraints.Letter.{Letter}
use Rattle.syn_constraint.specs.declared.constraints.Letter.TheVariants.{R, E, S, D, C, T, F, X, B, Z, Whole}
use Rattle.syn_constraint.specs.declared.constraints.Pattern.{Pattern}
use Rattle.syn_constraint.specs.declared.constraints.Constraint.{Constraint}
use Rattle.syn_constraint.specs.declared.constraints.Constraint.TheVariants.{Before, Most}

-- a number that is not negative passes the test
abbrev pub is_natural_with : (ℕ → Bool) → ℤ → Bool
is_natural_with test (pos n) = test n
is_natural_with test (negsuc n) = false

-- the number is open, or an exact one that passes the test
abbrev pub is_open_or : (ℤ → Bool) → Num → Bool
is_open_or test Every = true
is_open_or test Same = true
is_open_or test (Exact z) = test z

-- the number of an entry, from 1
abbrev pub is_entry : Numbering → ℕ → Bool
is_entry numbers e = nat_le 1 e && nat_le e (length numbers.entries)

-- an index: that of a member of the entry where the entry is exact, and of 32 bits where it is open
abbrev pub is_index_of : Numbering → Num → ℤ → Bool
is_index_of numbers (Exact e) i = is_natural_with (λ n. is_known_member numbers n i) e
is_index_of numbers open' i = is_index i

-- the number of a task, where it is exact
abbrev pub may_be_task : Numbering → Num → Bool
may_be_task numbers n = is_open_or (is_natural_with (is_task numbers)) n

-- the number of a task beside main, where it is exact
abbrev pub may_be_beside_main : Numbering → Num → Bool
may_be_beside_main numbers n = is_open_or (is_natural_with (is_task_beside_main numbers)) n

-- the numbers of a caller and of an entry and the index of a member of that entry, where they are exact
abbrev pub may_be_call : Numbering → Num → Num → Num → Bool
may_be_call numbers c e i = may_be_task numbers c && (is_open_or (is_natural_with (is_entry numbers)) e && is_open_or (is_index_of numbers e) i)

-- Each exact number is one that an event of the letter may have in a sequence file of the program.
abbrev pub are_known : Numbering → Letter → Num → Num → Num → Bool
are_known numbers R c e i = may_be_call numbers c e i
are_known numbers E a _ _ = may_be_beside_main numbers a
are_known numbers S a _ _ = may_be_beside_main numbers a
are_known numbers D a k _ = may_be_beside_main numbers a && is_open_or (is_natural_with is_alternative) k
are_known numbers C c e i = may_be_call numbers c e i
are_known numbers T c e i = may_be_call numbers c e i
are_known numbers F c e i = may_be_call numbers c e i
are_known numbers X a _ _ = may_be_beside_main numbers a
are_known numbers B t x _ = may_be_task numbers t && may_be_beside_main numbers x
are_known numbers Z _ _ _ = true
are_known numbers Whole _ _ _ = true

-- the exact numbers of the pattern are known
abbrev pub is_known_pattern : Numbering → Pattern → Bool
is_known_pattern numbers pattern = are_known numbers pattern.letter pattern.one pattern.two pattern.three

-- the exact numbers of all patterns of the constraint are known
abbrev pub is_known_constraint : Numbering → Constraint → Bool
is_known_constraint numbers (Before early late) = is_known_pattern numbers early && is_known_pattern numbers late
is_known_constraint numbers (Most limit counted opens closes) =
    is_known_pattern numbers counted && (is_known_pattern numbers opens && is_known_pattern numbers closes)
