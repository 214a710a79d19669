-- The branches of the recorder as a list, in the order of the kinds of notes.
use Rattle.std.specs.Prelude.{ℕ, List, [], ◌∷◌, codes, None}
use Rattle.ada_tree.specs.declared.naming.Span.{Span}
use Rattle.ada_tree.specs.PlainStmt.{PStmts, PCaseArm, case_arm}
use Rattle.collect_model.specs.declared.AddedNames.{AddedNames}
use Rattle.collect_model.specs.Noting.{before_call, has_begun, at_finish, has_else, has_delay, has_call_else, has_expired, has_failed, at_end, number}
use Rattle.collect_model.specs.Recording.{on_before_call, on_begun, on_finish, on_else, on_delay, on_other_part, on_failed, on_end}

-- `when k =>` these statements
abbrev pub arm_at : Span → ℕ → PStmts → PCaseArm
arm_at s k stmts = case_arm (record { first = number s k; last = None } ∷ []) stmts

-- of rendezvous
abbrev pub first_arms : AddedNames → Span → List PCaseArm
first_arms n s =
    arm_at s before_call (on_before_call n s)
    ∷ arm_at s has_begun (on_begun n s)
    ∷ arm_at s at_finish (on_finish n s)
    ∷ []

-- of other parts
abbrev pub part_arms : AddedNames → Span → List PCaseArm
part_arms n s =
    arm_at s has_else (on_else n s)
    ∷ arm_at s has_delay (on_delay n s)
    ∷ arm_at s has_call_else (on_other_part n s (codes "C"))
    ∷ arm_at s has_expired (on_other_part n s (codes "T"))
    ∷ []

-- of failed calls and of ends
abbrev pub last_arms : AddedNames → Span → List PCaseArm
last_arms n s = arm_at s has_failed (on_failed n s) ∷ arm_at s at_end (on_end n s) ∷ []
