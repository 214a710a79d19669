-- What a task of a replay text says to the controller and tests of its permits, by ids that are looked up once: the definitions of the replay text, with an id in the place of each name.
use Rattle.std.specs.Prelude.{ℕ, List, [], ◌∷◌, Option, Some, None}
use Rattle.ada_tree.specs.declared.naming.NameId.{NameId}
use Rattle.ada_tree.specs.declared.naming.Span.{Span}
use Rattle.ada_tree.specs.declared.expressions.BinaryOp.TheVariants.{And, Equal, NotEqual}
use Rattle.ada_tree.specs.PlainExpr.{PExpr, EInteger, EName, EBinary}
use Rattle.ada_tree.specs.PlainStmt.{PArgs, PStmt, SCall, SIf, PStmts, stmt_then, absent, present, arm, PArms, no_arm, arm_then}
use Rattle.normal_model.specs.Ranges.{word_at}
use Rattle.normal_model.specs.Making.{one}
use Rattle.replay_asking.specs.declared.names.added_names.AddedNames.{AddedNames}
use Rattle.replay_asking.specs.Voice.{Voice}

-- ---- calls of the added tasks

abbrev pub added_call : Span → NameId → NameId → Option PArgs → PStmt
added_call s task entry args = SCall (record { task = record { name = word_at s task; index = None }; entry = word_at s entry; args = args }) s

-- the task's number as a list
abbrev pub own_number : Voice → Span → List PExpr
own_number x s = EInteger x.task s ∷ []

-- the variables of the permit
abbrev pub permit_parts : AddedNames → Span → List PExpr
permit_parts n s = EName n.kind s ∷ EName n.argument s ∷ EName n.index s ∷ []

abbrev pub ask : Voice → Span → PStmt
ask x s = added_call s x.added.control x.added.go (Some (record { first = own_number x s; second = Some (permit_parts x.added s) }))

abbrev pub done : Voice → Span → PStmt
done x s = added_call s x.added.control x.added.done (Some (record { first = own_number x s; second = None }))

abbrev pub stop : Voice → Span → PStmt
stop x s = added_call s x.added.idle x.added.stop None

-- ---- tests

abbrev pub both : Span → PExpr → PExpr → PExpr
both s a b = EBinary And a b s

-- a variable of the permit has this value
abbrev pub is_value : Span → NameId → PExpr → PExpr
is_value s name e = EBinary Equal (EName name s) e s

abbrev pub is_kind : Voice → Span → ℕ → PExpr
is_kind x s k = is_value s x.added.kind (EInteger k s)

abbrev pub is_for : Voice → Span → ℕ → ℕ → PExpr
is_for x s k a = both s (is_kind x s k) (is_value s x.added.argument (EInteger a s))

abbrev pub is_at : Voice → Span → ℕ → ℕ → Option PExpr → PExpr
is_at x s k e index = both s (is_for x s k e) (is_value s x.added.index (x.member e s index))

-- ---- statements

abbrev pub only : Voice → Span → ℕ → PStmt
only x s k = SIf (arm_then (arm (EBinary NotEqual (EName x.added.kind s) (EInteger k s) s) (one (stop x s))) no_arm) absent s

abbrev pub ask_only : Voice → Span → ℕ → PStmts
ask_only x s k = stmt_then (ask x s) (one (only x s k))

abbrev pub ask_which : Voice → Span → PArms → PStmts
ask_which x s arms = stmt_then (ask x s) (one (SIf arms (present (one (stop x s))) s))
