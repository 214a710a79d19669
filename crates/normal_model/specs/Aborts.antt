-- Abort statements in the normal form (9.10; this project's rule): one for each name. A callee's index that is not static goes to a variable in front of its own abort, which stands in a case statement over it.
use Rattle.std.specs.Prelude.{ℕ, ◌+◌, List, [], ◌∷◌, flat_map, length, None}
use Rattle.ada_tree.specs.declared.naming.Span.{Span}
use Rattle.ada_tree.specs.declared.naming.Word.{Word}
use Rattle.ada_tree.specs.PlainExpr.{PSubind}
use Rattle.ada_tree.specs.PlainStmt.{PCallee, SAbort, PStmts, no_stmt}
use Rattle.task_model.specs.Setting.{Setting}
use Rattle.task_model.specs.Frames.{in_front}
use Rattle.normal_model.specs.Making.{one, kept_before, kept_subtypes}
use Rattle.normal_model.specs.Members.{callee_kept, chosen}

-- the abort of one task, by its name
abbrev pub abort_of : Span → Word → PStmts
abort_of s w = one (SAbort (record { name = w; index = None } ∷ []) s)

-- the abort of one callee, where n variables were made before
abbrev pub callee_aborted : Setting → Span → PCallee → ℕ → PStmts
callee_aborted g s callee n = in_front (kept_before g s (callee_kept g s callee) n) (chosen g s callee n (abort_of s))

-- those of callees, one behind the other
abbrev pub callees_aborted : Setting → Span → List PCallee → ℕ → PStmts
callees_aborted g s [] n = no_stmt
callees_aborted g s (c ∷ cs) n = in_front (callee_aborted g s c n) (callees_aborted g s cs (n + length (callee_kept g s c)))

-- What stands in the place of an abort statement; one without names, as in no legal program, stays.
abbrev pub abort_image : Setting → Span → List PCallee → ℕ → PStmts
abort_image g s [] n = one (SAbort [] s)
abort_image g s (c ∷ cs) n = callees_aborted g s (c ∷ cs) n

-- the subtypes of the variables of an abort statement
abbrev pub abort_subtypes : Setting → Span → List PCallee → List PSubind
abort_subtypes g s cs = flat_map (λ c. kept_subtypes (callee_kept g s c)) cs
