-- What is asked of the statements of a normal form, beside that it is well placed, so that its replay text is (this project's rule). An original is
-- at most 40 deep, and a wait in it has at most 32 alternatives. Its normal form adds up to four to the depth of statements, and 33 where a wait
-- tests that no guard holds; guards are variables there.
use Rattle.std.specs.Prelude.{ℕ, ◌+◌, ◌<◌, ◌≤◌, IfSome, All}
use Rattle.ada_tree.specs.declared.naming.Span.{Span}
use Rattle.ada_tree.specs.PlainExpr.{PExpr}
use Rattle.ada_tree.specs.PlainStmt.{PCall, PHead, alternative, PAlts, no_alt, alt_then}
use Rattle.ada_tree.specs.Every.{Rules, no_rules, EveryExpr, EveryArgs, EveryChoice, EveryScheme, EveryStmt, alts_count}
use Rattle.ada_tree.specs.WellPlaced.{level, relation, factor}
use Rattle.ada_tree.specs.Lexical.{IsIdentifier}
use Rattle.syn_event.specs.DeclaredTasks.{text_of}
use Rattle.task_model.specs.Setting.{entry_of}
use Rattle.normal_model.specs.Calls.{entry_called, lists_called}
use Rattle.normal_model.specs.RewrittenUnit.{RewrittenUnit}
use Rattle.task_laws.specs.legal.asked.Asked.{Asks}
use Rattle.replay_model.specs.Names.{double_text}
use Rattle.replay_model.specs.Asking.{member_number}

-- ---- depth

-- a statement of a normal form stands at most so deep
abbrev pub IsShallow : ℕ → Type 0
IsShallow k = k ≤ 44

-- what stands k deep, and each part of it: a part stands at most 80 deep
abbrev pub reach : ℕ → Rules
reach k = record no_rules { nested = λ n. (k ≤ 46) × (n ≤ 80) }

-- ---- calls, accepts and waits

-- the index as a number may stand in a relation, as in DED_I = x
abbrev pub IsOperand : PExpr → Type 0
IsOperand e = relation < level e

-- a call has a shallow list of actuals, its index as a number may stand in a relation, and the name of the entry's double is one
abbrev pub FitsCall : RewrittenUnit → ℕ → PCall → Type 0
FitsCall u k x =
    IfSome x.args (EveryArgs (reach k) k)
    × ((s : Span) → IsOperand (member_number u.setting s (entry_called u.setting x) (lists_called u.setting x).index))
    × IsIdentifier (double_text (text_of u.setting.program.names x.entry.name))

-- so has an accept
abbrev pub FitsHead : RewrittenUnit → ℕ → PHead → Type 0
FitsHead u k h =
    IsShallow k
    × IfSome h.index (EveryExpr (reach k) (k + 1))
    × ((s : Span) → IsOperand (member_number u.setting s (entry_of u.setting.numbers u.task h.entry.name) h.index))

-- each guard is a primary, as a variable is
abbrev pub HasPrimaryGuards : PAlts → Type 0
HasPrimaryGuards no_alt = Prim.Unit {0}
HasPrimaryGuards (alt_then (alternative guard x s) rest) = IfSome guard (λ e. factor < level e) × HasPrimaryGuards rest

-- ---- the whole

-- What is asked of the statements of a unit.
abbrev pub fit_asks : RewrittenUnit → Asks (Prim.Unit {0})
fit_asks u = record {
  outer = λ c k s. IsShallow k;
  many = λ n. Prim.Unit {0};
  duration = λ n. Prim.Unit {0};
  plain = λ c k x. EveryStmt (reach k) k x;
  callee = λ c k x. IfSome x.index (EveryExpr (reach k) k);
  call = λ c k x. FitsCall u k x;
  aborts = λ c k xs. Prim.Unit {0};
  condition = λ c k e. EveryExpr (reach k) k e;
  selector = λ c k e xs others s. EveryExpr (reach k) k e;
  choices = λ c k e xs. All (EveryChoice (reach k) k) xs;
  loop = λ c k w x. IfSome x (EveryScheme (reach k) k);
  head = λ c k h. FitsHead u k h;
  wait = λ c k x others s. (alts_count x ≤ 32) × HasPrimaryGuards x;
  delay = λ c k guard s. Prim.Unit {0};
  handlers = λ hs. Prim.Unit {0};
  handler = λ c k names ws. Prim.Unit {0};
  accepting = λ c h. c;
  looping = λ c w x. c;
  handling = λ c. c;
}
