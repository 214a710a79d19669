-- Places at which none of the static rules 1 and 3 to 12 refuses anything, one form of demand after the other.
use Rattle.std.proofs.Common.{◌≡◌, ℕ, Bool, List, [], ◌++◌, Option, refl, Some, ap}
use Rattle.ada_tree.specs.declared.naming.Span.{Span}
use Rattle.ada_tree.specs.declared.naming.Word.{Word}
use Rattle.ada_tree.specs.declared.statements.ParMode.{ParMode}
use Rattle.ada_tree.specs.PlainExpr.{PExpr}
use Rattle.ada_tree.specs.PlainStmt.{PTarget, PCallee, PCall, PChoice, PHead}
use Rattle.ada_static_rules.specs.Scope.{Scope, Range, meaning, reading, entry_named, SingleTask, EntryPart}
use Rattle.ada_static_rules.specs.ExprTypes.{kind_of}
use Rattle.ada_static_rules.specs.Demand.{declares, labels, whole, node, must_be_of, must_be_static, must_lie_in, writes, is_actual, addresses, calls, accepts, names_exception, handles, chooses, gives_body}
use Rattle.ada_static_rules.specs.Sites.{site}
use Rattle.ada_static_rules.specs.RuleUnknown.{unseen_word, unknown_in_node, unknown_name, unknown_entry, unknown, no_body_of}
use Rattle.ada_static_rules.specs.RuleMismatch.{of_other_kind, mismatch_in_node, misfit_of_target, no_task, misfit_member}
use Rattle.ada_static_rules.specs.RuleNotStatic.{not_static}
use Rattle.ada_static_rules.specs.RuleRangeBad.{raises, out_of, member_range, member_out_of}
use Rattle.ada_static_rules.specs.RuleNotVariable.{written_name, written_actual}
use Rattle.ada_static_rules.specs.RuleReadOut.{read_name, read_out}
use Rattle.ada_static_rules.specs.RuleArgCount.{arg_count_in_node, index_of_target, index_of_callee, wrong_call, wrong_accept, called_entry}
use Rattle.ada_static_rules.specs.RuleChoiceBad.{bad_choices}
use Rattle.ada_static_rules.specs.RuleArrayUse.{array_in_node, array_written}
use Rattle.ada_static_rules.specs.RuleTextUse.{image_in_node}
use Rattle.ada_static_rules.specs.RuleNotException.{no_exception}
use Rattle.task_laws.specs.legal.alike_scopes.Laws.{IsMetBut}

module _ (d : Scope) where
  pub met-declares : (fixed : Bool) (w : Word) → IsMetBut (site d (declares fixed w))
  met-declares fixed w = record { known = refl; matched = refl; static = refl; ranged = refl; variable = refl; readable = refl; counted = refl; chosen = refl; arrays = refl; texts = refl; exceptions = refl }

  pub met-labels : (w : Word) → IsMetBut (site d (labels w))
  met-labels w = record { known = refl; matched = refl; static = refl; ranged = refl; variable = refl; readable = refl; counted = refl; chosen = refl; arrays = refl; texts = refl; exceptions = refl }

  pub met-handles : (names : List ℕ) (w : Word) → IsMetBut (site d (handles names w))
  met-handles names w = record { known = refl; matched = refl; static = refl; ranged = refl; variable = refl; readable = refl; counted = refl; chosen = refl; arrays = refl; texts = refl; exceptions = refl }

  pub met-whole : (e : PExpr) → raises d e ≡ [] → IsMetBut (site d (whole e))
  met-whole e h = record { known = refl; matched = refl; static = refl; ranged = h; variable = refl; readable = refl; counted = refl; chosen = refl; arrays = refl; texts = refl; exceptions = refl }

  -- a part of an expression
  pub record IsFitNode (written : Bool) (e : PExpr) : Type 0 where
    pub known : unknown_in_node d e ≡ []
    pub matched : mismatch_in_node d e ≡ []
    pub readable : read_name d e ≡ []
    pub counted : arg_count_in_node d e ≡ []
    pub arrays : array_in_node d e ≡ []
    pub texts : image_in_node written e ≡ []

  pub met-node : (written : Bool) (e : PExpr) → IsFitNode written e → IsMetBut (site d (node written e))
  met-node written e h = record { known = h.known; matched = h.matched; static = refl; ranged = refl; variable = refl; readable = h.readable; counted = h.counted; chosen = refl; arrays = h.arrays; texts = h.texts; exceptions = refl }

  pub met-of : (e : PExpr) (k : Option ℕ) → of_other_kind d k e ≡ [] → IsMetBut (site d (must_be_of e k))
  met-of e k h = record { known = refl; matched = h; static = refl; ranged = refl; variable = refl; readable = refl; counted = refl; chosen = refl; arrays = refl; texts = refl; exceptions = refl }

  pub met-static : (e : PExpr) → not_static d (must_be_static e) ≡ [] → IsMetBut (site d (must_be_static e))
  met-static e h = record { known = refl; matched = refl; static = h; ranged = refl; variable = refl; readable = refl; counted = refl; chosen = refl; arrays = refl; texts = refl; exceptions = refl }

  pub met-in : (e : PExpr) (range : Option Range) → out_of d e range ≡ [] → IsMetBut (site d (must_lie_in e range))
  met-in e range h = record { known = refl; matched = refl; static = refl; ranged = h; variable = refl; readable = refl; counted = refl; chosen = refl; arrays = refl; texts = refl; exceptions = refl }

  -- what is written
  pub record IsFitTarget (t : PTarget) : Type 0 where
    pub known : unseen_word d t.name ≡ []
    pub matched : misfit_of_target d t ≡ []
    pub variable : written_name d t.index (reading d t.name.name) (meaning d t.name.name) t.name.span ≡ []
    pub counted : index_of_target d t ≡ []
    pub arrays : array_written d t ≡ []

  pub met-writes : (t : PTarget) → IsFitTarget t → IsMetBut (site d (writes t))
  met-writes t h = record { known = h.known; matched = h.matched; static = refl; ranged = refl; variable = h.variable; readable = refl; counted = h.counted; chosen = refl; arrays = h.arrays; texts = refl; exceptions = refl }

  -- an actual that is written
  pub record IsFitActual (mode : ParMode) (e : PExpr) : Type 0 where
    pub known : unknown_name d e ≡ []
    pub variable : written_actual d e ≡ []
    pub readable : read_out d (is_actual mode e) ≡ []
    pub arrays : array_in_node d e ≡ []

  pub met-actual : (mode : ParMode) (e : PExpr) → IsFitActual mode e → IsMetBut (site d (is_actual mode e))
  met-actual mode e h = record { known = h.known; matched = refl; static = refl; ranged = refl; variable = h.variable; readable = h.readable; counted = refl; chosen = refl; arrays = h.arrays; texts = refl; exceptions = refl }

  -- a callee
  pub record IsFitCallee (x : PCallee) : Type 0 where
    pub known : unseen_word d x.name ≡ []
    pub matched : no_task (meaning d x.name.name) x.name ++ misfit_member d (meaning d x.name.name) x.index ≡ []
    pub ranged : member_out_of d x.index (member_range (meaning d x.name.name)) ≡ []
    pub counted : index_of_callee (meaning d x.name.name) x.index x.name.span ≡ []

  pub met-callee : (x : PCallee) → IsFitCallee x → IsMetBut (site d (addresses x))
  met-callee x h = record { known = h.known; matched = h.matched; static = refl; ranged = h.ranged; variable = refl; readable = refl; counted = h.counted; chosen = refl; arrays = refl; texts = refl; exceptions = refl }

  pub met-calls : (x : PCall) → unknown_entry (meaning d x.task.name.name) x.entry ≡ [] → wrong_call (called_entry (meaning d x.task.name.name) x.entry.name) x.args x.entry.span ≡ [] → IsMetBut (site d (calls x))
  met-calls x h i = record { known = h; matched = refl; static = refl; ranged = refl; variable = refl; readable = refl; counted = i; chosen = refl; arrays = refl; texts = refl; exceptions = refl }

  pub met-accepts : (h : PHead) → unknown d (accepts h) ≡ [] → wrong_accept (entry_named d.own h.entry.name) h ≡ [] → IsMetBut (site d (accepts h))
  met-accepts h i j = record { known = i; matched = refl; static = refl; ranged = refl; variable = refl; readable = refl; counted = j; chosen = refl; arrays = refl; texts = refl; exceptions = refl }

  pub met-exception : (w : Word) → unseen_word d w ≡ [] → no_exception (meaning d w.name) w ≡ [] → IsMetBut (site d (names_exception w))
  met-exception w h i = record { known = h; matched = refl; static = refl; ranged = refl; variable = refl; readable = refl; counted = refl; chosen = refl; arrays = refl; texts = refl; exceptions = i }

  pub met-chooses : (e : PExpr) (xs : List PChoice) (others : Bool) (s : Span) → bad_choices d (kind_of d e) e xs others s ≡ [] → IsMetBut (site d (chooses e xs others s))
  met-chooses e xs others s h = record { known = refl; matched = refl; static = refl; ranged = refl; variable = refl; readable = refl; counted = refl; chosen = h; arrays = refl; texts = refl; exceptions = refl }

-- the body is that of a single task
pub gives-met : (t : Scope) (w : Word) (es : List EntryPart) → meaning t w.name ≡ Some (SingleTask es) → IsMetBut (site t (gives_body w))
gives-met t w es e = record {
  known = ap (λ o. no_body_of o w) e;
  matched = refl;
  static = refl;
  ranged = refl;
  variable = refl;
  readable = refl;
  counted = refl;
  chosen = refl;
  arrays = refl;
  texts = refl;
  exceptions = refl;
}
