-- No task accepts a DED_JOIN, whatever is done to it.
use Rattle.std.proofs.Common.{◌≡◌, ℕ, ◌<◌, ◌==◌, true, length, true≢false, sym, ap, ◌∙◌}
use Rattle.std.specs.Prelude.{ℤ}
use Rattle.common_lemmas.proofs.Numbers.{equal_self}
use Rattle.event_machine.specs.Offers.{waits_with, opens}
use Rattle.event_machine.proofs.Basics.{same_member-true}
use Rattle.ada_tree.specs.PlainStmt.{PStmts, no_stmt, stmt_then}
use Rattle.task_model.specs.Setting.{entry_of}
use Rattle.task_model.specs.Tasks.{Task, rest_of}
use Rattle.task_model.specs.Stands.{offer_of}
use Rattle.task_model.specs.TaskOps.{task_ops}
use Rattle.task_model.specs.Waits.{Open, Accepts, Delays, Terminates}
use Rattle.task_laws.specs.invariants.AcceptHeads as heads
use Rattle.task_laws.specs.statements.Each as each
use Rattle.task_laws.specs.statements.Laws.{StaysSo}
use Rattle.task_laws.proofs.invariants.Meetings.{Found, found_for}
use Rattle.task_laws.proofs.invariants.Offering.{at_accept}
use Rattle.task_laws.proofs.statements.Carried.{stays-so}
use Rattle.table_law.specs.Controllers.{Controller, Entries}
use Rattle.table_law.specs.runs.Permits.{IsNoJoin, AcceptsNoJoin}
use Rattle.table_law.proofs.runs.Keeping.{AllKeep}

module _ (k : Controller) (e : Entries) where
  -- the statements of the task of a number accept no DED_JOIN
  abbrev pub Unjoined : ℕ → Task → Type 0
  Unjoined u t = each.HoldsOf (AcceptsNoJoin k e u) t

  stays : (u : ℕ) (t : Task) → Unjoined u t → StaysSo (AcceptsNoJoin k e u) t
  stays u t h = stays-so (AcceptsNoJoin k e u) (λ loops c d cs s i. tt) t h

  -- it stays so
  pub unjoined_on : AllKeep task_ops Unjoined
  unjoined_on = record {
    stepped = λ u t h. (stays u t h).stepped;
    accepted = λ entry i c caller u t h. (stays u t h).accepted entry i c caller;
    finished = λ u t h. (stays u t h).finished;
    resumed = λ acceptor u t h. (stays u t h).resumed acceptor;
    raised = λ u t h. (stays u t h).raised;
    took_else = λ u t h. (stays u t h).took_else;
    took_delay = λ n u t h. (stays u t h).took_delay n;
    passed = λ u t h. (stays u t h).passed;
  }

  -- of the statements that are next
  rows : (u : ℕ) (loops : each.Loops) (rest : PStmts) → each.InStmts (AcceptsNoJoin k e u) loops rest → heads.InStmts (IsNoJoin k e u) rest
  rows u loops no_stmt h = tt
  rows u loops (stmt_then s rest) h = (h.0.0, rows u loops rest h.1)

  -- so it offers no such accept
  pub offers_no_join : (u : ℕ) (t : Task) → t.setting ≡ k.setting → t.number ≡ u → Unjoined u t → (j : ℕ) (i : ℤ) → j < length k.tasks → waits_with (opens (e.join j) i) (offer_of t) ≡ true → ⊥
  offers_no_join u t setting number h j i l waits =
      let there = at_accept t (e.join j) i waits in
      by_open there.0 (found_for (IsNoJoin k e u) t (e.join j) i there.0 (rows u (each.loops_of t.control.top.place t.control.outer) (rest_of t) h.rest) there.1)
    where
      by_open : (o : Open) → Found (IsNoJoin k e u) t (e.join j) i o → ⊥
      by_open (Accepts entry index head body behind) f =
          let same : e.join j ≡ entry = (same_member-true (e.join j) entry i index f.accepts).0 in
          let its : entry ≡ entry_of k.setting.numbers u head.entry.name = f.inside.0.1 ∙ (λ x. entry_of (setting x).numbers (number x) head.entry.name) in
          true≢false (sym (ap (λ (n : ℕ). n == e.join j) (sym its ∙ sym same) ∙ equal_self (e.join j)) ∙ f.inside.0.0 j l)
      by_open (Delays n duration stmts) f = true≢false (sym f.accepts)
      by_open Terminates f = true≢false (sym f.accepts)
