-- The controller makes its operations.
use Rattle.std.proofs.Common.{◌≡◌, ℕ, Bool, true, false, List, [], ◌∷◌, ◌++◌, length, None, refl, sym, ap, subst}
use Rattle.std.specs.Prelude.{ℤ, pos}
use Rattle.event_machine.specs.declared.Choice.TheVariants.{Accept}
use Rattle.event_machine.specs.Offers.{Waits, Finishes}
use Rattle.ada_value.specs.declared.values.Value.TheVariants.{Number}
use Rattle.task_model.specs.Frames.{callers_in}
use Rattle.task_model.specs.Tasks.{Task}
use Rattle.task_model.specs.Rendezvous.{finished, pending_of, finals_of}
use Rattle.control_script.specs.declared.Op.{Op}
use Rattle.control_script.specs.declared.Op.TheVariants.{Go, Done, Join, Hold}
use Rattle.ada_tree.specs.PlainStmt.{no_stmt}
use Rattle.replay_model.specs.declared.tables.columns.Column.TheVariants.{Task as TaskColumn}
use Rattle.replay_model.specs.tables.Columns.{acts, holds}
use Rattle.replay_model.specs.tables.Turns.{line_of}
use Rattle.table_law.specs.Controllers.{Controller, Entries, IsController, CanMakeAll}
use Rattle.table_law.specs.States.{turn_variables, behind, before, granting, heard, IsWithin, Comes, Offers}
use Rattle.table_law.specs.Laws.{last_offer, next_offer, handed_back, MakesOperations, ControllersMakeOperations}
use Rattle.table_law.proofs.Lines.{line-in-turn}
use Rattle.table_law.proofs.Turning.{at-seam, from-end}
use Rattle.table_law.proofs.Accepting.{index-is, member-rests, member-offer}
use Rattle.table_law.proofs.Granting.{hears, grants}
use Rattle.table_law.proofs.Joining.{join-offered, join-goes-on}
use Rattle.table_law.proofs.Starting.{starts}

module _ (k : Controller) (e : Entries) (h : IsController k e) where
  -- ---- offers

  offers-last : (hold : Bool) (made : List Op) → Offers (behind k hold made) (last_offer e hold)
  offers-last true made = record { rests = refl; offers = ap (λ (n : ℕ). Waits (Accept n (pos 0) ∷ [])) h.hold }
  offers-last false made = record { rests = refl; offers = refl }

  offers-next : (hold : Bool) (made left : List Op) → CanMakeAll k (made ++ left) → Offers (before k hold made left) (next_offer e hold left)
  offers-next hold made [] can = offers-last hold made
  offers-next hold made (Go task kind arg index ∷ left) can =
      let op : Op = Go task kind arg index in
      let its = index-is k k.names.go e.go h.go (turn_variables k (made ++ op ∷ left) (length made)) (line_of k.names k.span TaskColumn) task (line-in-turn k e h TaskColumn made op left) (at-seam k made op left can).0 in
      record { rests = member-rests k k.names.go e.go h.go _ _ _ task its; offers = member-offer k k.names.go e.go h.go _ _ _ task its }
  offers-next hold made (Done task ∷ left) can =
      let op : Op = Done task in
      let its = index-is k k.names.done e.done h.done (turn_variables k (made ++ op ∷ left) (length made)) (line_of k.names k.span TaskColumn) task (line-in-turn k e h TaskColumn made op left) (at-seam k made op left can) in
      record { rests = member-rests k k.names.done e.done h.done _ _ _ task its; offers = member-offer k k.names.done e.done h.done _ _ _ task its }
  offers-next hold made (Join task ∷ left) can = join-offered k e h hold made left task can
  offers-next hold made (Hold ∷ left) can = absurd (at-seam k made Hold left can)

  -- ---- at the end of an accept body

  -- what is so of the controller at the end of each accept body is so where the task is there
  at-end : (P : Op → Task → Type 0) (hold : Bool) (made left : List Op) (op : Op) (caller : ℕ) (t : Task) →
      ((task kind arg : ℕ) (index : ℤ) → P (Go task kind arg index) (granting k hold (made ++ Go task kind arg index ∷ left) (length made) caller no_stmt (Number (pos kind)) (Number (pos arg)) (Number index))) →
      ((task : ℕ) → P (Done task) (heard k hold (made ++ Done task ∷ left) (length made) caller)) →
      IsWithin k hold made op left caller t → P op t
  at-end P hold made left (Go task kind arg index) caller t go done is = subst (P (Go task kind arg index)) (sym is) (go task kind arg index)
  at-end P hold made left (Done task) caller t go done is = subst (P (Done task)) (sym is) (done task)
  at-end P hold made left (Join task) caller t go done is = absurd is
  at-end P hold made left Hold caller t go done is = absurd is

  makes : MakesOperations k e
  makes = record {
    starts = λ ops can. starts k e h (holds ops) (acts ops) can;
    offers = offers-next;
    grants = λ hold made left task kind arg index caller handing can. (
      granting k hold (made ++ Go task kind arg index ∷ left) (length made) caller no_stmt (Number (pos kind)) (Number (pos arg)) (Number index),
      (3, grants k e h hold made left task kind arg index caller can handing),
      refl,
    );
    hears = λ hold made left task caller handing can. hears k e h hold made left task caller handing can;
    ends = λ hold made left op caller t is. at-end (λ o u. Offers u Finishes) hold made left op caller t (λ task kind arg index. record { rests = refl; offers = refl }) (λ task. record { rests = refl; offers = refl }) is;
    callers = λ hold made left op caller t is. at-end (λ o u. callers_in u.control ≡ caller ∷ []) hold made left op caller t (λ task kind arg index. refl) (λ task. refl) is;
    hands = λ hold made left op caller t is. at-end (λ o u. (pending_of u ≡ None) × (finals_of u ≡ handed_back o)) hold made left op caller t (λ task kind arg index. (refl, refl)) (λ task. (refl, refl)) is;
    goes_on = λ hold made left op caller t can is.
        at-end (λ o u. CanMakeAll k (made ++ o ∷ left) → Comes (finished u) (before k hold (made ++ o ∷ []) left)) hold made left op caller t
        (λ task kind arg index it. from-end k e h hold made (Go task kind arg index) left it) (λ task it. from-end k e h hold made (Done task) left it) is can;
    joins = λ hold made left task can. join-goes-on k e h hold made left task can;
  }

pub controllers_make_operations : ControllersMakeOperations
controllers_make_operations = makes
