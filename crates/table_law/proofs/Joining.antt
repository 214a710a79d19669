-- How the controller waits until a task is closed.
use Rattle.std.proofs.Common.{◌≡◌, ℕ, suc, Bool, List, [], ◌∷◌, ◌++◌, length, Option, None, unwrap_or, refl, sym, ap, ◌∙◌, subst}
use Rattle.std.specs.Prelude.{pos, Result, Ok}
use Rattle.event_machine.specs.declared.CallForm.TheVariants.{Plain}
use Rattle.event_machine.specs.Offers.{Calls}
use Rattle.ada_tree.specs.declared.naming.NameId.{NameId}
use Rattle.ada_tree.specs.PlainStmt.{PCall, no_stmt}
use Rattle.ada_value.specs.declared.values.Raised.{Raised}
use Rattle.ada_value.specs.Values.{and_then}
use Rattle.ada_value.specs.Variables.{Variables}
use Rattle.task_model.specs.declared.parameters.FormalParameter.{FormalParameter}
use Rattle.task_model.specs.Setting.{Lists, entry_of}
use Rattle.task_model.specs.Calls.{Called, called, called_with, openings}
use Rattle.task_model.specs.Rendezvous.{call_failed}
use Rattle.task_model.specs.Stands.{call_stand, steps_at, offered}
use Rattle.control_script.specs.declared.Op.{Op}
use Rattle.control_script.specs.declared.Op.TheVariants.{Join}
use Rattle.normal_model.specs.Ranges.{word_at}
use Rattle.table_law.specs.Controllers.{Controller, Entries, HasJoin, IsController, CanMakeAll, name_at}
use Rattle.table_law.specs.States.{turn_variables, turning, calling, before, LeadsTo, Comes, Offers}
use Rattle.table_law.proofs.Turning.{way-on, at-seam, task-beside, from-end}

module _ (k : Controller) (t : ℕ) (name : NameId) (e : ℕ) (its : HasJoin k t name e) where
  abbrev call : PCall
  call = record { task = record { name = word_at k.span name; index = None }; entry = word_at k.span k.names.join; args = None }

  abbrev no_lists : Lists
  no_lists = record { index = None; actuals = [] }

  called-is : (vars : Variables) → called k.setting vars call ≡ Ok record { entry = e; index = pos 0; values = [] }
  called-is vars =
      ap (λ (o : Option ℕ). called_with k.setting vars (entry_of k.setting.numbers (unwrap_or o 0) k.names.join) no_lists) its.task
      ∙ ap (λ (n : ℕ). called_with k.setting vars n no_lists) its.found
      ∙ ap (λ (formals : List FormalParameter). and_then (openings k.setting.types vars formals []) (λ vs. Ok record { entry = e; index = pos 0; values = vs })) its.plain

  call-offered : (hold : Bool) (all : List Op) (over : ℕ) → Offers (calling k hold all over name) (Calls Plain e (pos 0))
  call-offered hold all over = record {
    rests = ap (λ (r : Result Called Raised). steps_at (call_stand Plain r)) (called-is (turn_variables k all over));
    offers = ap (λ (r : Result Called Raised). offered (call_stand Plain r)) (called-is (turn_variables k all over));
  }

-- behind the call that has failed the controller is at the end of the turn
failed : (k : Controller) (hold : Bool) (all : List Op) (over : ℕ) (name : NameId) → LeadsTo 1 (call_failed (calling k hold all over name)) (turning k hold all over no_stmt)
failed k hold all over name = (refl, refl, refl)

module _ (k : Controller) (e : Entries) (h : IsController k e) (hold : Bool) (made left : List Op) (task : ℕ) (can : CanMakeAll k (made ++ Join task ∷ left)) where
  pub join-offered : Offers (before k hold made (Join task ∷ left)) (Calls Plain (e.join task) (pos 0))
  join-offered =
      let it = at-seam k made (Join task) left can in
      let there = task-beside k.tasks it.0 it.2 in
      let all : List Op = made ++ Join task ∷ left in
      let its : HasJoin k (suc it.0) there.0.name (e.join (suc it.0)) = h.joins it.0 there.0 there.1 in
      subst (λ (n : ℕ). Offers (calling k hold all (length made) (name_at k.tasks n)) (Calls Plain (e.join n) (pos 0))) (sym it.1)
      (subst (λ (name : NameId). Offers (calling k hold all (length made) name) (Calls Plain (e.join (suc it.0)) (pos 0))) (sym there.2)
      (call-offered k (suc it.0) there.0.name (e.join (suc it.0)) its hold all (length made)))

  pub join-goes-on : Comes (call_failed (before k hold made (Join task ∷ left))) (before k hold (made ++ Join task ∷ []) left)
  join-goes-on =
      let all : List Op = made ++ Join task ∷ left in
      way-on 1 (call_failed (calling k hold all (length made) (name_at k.tasks task))) (turning k hold all (length made) no_stmt) (before k hold (made ++ Join task ∷ []) left)
      (failed k hold all (length made) (name_at k.tasks task)) (from-end k e h hold made (Join task) left can)
