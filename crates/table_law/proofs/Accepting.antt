-- How the controller accepts a call of a task, and what it offers at an accept statement.
use Rattle.std.proofs.Common.{◌≡◌, ℕ, ◌<◌, Bool, false, [], ◌∷◌, length, pred, Option, Some, None, if◌then◌else◌, sym, ap, ◌∙◌, arith}
use Rattle.std.specs.Prelude.{ℤ, pos, ◌&&◌, int_le, Result, Ok, Err}
use Rattle.std.proofs.lemmas.Bool.{le-leb}
use Rattle.common_lemmas.proofs.Numbers.{below_pred}
use Rattle.event_machine.specs.declared.Choice.TheVariants.{Accept}
use Rattle.event_machine.specs.Offers.{Waits, same_member}
use Rattle.event_machine.proofs.Basics.{same_member-refl}
use Rattle.ada_tree.specs.declared.naming.NameId.{NameId}
use Rattle.ada_tree.specs.PlainExpr.{PExpr}
use Rattle.ada_tree.specs.PlainStmt.{PHead, PStmts, no_stmt}
use Rattle.ada_value.specs.declared.values.Value.{Value}
use Rattle.ada_value.specs.declared.values.Value.TheVariants.{Number}
use Rattle.ada_value.specs.declared.values.Raised.{Raised}
use Rattle.ada_value.specs.declared.values.Raised.TheVariants as raised
use Rattle.ada_value.specs.declared.values.Limits.{Limits}
use Rattle.ada_value.specs.Values.{and_then, position_of}
use Rattle.ada_value.specs.Variables.{Variables}
use Rattle.ada_value.specs.Evaluating.{evaluated}
use Rattle.syn_event.specs.Numbering.{entry_at}
use Rattle.task_model.specs.Setting.{entry_of, family_limits, index_in, member_index}
use Rattle.task_model.specs.Stands.{Stand, wait_stand, steps_at, offered}
use Rattle.task_model.specs.Waits.{Open, Accepts, first_accepting}
use Rattle.table_law.specs.Controllers.{Controller, IsFamily}

-- ---- an accept statement

-- at what a task stands there, by the index of the member
abbrev pub accept_stand : ℕ → PHead → PStmts → Result ℤ Raised → Stand
accept_stand e head stmts index = wait_stand false (and_then (and_then index (λ i. Ok (Accepts e i head stmts no_stmt))) (λ (o : Open). Ok (o ∷ [])))

-- the alternative that a call of a member finds there
abbrev pub found_by : ℕ → ℤ → ℕ → PHead → PStmts → Result ℤ Raised → Option Open
found_by spot i e head stmts index = first_accepting spot i (and_then (and_then index (λ j. Ok (Accepts e j head stmts no_stmt))) (λ (o : Open). Ok (o ∷ [])))

module _ (k : Controller) (name : NameId) (spot : ℕ) (family : IsFamily k name spot) where
  abbrev e : ℕ
  e = entry_of k.setting.numbers k.number name

  -- the index of a member for a task
  pub index-is :
      (vars : Variables) (x : PExpr) (task : ℕ) → evaluated k.setting.types vars x ≡ Ok (Number (pos task)) → task < length k.tasks →
      member_index k.setting vars (entry_of k.setting.numbers k.number name) (Some x) ≡ Ok (pos task)
  index-is vars x task worth l =
      let last : ℕ = pred (length k.tasks) in
      ap (λ (r : Result Value Raised). and_then r (λ v. index_in (family_limits (entry_at k.setting.numbers e)) (position_of v))) worth
      ∙ ap (λ (n : ℕ). index_in (family_limits (entry_at k.setting.numbers n)) (pos task)) family.found
      ∙ ap (λ (limits : Limits). index_in limits (pos task)) family.range
      ∙ ap (λ (b : Bool). if b && int_le (pos task) (pos last) then Ok (pos task) else Err raised.Constraint) (le-leb 0 task (omega arith))
      ∙ ap (λ (b : Bool). if b then Ok (pos task) else Err raised.Constraint) (le-leb task last (below_pred (length k.tasks) task l))

  -- it rests there, and waits for the member
  pub member-rests : (head : PHead) (stmts : PStmts) (index : Result ℤ Raised) (task : ℕ) → index ≡ Ok (pos task) → steps_at (accept_stand (entry_of k.setting.numbers k.number name) head stmts index) ≡ false
  member-rests head stmts index task its = ap (λ (r : Result ℤ Raised). steps_at (accept_stand e head stmts r)) its

  pub member-offer :
      (head : PHead) (stmts : PStmts) (index : Result ℤ Raised) (task : ℕ) → index ≡ Ok (pos task) →
      offered (accept_stand (entry_of k.setting.numbers k.number name) head stmts index) ≡ Waits (Accept spot (pos task) ∷ [])
  member-offer head stmts index task its = ap (λ (r : Result ℤ Raised). offered (accept_stand e head stmts r)) its ∙ ap (λ (n : ℕ). Waits (Accept n (pos task) ∷ [])) family.found

  -- a call of the member finds it
  pub member-found :
      (head : PHead) (stmts : PStmts) (index : Result ℤ Raised) (task : ℕ) → index ≡ Ok (pos task) →
      found_by spot (pos task) (entry_of k.setting.numbers k.number name) head stmts index ≡ Some (Accepts (entry_of k.setting.numbers k.number name) (pos task) head stmts no_stmt)
  member-found head stmts index task its =
      ap (λ (r : Result ℤ Raised). found_by spot (pos task) e head stmts r) its
      ∙ ap (λ (b : Bool). if b then Some (Accepts e (pos task) head stmts no_stmt) else None) (ap (λ (n : ℕ). same_member n (pos task) e (pos task)) (sym family.found) ∙ same_member-refl e (pos task))
