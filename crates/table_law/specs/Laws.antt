-- What the controller does, whatever operations it makes (9.5; this project's rule).
use Rattle.std.specs.Prelude.{◌≡◌, ℕ, ℤ, pos, Bool, true, false, List, [], ◌∷◌, ◌++◌, None}
use Rattle.std.specs.List.{AllByRecursion, list_any}
use Rattle.std.specs.Str.{bytes_eq}
use Rattle.event_machine.specs.declared.Choice.TheVariants.{Accept}
use Rattle.event_machine.specs.declared.CallForm.TheVariants.{Plain}
use Rattle.event_machine.specs.Offers.{Offer, Calls, Waits, Finishes, Ends}
use Rattle.ada_value.specs.declared.values.Value.{Value}
use Rattle.ada_value.specs.declared.values.Value.TheVariants.{Number}
use Rattle.task_model.specs.Frames.{callers_in}
use Rattle.task_model.specs.Tasks.{Task}
use Rattle.task_model.specs.Rendezvous.{accepted, finished, call_failed, pending_of, finals_of}
use Rattle.control_script.specs.declared.Op.{Op}
use Rattle.control_script.specs.declared.Op.TheVariants.{Go, Done, Join, Hold}
use Rattle.replay_model.specs.tables.Columns.{acts, holds}
use Rattle.replay_model.specs.tables.ControlTexts.{control_texts, with_control_names, ids_in}
use Rattle.table_law.specs.Controllers.{Controller, Entries, AreApart, variable_names, IsController, CanMakeAll}
use Rattle.table_law.specs.States.{starting, before, IsWithin, Comes, Offers}

-- ---- offers

-- behind the loop: for ever a call of HOLD, or the end of its body
abbrev pub last_offer : Entries → Bool → Offer
last_offer e true = Waits (Accept e.hold (pos 0) ∷ [])
last_offer e false = Ends

-- Before the operations that are left: a call of GO or DONE by the first one's task, or its own call of that task's DED_JOIN.
abbrev pub next_offer : Entries → Bool → List Op → Offer
next_offer e hold [] = last_offer e hold
next_offer e hold (Go task kind arg index ∷ left) = Waits (Accept e.go (pos task) ∷ [])
next_offer e hold (Done task ∷ left) = Waits (Accept e.done (pos task) ∷ [])
next_offer e hold (Join task ∷ left) = Calls Plain (e.join task) (pos 0)
next_offer e hold (Hold ∷ left) = last_offer e hold

-- what a permit hands back, and what hearing hands back
abbrev pub handed_back : Op → List Value
handed_back (Go task kind arg index) = Number (pos kind) ∷ Number (pos arg) ∷ Number index ∷ []
handed_back (Done task) = []
handed_back (Join task) = []
handed_back Hold = []

-- ---- laws

-- The controller makes these operations, one after the other; between them it makes local steps that write nothing.
pub record MakesOperations (k : Controller) (e : Entries) : Type 0 where
  -- from its start it comes to where it stands before them
  pub starts : (ops : List Op) → CanMakeAll k (acts ops) → Comes (starting k ops) (before k (holds ops) [] (acts ops))
  -- before those that are left it offers the first
  pub offers : (hold : Bool) (made left : List Op) → CanMakeAll k (made ++ left) → Offers (before k hold made left) (next_offer e hold left)
  -- as a task has called GO it comes to the end of the accept body with the permit's numbers, and as a task has called DONE it is there
  pub grants : (hold : Bool) (made left : List Op) (task kind arg : ℕ) (index : ℤ) (caller : ℕ) (handing : Task) → CanMakeAll k (made ++ Go task kind arg index ∷ left) →
      (u : Task) × Comes (accepted e.go (pos task) caller handing (before k hold made (Go task kind arg index ∷ left))) u × IsWithin k hold made (Go task kind arg index) left caller u
  pub hears : (hold : Bool) (made left : List Op) (task caller : ℕ) (handing : Task) → CanMakeAll k (made ++ Done task ∷ left) →
      IsWithin k hold made (Done task) left caller (accepted e.done (pos task) caller handing (before k hold made (Done task ∷ left)))
  -- there it offers the end of the rendezvous, with that caller alone, and hands back the three numbers, or nothing
  pub ends : (hold : Bool) (made left : List Op) (op : Op) (caller : ℕ) (t : Task) → IsWithin k hold made op left caller t → Offers t Finishes
  pub callers : (hold : Bool) (made left : List Op) (op : Op) (caller : ℕ) (t : Task) → IsWithin k hold made op left caller t → callers_in t.control ≡ caller ∷ []
  pub hands : (hold : Bool) (made left : List Op) (op : Op) (caller : ℕ) (t : Task) → IsWithin k hold made op left caller t → (pending_of t ≡ None) × (finals_of t ≡ handed_back op)
  -- as the rendezvous has ended, and as its call has failed, it comes to before the next operation
  pub goes_on : (hold : Bool) (made left : List Op) (op : Op) (caller : ℕ) (t : Task) → CanMakeAll k (made ++ op ∷ left) → IsWithin k hold made op left caller t →
      Comes (finished t) (before k hold (made ++ op ∷ []) left)
  pub joins : (hold : Bool) (made left : List Op) (task : ℕ) → CanMakeAll k (made ++ Join task ∷ left) →
      Comes (call_failed (before k hold made (Join task ∷ left))) (before k hold (made ++ Join task ∷ []) left)

-- So does each controller whose program is as asked.
abbrev pub ControllersMakeOperations : Type 0
ControllersMakeOperations = (k : Controller) (e : Entries) → IsController k e → MakesOperations k e

-- ---- names

-- The ids of its names are apart among whatever names their texts stand.
abbrev pub ControlNamesAreApart : Type 0
ControlNamesAreApart = (names : List (List ℕ)) → AllByRecursion (λ t. list_any (bytes_eq t) names ≡ true) control_texts → AreApart (variable_names (ids_in names))

-- They stand among names in which they were interned.
abbrev pub ControlNamesAreThere : Type 0
ControlNamesAreThere = (names : List (List ℕ)) → AllByRecursion (λ t. list_any (bytes_eq t) (with_control_names names) ≡ true) control_texts
