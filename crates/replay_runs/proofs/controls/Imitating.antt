-- The controller does what the law of replaying asks of it.
use Rattle.std.proofs.Common.{◌≡◌, Bool, false, List, [], ◌∷◌, ◌++◌, map, slice_index_or, refl, sym, ap, ◌∙◌, subst}
use Rattle.std.specs.Prelude.{ℤ, pos}
use Rattle.event_machine.specs.declared.Event.{Event}
use Rattle.ada_tree.specs.PlainProgram.{PProgram}
use Rattle.task_model.specs.Frames.{callers_in}
use Rattle.task_model.specs.Tasks.{Task}
use Rattle.task_model.specs.Rendezvous.{accepted, finished, call_failed}
use Rattle.normal_laws.specs.existence.Laws.{IsLegalOriginal}
use Rattle.control_script.specs.declared.Op.{Op}
use Rattle.control_script.specs.declared.Op.TheVariants.{Go, Done, Join, Hold}
use Rattle.run_laws.specs.replaying.Permits as law
use Rattle.run_laws.specs.replaying.Copies.{AtNothing, Spots, ops_offer, op_callers}
use Rattle.replay_runs.specs.script.Spelling.{kind, arg, index, spelled}
use Rattle.replay_model.specs.tables.Columns.{is_hold, acts}
use Rattle.table_law.specs.Controllers.{Controller, Entries, CanMakeAll}
use Rattle.table_law.specs.States as tables
use Rattle.table_law.specs.States.{starting, before, Comes, Offers}
use Rattle.table_law.specs.Laws.{next_offer, MakesOperations}
use Rattle.table_law.proofs.Turning.{moved}
use Rattle.table_law.proofs.Making.{controllers_make_operations}
use Rattle.replay_structure.specs.spots.Places.{text_spots}
use Rattle.replay_runs.specs.starts.Laws.{form_in}
use Rattle.replay_runs.specs.controls.Laws.{control_number, controller, control_entries}
use Rattle.replay_runs.specs.controls.Imitating.{law_script, made_of, ends_held, task_of, IsBefore, IsWithin, LeadsInto, ImitatesController, LegalImitatesController, LegalStartsWithScript}
use Rattle.replay_runs.proofs.controls.Controllers.{acts-more, spelled-script, legal_has_controller, legal_makes_script}
use Rattle.replay_runs.proofs.controls.Starts.{legal_starts_there}

module _ (far : Spots) (p : PProgram) (events : List Event) (input : List ℤ) (h : IsLegalOriginal p) where
  abbrev k : Controller
  k = controller p events input

  abbrev e : Entries
  e = control_entries far p

  makes : MakesOperations k e
  makes = controllers_make_operations k e (legal_has_controller far p events input h)

  abbrev Before : List law.Op → Task → Type 0
  Before ops = IsBefore p events input ops

  abbrev Within : law.Op → List law.Op → Task → Type 0
  Within op ops = IsWithin p events input op ops

  -- ---- before operations

  -- what comes to before operations leads into being there
  comes-before : (ops : List law.Op) (made : List Op) (t : Task) → CanMakeAll k (made ++ made_of ops) → Comes t (before k (ends_held ops) made (made_of ops)) → LeadsInto (Before ops) t
  comes-before ops made t can way = (way.0, before k (ends_held ops) made (made_of ops), way.1, record { made = made; is = refl; can = can })

  silent-before : (hold : Bool) (made left : List Op) → (before k hold made left).output ≡ []
  silent-before hold made [] = refl
  silent-before hold made (Go task kind arg index ∷ left) = refl
  silent-before hold made (Done task ∷ left) = refl
  silent-before hold made (Join task ∷ left) = refl
  silent-before hold made (Hold ∷ left) = refl

  -- its offer is the law's
  offers-same : (ops : List law.Op) → next_offer e (ends_held ops) (made_of ops) ≡ ops_offer (text_spots far (form_in p)) ops
  offers-same [] = refl
  offers-same (law.Go task permit ∷ ops) = ap (next_offer e (ends_held ops)) (acts-more (spelled (law.Go task permit)) (map spelled ops) refl)
  offers-same (law.Done task ∷ ops) = ap (next_offer e (ends_held ops)) (acts-more (Done task) (map spelled ops) refl)
  offers-same (law.Join task ∷ ops) = ap (next_offer e (ends_held ops)) (acts-more (Join task) (map spelled ops) refl)
  offers-same (law.Hold ∷ ops) = refl

  -- the task is the controller before this operation and those behind it
  record IsAt (op : Op) (ops : List law.Op) (t : Task) : Type 0 where
    made : List Op
    is : t ≡ before k (ends_held ops) made (op ∷ made_of ops)
    can : CanMakeAll k (made ++ op ∷ made_of ops)

  -- so it is where it does not wait for ever
  is-at : (op : Op) (ops : List law.Op) (t : Task) (made : List Op) → is_hold op ≡ false → t ≡ before k (ends_held ops) made (acts (op ∷ map spelled ops)) → CanMakeAll k (made ++ acts (op ∷ map spelled ops)) → IsAt op ops t
  is-at op ops t made acting is can =
      let same = acts-more op (map spelled ops) acting in
      record { made = made; is = is ∙ ap (before k (ends_held ops) made) same; can = subst (λ left. CanMakeAll k (made ++ left)) same can }

  -- ---- at the end of an accept body

  silent-within : (op : law.Op) (hold : Bool) (made left : List Op) (j : Task) → tables.IsWithin k hold made (spelled op) left (task_of op) j → j.output ≡ []
  silent-within (law.Go task permit) hold made left j is = ap (λ (t : Task). t.output) is
  silent-within (law.Done task) hold made left j is = ap (λ (t : Task). t.output) is
  silent-within (law.Join task) hold made left j is = absurd is
  silent-within law.Hold hold made left j is = absurd is

  -- its caller is the law's
  callers-same : (op : law.Op) (hold : Bool) (made left : List Op) (j : Task) → tables.IsWithin k hold made (spelled op) left (task_of op) j → callers_in j.control ≡ op_callers op
  callers-same (law.Go task permit) hold made left j is = makes.callers hold made left (spelled (law.Go task permit)) task j is
  callers-same (law.Done task) hold made left j is = makes.callers hold made left (Done task) task j is
  callers-same (law.Join task) hold made left j is = absurd is
  callers-same law.Hold hold made left j is = absurd is

  -- ---- the law

  imitates : ImitatesController far p events input
  imitates = record {
    output = λ ops j m. ap (λ (t : Task). t.output) m.is ∙ silent-before (ends_held ops) m.made (made_of ops);
    offers = λ ops j m.
        subst (λ t. Offers t (ops_offer (text_spots far (form_in p)) ops)) (sym m.is)
        (subst (Offers (before k (ends_held ops) m.made (made_of ops))) (offers-same ops) (makes.offers (ends_held ops) m.made (made_of ops) m.can));
    asked = λ task permit ops calling j n.
        let m = is-at (spelled (law.Go task permit)) ops j n.made refl n.is n.can in
        let way = makes.grants (ends_held ops) m.made (made_of ops) task (kind permit) (arg permit) (index permit) task calling m.can in
        subst (λ t. LeadsInto (Within (law.Go task permit) ops) (accepted e.go (pos task) task calling t)) (sym m.is)
        (way.1.0, way.0, way.1.1, record { made = m.made; is = way.2; can = m.can });
    told = λ task ops calling j n.
        let m = is-at (Done task) ops j n.made refl n.is n.can in
        let there = makes.hears (ends_held ops) m.made (made_of ops) task task calling m.can in
        subst (λ t. LeadsInto (Within (law.Done task) ops) (accepted e.done (pos task) task calling t)) (sym m.is)
        (0, accepted e.done (pos task) task calling (before k (ends_held ops) m.made (Done task ∷ made_of ops)), refl, record { made = m.made; is = there; can = m.can });
    joined = λ task ops j n.
        let m = is-at (Join task) ops j n.made refl n.is n.can in
        subst (λ t. LeadsInto (Before ops) (call_failed t)) (sym m.is)
        (comes-before ops (m.made ++ Join task ∷ []) (call_failed (before k (ends_held ops) m.made (Join task ∷ made_of ops))) (moved k m.made (Join task) (made_of ops) m.can)
        (makes.joins (ends_held ops) m.made (made_of ops) task m.can));
    silent = λ op ops j m. silent-within op (ends_held ops) m.made (made_of ops) j m.is;
    ends = λ op ops j m. makes.ends (ends_held ops) m.made (made_of ops) (spelled op) (task_of op) j m.is;
    callers = λ op ops j m. callers-same op (ends_held ops) m.made (made_of ops) j m.is;
    grants = λ task permit ops j m. makes.hands (ends_held ops) m.made (made_of ops) (spelled (law.Go task permit)) task j m.is;
    hears = λ task ops j m. makes.hands (ends_held ops) m.made (made_of ops) (Done task) task j m.is;
    handed = λ op ops j m.
        comes-before ops (m.made ++ spelled op ∷ []) (finished j) (moved k m.made (spelled op) (made_of ops) m.can)
        (makes.goes_on (ends_held ops) m.made (made_of ops) (spelled op) (task_of op) j m.can m.is);
  }

pub legal_imitates_controller : LegalImitatesController
legal_imitates_controller = imitates

-- ---- the script

-- numbers behind all, of which nothing is asked
nowhere : Spots
nowhere = record { original = λ e. 0; shadow = λ e. 0; go = 0; done = 0; hold = 0; join = λ t. 0; never = λ t. 0; stop = 0; rest = 0; sort = λ m. AtNothing }

pub legal_starts_with_script : LegalStartsWithScript
legal_starts_with_script p events inputs h known =
    let input = slice_index_or inputs (control_number p) [] in
    let k = controller p events input in
    let can : CanMakeAll k (made_of (law_script p events)) = subst (λ ops. CanMakeAll k (acts ops)) (spelled-script p events) (legal_makes_script p events input h known) in
    subst (LeadsInto (IsBefore p events input (law_script p events)))
    (sym ((legal_starts_there p events inputs h).control ∙ ap (starting k) (spelled-script p events)))
    (comes-before nowhere p events input h (law_script p events) [] (starting k (map spelled (law_script p events))) can
    ((makes nowhere p events input h).starts (map spelled (law_script p events)) can))
