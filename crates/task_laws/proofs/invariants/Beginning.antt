-- What is kept is so at the start of a program, and stays so.
use Rattle.std.proofs.Common.{◌≡◌, ℕ, zero, suc, ◌+◌, ◌<◌, ◌≤◌, [], ◌∷◌, length, refl, sym, ap, ◌∙◌, subst, slice_index_or, ⊎_elim, arith, length-append}
use Rattle.std.proofs.lemmas.Bool.{cases_lt}
use Rattle.std.proofs.lemmas.List.{get_or_append_left, get_or_push}
use Rattle.ada_tree.specs.PlainStmt.{PHead, PBody, body}
use Rattle.syn_event.specs.Numbering.{Numbering, owner_of}
use Rattle.event_machine.specs.States.{Seat, live, completed, is_completed}
use Rattle.event_machine.specs.Worlds.{still}
use Rattle.task_model.specs.Steps.{block_stmts, block_handlers}
use Rattle.task_model.specs.Starting.{unit_of, started, nobody}
use Rattle.task_model.specs.Tasks.{Task}
use Rattle.task_model.specs.Machine.{ProgramWithInputs, setting_of, first_tasks}
use Rattle.task_model.specs.Laws.{program_in, first_world}
use Rattle.task_model.proofs.Following.{opens}
use Rattle.task_laws.specs.invariants.AcceptHeads.{InStmts, InHandlers, InBody}
use Rattle.task_laws.specs.invariants.Holding.{openings_in}
use Rattle.task_laws.specs.invariants.Worlds.{Conforms, IsWellMade, IsIn, AreLinked, KeptFirst, KeptOn}
use Rattle.task_laws.proofs.invariants.Keeping.{kept_moved}

body_parts : (Head : PHead → Type 0) (b : PBody) → InBody Head b → InStmts Head (block_stmts b) × InHandlers Head (block_handlers b)
body_parts Head (body stmts handlers) h = h

module _ (setup : ProgramWithInputs) (numbers : Numbering) where
  -- the task of a number, as the program starts
  abbrev pub first : ℕ → Seat Task
  first n = live (started (setting_of setup numbers) setup.inputs n)

  pub length_first : (n : ℕ) → length (first_tasks setup numbers n) ≡ n
  length_first zero = refl
  length_first (suc n) =
      let e : length (first_tasks setup numbers n) ≡ n = length_first n in
      length-append (first_tasks setup numbers n) (first n ∷ []) ∙ (let k : length (first_tasks setup numbers n) + 1 ≡ suc n = omega arith in k)

  pub first_is : (n t : ℕ) → t < n → slice_index_or (first_tasks setup numbers n) t (completed nobody) ≡ first t
  first_is zero t l = absurd (omega arith)
  first_is (suc n) t l = ⊎_elim
      (λ (k : t < n). get_or_append_left (first_tasks setup numbers n) (first n ∷ []) (completed nobody) t (let e : length (first_tasks setup numbers n) ≡ n = length_first n in omega arith) ∙ first_is n t k)
      (λ (k : n ≤ t). let e : n ≡ t = omega arith in
      get_or_push (first_tasks setup numbers n) (first n) (completed nobody) t (length_first n ∙ e) ∙ ap first e)
      (cases_lt t n)

  -- it starts with the statements of its unit, and in no accept body
  started_in : IsWellMade (setting_of setup numbers) → (t : ℕ) → IsIn (setting_of setup numbers) t (first t).local
  started_in made t =
      let k = body_parts (Conforms (setting_of setup numbers) t) (unit_of setup.program numbers t).body (made.conforms t) in
      record { setting = refl; number = refl; rest = k.0; place = k.1; outer = tt; held = (tt, tt) }

  below : (t : ℕ) → t < (program_in setup numbers).size → t < length numbers.tasks
  below t l = let e : (program_in setup numbers).size ≡ length numbers.tasks = length_first (length numbers.tasks) in omega arith

  there : (t : ℕ) → t < (program_in setup numbers).size → ((first_world setup numbers).tasks t).local ≡ (first t).local
  there t l = ap (λ (y : Seat Task). y.local) (first_is (length numbers.tasks) t (below t l))

pub kept_first : KeptFirst
kept_first setup numbers made = record {
  each = λ t l. subst (IsIn (setting_of setup numbers) t) (sym (there setup numbers t l)) (started_in setup numbers made t);
  links = λ a l. subst (λ (task : Task). AreLinked (setting_of setup numbers) (first_world setup numbers) a (openings_in task.control)) (sym (there setup numbers a l)) tt;
  beyond = λ t l. ap (λ z. is_completed (still z)) ((opens setup numbers).beyond t l);
}

pub kept_on : KeptOn
kept_on setup numbers made w move kept sound can =
    kept_moved (setting_of setup numbers) (program_in setup numbers).size (owner_of numbers) made w kept sound move can
