-- The statements of each unit of the normal form of a legal program are formed, as a task starts and whatever is done to it.
use Rattle.std.proofs.Common.{◌≡◌, ℕ, zero, suc, ◌<◌, ◌≤◌, nat_le, Bool, true, false, if◌then◌else◌, [], length, refl, sym, ap, subst, ◌∙◌, arith}
use Rattle.std.proofs.lemmas.Bool.{ne_eqb}
use Rattle.common_lemmas.proofs.Numbers.{le_is, le_is_not}
use Rattle.std.proofs.lemmas.Option.{slice_get_past}
use Rattle.ada_tree.specs.PlainProgram.{PProgram}
use Rattle.syn_event.specs.Numbering.{task_at}
use Rattle.task_model.specs.Starting.{Unit as OneUnit, unit_of_info, unit_of}
use Rattle.task_laws.specs.statements.Each.{InBody}
use Rattle.task_laws.proofs.statements.Carried.{starts-so, stays-so}
use Rattle.normal_laws.specs.runs.forms.Normalisable.{numbers_of}
use Rattle.normal_laws.specs.existence.Laws.{IsLegalOriginal}
use Rattle.normal_laws.proofs.existence.Joined.{legal_is_normal}
use Rattle.replay_runs.specs.starts.Laws.{form_in}
use Rattle.replay_runs.specs.starts.Formals.{form_setting}
use Rattle.replay_runs.specs.controls.formed.Laws.{IsFormed, LegalBodiesAreFormed, LegalTasksAreFormed, FormedStays}
use Rattle.replay_runs.proofs.controls.formed.Made.{made-formed}

module _ (p : PProgram) (h : IsLegalOriginal p) where
  -- a number beyond those of the tasks is that of no unit
  beyond : (t : ℕ) → length (numbers_of p).tasks ≤ t → InBody (IsFormed p t) [] (unit_of (form_in p).program (form_in p).numbers t).body
  beyond zero l = absurd (omega (arith, l))
  beyond (suc t) l =
      let size : length (form_in p).numbers.tasks ≡ length (numbers_of p).tasks = (legal_is_normal p h []).size in
      let past : length (form_in p).numbers.tasks ≤ suc t = omega (arith, l, size) in
      subst (λ (u : OneUnit). InBody (IsFormed p (suc t)) [] u.body)
      (sym (ap (λ c. if c then record { in_main = true; decls = (form_in p).program.decls; body = (form_in p).program.body } else unit_of_info (form_in p).program (task_at (form_in p).numbers (suc t))) (ne_eqb (suc t) 0 (λ e. omega (arith, e)))
      ∙ ap (unit_of_info (form_in p).program) (slice_get_past (form_in p).numbers.tasks (suc t) past)))
      (tt, tt)

  all-formed : (t : ℕ) → InBody (IsFormed p t) [] (unit_of (form_in p).program (form_in p).numbers t).body
  all-formed t = by_test (nat_le (length (numbers_of p).tasks) t) refl
    where
      by_test : (c : Bool) → nat_le (length (numbers_of p).tasks) t ≡ c → InBody (IsFormed p t) [] (unit_of (form_in p).program (form_in p).numbers t).body
      by_test true e = beyond t (le_is (length (numbers_of p).tasks) t e)
      by_test false e = let l : t < length (numbers_of p).tasks = le_is_not (length (numbers_of p).tasks) t e in subst (InBody (IsFormed p t) []) (sym ((legal_is_normal p h []).bodies t l)) (made-formed p h t l)

pub legal_bodies_are_formed : LegalBodiesAreFormed
legal_bodies_are_formed p h t = all-formed p h t

pub legal_tasks_are_formed : LegalTasksAreFormed
legal_tasks_are_formed p h inputs t = starts-so (IsFormed p t) (form_setting p) inputs t (legal_bodies_are_formed p h t)

pub formed_stays : FormedStays
formed_stays p t l h = stays-so (IsFormed p t) (λ loops c d cs s i. absurd i) l h
