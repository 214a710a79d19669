-- Conditional and timed calls by their form, and rows without statements.
use Rattle.std.proofs.Common.{◌≡◌, ℕ, ℤ, List, Some, Ok, refl}
use Rattle.ada_tree.specs.declared.naming.Span.{Span}
use Rattle.ada_tree.specs.PlainStmt.{PCall, PStmt, SNull, SConditional, STimed, PStmts, no_stmt, stmt_then}
use Rattle.event_machine.specs.declared.CallForm.{CallForm}
use Rattle.event_machine.specs.declared.CallForm.TheVariants.{Conditional, Timed}
use Rattle.ada_value.specs.declared.values.Value.{Value}
use Rattle.ada_value.specs.Variables.{Variables}
use Rattle.task_model.specs.Setting.{Setting, entry_parameters}
use Rattle.task_model.specs.Frames.{Around, PFrame, control, in_front}
use Rattle.task_model.specs.Tasks.{Task, gone_to, entered}
use Rattle.task_model.specs.Calls.{Called, called, opening_values, values_handed}
use Rattle.task_model.specs.Stands.{call_stand, stand_of}
use Rattle.task_model.specs.Rendezvous.{returned, took_else, took_delay}
use Rattle.normal_model.specs.Making.{or_null}
use Rattle.task_laws.specs.translation.Translations.{Translation}
use Rattle.task_laws.specs.translation.Controls.{task_in, AreAround}
use Rattle.normal_laws.specs.runs.floors.Meetings.{AreValues}
use Rattle.normal_laws.specs.runs.floors.Preludes.{Reaches, reaches_here, reaches_by}
use Rattle.normal_laws.specs.runs.floors.inner.Met.{Catches, AreBack, CallMet}
use Rattle.normal_laws.specs.runs.calls.inner.Returns.{HasCall, has_conditional, has_timed}

-- the form of a conditional or timed call
pub data Form : Type 0 where
  conditional : Form
  timed : ℕ → Form

abbrev pub statement : Span → Form → PCall → PStmts → PStmts → PStmt
statement s conditional call met other = SConditional call met other s
statement s (timed d) call met other = STimed call met d other s

abbrev pub form_of : Form → CallForm
form_of conditional = Conditional
form_of (timed d) = Timed

-- the task in the other part
abbrev pub other_of : Form → Task → Task
other_of conditional t = took_else t
other_of (timed d) t = took_delay 1 t

pub has-call : (s : Span) (f : Form) (call : PCall) (met other : PStmts) → HasCall (statement s f call met other) call met
has-call s conditional call met other = has_conditional call met other s
has-call s (timed d) call met other = has_timed call met d other s

module _ (s : Span) (m : ℕ) (i : List ℤ) (out : List ℕ) where
  -- `null;` where nothing stands
  pub null-row : (t : Setting) (p : Around) (o : List PFrame) (r q rest : PStmts) (W : Variables) →
      Reaches (gone_to (in_front (or_null s r) q) (task_in t m i out (control rest p o W))) (gone_to (in_front r q) (task_in t m i out (control rest p o W)))
  null-row t p o no_stmt q rest W = reaches_by _ _ refl refl (reaches_here (gone_to q (task_in t m i out (control (stmt_then (SNull s) q) p o W))))
  null-row t p o (stmt_then a r) q rest W = reaches_here _

  pub stands-at : (f : Form) (t : Setting) (call : PCall) (met other q : PStmts) (p : Around) (o : List PFrame) (V : Variables) →
      stand_of (task_in t m i out (control (stmt_then (statement s f call met other) q) p o V)) ≡ call_stand (form_of f) (called t V call)
  stands-at conditional t call met other q p o V = refl
  stands-at (timed d) t call met other q p o V = refl

  pub handed-at : (f : Form) (t : Setting) (call : PCall) (met other q : PStmts) (p : Around) (o : List PFrame) (V : Variables) →
      values_handed (task_in t m i out (control (stmt_then (statement s f call met other) q) p o V)) ≡ opening_values (Some (called t V call))
  handed-at conditional t call met other q p o V = refl
  handed-at (timed d) t call met other q p o V = refl

  pub other-at : (f : Form) (t : Setting) (call : PCall) (met other q : PStmts) (p : Around) (o : List PFrame) (V : Variables) →
      other_of f (task_in t m i out (control (stmt_then (statement s f call met other) q) p o V)) ≡ entered other q (task_in t m i out (control (stmt_then (statement s f call met other) q) p o V))
  other-at conditional t call met other q p o V = refl
  other-at (timed d) t call met other q p o V = refl

module _ (x : Translation) where
  -- both stand at calls of the same form, by what becomes of both behind them
  pub form-met : (f : Form) {σ κ : Task} (r : Called) → stand_of σ ≡ call_stand (form_of f) (Ok r) → stand_of κ ≡ call_stand (form_of f) (Ok r) → values_handed σ ≡ r.values → values_handed κ ≡ r.values →
      AreValues x.text.programs r.values → AreAround x σ κ → ((values : List Value) → AreBack x.text.programs (entry_parameters x.text.programs.original r.entry) values → Catches x (returned values σ) (returned values κ)) →
      Catches x (other_of f σ) (other_of f κ) → CallMet x σ κ
  form-met conditional r a a' v v' known u back other = record {
    form = Conditional;
    result = r;
    stands = a;
    stands_too = a';
    handed = v;
    handed_too = v';
    known = known;
    around = u;
    returns = back;
    otherwise = λ f. other;
    delayed = λ f. absurd (let none : ⊥ = cc in none);
  }
  form-met (timed d) r a a' v v' known u back other = record {
    form = Timed;
    result = r;
    stands = a;
    stands_too = a';
    handed = v;
    handed_too = v';
    known = known;
    around = u;
    returns = back;
    otherwise = λ f. absurd (let none : ⊥ = cc in none);
    delayed = λ f. other;
  }
