-- Calls in the normal form (9.5): where what they evaluate is made, or what they raise.
use Rattle.std.specs.Prelude.{◌≡◌, ℕ, ℤ, List, Some, Ok, Err}
use Rattle.ada_tree.specs.declared.naming.Span.{Span}
use Rattle.ada_tree.specs.declared.naming.Word.{Word}
use Rattle.ada_tree.specs.PlainExpr.{PExpr}
use Rattle.ada_tree.specs.PlainStmt.{PCall, PStmts}
use Rattle.syn_event.specs.Numbering.{entry_at}
use Rattle.ada_value.specs.declared.values.Raised.{Raised}
use Rattle.ada_value.specs.Variables.{Variables}
use Rattle.task_model.specs.Setting.{family_limits, entry_parameters, lists_of}
use Rattle.task_model.specs.Frames.{Around, PFrame, control, in_front}
use Rattle.task_model.specs.Tasks.{Task, raised_there}
use Rattle.task_model.specs.Stands.{Steps, stand_of, stepped}
use Rattle.task_model.specs.Calls.{Called, called}
use Rattle.normal_model.specs.Calls.{slots_called, index_number, actual_number, actuals_passed, args_passed, call_to}
use Rattle.task_laws.specs.translation.Translations.{Programs, Translation}
use Rattle.task_laws.specs.translation.Controls.{task_in, Under}
use Rattle.normal_laws.specs.runs.floors.Suited.{SameRange, IsCall}
use Rattle.normal_laws.specs.runs.floors.Preludes.{Reaches, Added, AreThere}
use Rattle.normal_laws.specs.runs.floors.inner.Actuals.{AreSlots}

-- What an entry has that a call comes to, where n variables were made before the call: by both programs the same formals and the same lists, those of
-- the original's with the variables in their places.
pub record IsEntryCalled (b : Programs) (added : Added b b.original) (s : Span) (c : PCall) (n : ℕ) (asked : IsCall b c) (e : ℕ) : Type 0 where
  pub formals : entry_parameters b.original e ≡ entry_parameters b.made e
  pub lists : lists_of b.original.numbers e c.args ≡ record { index = asked.index; actuals = asked.actuals }
  pub actuals : (lists_of b.made.numbers e (args_passed b.original s c n c.args)).actuals ≡ actuals_passed b.original s (slots_called b.original c) asked.actuals (actual_number b.original s c n)
  pub slots : AreSlots added.bounds (entry_parameters b.original e) (slots_called b.original c) (actual_number b.original s c n)
  pub range : (d : PExpr) → asked.index ≡ Some d → SameRange (family_limits (entry_at b.original.numbers e)) (added.bounds (index_number b.original s c n))

-- What becomes of a task of the normal form before what stands in front of a call, in front of what stands for its callee.
pub data MeetsCall (x : Translation) (added : Added x.text.programs x.text.programs.original) (m : ℕ) (input : List ℤ) (output : List ℕ) (p : Around) (o : List PFrame) (V : Variables) (p' : Around) (o' : List PFrame)
    (from : Task) (s : Span) (c : PCall) (n : ℕ) (asked : IsCall x.text.programs c) (what : Word → PStmts) (behind : PStmts) : Type 0 where
  -- it comes before what stands for the task that is meant, where both calls come to the same
  meets_call : (r : Called) (w : Word) (W : Variables) → called x.text.programs.original V c ≡ Ok r → called x.text.programs.made W (call_to x.text.programs.original s c n w) ≡ Ok r →
      IsEntryCalled x.text.programs added s c n asked r.entry → Under x p o V p' o' W → AreThere added W →
      Reaches from (task_in x.text.programs.made m input output (control (in_front (what w) behind) p' o' W)) → MeetsCall x added m input output p o V p' o' from s c n asked what behind
  -- or it comes to a step at a statement that does not synchronize, which raises what the call raises
  meets_none : (e : Raised) (r : PStmts) (W : Variables) → called x.text.programs.original V c ≡ Err e → Under x p o V p' o' W →
      Reaches from (task_in x.text.programs.made m input output (control r p' o' W)) →
      stand_of (task_in x.text.programs.made m input output (control r p' o' W)) ≡ Steps →
      stepped (task_in x.text.programs.made m input output (control r p' o' W)) ≡ raised_there e (task_in x.text.programs.made m input output (control r p' o' W)) →
      MeetsCall x added m input output p o V p' o' from s c n asked what behind
