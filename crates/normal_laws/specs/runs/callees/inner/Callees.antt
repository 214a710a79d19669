-- Callees in the normal form (9.1, 9.5): where the index of one that is chosen is made, or what it raises.
use Rattle.std.specs.Prelude.{◌≡◌, ℕ, ℤ, List, Option, Result, Ok, Err}
use Rattle.ada_tree.specs.declared.naming.Word.{Word}
use Rattle.ada_tree.specs.PlainExpr.{PExpr}
use Rattle.ada_tree.specs.PlainStmt.{PCallee, PStmts}
use Rattle.ada_value.specs.declared.values.Value.{Value}
use Rattle.ada_value.specs.declared.values.Raised.{Raised}
use Rattle.ada_value.specs.Values.{and_then}
use Rattle.ada_value.specs.Variables.{Variables}
use Rattle.task_model.specs.Setting.{callee_task}
use Rattle.task_model.specs.Frames.{Around, PFrame, control, in_front}
use Rattle.task_model.specs.Tasks.{Task, raised_there}
use Rattle.task_model.specs.Stands.{Steps, stand_of, stepped}
use Rattle.normal_model.specs.Names.{task_name_at}
use Rattle.task_laws.specs.translation.Translations.{Translation, types_before}
use Rattle.task_laws.specs.translation.Controls.{task_in, Under}
use Rattle.normal_laws.specs.runs.floors.Suited.{IsMeant}
use Rattle.normal_laws.specs.runs.floors.Preludes.{Reaches, Added, AreThere, due_worth, Hold}

-- A task to which a callee comes, with the values that go to variables behind its index.
pub record Chosen : Type 0 where
  pub task : ℕ
  pub values : List (Option Value)

-- the values of expressions behind a callee
abbrev pub chosen_with : (ℕ → List (Option Value) → Chosen) → Result ℕ Raised → Result (List (Option Value)) Raised → Result Chosen Raised
chosen_with f task values = and_then task (λ t. and_then values (λ ws. Ok (f t ws)))

abbrev pub the_chosen : ℕ → List (Option Value) → Chosen
the_chosen t ws = record { task = t; values = ws }

-- What becomes of a task of the normal form before the assignments of a callee's index and of these expressions, which are numbered from k on, in
-- front of what stands for the callee, beside a task with the variables V.
pub data MeetsCallee (x : Translation) (added : Added x.text.programs x.text.programs.original) (n : ℕ) (input : List ℤ) (output : List ℕ) (p : Around) (o : List PFrame) (V : Variables) (p' : Around) (o' : List PFrame)
    (from : Task) (callee : PCallee) (what : Word → PStmts) (behind : PStmts) (k : ℕ) (ds : List (Option PExpr)) : Type 0 where
  -- it comes before what stands for the task that is meant, with the values in their variables
  meets_task : (t : ℕ) (w : Word) (ws : List (Option Value)) (W : Variables) → callee_task x.text.programs.original V callee ≡ Ok t → IsMeant x.text.programs callee t → w.name ≡ task_name_at x.text.programs.original t →
      due_worth (types_before x.text.programs) V added.bounds ds k ≡ Ok ws → Hold added W k ds ws → Under x p o V p' o' W → AreThere added W →
      Reaches from (task_in x.text.programs.made n input output (control (in_front (what w) behind) p' o' W)) → MeetsCallee x added n input output p o V p' o' from callee what behind k ds
  -- or it comes to a step at a statement that does not synchronize, which raises what the callee or the first of the expressions raises
  meets_raise : (e : Raised) (r : PStmts) (W : Variables) →
      chosen_with the_chosen (callee_task x.text.programs.original V callee) (due_worth (types_before x.text.programs) V added.bounds ds k) ≡ Err e → Under x p o V p' o' W →
      Reaches from (task_in x.text.programs.made n input output (control r p' o' W)) →
      stand_of (task_in x.text.programs.made n input output (control r p' o' W)) ≡ Steps →
      stepped (task_in x.text.programs.made n input output (control r p' o' W)) ≡ raised_there e (task_in x.text.programs.made n input output (control r p' o' W)) →
      MeetsCallee x added n input output p o V p' o' from callee what behind k ds
