-- Synchronizing statements as a task and its image see them, where both stand at theirs: accept bodies, and what goes on behind (9.5, 6.2, 11.5).
use Rattle.std.specs.Prelude.{◌≡◌, ℕ, ℤ, List, [], ◌∷◌, Option}
use Rattle.ada_tree.specs.PlainStmt.{PStmt, PStmts, stmt_then}
use Rattle.ada_value.specs.declared.values.Value.{Value}
use Rattle.ada_value.specs.declared.values.Raised.{Raised}
use Rattle.task_model.specs.declared.parameters.FormalParameter.{FormalParameter}
use Rattle.task_model.specs.Frames.{Around, Opened, PFrame, control}
use Rattle.ada_value.specs.Variables.{Variables}
use Rattle.task_model.specs.Tasks.{Task}
use Rattle.task_model.specs.Rendezvous.{finished, finals_of, pending_of}
use Rattle.task_laws.specs.translation.Translations.{Programs, Translation, IsOld, IsFree, IsKnown}
use Rattle.task_laws.specs.translation.Controls.{Alike, task_in, Under}

-- formals of old names
pub data AreNamed (b : Programs) : List FormalParameter → Type 0 where
  none_named : AreNamed b []
  named_then : (f : FormalParameter) (fs : List FormalParameter) → IsOld b f.name → IsFree b f.name → AreNamed b fs → AreNamed b (f ∷ fs)

-- values of known kinds
pub data AreValues (b : Programs) : List Value → Type 0 where
  no_value : AreValues b []
  value_then : (v : Value) (vs : List Value) → IsKnown b v → AreValues b vs → AreValues b (v ∷ vs)

-- an accept body
pub data IsOpened : Around → Type 0 where
  is_opened : (caller : ℕ) (formals : List FormalParameter) (pending : Option Raised) → IsOpened (Opened caller formals pending)

-- Both hand the same values back, with the same exception pending, and are alike behind their accepts.
pub record EndAlike (x : Translation) (σ κ : Task) : Type 0 where
  pub after : Alike x (finished σ) (finished κ)
  pub finals : finals_of σ ≡ finals_of κ
  pub pending : pending_of σ ≡ pending_of κ

-- A task and its image in frames that go together, each with one more statement before images of what is left: the synchronizing statements of both.
pub data AreBefore (x : Translation) : Task → Task → Type 0 where
  are_before : {p p' : Around} {o o' : List PFrame} {V V' : Variables} (n : ℕ) (input : List ℤ) (output : List ℕ) (s s' : PStmt) (q q' : PStmts) → x.text.image q q' → Under x p o V p' o' V' →
      AreBefore x (task_in x.text.programs.original n input output (control (stmt_then s q) p o V)) (task_in x.text.programs.made n input output (control (stmt_then s' q') p' o' V'))
