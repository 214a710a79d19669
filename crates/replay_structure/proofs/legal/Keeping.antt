-- A test that holds of the program's own names and of the names that its normal form adds.
use Rattle.std.proofs.Common.{◌≡◌, ℕ, ◌<◌, Bool, true}
use Rattle.ada_tree.specs.PlainProgram.{PProgram}
use Rattle.syn_event.specs.declared.numbering.TaskInfo.{TaskInfo}
use Rattle.normal_model.specs.Names.{variable_name, task_name}
use Rattle.normal_model.specs.NormalTree.{variables_needed}
use Rattle.normal_laws.specs.structure.types.Own.{own_name}
use Rattle.normal_laws.specs.runs.forms.Normalisable.{setting_for}
use Rattle.normal_laws.proofs.existence.units.TasksApart.{IsNamed}
use Rattle.normal_laws.proofs.legality.declares_once.Ids.{IsGoodId}

-- A test holds of the program's own names, and of those of the names of its normal form that are good, or of variables or tasks.
pub record IsKeeping (p : PProgram) (kept : ℕ → Bool) : Type 0 where
  pub old : (k : ℕ) → own_name p k ≡ true → kept k ≡ true
  pub good : (x : ℕ) → IsGoodId p.names x → kept x ≡ true
  pub variable : (k : ℕ) → k < variables_needed (setting_for p) → kept (variable_name (setting_for p) k).0 ≡ true
  pub task : (info : TaskInfo) → IsNamed (setting_for p) info → kept (task_name (setting_for p) info).0 ≡ true
