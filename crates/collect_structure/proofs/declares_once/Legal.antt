-- The names of the normal form of a legal program leave room for its collecting text.
use Rattle.std.proofs.Common.{ℕ}
use Rattle.ada_tree.specs.PlainProgram.{PProgram}
use Rattle.ada_static_rules.specs.Refusals.{types_in}
use Rattle.task_model.specs.Setting.{Setting}
use Rattle.normal_model.specs.NormalTree.{variables_needed}
use Rattle.normal_laws.proofs.structure.types.Names.{names-begin}
use Rattle.normal_laws.specs.runs.forms.Normalisable.{numbers_of, setting_for, made_for}
use Rattle.normal_laws.specs.existence.Laws.{IsLegalOriginal}
use Rattle.normal_laws.proofs.structure.once.Rewritten as normal
use Rattle.normal_laws.proofs.legality.declares_once.Whole.{normal_declares_once}
use Rattle.collect_structure.specs.Names.{IsOwn}
use Rattle.collect_structure.specs.declares_once.Names.{LeavesNames}
use Rattle.collect_structure.specs.declares_once.Laws.{LegalLeavesNames, LegalCollectDeclaresOnce}
use Rattle.normal_laws.proofs.structure.types.NamesApart.{front-kept}
use Rattle.collect_structure.proofs.kept.Names.{good-own, variable-own, task-own}
use Rattle.collect_structure.proofs.declares_once.Whole.{collect_declares_once}
use Rattle.replay_structure.proofs.declares_once.GoodNamed.{all-named-kept}

-- ---- the normal form of a legal program

module _ (p : PProgram) (h : IsLegalOriginal p) where
  abbrev g : Setting
  g = setting_for p

  abbrev q : PProgram
  q = made_for p

  abbrev count : ℕ
  count = variables_needed g

  pub leaves : LeavesNames q
  leaves = record {
    begins = front-kept p.names q.names (names-begin g count) h.names.begins;
    kept = all-named-kept p h (IsOwn q.names) (good-own g count) (variable-own g count) (task-own g count);
  }

pub legal_leaves_names : LegalLeavesNames
legal_leaves_names p h = leaves p h

pub legal_collect_declares_once : LegalCollectDeclaresOnce
legal_collect_declares_once p h = collect_declares_once p (types_in p) (numbers_of p) (normal_declares_once p h) (leaves p h)
