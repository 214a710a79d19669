-- The names of the normal form of a legal program are apart from those that its replay text adds.
use Rattle.std.proofs.Common.{◌≡◌, ℕ, Bool, true, arith}
use Rattle.ada_tree.specs.Attributes.{false_name}
use Rattle.ada_tree.specs.PlainProgram.{PProgram}
use Rattle.ada_static_rules.specs.Refusals.{types_in}
use Rattle.normal_model.specs.Ranges.{kind_name}
use Rattle.normal_laws.specs.runs.forms.Normalisable.{numbers_of, made_for}
use Rattle.normal_laws.specs.existence.Laws.{IsLegalOriginal}
use Rattle.replay_structure.specs.typed.ScopeOf.{AreOuter}
use Rattle.replay_structure.specs.checkable.Prepared.{form_for}
use Rattle.replay_structure.specs.scopes.Names.{old_name}
use Rattle.replay_structure.specs.scopes.Form.{AreNamesApart, AreAddedNames}
use Rattle.replay_structure.proofs.scopes.Names.{entries-new, permits-new, tables-new, control-new, idle-new, control-other, idle-other, tasks-apart, entries-apart}
use Rattle.replay_structure.proofs.legal.names.form_names.Olds.{own-old, first-old}
use Rattle.replay_structure.proofs.legal.names.form_names.TypeNames.{kinds-own}

module _ (p : PProgram) (h : IsLegalOriginal p) where
  abbrev q : PProgram
  q = made_for p

  kinds-old : (j : ℕ) → old_name q (kind_name (types_in p) j).0 ≡ true
  kinds-old j = own-old p (types_in p) (numbers_of p) (kind_name (types_in p) j).0 (kinds-own p h j)

  pub names-apart : (inner : ℕ → Bool) → AreOuter q inner → AreNamesApart (form_for p) (old_name q) inner
  names-apart inner outer = record {
    outer = outer;
    entries = entries-new q;
    permits = permits-new q;
    tables = tables-new q;
    zero = first-old p h 0 (omega arith);
    falses = first-old p h false_name (omega arith);
    kinds = kinds-old;
    control = control-new q;
    idle = idle-new q;
    control_other = control-other q;
    idle_other = idle-other q;
  }

  pub names-added : AreAddedNames q (old_name q)
  names-added = record { entries = entries-apart q; tasking = first-old p h 9 (omega arith); tasks = tasks-apart q }
