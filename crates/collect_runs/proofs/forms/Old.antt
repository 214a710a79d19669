-- The names in the normal form of a legal program are those that its collecting text keeps.
use Rattle.ada_tree.specs.PlainProgram.{PProgram}
use Rattle.ada_tree.specs.Every.{EveryProgram}
use Rattle.normal_laws.specs.structure.checked.Around.{own_rules}
use Rattle.normal_laws.specs.runs.forms.Normalisable.{made_for}
use Rattle.normal_laws.specs.existence.Laws.{IsLegalOriginal}
use Rattle.normal_laws.proofs.legality.checks.Facts as facts
use Rattle.normal_laws.proofs.structure.checked.Owned.{own-together}
use Rattle.collect_structure.specs.Names.{kept_names}
use Rattle.collect_runs.proofs.forms.Tables.{kept_for}
use Rattle.collect_runs.proofs.forms.Finding.{checkable}
use Rattle.replay_structure.proofs.legal.names.form_names.Owned.{every-unlisted}

-- all names are kept
pub names-kept : (p : PProgram) → IsLegalOriginal p → EveryProgram (own_rules (kept_for p)) (made_for p)
names-kept p h =
    let n : PProgram = made_for p in
    own-together (kept_for p) (kept_names n) (λ id k. k) n.names n
    ((checkable p h).main, tt, every-unlisted (kept_names n) n.decls (checkable p h).declared, (checkable p h).named) (facts.placed p h)
