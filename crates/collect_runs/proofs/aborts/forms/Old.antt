-- All names of the normal form of a legal program stay.
use Rattle.ada_tree.specs.PlainProgram.{PProgram}
use Rattle.ada_tree.specs.Every.{EveryProgram}
use Rattle.normal_laws.specs.structure.checked.Around.{own_rules}
use Rattle.normal_laws.specs.runs.forms.Normalisable.{made_for}
use Rattle.normal_laws.specs.existence.Laws.{IsLegalOriginal}
use Rattle.collect_runs.specs.aborts.forms.Texts.{names_kept}
use Rattle.collect_structure.proofs.aborts.scopes.Names.{kept-keeping}
use Rattle.collect_structure.proofs.aborts.scopes.Owned.{all-owned}

-- all names stay
pub names-stay : (p : PProgram) → IsLegalOriginal p → EveryProgram (own_rules (names_kept p)) (made_for p)
names-stay p h = all-owned p h (names_kept p) (kept-keeping p)
