-- All names in the normal form of a legal program are such as a test holds of, where it holds of the program's own names, of its variables and of its tasks; and its lists have as many parts as the grammar asks.
use Rattle.std.proofs.Common.{ℕ, Bool}
use Rattle.ada_tree.specs.PlainProgram.{PProgram}
use Rattle.ada_tree.specs.Every.{EveryProgram}
use Rattle.normal_laws.specs.structure.checked.Around.{own_rules}
use Rattle.normal_laws.proofs.structure.checked.Owned.{own-together}
use Rattle.normal_laws.specs.runs.forms.Normalisable.{made_for}
use Rattle.normal_laws.specs.existence.Laws.{IsLegalOriginal}
use Rattle.normal_laws.proofs.legality.checks.Facts as facts
use Rattle.replay_structure.proofs.checkable.Kept.{rules_of}
use Rattle.replay_structure.proofs.legal.Keeping.{IsKeeping}
use Rattle.replay_structure.proofs.legal.Kept.{main-kept}
use Rattle.replay_structure.proofs.legal.Declared.{declarations-kept}
use Rattle.replay_structure.proofs.legal.names.form_names.Owned.{every-unlisted}

-- All names are such ones.
pub all-owned : (p : PProgram) (h : IsLegalOriginal p) (kept : ℕ → Bool) → IsKeeping p kept → EveryProgram (own_rules kept) (made_for p)
all-owned p h kept are =
    own-together kept (rules_of kept) (λ id a. a) (made_for p).names (made_for p)
    (are.old p.name.name.0 (facts.olds p h).0, tt, every-unlisted (rules_of kept) (made_for p).decls (declarations-kept p h kept are), main-kept p h kept are) (facts.placed p h)
