-- A legal original is ready, and so are two programs.
use Rattle.ada_static_rules.specs.Refusals.{types_in}
use Rattle.ada_tree.specs.PlainProgram.{PProgram}
use Rattle.normal_laws.specs.runs.forms.Normalisable.{numbers_of}
use Rattle.normal_laws.specs.existence.Laws.{IsLegalOriginal}
use Rattle.normal_laws.specs.existence.variable_types.Ready.{IsReady}
use Rattle.normal_laws.specs.existence.variable_types.Laws.{IsMet}
use Rattle.normal_laws.proofs.existence.Instance.{choosing-is-legal}
use Rattle.normal_laws.proofs.existence.Coloured.{coloured-is-legal}
use Rattle.normal_laws.proofs.existence.clear_scopes.Apart.{original-is-ready}

legal-is-ready : (p : PProgram) → IsLegalOriginal p → IsReady p
legal-is-ready p h = original-is-ready p (types_in p) (numbers_of p) h.legal h.placed h.names h.small

pub is_ready : IsMet
is_ready = (legal-is-ready _ choosing-is-legal, legal-is-ready _ coloured-is-legal)
