-- Two programs that are as the law asks.
use Rattle.ada_tree.specs.PlainProgram.{PProgram}
use Rattle.ada_static_rules.specs.Refusals.{types_in}
use Rattle.normal_laws.specs.runs.forms.Normalisable.{numbers_of}
use Rattle.normal_laws.specs.existence.Laws.{IsLegalOriginal}
use Rattle.normal_laws.proofs.existence.Instance.{choosing-is-legal}
use Rattle.normal_laws.proofs.existence.Coloured.{coloured-is-legal}
use Rattle.normal_laws.specs.legality.numbers.Laws.{HasNumbers, IsMet}
use Rattle.normal_laws.proofs.legality.numbers.Numbered.{legal_has_numbers}

-- each program that is as the law of legal programs asks
pub of-legal : (p : PProgram) → IsLegalOriginal p → HasNumbers p
of-legal p h = legal_has_numbers p (types_in p) (numbers_of p) h.legal h.placed h.names h.small

pub is_met : IsMet
is_met = (of-legal _ choosing-is-legal, of-legal _ coloured-is-legal)
