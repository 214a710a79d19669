-- A legal original is as the laws of types and numbers ask.
use Rattle.normal_laws.proofs.legality.numbers.Numbered.{none_legal_is_ded}
use Rattle.normal_laws.proofs.legality.checks.Facts as facts
use Rattle.replay_structure.specs.texts.Laws.{LegalIsAsked}

pub legal_is_asked : LegalIsAsked
legal_is_asked p h =
    let own = facts.olds p h in
    record { ordered = facts.ordered p h; name = own.0; own = own.2; apart = none_legal_is_ded p _ _ h.legal h.placed }
