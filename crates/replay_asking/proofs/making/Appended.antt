-- Rows of two lists.
use Rattle.normal_model.proofs.WalkLemmas.{seen-joined}

pub ruleset appended = (seen-joined)
