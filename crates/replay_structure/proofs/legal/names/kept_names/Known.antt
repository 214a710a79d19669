-- Known events are at most 200,000, and a text can hold them. So the replay text of a legal program and of such events is as promised where its places
-- meet the rules.
use Rattle.ada_static_rules.specs.Refusals.{types_in}
use Rattle.normal_laws.specs.runs.forms.Normalisable.{numbers_of, made_for}
use Rattle.replay_structure.specs.checked.Around.{kept_name}
use Rattle.replay_structure.proofs.checkable.KeptNames.{own-kept}
use Rattle.replay_structure.proofs.legal.known.Known.{known_have_literals}
use Rattle.replay_structure.proofs.legal.Kept.{new-kept, keeping}
use Rattle.replay_structure.proofs.legal.Legal.{replay_is_as_promised}
use Rattle.replay_structure.specs.legal.names.kept_names.Laws.{LegalIsKept, KnownAreHeld, KnownReplayIsAsPromised}
use Rattle.replay_structure.proofs.legal.Declared.{declarations-kept}

pub legal_is_kept : LegalIsKept
legal_is_kept p events h known = record {
  declared = declarations-kept p h (kept_name (made_for p)) (keeping p (kept_name (made_for p)) (own-kept p (types_in p) (numbers_of p)) (new-kept p));
  few = known.few;
}

pub known_are_held : KnownAreHeld
known_are_held p events h known = let l = known_have_literals p events h.legal.check_rules known in record { small = l.0; literals = l.1 }

pub known_replay_is_as_promised : KnownReplayIsAsPromised
known_replay_is_as_promised p events h known places = replay_is_as_promised p events h (record { kept = legal_is_kept p events h known; places = places }) (known_are_held p events h known)
