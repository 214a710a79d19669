-- The law, from its parts, and the example.
use Rattle.normal_laws.proofs.existence.Instance.{choosing-is-legal}
use Rattle.normal_laws.proofs.legality.placed.Placed.{legal_has_room}
use Rattle.replay_structure.proofs.legal.fits.Carried.{all_originals_placed}
use Rattle.replay_structure.specs.legal.placed.Laws.{LegalReplayIsPlaced, IsMet}
use Rattle.replay_structure.proofs.legal.placed.Ready.{is-ready}

pub all_legal_placed : LegalReplayIsPlaced
all_legal_placed p events h small literals few = all_originals_placed p events h.legal.check_rules h.placed h.names (legal_has_room p h) (is-ready p h) small literals few

pub is_met : IsMet
is_met = choosing-is-legal
