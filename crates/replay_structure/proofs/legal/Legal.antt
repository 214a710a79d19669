-- The replay text of a legal program is legal, where its places meet the rules.
use Rattle.std.proofs.Common.{refl, sym}
use Rattle.ada_static_rules.specs.Refusals.{types_in}
use Rattle.normal_laws.specs.runs.forms.Normalisable.{numbers_of}
use Rattle.normal_laws.proofs.legality.numbers.Numbered.{none_legal_is_ded}
use Rattle.normal_laws.proofs.legality.checks.Facts as facts
use Rattle.normal_laws.proofs.legality.checks.Joined.{normal_meets_checks}
use Rattle.normal_laws.proofs.legality.Places.{meets_by_places}
use Rattle.replay_model.specs.ReplayTree.{script_of, replay_of}
use Rattle.replay_structure.proofs.texts.Numbered.{replay_numbered}
use Rattle.replay_structure.proofs.checked.Whole.{replay_meets_checks}
use Rattle.replay_structure.proofs.declares_once.Legal.{legal_replay_declares_once}
use Rattle.replay_structure.proofs.legal.placed.Carried.{all_legal_placed}
use Rattle.replay_structure.specs.checkable.Prepared.{form_for}
use Rattle.replay_structure.proofs.checkable.Whole.{normal_is_checkable}
use Rattle.replay_structure.proofs.legal.Prepared.{legal_is_prepared}
use Rattle.replay_structure.specs.legal.Laws.{LegalReplayHasNumbers, LegalReplayMeetsTypes, LegalReplayMeetsChecks, ReplayIsLegal, ReplayIsAsPromised}

pub legal_replay_has_numbers : LegalReplayHasNumbers
legal_replay_has_numbers p events h =
    let own = facts.olds p h in
    replay_numbered p events (facts.ordered p h) own.0 own.2 (none_legal_is_ded p (types_in p) (numbers_of p) h.legal h.placed)

pub legal_replay_meets_types : LegalReplayMeetsTypes
legal_replay_meets_types p ops h met = meets_by_places (replay_of (form_for p) ops) met (legal_replay_declares_once p h ops)

pub legal_replay_meets_checks : LegalReplayMeetsChecks
legal_replay_meets_checks p ops h ready = replay_meets_checks (form_for p) ops ready (normal_meets_checks p h)

pub replay_is_legal : ReplayIsLegal
replay_is_legal p events h met = record {
  type_rules = legal_replay_meets_types p (script_of (numbers_of p) events) h met.places;
  check_rules = legal_replay_meets_checks p (script_of (numbers_of p) events) h (normal_is_checkable p events (legal_is_prepared p events h met.kept));
  its_types = refl;
  its_numbers = sym (legal_replay_has_numbers p events h);
}

pub replay_is_as_promised : ReplayIsAsPromised
replay_is_as_promised p events h met held = record { text = refl; legal = replay_is_legal p events h met; placed = all_legal_placed p events h held.small held.literals met.kept.few }
