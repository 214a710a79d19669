-- The laws, from their parts.
use Rattle.std.proofs.Common.{◌≡◌, true, length, arith}
use Rattle.std.specs.List.{AllByRecursion}
use Rattle.std.proofs.lemmas.List.Elements.{recursion_from_All}
use Rattle.syn_event.specs.Numbering.{owner_of}
use Rattle.seq_file.specs.Known.{is_known}
use Rattle.normal_laws.specs.runs.forms.Normalisable.{numbers_of}
use Rattle.replay_structure.proofs.legal.fits.Counted.{tasks-within, entries-within}
use Rattle.replay_structure.proofs.legal.placed.Carried.{all_legal_placed}
use Rattle.replay_structure.specs.legal.known.Laws.{KnownHaveLiterals, KnownReplayIsPlaced}
use Rattle.replay_structure.proofs.legal.known.Literals.{events-small, script-literal}

pub known_have_literals : KnownHaveLiterals
known_have_literals p events checks known =
    let each : AllByRecursion (λ e. is_known (numbers_of p) e ≡ true) events = recursion_from_All (λ e. is_known (numbers_of p) e ≡ true) events known.each in (
      events-small (numbers_of p) events each,
      script-literal (numbers_of p) (omega (arith, tasks-within p checks)) (omega (arith, entries-within p checks)) (owner_of (numbers_of p)) (length (numbers_of p).tasks) events each,
    )

pub known_replay_is_placed : KnownReplayIsPlaced
known_replay_is_placed p events h known =
    let l = known_have_literals p events h.legal.check_rules known in
    all_legal_placed p events h l.0 l.1 known.few
