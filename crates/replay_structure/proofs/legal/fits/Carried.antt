-- The laws, from their parts, and the example.
use Rattle.std.proofs.Common.{◌+◌, ◌*◌, ◌≤◌, length, codes, refl, arith}
use Rattle.ada_tree.specs.Lexical.{IsIdentifier}
use Rattle.ada_static_rules.specs.Refusals.{types_in}
use Rattle.syn_event.specs.Numbering.{Numbering, owner_of}
use Rattle.syn_event.specs.AllNumbers.{all_numbers}
use Rattle.normal_laws.proofs.structure.placed.Originals.{original_is_placeable}
use Rattle.normal_laws.proofs.structure.placed.Instance.{example_is_placeable}
use Rattle.replay_model.specs.ReplayTree.{script_of}
use Rattle.replay_structure.proofs.placed.Carried.{all_scripts_placed}
use Rattle.replay_structure.proofs.placed.Scripted.{script-few}
use Rattle.replay_structure.proofs.legal.fits.Counted.{tasks-within}
use Rattle.replay_structure.specs.legal.fits.Laws.{NormalFits, original_set, OriginalReplayIsPlaced, IsMet}
use Rattle.replay_structure.proofs.legal.fits.Whole.{normal_fits}

pub all_normal_fit : NormalFits
all_normal_fit g h q = normal_fits g h q

pub all_originals_placed : OriginalReplayIsPlaced
all_originals_placed p events checks placed names room ready small literals few =
    let N : Numbering = all_numbers (types_in p) p in
    let within : length N.tasks ≤ 201 = tasks-within p checks in
    let short : length (script_of N events) ≤ 3 * length events + length N.tasks + 1 = script-few (owner_of N) (length N.tasks) events in
    all_scripts_placed p (types_in p) N events (normal_fits (original_set p) (original_is_placeable p checks placed names room) ready) ready.few_numbers small literals (omega (arith, within, short, few))

double : IsIdentifier (codes "DED_S_E")
double = (refl, omega arith, refl)

pub example_is_met : IsMet
example_is_met = (
  example_is_placeable,
  record {
    main = ((tt, (tt, tt, double), tt), tt, tt);
    bodies = (tt, ((λ info i. ((tt, ((λ m s. omega arith), tt), tt), tt, tt)), tt));
    few_numbers = omega arith;
    few_tasks = omega arith;
    few_entries = omega arith;
  },
)
