use Rattle.replay_structure.proofs.legal.fits.Carried.{all_normal_fit, all_originals_placed, example_is_met}
use Rattle.replay_structure.proofs.legal.fits.laws.Goals as goal

pub returns : goal.returns
returns c = record { fits = all_normal_fit; originals = all_originals_placed; met = example_is_met }
