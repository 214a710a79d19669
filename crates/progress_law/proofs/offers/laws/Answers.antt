use Rattle.progress_law.proofs.offers.Sequences.{legal_sequences_are_known}
use Rattle.progress_law.proofs.offers.Whole.{legal_offers_are_known, legal_variants_are_few}
use Rattle.progress_law.proofs.offers.laws.Goals as goal

pub returns : goal.returns
returns c = record { offers = legal_offers_are_known; sequences = legal_sequences_are_known; few = legal_variants_are_few }
