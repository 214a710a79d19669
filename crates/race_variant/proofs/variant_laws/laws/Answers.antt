use Rattle.race_variant.proofs.Continued.{one_goes_on, stays_feasible, stays_fit, ends_at_once}
use Rattle.race_variant.proofs.Few.{variants_are_few}
use Rattle.race_variant.proofs.Knowing.{variants_known}
use Rattle.race_variant.proofs.variant_laws.laws.Goals as goal

pub returns-clause-known : goal.returns-clause-known
returns-clause-known g c = variants_known

pub returns-clause-few : goal.returns-clause-few
returns-clause-few g c = variants_are_few

pub returns-clause-one : goal.returns-clause-one
returns-clause-one g c = one_goes_on g.C.Chooser.word g.C.Chooser.next

pub returns-clause-feasible : goal.returns-clause-feasible
returns-clause-feasible g c = stays_feasible g.C.Chooser.word g.C.Chooser.next

pub returns-clause-fit : goal.returns-clause-fit
returns-clause-fit g c = stays_fit g.C.Chooser.word g.C.Chooser.next

pub returns-clause-met : goal.returns-clause-met
returns-clause-met g c = ends_at_once g.C.Chooser.word g.C.Chooser.next
