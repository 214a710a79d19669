use Rattle.collect_runs.proofs.originals.Carried.{collects_carry_over}
use Rattle.collect_runs.proofs.originals.Programs.{legal_forms_carry_over, legal_texts_collect_programs}
use Rattle.collect_runs.proofs.originals.Example.{is_met}
use Rattle.collect_runs.proofs.originals.laws.Goals as goal

pub returns : goal.returns
returns c = record { carried = collects_carry_over; forms = legal_forms_carry_over; texts = legal_texts_collect_programs; met = is_met }
