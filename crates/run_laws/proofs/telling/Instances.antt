-- The laws as they are told.
use Rattle.run_laws.specs.replaying.Told.{IsYes}
use Rattle.run_laws.proofs.replaying.Twins.{numbering, numbering_numbers, numbering_owners, owner_by, sort_of, copy_imitates, copy_opens}
use Rattle.run_laws.specs.telling.Laws.{KnowsRuns, MetByEvents}
use Rattle.run_laws.proofs.telling.Knowing.{knows_by_events}

module _ {L : Type 0} where
  pub knows_runs : KnowsRuns L
  knows_runs p proper lawful opening opens_so starts_proper = knows_by_events p (IsYes proper) lawful opening opens_so starts_proper

  pub met_by_events : MetByEvents L
  met_by_events o s = record {
    n = numbering;
    numbers = numbering_numbers;
    owner = λ e. owner_by o.p.owner o.p.size (sort_of e);
    owners = numbering_owners o.p.owner o.p.size;
    knows = knows_runs o.p o.proper o.lawful o.opening o.opens_so o.starts_proper;
    imitates = copy_imitates _;
    opens = copy_opens _;
  }
