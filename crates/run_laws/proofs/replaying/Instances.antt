-- Every program with a sequence is a setting: all premises of the law are met together.
use Rattle.event_machine.specs.Worlds.{world_of}
use Rattle.event_machine.proofs.Reaching.{start_base}
use Rattle.run_laws.specs.replaying.Told.{IsYes, MetByAll}
use Rattle.run_laws.proofs.replaying.Twins.{numbering, numbering_numbers, numbering_owners, owner_by, sort_of, copy_imitates, copy_opens}
use Rattle.run_laws.proofs.replaying.Known.{plain_knows}

module _ {L : Type 0} where
  pub met_by_all : MetByAll L
  met_by_all o s = record {
    n = numbering;
    numbers = numbering_numbers;
    owner = λ e. owner_by o.p.owner o.p.size (sort_of e);
    owners = numbering_owners o.p.owner o.p.size;
    knows = plain_knows o.p (IsYes o.proper) o.lawful (world_of o.opening) (start_base o.p (IsYes o.proper) o.lawful o.opening o.opens_so o.starts_proper);
    imitates = copy_imitates _;
    opens = copy_opens _;
  }
