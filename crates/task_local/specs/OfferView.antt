-- An offer as the code lends it, and as the table of actions speaks of it.
use Rattle.event_machine.specs.Offers as offers
use Rattle.task_local.specs.declared.offers.Offer.{Offer}
use Rattle.task_local.specs.declared.offers.Offer.TheVariants.{None, Call, Wait, Finish, End, Abort}

abbrev pub offer_as : Offer → offers.Offer
offer_as None = offers.Nothing
offer_as (Call form e i) = offers.Calls form e i
offer_as (Wait choices) = offers.Waits choices.now
offer_as Finish = offers.Finishes
offer_as End = offers.Ends
offer_as (Abort x) = offers.Aborts x
