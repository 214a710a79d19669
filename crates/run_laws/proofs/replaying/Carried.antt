-- The law as it is told.
use Rattle.std.proofs.Common.{sym, subst}
use Rattle.event_machine.specs.Programs.{Program}
use Rattle.run_laws.specs.replaying.Laws.{Controlled}
use Rattle.run_laws.specs.replaying.Told.{LawOfReplaying, Meeting, setting}
use Rattle.run_laws.proofs.replaying.Tracking.{replays}
use Rattle.run_laws.proofs.replaying.Continuing.{goes_far}
use Rattle.run_laws.proofs.replaying.Quiet.{ends_whole}

module _ {L G K W : Type 0} where
  pub law_of_replaying : LawOfReplaying L G K W
  law_of_replaying o n numbers owner owners progress knows s q out meets at same_owner same_size imitates opens =
      subst (λ (r : Program K). Controlled (setting o n numbers owner owners progress knows s) r out at) (λ i. record { ops = q.ops; owner = sym same_owner i; size = sym same_size i })
      (record {
        replays = replays (setting o n numbers owner owners progress knows s) q.ops out (Meeting meets) imitates at opens;
        goes_far = goes_far (setting o n numbers owner owners progress knows s) q.ops out (Meeting meets) imitates at opens;
        ends_whole = ends_whole (setting o n numbers owner owners progress knows s) q.ops out (Meeting meets) imitates at opens;
      })
