-- The laws as they are told.
use Rattle.std.proofs.Common.{not, sym, subst}
use Rattle.std.proofs.lemmas.Bool.{and_parts}
use Rattle.event_machine.specs.declared.Event.TheVariants.{E}
use Rattle.event_machine.specs.Programs.{Program}
use Rattle.event_machine.specs.Worlds.{happens}
use Rattle.run_laws.specs.imitation.Told.{Meeting}
use Rattle.run_laws.specs.aborts.Laws.{Collects}
use Rattle.run_laws.specs.aborts.Settings.{twin}
use Rattle.run_laws.specs.aborts.Told.{LawOfCollecting, LawOfRefusals}
use Rattle.run_laws.specs.aborts.inner.Beside.{IsBeside}
use Rattle.run_laws.proofs.aborts.Collects.{collects}
use Rattle.run_laws.proofs.aborts.Partings.{refused_closed}
use Rattle.common_lemmas.proofs.Truth.{not_true}

module _ {L K V W : Type 0} where
  pub law_of_collecting : LawOfCollecting L K V W
  law_of_collecting o x q out meets at same_owner same_size imitates opens =
      subst (λ (r : Program K). Collects x r out at) (λ i. record { ops = q.ops; owner = sym same_owner i; size = sym same_size i })
      (collects x q.ops out (Meeting meets) imitates at opens)

module _ {L V : Type 0} where
  pub law_of_refusals : LawOfRefusals L V
  law_of_refusals o x w found a u c l is can =
      let k = and_parts (not w.ended) (happens (twin x) w.tasks (E a)) can in
      let b : IsBeside x w = found.known in
      refused_closed x b.past b.r b.d w b.inv (not_true w.ended k.0) found.sound a u c l is k.1
