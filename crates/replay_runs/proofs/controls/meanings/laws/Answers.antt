use Rattle.replay_runs.proofs.controls.meanings.Pairs.{pairs_come, legal_pairs_step, tasks_stay}
use Rattle.replay_runs.proofs.controls.meanings.Aborts.{aborts}
use Rattle.replay_runs.proofs.controls.meanings.Accepting.{accepts}
use Rattle.replay_runs.proofs.controls.meanings.Calls.{calls}
use Rattle.replay_runs.proofs.controls.meanings.Waits.{waits}
use Rattle.replay_runs.proofs.controls.meanings.Ends.{ends}
use Rattle.replay_runs.proofs.controls.meanings.Permitted.{permits_hold}
use Rattle.replay_runs.proofs.controls.meanings.Imitating.{legal_imitates}
use Rattle.replay_runs.proofs.controls.meanings.Reading.{forms_keep_reading}
use Rattle.replay_runs.proofs.controls.meanings.Formed.{legal_form_laws, forms_are_known, is_met}
use Rattle.replay_runs.proofs.controls.meanings.laws.Goals as goal

pub returns : goal.returns
returns c = record {
  comes = pairs_come;
  steps = legal_pairs_step;
  stays = tasks_stay;
  aborts = aborts;
  calls = calls;
  accepts = accepts;
  waits = waits;
  ends = ends;
  permits = permits_hold;
  imitates = legal_imitates;
  reads = forms_keep_reading;
  formed = legal_form_laws;
  known = forms_are_known;
  met = is_met;
}
