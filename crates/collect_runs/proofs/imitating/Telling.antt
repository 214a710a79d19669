-- Where a text can tell, its tasks tell whatever form the normal form has, so it collects.
use Rattle.std.specs.Prelude.{ℕ}
use Rattle.event_machine.specs.States.{Seat, State}
use Rattle.task_model.specs.Tasks.{Task}
use Rattle.run_laws.specs.collecting.Laws.{Collects}
use Rattle.collect_runs.specs.telling.Texts.{Texts, CanTell}
use Rattle.collect_runs.specs.telling.Forms.{Form}
use Rattle.collect_runs.specs.imitating.Settings.{Collecting, collected}
use Rattle.collect_runs.specs.imitating.Copies.{OpensText}
use Rattle.collect_runs.specs.imitating.Laws.{text_program}
use Rattle.collect_runs.proofs.telling.Acting.{tells_alike}
use Rattle.collect_runs.proofs.imitating.Imitating.{texts_collect}

pub telling_texts_collect : (x : Texts) → CanTell x → (f : Form x) (c : Collecting x) (at : State (ℕ → Seat Task)) → OpensText f c at → Collects (collected c) (text_program x) (λ t. t.output) at
telling_texts_collect x can f c at opens = texts_collect f c (tells_alike x can f) at opens
