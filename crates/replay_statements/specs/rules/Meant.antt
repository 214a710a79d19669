-- What the definitions of the replay text tell a unit.
use Rattle.replay_model.specs.Names.{double_text, replay_names, added_id}
use Rattle.syn_event.specs.DeclaredTasks.{text_of}
use Rattle.normal_model.specs.RewrittenUnit.{RewrittenUnit}
use Rattle.replay_model.specs.Asking.{member_number}
use Rattle.replay_asking.specs.names.Added.{added_in}
use Rattle.replay_asking.specs.Voice.{Voice}

abbrev pub voice_in : RewrittenUnit → Voice
voice_in u = record {
  added = added_in (replay_names u.setting.program);
  double = λ id. added_id u.setting.program (double_text (text_of u.setting.program.names id));
  member = λ e s index. member_number u.setting s e index;
  numbers = u.setting.numbers;
  task = u.task;
}
