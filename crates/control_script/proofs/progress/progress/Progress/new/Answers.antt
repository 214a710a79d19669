use Rattle.std.proofs.Common.{◌≡◌, false, length, ◌∙◌, ap}
use Rattle.syn_event.specs.Numbering.{Numbering}
use Rattle.event_machine.specs.progress.Known.{known_at_start}
use Rattle.control_script.specs.progress.TaskRecords.{known_of}
use Rattle.control_script.proofs.progress.Reading.{idle_known}
use Rattle.control_script.proofs.progress.progress.Progress.new.Goals as goal

-- as many tables as there are tasks
count_is : (c : goal.In_ok-members) → length c.as_slice.result.now ≡ length c.args.numbers.now.tasks
count_is c = ap length c.as_slice.ensures.value ∙ ap (λ (n : Numbering). length n.tasks) c.numbers.view_is

pub returns : goal.returns
returns c = ap (λ ms. known_of ms false) c.in_ok-members.ensures ∙ ap (λ ps. record { parties = ps; ended = false }) (idle_known (length c.as_slice.result.now)) ∙ ap known_at_start (count_is c)
