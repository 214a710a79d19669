use Rattle.std.proofs.Common.{◌∙◌, ap}
use Rattle.seq_file.specs.Lists.{is_in_lists}
use Rattle.seq_file.proofs.ListTexts.{lists-begin, events-begin}
use Rattle.seq_file.proofs.list_reading.is_in_lists.Goals as goal

pub returns-clause-lists : goal.returns-clause-lists
returns-clause-lists c = λ numbers names lists reads. c.starts_with.ensures.value ∙ ap is_in_lists reads.text ∙ lists-begin names numbers lists

pub returns-clause-one_list : goal.returns-clause-one_list
returns-clause-one_list c = λ numbers names events reads. c.starts_with.ensures.value ∙ ap is_in_lists reads.text ∙ events-begin names numbers events
