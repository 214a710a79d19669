use Rattle.std.proofs.Common.{ap}
use Rattle.scoped_names.specs.name_sets.Numbers.{numbers_in}
use Rattle.ada_decl_rules.proofs.duplicates.Behind.{first_noted}
use Rattle.ada_decl_rules.proofs.duplicates.named_so_far.Notes.new.Goals as goal

pub returns : goal.returns
returns c = first_noted c.note_name.new.self c.new.result.items (numbers_in c.new-2.result) (numbers_in c.new-3.result) c.args.name c.new.ensures.items (ap numbers_in c.new-2.ensures) (ap numbers_in c.new-3.ensures) c.in_ok-note_name.ensures
