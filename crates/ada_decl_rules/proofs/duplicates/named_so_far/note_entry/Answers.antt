use Rattle.scoped_names.specs.name_sets.Numbers.{numbers_in}
use Rattle.ada_decl_rules.proofs.duplicates.Behind.{entry_of}
use Rattle.common_lemmas.proofs.Results.{on_ok}
use Rattle.ada_decl_rules.proofs.duplicates.named_so_far.note_entry.Goals as goal

pub returns-clause-namings : goal.returns-clause-namings
returns-clause-namings c =
    on_ok c.note_formals.result (λ q. entry_of c.args.namings.now.items c.note_once.new.namings.items c.note_formals.new.namings.items (numbers_in c.args.names.now) c.args.entry.now c.deref.result.now c.deref.ensures.value c.in_ok-note_once.ensures.namings q) c.note_formals.ensures
