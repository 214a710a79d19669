use Rattle.std.proofs.Common.{◌≡◌, ◌++◌, drop}
use Rattle.ada_static_rules.specs.Sites.{with_words}
use Rattle.scoped_names.specs.name_sets.Numbers.{numbers_in}
use Rattle.ada_decl_rules.specs.duplicates.NamingsInOrder.{named_once}
use Rattle.ada_decl_rules.proofs.duplicates.namings_in_order.note_exceptions.Given as goal

-- what is noted so far, and what is still to come
abbrev pub invariant-loop-word : goal.invariant-loop-word
invariant-loop-word l = record {
  noted : l.namings.items ++ named_once (numbers_in l.names) (drop l.word-index l.words) ≡ l.fn.namings.items ++ named_once (numbers_in l.fn.names) l.words;
  names : with_words (numbers_in l.names) (drop l.word-index l.words) ≡ with_words (numbers_in l.fn.names) l.words;
}
