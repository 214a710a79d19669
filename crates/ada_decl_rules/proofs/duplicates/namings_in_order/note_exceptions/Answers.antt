use Rattle.std.proofs.Common.{◌++◌}
use Rattle.ada_tree.specs.declared.naming.Word.{Word}
use Rattle.ada_static_rules.specs.Sites.{with_words}
use Rattle.scoped_names.specs.name_sets.Numbers.{numbers_in}
use Rattle.ada_decl_rules.specs.duplicates.NamingsInOrder.{named_once}
use Rattle.ada_decl_rules.proofs.duplicates.Noting.{once_more, words_more, once_over, words_over}
use Rattle.ada_decl_rules.proofs.duplicates.namings_in_order.note_exceptions.Goals as goal

pub loop-word-preserved : goal.loop-word-preserved
loop-word-preserved c =
    let none : Word = record { name = record { 0 = 0 }; span = record { start = 0; end = 0 } } in
    let i = c.loop-word.word-index in
    record {
      noted = once_more c.loop-word.namings.items c.note_once.new.namings.items (c.args.namings.now.items ++ named_once (numbers_in c.args.names.now) c.args.words.now) (numbers_in c.loop-word.names) (numbers_in c.note_once.new.names) c.args.words.now i none
          c.loop-word-test.true c.in_ok-note_once.ensures.namings c.in_ok-note_once.ensures.names c.loop-word.invariant.noted;
      names = words_more (numbers_in c.loop-word.names) (numbers_in c.note_once.new.names) (with_words (numbers_in c.args.names.now) c.args.words.now) c.args.words.now i none c.loop-word-test.true c.in_ok-note_once.ensures.names c.loop-word.invariant.names;
    }

pub returns-clause-namings : goal.returns-clause-namings
returns-clause-namings c = once_over c.loop-word.namings.items (c.args.namings.now.items ++ named_once (numbers_in c.args.names.now) c.args.words.now) (numbers_in c.loop-word.names) c.args.words.now c.loop-word.word-index c.loop-word-test.false c.loop-word.invariant.noted

pub returns-clause-names : goal.returns-clause-names
returns-clause-names c = words_over (numbers_in c.loop-word.names) (with_words (numbers_in c.args.names.now) c.args.words.now) c.args.words.now c.loop-word.word-index c.loop-word-test.false c.loop-word.invariant.names
