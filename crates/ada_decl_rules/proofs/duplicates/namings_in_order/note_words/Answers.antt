use Rattle.std.proofs.Common.{◌++◌}
use Rattle.ada_tree.specs.declared.naming.Word.{Word}
use Rattle.ada_static_rules.specs.Sites.{with_words}
use Rattle.scoped_names.specs.name_sets.Numbers.{numbers_in}
use Rattle.ada_decl_rules.specs.duplicates.NamingsInOrder.{declared}
use Rattle.ada_decl_rules.proofs.duplicates.Noting.{word_more, words_more, declared_over, words_over}
use Rattle.ada_decl_rules.proofs.duplicates.namings_in_order.note_words.Goals as goal

pub loop-word-preserved : goal.loop-word-preserved
loop-word-preserved c =
    let none : Word = record { name = record { 0 = 0 }; span = record { start = 0; end = 0 } } in
    let i = c.loop-word.word-index in
    record {
      noted = word_more c.args.for_all c.loop-word.namings.items c.note_word.new.namings.items (c.args.namings.now.items ++ declared c.args.for_all (numbers_in c.args.here.now) c.args.words.now) (numbers_in c.loop-word.here) (numbers_in c.note_word.new.here) c.args.words.now i none
          c.loop-word-test.true c.in_ok-note_word.ensures.namings c.in_ok-note_word.ensures.here c.loop-word.invariant.noted;
      names = words_more (numbers_in c.loop-word.here) (numbers_in c.note_word.new.here) (with_words (numbers_in c.args.here.now) c.args.words.now) c.args.words.now i none c.loop-word-test.true c.in_ok-note_word.ensures.here c.loop-word.invariant.names;
    }

pub returns-clause-namings : goal.returns-clause-namings
returns-clause-namings c = declared_over c.args.for_all c.loop-word.namings.items (c.args.namings.now.items ++ declared c.args.for_all (numbers_in c.args.here.now) c.args.words.now) (numbers_in c.loop-word.here) c.args.words.now c.loop-word.word-index c.loop-word-test.false c.loop-word.invariant.noted

pub returns-clause-here : goal.returns-clause-here
returns-clause-here c = words_over (numbers_in c.loop-word.here) (with_words (numbers_in c.args.here.now) c.args.words.now) c.args.words.now c.loop-word.word-index c.loop-word-test.false c.loop-word.invariant.names
