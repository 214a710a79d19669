-- A text with a task and a call is read, within the limit, as a legal original.
use Rattle.std.proofs.Common.{refl, lit≤}
use Rattle.std.specs.Fmt.{digits}
use Rattle.ada_lexer.specs.Lengths.{mark_len, piece_len}
use Rattle.ada_lexer.specs.Verdicts.{word_verdict, mark_verdict, verdict}
use Rattle.ada_lexer.specs.Words.{two_letters, three_letters, four_letters, five_letters, six_letters, seven_letters, eight_letters, nine_letters, reserved_words, reserved_symbol, simple_delimiters, compound_delimiters, delimiter_symbol}
use Rattle.ada_static_rules.specs.Refusals.{types_in}
use Rattle.syn_event.specs.declared.numbering.Mode.TheVariants.{Original}
use Rattle.syn_event.specs.Legal.{Legal}
use Rattle.normal_laws.specs.runs.forms.Normalisable.{numbers_of}
use Rattle.ada_expr_parser.specs.Tests.{same}
use Rattle.ada_parser.specs.Reads.{HasItems}
use Rattle.ada_parser.specs.Exactly.{IsRead}
use Rattle.ada_parser.proofs.Exact.{texts_exactly}
use Rattle.text_laws.specs.normal.Example.{calling_text, calling}
use Rattle.text_laws.specs.normal.Laws.{IsOriginalText}
use Rattle.text_laws.proofs.normal.Computing.{all_items, has-items}

items : HasItems calling_text record { bytes = calling_text; names = calling.names } (all_items calling_text calling.names)
unfolding mark_len piece_len word_verdict mark_verdict verdict two_letters three_letters four_letters five_letters six_letters seven_letters eight_letters nine_letters reserved_words reserved_symbol simple_delimiters compound_delimiters delimiter_symbol
items = has-items calling_text calling.names refl refl refl refl

read : IsRead calling_text calling
unfolding mark_len piece_len word_verdict mark_verdict verdict two_letters three_letters four_letters five_letters six_letters seven_letters eight_letters nine_letters reserved_words reserved_symbol simple_delimiters compound_delimiters delimiter_symbol same
read = texts_exactly calling_text calling.names (all_items calling_text calling.names) items

legal : Legal calling (types_in calling) (numbers_of calling) Original
unfolding digits
legal = record { type_rules = refl; check_rules = refl; its_types = refl; its_numbers = refl }

pub calling-is-legal : IsOriginalText calling_text calling
calling-is-legal = record { reads = read.reads; short = lit≤ tt; legal = legal }
