use Rattle.ada_parser.proofs.PlacedItems.{read_is_placed}
use Rattle.ada_parser.proofs.Exact.{has_one_text, texts_exactly}
use Rattle.ada_parser.proofs.laws.reading_laws.Goals as goal

pub returns : goal.returns
returns c = record { placed = read_is_placed; one_text = has_one_text; exactly = texts_exactly }
