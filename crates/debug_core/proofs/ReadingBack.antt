-- The printed text of a program that was read is read back as the same program, and as no other.
use Rattle.std.proofs.Common.{ℕ, true, false, List, sym, subst}
use Rattle.ada_expr_parser.specs.readers.Readers.{Answer, Found, Fault}
use Rattle.ada_tree.specs.PlainProgram.{PProgram}
use Rattle.ada_tree.specs.Same.{Same}
use Rattle.ada_expr_parser.specs.declared.items.Item.{Item}
use Rattle.ada_parser.specs.Units.{PUnit}
use Rattle.ada_parser.specs.Reads.{Reads}
use Rattle.ada_parser.specs.Exactly.{IsRead, Says}
use Rattle.ada_parser.specs.inner.ReadingUnits as reading
use Rattle.ada_parser.proofs.Exact.{texts_exactly}
use Rattle.ada_parser.proofs.PlacedItems.{read_is_placed}
use Rattle.ada_printer.specs.ProgramText.{program_text}
use Rattle.read_back.proofs.Whole as back
use Rattle.debug_core.specs.PrintMeaning.{IsReadAsSame}

said : (bytes : List ℕ) (q : PProgram) → Reads bytes q → (answer : Answer Item PUnit) → Says bytes q.names answer → IsRead bytes q
said bytes q h (Found u rest) s = subst (λ (p : PProgram). IsRead bytes p) (sym (s.no_other q h)) s
said bytes q h (Fault false rest) s = absurd (s.no_program q h)
said bytes q h (Fault true rest) s = absurd (s.no_program q h)

-- bytes that are the text of a program are that of no other
pub only_text : (bytes : List ℕ) (q : PProgram) → Reads bytes q → IsRead bytes q
only_text bytes q h = said bytes q h (reading.text (record { bytes = bytes; names = q.names }) h.items) (texts_exactly bytes q.names h.items h.are_items)

again_as : (p : PProgram) → ((q : PProgram) × Reads (program_text p) q × Same p q) → IsReadAsSame (program_text p) p
again_as p r = record { again = r.0; is_read = only_text (program_text p) r.0 r.1; same = r.2 }

pub printed_back : (text : List ℕ) (p : PProgram) → IsRead text p → IsReadAsSame (program_text p) p
printed_back text p h = again_as p (back.read_back p (read_is_placed text p h.reads))
