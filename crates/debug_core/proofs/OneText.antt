-- A text calls for one outcome where it is that of no program, and where it is that of one for none of these.
use Rattle.std.proofs.Common.{◌≡◌, ℕ, List, subst}
use Rattle.ada_lexer.proofs.Unique.{first_fault-unique}
use Rattle.ada_lexer.specs.declared.errors.LexError.{LexError}
use Rattle.ada_tree.specs.PlainProgram.{PProgram}
use Rattle.ada_parser.specs.declared.errors.ReadError.{ReadError}
use Rattle.ada_parser.specs.declared.errors.ReadError.TheVariants as reading
use Rattle.ada_parser.specs.Exactly.{IsRead}
use Rattle.ada_parser.specs.Refusals.{IsRefusedFor}
use Rattle.debug_outcome.specs.Coming.{IsRefusal}
use Rattle.debug_outcome.specs.Outcomes.{Outcome}
use Rattle.debug_outcome.proofs.Comings.{one_refusal}
use Rattle.debug_core.specs.TextFaults.{IsUnreadableText, refusal_of_read}

-- the program of a text is one
pub one_program : (text : List ℕ) (p q : PProgram) → IsRead text p → IsRead text q → q ≡ p
one_program text p q h k = h.no_other q k.reads

read_by : (text : List ℕ) (p : PProgram) (o : Outcome) (e : ReadError) → IsRead text p → IsRefusedFor text e → IsRefusal (refusal_of_read text e) o → ⊥
read_by text p o (reading.Lex fault) read h told = h.no_program p read.reads
read_by text p o (reading.Syntax at) read h told = h.no_program p read.reads
read_by text p o (reading.TooDeep at) read h told = h.no_program p read.reads
read_by text p o reading.Memory read h told = told

pub read_or_unreadable : (text : List ℕ) (p : PProgram) (o : Outcome) → IsRead text p → IsUnreadableText text o → ⊥
read_or_unreadable text p o read h = read_by text p o h.error read h.refused h.told

one_by : (text : List ℕ) (o q : Outcome) (e d : ReadError) → IsRefusedFor text e → IsRefusedFor text d → IsRefusal (refusal_of_read text e) o → IsRefusal (refusal_of_read text d) q → o ≡ q
one_by text o q (reading.Lex f) (reading.Lex g) h k t u =
    one_refusal (refusal_of_read text (reading.Lex g)) o q (subst (λ (x : LexError). IsRefusal (refusal_of_read text (reading.Lex x)) o) (first_fault-unique text f g h.here k.here) t) u
one_by text o q (reading.Lex f) (reading.Syntax at) h k t u = absurd (h.no_syntax at k.here)
one_by text o q (reading.Lex f) (reading.TooDeep at) h k t u = absurd (h.not_deep at k.here)
one_by text o q (reading.Lex f) reading.Memory h k t u = absurd u
one_by text o q (reading.Syntax a) (reading.Lex f) h k t u = absurd (k.no_syntax a h.here)
one_by text o q (reading.Syntax a) (reading.Syntax b) h k t u =
    one_refusal (refusal_of_read text (reading.Syntax b)) o q (subst (λ (x : ℕ). IsRefusal (refusal_of_read text (reading.Syntax x)) o) (k.nowhere_else a h.here) t) u
one_by text o q (reading.Syntax a) (reading.TooDeep b) h k t u = absurd (h.not_deep b k.here)
one_by text o q (reading.Syntax a) reading.Memory h k t u = absurd u
one_by text o q (reading.TooDeep a) (reading.Lex f) h k t u = absurd (k.not_deep a h.here)
one_by text o q (reading.TooDeep a) (reading.Syntax b) h k t u = absurd (h.no_syntax b k.here)
one_by text o q (reading.TooDeep a) (reading.TooDeep b) h k t u = one_refusal (refusal_of_read text (reading.TooDeep b)) o q t u
one_by text o q (reading.TooDeep a) reading.Memory h k t u = absurd u
one_by text o q reading.Memory d h k t u = absurd t

pub one_unreadable_text : (text : List ℕ) (o q : Outcome) → IsUnreadableText text o → IsUnreadableText text q → o ≡ q
one_unreadable_text text o q h k = one_by text o q h.error k.error h.refused k.refused h.told k.told
