-- Why a text is read as no program of the language, and as what that is told (this project's rules).
use Rattle.std.specs.Prelude.{ℕ, List, Option, Some, None, slice_get, nat_eq, if◌then◌else◌}
use Rattle.ada_lexer.specs.declared.errors.LexError.TheVariants as lexical
use Rattle.ada_lexer.specs.Places.{line_at, column_at}
use Rattle.ada_lexer.specs.Verdicts.{max_name, max_content}
use Rattle.ada_parser.specs.declared.errors.ReadError.{ReadError}
use Rattle.ada_parser.specs.declared.errors.ReadError.TheVariants as reading
use Rattle.ada_parser.specs.Refusals.{IsRefusedFor}
use Rattle.debug_outcome.specs.Coming.{IsRefusal}
use Rattle.debug_outcome.specs.Outcomes.{Outcome}
use Rattle.debug_outcome.specs.declared.refusal.Misspelling.{Misspelling}
use Rattle.debug_outcome.specs.declared.refusal.Misspelling.TheVariants.{BadByte, OpenString, BadNumber, Syntax}
use Rattle.debug_outcome.specs.declared.refusal.TextFault.TheVariants.{Misspelled, LongToken, TooNested}
use Rattle.debug_outcome.specs.declared.refusal.Refusal.{Refusal}
use Rattle.debug_outcome.specs.declared.refusal.Refusal.TheVariants.{BadText}

-- how many bytes a token may have, by its first byte: a quotation mark begins a string, whose content is counted, and any other byte of a token that is too long an identifier
abbrev pub longest_token : Option ℕ → ℕ
longest_token (Some b) = if nat_eq b 34 then max_content else max_name
longest_token None = max_name

-- a text is nested at most this deep
abbrev pub nesting_limit : ℕ
nesting_limit = 300

-- the refusal of a text for what stands at a place, by line and column
abbrev pub misspelled_at : List ℕ → Misspelling → ℕ → Option Refusal
misspelled_at text what at = Some (BadText (Misspelled what (line_at text at) (column_at text at)))

-- the refusal for each error of the reader of this text; none for want of memory
abbrev pub refusal_of_read : List ℕ → ReadError → Option Refusal
refusal_of_read text (reading.Lex (lexical.BadByte at)) = misspelled_at text BadByte at
refusal_of_read text (reading.Lex (lexical.OpenString at)) = misspelled_at text OpenString at
refusal_of_read text (reading.Lex (lexical.BadNumber at)) = misspelled_at text BadNumber at
refusal_of_read text (reading.Lex (lexical.TooLong at)) = Some (BadText (LongToken (longest_token (slice_get text at))))
refusal_of_read text (reading.Lex lexical.Memory) = None
refusal_of_read text (reading.Syntax at) = misspelled_at text Syntax at
refusal_of_read text (reading.TooDeep at) = Some (BadText (TooNested nesting_limit))
refusal_of_read text reading.Memory = None

-- The text is that of no program: it is refused for this and for nothing else, and the outcome tells it.
pub record IsUnreadableText (text : List ℕ) (o : Outcome) : Type 0 where
  pub error : ReadError
  pub refused : IsRefusedFor text error
  pub told : IsRefusal (refusal_of_read text error) o
