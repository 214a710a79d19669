-- What each error of the reader says of the bytes (this project's rule).
use Rattle.std.specs.Prelude.{ℕ, List, ⊤}
use Rattle.ada_lexer.specs.declared.errors.LexError.{LexError}
use Rattle.ada_lexer.specs.declared.errors.LexError.TheVariants as tokens
use Rattle.ada_lexer.specs.Split.{HasFirstFault}
use Rattle.ada_tree.specs.PlainProgram.{PProgram}
use Rattle.ada_expr_parser.specs.declared.errors.ParseError.{ParseError}
use Rattle.ada_expr_parser.specs.declared.errors.ParseError.TheVariants as parts
use Rattle.ada_parser.specs.declared.errors.ReadError.{ReadError}
use Rattle.ada_parser.specs.declared.errors.ReadError.TheVariants as errors
use Rattle.ada_parser.specs.Reads.{Reads, SyntaxAt, TooDeepAt}
use Rattle.ada_parser.specs.Exactly.{IsRefused, IsTooDeepAt}

-- The bytes do not fall into tokens, and this is their first fault: they are the text of no program, and refused at no place.
pub record IsUnsplit (bytes : List ℕ) (fault : LexError) : Type 0 where
  pub here : HasFirstFault bytes fault
  pub no_program : (p : PProgram) → Reads bytes p → ⊥
  pub no_syntax : (at : ℕ) → SyntaxAt bytes at → ⊥
  pub not_deep : (at : ℕ) → TooDeepAt bytes at → ⊥

-- what an error says of the bytes; want of memory says nothing
abbrev pub IsRefusedFor : List ℕ → ReadError → Type 0
IsRefusedFor bytes (errors.Lex fault) = IsUnsplit bytes fault
IsRefusedFor bytes (errors.Syntax at) = IsRefused bytes at
IsRefusedFor bytes (errors.TooDeep at) = IsTooDeepAt bytes at
IsRefusedFor bytes errors.Memory = ⊤

-- the error of a reader of parts, as one of whole texts
abbrev pub whole_error : ParseError → ReadError
whole_error (parts.Syntax at) = errors.Syntax at
whole_error (parts.TooDeep at) = errors.TooDeep at
whole_error parts.Memory = errors.Memory

-- and that of the tokens
abbrev pub tokens_error : LexError → ReadError
tokens_error (tokens.BadByte at) = errors.Lex (tokens.BadByte at)
tokens_error (tokens.OpenString at) = errors.Lex (tokens.OpenString at)
tokens_error (tokens.BadNumber at) = errors.Lex (tokens.BadNumber at)
tokens_error (tokens.TooLong at) = errors.Lex (tokens.TooLong at)
tokens_error tokens.Memory = errors.Memory
