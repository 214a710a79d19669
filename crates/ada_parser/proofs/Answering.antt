-- What an answer of the reader says of the bytes is so the other way round too: what is so of the bytes leaves one answer, and want of memory.
use Rattle.std.proofs.Common.{◌≡◌, ℕ, List, Result, Ok, Err, IfOk, IfErr, refl, sym, ap}
use Rattle.std.specs.Prelude.{◌≢◌, MatchResult}
use Rattle.ada_lexer.specs.declared.kinds.Token.{Token}
use Rattle.ada_lexer.specs.declared.errors.LexError.{LexError}
use Rattle.ada_lexer.specs.declared.errors.LexError.TheVariants as tokens
use Rattle.ada_lexer.specs.Split.{Splits, HasFirstFault}
use Rattle.ada_lexer.proofs.Unique.{first_fault-unique}
use Rattle.ada_tree.specs.declared.whole.Program.{Program}
use Rattle.ada_tree.specs.PlainProgram.{PProgram, plain_program}
use Rattle.ada_tree.specs.WellPlaced.{IsWellPlaced}
use Rattle.ada_expr_parser.specs.declared.items.Item.{Item}
use Rattle.ada_expr_parser.specs.declared.errors.ParseError.{ParseError}
use Rattle.ada_expr_parser.specs.declared.errors.ParseError.TheVariants as parts
use Rattle.ada_expr_parser.specs.Items.{AreItems, names_after}
use Rattle.ada_expr_parser.specs.Gives.{Fails}
use Rattle.ada_parser.specs.declared.errors.ReadError.{ReadError}
use Rattle.ada_parser.specs.declared.errors.ReadError.TheVariants as errors
use Rattle.ada_parser.specs.Reads.{Reads, SyntaxAt, TooDeepAt}
use Rattle.ada_parser.specs.inner.ReadingUnits as reading
use Rattle.ada_parser.specs.Exactly.{IsRead}
use Rattle.ada_parser.specs.Refusals.{IsUnsplit, IsRefusedFor, whole_error, tokens_error}
use Rattle.ada_parser.proofs.PlacedItems.{read_is_placed}
use Rattle.ada_parser.proofs.Exact.{read_refused, read_deep, unread, no_syntax, not_deep}

-- a text with a fault of its tokens
unsplit : (bytes : List ℕ) (fault : LexError) → HasFirstFault bytes fault → IsUnsplit bytes fault
unsplit bytes fault has = record { here = has; no_program = unread bytes fault has; no_syntax = no_syntax bytes fault has; not_deep = not_deep bytes fault has }

pub unsplit_for : (bytes : List ℕ) (fault : LexError) → (fault ≢ tokens.Memory → HasFirstFault bytes fault) → IsRefusedFor bytes (tokens_error fault)
unsplit_for bytes (tokens.BadByte at) has = unsplit bytes (tokens.BadByte at) (has (λ e. cc))
unsplit_for bytes (tokens.OpenString at) has = unsplit bytes (tokens.OpenString at) (has (λ e. cc))
unsplit_for bytes (tokens.BadNumber at) has = unsplit bytes (tokens.BadNumber at) (has (λ e. cc))
unsplit_for bytes (tokens.TooLong at) has = unsplit bytes (tokens.TooLong at) (has (λ e. cc))
unsplit_for bytes tokens.Memory has = tt

-- a text with a fault of the grammar
pub refused_for :
    (bytes : List ℕ) (tokens : List Token) (names : List (List ℕ)) (items : List Item) (e : ParseError) → Splits bytes tokens → AreItems bytes names tokens items → names ≡ names_after bytes tokens →
    Fails e (reading.text (record { bytes = bytes; names = names }) items) → IsRefusedFor bytes (whole_error e)
refused_for bytes tokens names items (parts.Syntax at) splits are names_are is = read_refused bytes tokens names items splits are names_are at is
refused_for bytes tokens names items (parts.TooDeep at) splits are names_are is = read_deep bytes tokens names items splits are names_are at is
refused_for bytes tokens names items parts.Memory splits are names_are is = tt

module _ (bytes : List ℕ) where
  not_read : (e : ReadError) → IsRefusedFor bytes e → (p : PProgram) → Reads bytes p → e ≡ errors.Memory
  not_read (errors.Lex fault) is p read = absurd (is.no_program p read)
  not_read (errors.Syntax at) is p read = absurd (is.no_program p read)
  not_read (errors.TooDeep at) is p read = absurd (is.no_program p read)
  not_read errors.Memory is p read = refl

  syntax_alone : (e : ReadError) → IsRefusedFor bytes e → (at : ℕ) → SyntaxAt bytes at → e ≢ errors.Memory → e ≡ errors.Syntax at
  syntax_alone (errors.Lex fault) is at here some = absurd (is.no_syntax at here)
  syntax_alone (errors.Syntax b) is at here some = ap (λ n. errors.Syntax n) (sym (is.nowhere_else at here))
  syntax_alone (errors.TooDeep b) is at here some = absurd (is.no_syntax at here)
  syntax_alone errors.Memory is at here some = absurd (some refl)

  deep_alone : (e : ReadError) → IsRefusedFor bytes e → (at : ℕ) → TooDeepAt bytes at → e ≢ errors.Memory → e ≡ errors.TooDeep at
  deep_alone (errors.Lex fault) is at here some = absurd (is.not_deep at here)
  deep_alone (errors.Syntax b) is at here some = absurd (is.not_deep at here)
  deep_alone (errors.TooDeep b) is at here some = ap (λ n. errors.TooDeep n) (sym (is.nowhere_else at here))
  deep_alone errors.Memory is at here some = absurd (some refl)

  fault_alone : (e : ReadError) → IsRefusedFor bytes e → (fault : LexError) → HasFirstFault bytes fault → e ≢ errors.Memory → e ≡ errors.Lex fault
  fault_alone (errors.Lex f) is fault here some = ap (λ x. errors.Lex x) (first_fault-unique bytes f fault is.here here)
  fault_alone (errors.Syntax at) is fault here some = absurd (no_syntax bytes fault here at is.here)
  fault_alone (errors.TooDeep at) is fault here some = absurd (not_deep bytes fault here at is.here)
  fault_alone errors.Memory is fault here some = absurd (some refl)

  pub placed : (result : Result Program ReadError) → IfOk result (λ p. IsRead bytes (plain_program p)) → IfOk result (λ p. IsWellPlaced (plain_program p))
  placed (Ok p) is = read_is_placed bytes (plain_program p) is.reads
  placed (Err e) is = tt

  pub only_read : (result : Result Program ReadError) → IfOk result (λ p. IsRead bytes (plain_program p)) → IfErr result (λ e. IsRefusedFor bytes e) → (p : PProgram) → Reads bytes p → MatchResult result (λ q. plain_program q ≡ p) (λ e. e ≡ errors.Memory)
  only_read (Ok q) is refused p read = sym (is.no_other p read)
  only_read (Err e) is refused p read = not_read e refused p read

  pub only_syntax : (result : Result Program ReadError) → IfOk result (λ p. IsRead bytes (plain_program p)) → IfErr result (λ e. IsRefusedFor bytes e) → (at : ℕ) → SyntaxAt bytes at → MatchResult result (λ q. ⊥) (λ e. e ≢ errors.Memory → e ≡ errors.Syntax at)
  only_syntax (Ok q) is refused at here = is.no_syntax at here
  only_syntax (Err e) is refused at here = syntax_alone e refused at here

  pub only_deep : (result : Result Program ReadError) → IfOk result (λ p. IsRead bytes (plain_program p)) → IfErr result (λ e. IsRefusedFor bytes e) → (at : ℕ) → TooDeepAt bytes at → MatchResult result (λ q. ⊥) (λ e. e ≢ errors.Memory → e ≡ errors.TooDeep at)
  only_deep (Ok q) is refused at here = is.not_deep at here
  only_deep (Err e) is refused at here = deep_alone e refused at here

  pub only_fault : (result : Result Program ReadError) → IfOk result (λ p. IsRead bytes (plain_program p)) → IfErr result (λ e. IsRefusedFor bytes e) → (fault : LexError) → HasFirstFault bytes fault → MatchResult result (λ q. ⊥) (λ e. e ≢ errors.Memory → e ≡ errors.Lex fault)
  only_fault (Ok q) is refused fault here = unread bytes fault here (plain_program q) is.reads
  only_fault (Err e) is refused fault here = fault_alone e refused fault here
