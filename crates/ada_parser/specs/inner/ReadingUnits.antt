-- How a whole text is read. At a depth d, at most d levels may stand below the root of each expression in the unit's own declarations.
use Rattle.std.specs.Prelude.{ℕ, suc, Bool, true, false, codes}
use Rattle.ada_expr_parser.specs.readers.Readers.{Reader, bind, on, token}
use Rattle.ada_expr_parser.specs.readers.Exactness.{whole}
use Rattle.ada_lexer.specs.declared.symbols.Symbol.TheVariants as key
use Rattle.ada_expr_parser.specs.declared.items.Item.{Item}
use Rattle.ada_expr_parser.specs.Tests.{symbol, word}
use Rattle.ada_phrase_parser.specs.Spelling.{Source}
use Rattle.ada_parser.specs.Units.{PUnit}
use Rattle.ada_parser.specs.Reads.{deepest, is_end}
use Rattle.ada_phrase_parser.specs.Reading.{key_then, predefined_then}
use Rattle.ada_parser.specs.inner.ReadingDeclarativeParts.{decls, unit_end}

-- `procedure NAME is decls begin stmts [exception handlers] end [NAME] ;` (6.3)
abbrev pub procedure : Source → ℕ → Bool → Reader Item PUnit
procedure source d text_io =
    key_then key.Procedure (bind (token word) (λ w. key_then key.Is (bind (decls source d) (λ ds.
    unit_end source (suc d) w (λ b close. record { text_io = text_io; name = w; decls = ds; body = b })))))

-- behind `with`: `TEXT_IO ; use TEXT_IO ;` (8.4, 10.1.1)
abbrev pub context_rest : {A : Type 0} → Reader Item A → Reader Item A
context_rest next =
    predefined_then (codes "TEXT_IO") (key_then key.Semicolon (key_then key.Use (predefined_then (codes "TEXT_IO") (key_then key.Semicolon next))))

-- a unit (10.1)
abbrev pub unit : Source → ℕ → Reader Item PUnit
unit source d = on (symbol key.With) (λ at. context_rest (procedure source d true)) (procedure source d false)

-- a whole text: a unit before the end
abbrev pub text : Source → Reader Item PUnit
text source = whole is_end (unit source) deepest
