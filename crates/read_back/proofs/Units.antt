-- The text of a well placed program is a unit, at the places where its parts stand (6.3, 10.1).
use Rattle.std.proofs.Common.{◌≡◌, ℕ, ◌+◌, Bool, true, false, List, [], ◌∷◌, length, codes, refl, arith}
use Rattle.ada_tree.specs.PlainProgram.{PProgram}
use Rattle.ada_tree.specs.WellPlaced.{IsWellPlaced}
use Rattle.ada_tree.specs.Same.{SameWord, SameDecls, SameBody}
use Rattle.ada_lexer.specs.declared.symbols.Symbol.TheVariants as key
use Rattle.ada_phrase_parser.specs.Spelling.{Spelling, ◌▷◌}
use Rattle.ada_parser.specs.Units.{PUnit, Context, IsUnit}
use Rattle.ded_io.specs.Written.{◌⧺◌}
use Rattle.ada_printer.specs.Layout.{word_text}
use Rattle.ada_printer.specs.DeclText.{decls_text}
use Rattle.ada_printer.specs.ProgramText.{context_text, program_text}
use Rattle.read_back.proofs.Classes.{Class, Anything}
use Rattle.read_back.proofs.Told.{Setting, names_of, source_of, Told, Blank, Line, Sign, Fixed, told_as, told_same, told_any, told_nothing, told_then, told_bits, told_last}
use Rattle.read_back.proofs.NamesAndLiterals.{new_word, told_word}
use Rattle.read_back.proofs.Declarations.{bodies_same, read_unit_end, read_decls}

-- the unit is that of the program, but for places and ids
pub record IsUnitOf (p : PProgram) (names : List (List ℕ)) (y : PUnit) : Type 0 where
  pub text_io : p.text_io ≡ y.text_io
  pub name : SameWord p.names names p.name y.name
  pub decls : SameDecls p.names names p.decls y.decls
  pub body : SameBody p.names names p.body y.body

module _ (w : Setting) where
  told_context : {S : Type 0} {Q : Spelling} {a : Class} {at : ℕ} {u : List ℕ} (b : Bool) → Told w S Anything a Q (at + length (context_text b)) u → Told w S Anything a (Context b ▷ Q) at (context_text b ⧺ u)
  told_context true h =
      told_same w (told_any w (told_then w (told_as w (told_bits w (Sign key.With ∷ Blank ∷ Fixed (codes "TEXT_IO") ∷ Sign key.Semicolon ∷ Line ∷ []) (told_last w {a = Anything} (Sign key.Use ∷ Blank ∷ Fixed (codes "TEXT_IO") ∷ Sign key.Semicolon ∷ Line ∷ []) refl) refl) (λ items said s. (said, s))) h refl)) (λ s. s.1)
  told_context false h = told_same w (told_then w (told_nothing w {a = Anything}) h refl) (λ s. s.1)

  pub read_unit : (p : PProgram) → IsWellPlaced p → (y : PUnit) × Told w (IsUnitOf p (names_of w) y) Anything Anything (IsUnit (source_of w) 298 y) 0 (program_text p)
  read_unit p well =
      let start = (0 + length (context_text p.text_io)) + 10 in
      let place = (start + length (word_text p.names p.name)) + 4 in
      let decls = read_decls w p.names 298 1 p.decls place (omega arith) well.2 in
      let end = read_unit_end w p.names 299 0 p.body p.name start (place + length (decls_text p.names 1 p.decls)) (omega arith) well.3 well.0 in
      let within = told_as w decls.1 (λ items said same. ((bodies_same p.names (names_of w) p.decls decls.0 same well.1, said), same)) in
      let told = told_context p.text_io (told_any w (told_bits w (Sign key.Procedure ∷ Blank ∷ []) (told_then w (told_word w p.names p.name well.0) (told_bits w (Blank ∷ Sign key.Is ∷ Line ∷ []) (told_then w within end.1 refl) refl) refl) refl)) in (
        record { text_io = p.text_io; name = new_word w p.names start p.name; decls = decls.0; body = end.0 },
        told_same w told (λ same. record { text_io = refl; name = same.0; decls = same.1.0; body = same.1.1 }),
      )
