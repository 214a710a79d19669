-- The text of a whole program (this project's layout): reserved words in lower case, names in upper case, and a line feed at each line's end.
use Rattle.std.specs.Prelude.{ℕ, Bool, true, false, List, [], codes}
use Rattle.ada_tree.specs.PlainProgram.{PProgram}
use Rattle.ded_io.specs.Written.{◌⧺◌}
use Rattle.ada_printer.specs.Layout.{word_text}
use Rattle.ada_printer.specs.DeclText.{decls_text, unit_text}

-- the two context clauses, a line each
abbrev pub context_text : Bool → List ℕ
context_text true = codes "with TEXT_IO;\n" ⧺ codes "use TEXT_IO;\n"
context_text false = []

-- The text of a program.
abbrev pub program_text : PProgram → List ℕ
program_text p =
    context_text p.text_io
    ⧺ (codes "procedure " ⧺ (word_text p.names p.name ⧺ (codes " is\n" ⧺ (decls_text p.names 1 p.decls ⧺ unit_text p.names 0 p.body p.name))))
