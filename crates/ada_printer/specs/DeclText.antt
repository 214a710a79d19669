-- The text of declarations (this project's layout): each is one line; a task with its items, and a body, are several lines with what they enclose one level deeper.
use Rattle.std.specs.Prelude.{ℕ, ◌+◌, nat_le, Bool, true, false, List, [], ◌∷◌, Option, Some, None, codes, take, drop}
use Rattle.std.specs.List.{prefix_len}
use Rattle.ada_tree.specs.declared.naming.Word.{Word}
use Rattle.ada_tree.specs.PlainExpr.{PExpr, PDrange}
use Rattle.ada_tree.specs.PlainStmt.{PBody}
use Rattle.ada_tree.specs.PlainDecl.{PShape, OPlain, OArray, PInit, IOne, IList, IOthers, PPriority, PEntry, PTask, PDecl, DNumber, DObject, DEnumeration, DArray, DSubtype, DException, DIntIo, DPragma, DTask, DTaskBody, PDecls, no_decl, decl_then}
use Rattle.ded_io.specs.Written.{◌⧺◌, each_text}
use Rattle.ada_printer.specs.Layout.{deeper, indent, word_text, words_text}
use Rattle.ada_printer.specs.ExprText.{expr_text, exprs_text, subind_text, drange_text, array_text}
use Rattle.ada_printer.specs.StmtText.{formals_text, body_text}

-- `constant ` in the declaration of a constant, nothing in that of a variable (3.2.1)
abbrev pub constant_text : Bool → List ℕ
constant_text true = codes "constant "
constant_text false = []

-- what a task's declaration begins with
abbrev pub task_word : Bool → List ℕ
task_word true = codes "task type "
task_word false = codes "task "

-- how many of a task's pragmas, from the front on, stand behind at most so many entries
abbrev pub standing : ℕ → List PPriority → ℕ
standing before ps = prefix_len (λ p. nat_le p.place before) ps

module _ (names : List (List ℕ)) where
  -- what an object is declared as: a subtype indication, or an array type of its own (3.2)
  abbrev pub shape_text : PShape → List ℕ
  shape_text (OPlain x) = subind_text names x
  shape_text (OArray range part) = array_text names range part

  -- an initial value: an expression, a list of components, or one value for all (3.2.1, 4.3.2)
  abbrev pub init_text : PInit → List ℕ
  init_text (IOne e) = expr_text names e
  init_text (IList es s) = exprs_text names es
  init_text (IOthers e s) = codes "(others => " ⧺ (expr_text names e ⧺ codes ")")

  -- an initial value, where there is one
  abbrev pub value_text : Option PInit → List ℕ
  value_text None = []
  value_text (Some x) = codes " := " ⧺ init_text x

  -- `pragma PRIORITY(5);`, behind its indentation
  abbrev pub pragma_text : PExpr → List ℕ
  pragma_text e = codes "pragma PRIORITY(" ⧺ (expr_text names e ⧺ codes ");\n")

  -- the line of a pragma of a task
  abbrev pub priority_text : ℕ → PPriority → List ℕ
  priority_text level p = indent level ⧺ pragma_text p.value

  -- the range of a family, in parentheses
  abbrev pub family_text : Option PDrange → List ℕ
  family_text None = []
  family_text (Some range) = codes "(" ⧺ (drange_text names range ⧺ codes ")")

  -- the line of an entry
  abbrev pub entry_text : ℕ → PEntry → List ℕ
  entry_text level x = indent level ⧺ (codes "entry " ⧺ (word_text names x.name ⧺ (family_text x.family ⧺ (formals_text names x.formals ⧺ codes ";\n"))))

  -- the lines of a task's pragmas
  abbrev pub priorities_text : ℕ → List PPriority → List ℕ
  priorities_text level ps = each_text (priority_text level) ps

  -- the entries of a task from the one behind `before` others on, each behind the pragmas that stand before it; the other pragmas come last
  abbrev pub items_text : ℕ → ℕ → List PEntry → List PPriority → List ℕ
  items_text level before [] ps = priorities_text level ps
  items_text level before (x ∷ xs) ps =
      priorities_text level (take (standing before ps) ps)
      ⧺ (entry_text level x ⧺ items_text level (before + 1) xs (drop (standing before ps) ps))

  -- a task's declaration behind its word `task`, with its name once or twice
  abbrev pub task_rest : ℕ → PTask → List PEntry → List PPriority → List ℕ
  task_rest level x [] [] = codes ";\n"
  task_rest level x es ps = codes " is\n" ⧺ (items_text (deeper level) 0 es ps ⧺ (indent level ⧺ (codes "end " ⧺ (word_text names x.name ⧺ codes ";\n"))))

  -- a task or a task type behind its indentation; one without entries and pragmas is one line
  abbrev pub task_text : ℕ → PTask → List ℕ
  task_text level x = task_word x.of_kind ⧺ (word_text names x.name ⧺ task_rest level x x.entries x.priorities)

  -- the end of a unit with this name: its body, and its last line
  abbrev pub unit_text : ℕ → PBody → Word → List ℕ
  unit_text level b w = indent level ⧺ (body_text names level b ⧺ (indent level ⧺ (codes "end " ⧺ (word_text names w ⧺ codes ";\n"))))

  abbrev mutual
    -- a declaration behind the indentation of its first line
    pub decl_form_text : ℕ → PDecl → List ℕ
    decl_form_text level (DNumber w e s) = word_text names w ⧺ (codes " : constant := " ⧺ (expr_text names e ⧺ codes ";\n"))
    decl_form_text level (DObject ws c x i s) = words_text names ws ⧺ (codes " : " ⧺ (constant_text c ⧺ (shape_text x ⧺ (value_text i ⧺ codes ";\n"))))
    decl_form_text level (DEnumeration w ws s) = codes "type " ⧺ (word_text names w ⧺ (codes " is (" ⧺ (words_text names ws ⧺ codes ");\n")))
    decl_form_text level (DArray w range part s) = codes "type " ⧺ (word_text names w ⧺ (codes " is " ⧺ (array_text names range part ⧺ codes ";\n")))
    decl_form_text level (DSubtype w x s) = codes "subtype " ⧺ (word_text names w ⧺ (codes " is " ⧺ (subind_text names x ⧺ codes ";\n")))
    decl_form_text level (DException ws s) = words_text names ws ⧺ codes " : exception;\n"
    decl_form_text level (DIntIo w s) = codes "package " ⧺ (word_text names w ⧺ (codes " is new INTEGER_IO(INTEGER);\n" ⧺ (indent level ⧺ (codes "use " ⧺ (word_text names w ⧺ codes ";\n")))))
    decl_form_text level (DPragma e s) = pragma_text e
    decl_form_text level (DTask x s) = task_text level x
    decl_form_text level (DTaskBody w ds b s) = codes "task body " ⧺ (word_text names w ⧺ (codes " is\n" ⧺ (decls_text (deeper level) ds ⧺ unit_text level b w)))

    -- declarations, one behind the other
    pub decls_text : ℕ → PDecls → List ℕ
    decls_text level no_decl = []
    decls_text level (decl_then x k) = (indent level ⧺ decl_form_text level x) ⧺ decls_text level k

  -- a declaration
  abbrev pub decl_text : ℕ → PDecl → List ℕ
  decl_text level x = indent level ⧺ decl_form_text level x
