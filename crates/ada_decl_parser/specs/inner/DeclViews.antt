-- How names of declarations are seen plainly, and a tree with the place of what ends it.
use Rattle.std.specs.Prelude.{false, true, ℕ, List, [], ◌∷◌, Some, None}
use Rattle.ada_expr_parser.specs.readers.Readers.{Reader, refuse, bind, on}
use Rattle.ada_tree.specs.declared.naming.Span.{Span}
use Rattle.ada_tree.specs.declared.naming.Word.{Word}
use Rattle.ada_tree.specs.PlainDecl.{PDecl, DNumber, DObject, DException}
use Rattle.ada_lexer.specs.declared.symbols.Symbol.TheVariants as key
use Rattle.ada_expr_parser.specs.declared.items.Item.{Item}
use Rattle.ada_expr_parser.specs.Tests.{symbol}
use Rattle.ada_expr_parser.specs.Trees.{from_to}
use Rattle.ada_expr_parser.specs.Parts.{expression}
use Rattle.ada_phrase_parser.specs.Reading.{key_then, closed}
use Rattle.ada_decl_parser.specs.inner.ReadingDeclarations.{shape, init, number_or_constant}

-- a tree, and the place of what ends it
abbrev pub with_close : {A : Type 0} → A → Span → A × Span
with_close x close = (x, close)

-- what stands behind these names, by the first one and the others
abbrev pub with_names : (Word → List Word → Reader Item PDecl) → List Word → Reader Item PDecl
with_names next [] = refuse
with_names next (w ∷ more) = next w more

-- a variable of these names, which begins here
abbrev pub variable_of : ℕ → List Word → Span → Reader Item PDecl
variable_of d names lead =
    bind (shape d) (λ x.
    on (symbol key.Becomes) (λ at. bind (init d) (λ i. closed (λ close. DObject names false x (Some i) (from_to lead close))))
    (closed (λ close. DObject names false x None (from_to lead close))))

-- a constant of these names, which begins here
abbrev pub constant_of : ℕ → List Word → Span → Reader Item PDecl
constant_of d names lead =
    bind (shape d) (λ x. key_then key.Becomes (bind (init d) (λ i. closed (λ close. DObject names true x (Some i) (from_to lead close)))))

-- a number, or a constant of this name alone
abbrev pub number_of : ℕ → List Word → Word → Reader Item PDecl
number_of d names w =
    on (symbol key.Becomes) (λ at. bind (expression d) (λ e. closed (λ close. DNumber w e (from_to w.span close)))) (constant_of d names w.span)

-- an object of these names, which begins here
abbrev pub object_of : ℕ → List Word → Span → Reader Item PDecl
object_of d names lead = on (symbol key.Constant) (λ at. constant_of d names lead) (variable_of d names lead)

-- what these names may begin
abbrev pub named_of : ℕ → List Word → Span → Reader Item PDecl
named_of d names lead =
    on (symbol key.Exception) (λ at. closed (λ close. DException names (from_to lead close)))
    (on (symbol key.Constant) (λ at. with_names (number_or_constant d) names) (variable_of d names lead))
