-- The faults of a reader of whole texts are those that the definitions of this crate name.
use Rattle.std.proofs.Common.{◌≡◌, ℕ, List, ◌∷◌, ◌++◌, refl, subst}
use Rattle.ada_expr_parser.specs.readers.Exactness.{IsSyntax, IsTooDeep}
use Rattle.ada_expr_parser.specs.declared.items.Item.{Item}
use Rattle.ada_phrase_parser.specs.Spelling.{Source}
use Rattle.ada_parser.specs.Reads.{deepest, WholeTexts, HasItems, HasItemAt, SyntaxAt, TooDeepAt}

item_at : (bytes : List ℕ) (source : Source) (front : List Item) (x : Item) (items rest : List Item) → HasItems bytes source items → items ≡ front ++ (x ∷ rest) → HasItemAt bytes x.span.start source front x
item_at bytes source front x items rest h e = record { rest = rest; are_items = subst (HasItems bytes source) e h; place_is = refl }

pub syntax_at : (bytes : List ℕ) (source : Source) (items : List Item) (x : Item) (rest : List Item) → HasItems bytes source items → IsSyntax (WholeTexts source) deepest items x rest → SyntaxAt bytes x.span.start
syntax_at bytes source items x rest h f = record {
  source = source;
  front = f.front;
  x = x;
  stands = item_at bytes source f.front x items rest h f.tokens;
  before = f.before;
  never = λ b. f.never b.0 b.1;
}

pub too_deep_at : (bytes : List ℕ) (source : Source) (items : List Item) (x : Item) (rest : List Item) → HasItems bytes source items → IsTooDeep (WholeTexts source) deepest items x rest → TooDeepAt bytes x.span.start
too_deep_at bytes source items x rest h f = record {
  source = source;
  front = f.front;
  x = x;
  stands = item_at bytes source f.front x items rest h f.tokens;
  before = f.before;
  not_here = f.not_here;
  deeper = f.deeper;
}
