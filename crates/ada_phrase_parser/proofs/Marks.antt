-- The place of a symbol is that of its item.
use Rattle.std.proofs.Common.{◌≡◌, Bool, true, false, cond, Option, Some, None, is_some, refl}
use Rattle.ada_tree.specs.declared.naming.Span.{Span}
use Rattle.ada_lexer.specs.declared.symbols.Symbol.{Symbol}
use Rattle.ada_expr_parser.specs.declared.items.ItemKind.{ItemKind}
use Rattle.ada_expr_parser.specs.declared.items.ItemKind.TheVariants as item
use Rattle.ada_expr_parser.specs.Tests.{same, symbol_in}

placed_if : (b : Bool) (at : Span) → cond b (Some at) None ≡ cond (is_some (cond b (Some at) None)) (Some at) None
placed_if true at = refl
placed_if false at = refl

pub placed : (s : Symbol) (k : ItemKind) (at : Span) → symbol_in s k at ≡ cond (is_some (symbol_in s k at)) (Some at) None
placed s (item.Symbol t) at = placed_if (same t s) at
placed s (item.Name n) at = refl
placed s (item.Integer n) at = refl
placed s (item.Duration n) at = refl
placed s item.Text at = refl
placed s item.End at = refl

-- by the truth of a test
pub there : (o : Option Span) (b : Bool) (at : Span) → o ≡ cond b (Some at) None → b ≡ true → o ≡ Some at
there o true at is yes_is = is
there o false at is yes_is = cc

pub missing : (o : Option Span) (b : Bool) (at : Span) → o ≡ cond b (Some at) None → b ≡ false → o ≡ None
missing o true at is no_is = cc
missing o false at is no_is = is
