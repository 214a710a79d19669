-- What the answer for the items of a text says, as the code has them: from the tokens of the text, their items and its names.
use Rattle.std.proofs.Common.{◌≡◌, ℕ, true, false, true≢false, List, sym, ap, subst}
use Rattle.ada_expr_parser.specs.readers.Readers.{Answer, Found, Fault}
use Rattle.ada_lexer.specs.declared.kinds.Token.{Token}
use Rattle.ada_lexer.specs.declared.errors.LexError.{LexError}
use Rattle.ada_lexer.specs.Split.{Splits, HasFirstFault}
use Rattle.ada_lexer.proofs.Unique.{split-has_no_fault}
use Rattle.ada_tree.specs.PlainProgram.{PProgram}
use Rattle.ada_expr_parser.specs.declared.items.Item.{Item}
use Rattle.ada_expr_parser.specs.Items.{AreItems, names_after}
use Rattle.ada_expr_parser.specs.Gives.{FaultsAt}
use Rattle.ada_parser.specs.Units.{PUnit}
use Rattle.ada_parser.specs.Reads.{HasItems, Reads, SyntaxAt, TooDeepAt}
use Rattle.ada_parser.specs.inner.ReadingUnits as reading
use Rattle.ada_parser.specs.Laws.{HasOneText}
use Rattle.ada_parser.specs.Exactly.{program_of, IsRead, IsRefused, IsTooDeepAt, Says, ReadsExactly}
use Rattle.ada_parser.proofs.OneText.{names_one, items_are_one}
use Rattle.ada_parser.proofs.StmtLaws.{level_laws}
use Rattle.ada_parser.proofs.Whole.{reads_exactly}

pub has_one_text : HasOneText
has_one_text bytes s t xs ys one two = (names_one bytes s t xs ys one two, items_are_one bytes s t xs ys one two)

pub texts_exactly : ReadsExactly
texts_exactly = reads_exactly level_laws has_one_text

module _ (bytes : List ℕ) (tokens : List Token) (names : List (List ℕ)) (items : List Item) (splits : Splits bytes tokens) (items_are : AreItems bytes names tokens items) (names_are : names ≡ names_after bytes tokens) where
  pub has_items : HasItems bytes (record { bytes = bytes; names = names }) items
  has_items = record { tokens = tokens; splits = splits; source_is = ap (λ n. record { bytes = bytes; names = n }) names_are; items_are = items_are }

  abbrev answer : Answer Item PUnit
  answer = reading.text (record { bytes = bytes; names = names }) items

  says : Says bytes names answer
  says = texts_exactly bytes names items has_items

  -- what is found is the program
  pub read_found : (u : PUnit) (rest : List Item) → answer ≡ Found u rest → IsRead bytes (program_of names u)
  read_found u rest is = subst (Says bytes names) is says

  -- and each fault is what it says
  refused_at : (at : ℕ) (given : Answer Item PUnit) → Says bytes names given → FaultsAt false at given → IsRefused bytes at
  refused_at at (Found u rest) said never = absurd never
  refused_at at (Fault false rest) said (same, there) = subst (IsRefused bytes) there said
  refused_at at (Fault true rest) said (same, there) = absurd (true≢false same)

  pub read_refused : (at : ℕ) → FaultsAt false at answer → IsRefused bytes at
  read_refused at is = refused_at at answer says is

  deep_at : (at : ℕ) (given : Answer Item PUnit) → Says bytes names given → FaultsAt true at given → IsTooDeepAt bytes at
  deep_at at (Found u rest) said never = absurd never
  deep_at at (Fault false rest) said (same, there) = absurd (true≢false (sym same))
  deep_at at (Fault true rest) said (same, there) = subst (IsTooDeepAt bytes) there said

  pub read_deep : (at : ℕ) → FaultsAt true at answer → IsTooDeepAt bytes at
  read_deep at is = deep_at at answer says is

-- a text that does not fall into tokens is that of no program, and refused nowhere by the grammar
module _ (bytes : List ℕ) (fault : LexError) (has : HasFirstFault bytes fault) where
  pub unread : (p : PProgram) → Reads bytes p → ⊥
  unread p read = split-has_no_fault bytes read.are_items.tokens fault read.are_items.splits has

  pub no_syntax : (at : ℕ) → SyntaxAt bytes at → ⊥
  no_syntax at is = split-has_no_fault bytes is.stands.are_items.tokens fault is.stands.are_items.splits has

  pub not_deep : (at : ℕ) → TooDeepAt bytes at → ⊥
  not_deep at is = split-has_no_fault bytes is.stands.are_items.tokens fault is.stands.are_items.splits has
