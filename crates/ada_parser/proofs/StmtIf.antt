-- The laws of if and case statements.
use Rattle.std.proofs.Common.{◌≡◌, ℕ, suc, List, [], ◌∷◌, ◌++◌, Option, Some, None, refl, sym, ap, ◌∙◌, subst}
use Rattle.std.proofs.lemmas.List.{append_assoc}
use Rattle.ada_tree.specs.declared.naming.Span.{Span}
use Rattle.ada_tree.specs.declared.expressions.UnaryOp.{UnaryOp}
use Rattle.ada_tree.specs.declared.expressions.UnaryOp.TheVariants as unary
use Rattle.ada_tree.specs.PlainExpr.{PExpr}
use Rattle.ada_tree.specs.PlainStmt.{PChoice, PStmt, SIf, SCase, PStmts, PMaybe, absent, present, PArm, arm, PArms, no_arm, arm_then, arms_of, PCaseArm, case_arm, PCaseArms, no_case_arm, case_arm_then, case_arms_of}
use Rattle.ada_lexer.specs.declared.symbols.Symbol.{Symbol}
use Rattle.ada_lexer.specs.declared.symbols.Symbol.TheVariants as key
use Rattle.ada_expr_parser.specs.declared.items.Item.{Item}
use Rattle.ada_expr_parser.specs.declared.levels.Level.TheVariants.{Logical}
use Rattle.ada_expr_parser.specs.Tests.{same, symbol}
use Rattle.ada_expr_parser.specs.Grammar.{symbol_item, prefix_symbol, Spells, IsChoiceOf}
use Rattle.ada_expr_parser.specs.Trees.{from_to}
use Rattle.ada_phrase_parser.specs.Spelling.{Source, Spelling, Nothing, ◌▷◌, Key, Behind, Separated}
use Rattle.ada_phrase_parser.specs.Phrases.{Expression, Choice}
use Rattle.ada_stmt_parser.specs.Statements.{Stmts, ElsePart, OthersPart, IsArm, IsArms, MoreArms, IsCaseArm, IsCaseArms}
use Rattle.ada_phrase_parser.specs.Reading.{closed}
use Rattle.ada_phrase_parser.specs.Reading as reading
use Rattle.ada_stmt_parser.specs.inner.ReadingStatements.{Readers, Whens, if_arm, if_rest, case_part, case_rest}
use Rattle.ada_compound_parts.specs.inner.ReadingParts.{maybe}
use Rattle.ada_expr_parser.specs.readers.Grammars.{Texts, Starts, first_of}
use Rattle.ada_expr_parser.specs.readers.Lawful.{Lawful, Anything, IsPassed}
use Rattle.ada_expr_parser.proofs.readers.Fitting.{law_stops, first_append}
use Rattle.ada_parser.specs.expression_laws.Stopping.{Ends, EndsChoice}
use Rattle.ada_parser.proofs.expression_laws.Primaries.{no_place}
use Rattle.ada_parser.proofs.expression_laws.Calling.{law_choice}
use Rattle.ada_parser.proofs.expression_laws.Chains.{spells_first}
use Rattle.ada_parser.proofs.KitPieces.{KeyAt, Closing, closing_key, closing_then, placed_key, key_placed, key_then, Same, same_self, same_through, same_then, same_behind, same_grouped, same_begun, after_key}
use Rattle.ada_parser.proofs.KitReading.{Made, Both, made_fit, made_bind, made_key, made_pure, law_key, law_closed, law_separated, starts_key, starts_both}
use Rattle.ada_parser.proofs.KitDeeper.{Expressions, law_expression}
use Rattle.ada_parser.proofs.KitWhens.{WhenPart, LastText, PartTexts, WhensTexts, law_whens}
use Rattle.ada_parser.proofs.StmtLevels.{EndsStmts, EndsElse, EndsHandlers, StmtsTexts, LevelLaws, law_stmts, law_else, else_starts, Has, has_then, has_nothing, has_key, has_at, zero_is, has_zero, nulls, has_nulls, when_stmts, ArrowStmts}
use Rattle.ada_parser.proofs.StmtSimple.{LedBelow}

-- which items may stand behind what
then_ends : (at : Span) → Ends Logical (symbol_item key.Then at)
unfolding same
then_ends at = (((((refl, refl), refl), refl), refl), refl)

is_ends : (at : Span) → Ends Logical (symbol_item key.Is at)
unfolding same
is_ends at = (((((refl, refl), refl), refl), refl), refl)

abbrev pub EndShut : Symbol → ℕ → Span → Spelling
EndShut s e close = Key key.End ▷ Key s ▷ KeyAt key.Semicolon close

-- `end if ;` and its kin, behind what stands in the statement
pub end_closing : (Q : Spelling) (s : Symbol) → Closing (λ close. Q ▷ EndShut s 0 close) (Q ▷ Key key.End ▷ Key s ▷ Key key.Semicolon)
end_closing Q s = closing_then Q (closing_then (Key key.End) (closing_then (Key s) (closing_key key.Semicolon)))

pub has_end : (s : Symbol) (e : ℕ) → Has (EndShut s e no_place)
has_end s e = has_then (has_key key.End) (has_then (has_key s) (has_at key.Semicolon no_place))

pub law_end : {A : Type 0} (d : ℕ) (s : Symbol) (tree : Span → A) (S : Item → Type 0) → Lawful d (reading.key_then key.End (reading.key_then s (closed tree))) (reading.key_then key.End (reading.key_then s (closed tree))) (Made tree (EndShut s)) S
law_end d s tree S = made_key key.End tree (λ e close. Key s ▷ KeyAt key.Semicolon close) (made_key s tree (λ e close. KeyAt key.Semicolon close) (law_closed d tree S))

-- ---- if statements

-- what ends an arm, and what ends the arms and an else part
abbrev EndsArms : Item → Type 0
EndsArms x = EndsStmts x × (symbol key.Elsif x ≡ None)

abbrev EndsIf : Item → Type 0
EndsIf x = EndsElse x × (symbol key.Elsif x ≡ None)

elsif_ends : (at : Span) → EndsStmts (symbol_item key.Elsif at)
unfolding same
elsif_ends at = refl

else_arms : (at : Span) → EndsArms (symbol_item key.Else at)
unfolding same
else_arms at = (refl, refl)

end_ends : (at : Span) → EndsIf (symbol_item key.End at)
unfolding same
end_ends at = ((refl, refl), refl)

arm_list : PArms → List PArm
arm_list no_arm = []
arm_list (arm_then x k) = x ∷ arm_list k

arms_same : (k : PArms) → k ≡ arms_of (arm_list k)
unfolding arm_list
arms_same no_arm = refl
arms_same (arm_then x k) = ap (λ l. arm_then x l) (arms_same k)

abbrev pub IsIf : PStmt → Type 0
IsIf (SIf arms o s) = Unit {0}
IsIf x = ⊥

module _ (source : Source) where
  abbrev ArmTexts : Texts Item PArm
  ArmTexts d x text = IsArm source d x text

  abbrev ArmSpelled : PExpr → ℕ → PStmts → Spelling
  ArmSpelled test e l = Key key.Then ▷ Stmts source e l

  arm_is : (e : ℕ) (x : PArm) (text : List Item) → IsArm source e x text → Made (λ v. arm v.0 v.1) (Both Expressions ArmSpelled) e x text
  arm_is e (arm test l) text is = ((test, l), refl, is)

  law_if_arm : (d : ℕ) {r r' : Readers} → LevelLaws source d r r' → Lawful d (if_arm d r) (if_arm (suc d) r') ArmTexts EndsStmts
  law_if_arm d laws = made_fit (λ v. arm v.0 v.1) (Both Expressions ArmSpelled) (λ e v text is. is) arm_is
      (made_bind (λ test l. arm test l) ArmSpelled (law_expression d)
      (λ test. made_key key.Then (λ l. arm test l) (StmtsTexts source) (made_pure (λ l. arm test l) (law_stmts source laws)))
      (λ test. starts_key key.Then (λ l. arm test l) (StmtsTexts source) then_ends))

  more_arms : (e : ℕ) (list : List PArm) → Same (Behind (Key key.Elsif) (ArmTexts e) list) (MoreArms source e (arms_of list))
  more_arms e [] = same_self Nothing
  more_arms e (x ∷ more) = same_behind (Key key.Elsif) (same_behind (IsArm source e x) (more_arms e more))

  arms_are : (e : ℕ) (list : List PArm) → Same (Separated (Key key.Elsif) (ArmTexts e) list) (IsArms source e (arms_of list))
  arms_are e [] = same_self (λ text. ⊥)
  arms_are e (x ∷ more) = same_behind (IsArm source e x) (more_arms e more)

  abbrev IfBehind : List PArm → ℕ → PMaybe × Span → Spelling
  IfBehind arms e v = ElsePart source e v.0 ▷ EndShut key.If e v.1

  abbrev if_tree : Span → List PArm → PMaybe × Span → PStmt
  if_tree lead arms v = SIf (arms_of arms) v.0 (from_to lead v.1)

  abbrev IfSpelled : ℕ → List PArm × (PMaybe × Span) → Spelling
  IfSpelled = Both (λ e arms. Separated (Key key.Elsif) (ArmTexts e) arms) IfBehind

  if_same : (e : ℕ) (arms : List PArm) (o : PMaybe) (close : Span) → Same (IfSpelled e (arms, (o, close))) ((IsArms source e (arms_of arms) ▷ ElsePart source e o) ▷ EndShut key.If e close)
  if_same e arms o close = same_through (same_then (arms_are e arms) (same_self (IfBehind arms e (o, close)))) (same_grouped (IsArms source e (arms_of arms)) (ElsePart source e o) (EndShut key.If e close))

  is_if : (lead : Span) (e : ℕ) (v : List PArm × (PMaybe × Span)) (text : List Item) → IfSpelled e v text → LedBelow source IsIf key.If lead e (if_tree lead v.0 v.1) text
  is_if lead e (arms, (o, close)) text is = (tt, placed_key key.If (end_closing (IsArms source e (arms_of arms) ▷ ElsePart source e o) key.If) lead close text ((if_same e arms o close).to text is))

  if_is : (lead : Span) (e : ℕ) (x : PStmt) (text : List Item) → LedBelow source IsIf key.If lead e x text → Made (λ v. if_tree lead v.0 v.1) IfSpelled e x text
  if_is lead e (SIf arms o s) text (kind, is) =
      let (close, place, rest) = key_placed key.If (end_closing (IsArms source e arms ▷ ElsePart source e o) key.If) s lead text is in (
        (arm_list arms, (o, close)),
        ap (SIf arms o) place ∙ ap (λ k. SIf k o (from_to lead close)) (arms_same arms),
        (if_same e (arm_list arms) o close).back text (subst (λ k. ((IsArms source e k ▷ ElsePart source e o) ▷ EndShut key.If e close) text) (arms_same arms) rest),
      )
  if_is lead e x text (kind, is) = absurd kind

  pub law_if : (d : ℕ) {r r' : Readers} (lead : Span) → LevelLaws source d r r' → Lawful d (if_rest d r lead) (if_rest (suc d) r' lead) (LedBelow source IsIf key.If lead) Anything
  law_if d lead laws = made_fit (λ v. if_tree lead v.0 v.1) IfSpelled (is_if lead) (if_is lead)
      (made_bind {R = EndsArms} (if_tree lead) IfBehind (law_separated key.Elsif (law_if_arm d laws) elsif_ends (λ x stop. stop.0) (λ x stop. stop.1))
      (λ arms. made_bind {R = EndsElse} (λ o close. if_tree lead arms (o, close)) (λ o. EndShut key.If) (law_else source laws)
      (λ o. law_end d key.If (λ close. if_tree lead arms (o, close)) Anything)
      (λ o. starts_key key.End (λ close. if_tree lead arms (o, close)) (λ e close. Key key.If ▷ KeyAt key.Semicolon close) (λ at. (end_ends at).0)))
      (λ arms. starts_both {T = EndsIf} (λ o close. if_tree lead arms (o, close)) (λ o. EndShut key.If) (else_starts source else_arms (λ x stop. (stop.0.0, stop.1)))
      (λ o. starts_key key.End (λ close. if_tree lead arms (o, close)) (λ e close. Key key.If ▷ KeyAt key.Semicolon close) end_ends)))

  -- `if 0 then null ; end if ;`
  pub some_if : (lead : Span) → (e : ℕ) × (x : PStmt) × (f : List Item) × LedBelow source IsIf key.If lead e x f
  some_if lead =
      let list : List PArm = arm zero_is nulls ∷ [] in
      let (text, is) : Has (IfSpelled 0 (list, (absent, no_place))) =
      has_then (has_then (has_then (has_zero 0) (has_then (has_key key.Then) (has_nulls source 0))) has_nothing) (has_then has_nothing (has_end key.If 0)) in
      (0, if_tree lead list (absent, no_place), text, is_if lead 0 (list, (absent, no_place)) text is)

-- ---- case statements

bar_ends : (at : Span) → EndsChoice (symbol_item key.Bar at)
unfolding same
bar_ends at = ((((((refl, refl), refl), refl), refl), refl), refl)

abbrev EndsChoices : Item → Type 0
EndsChoices x = EndsChoice x × (symbol key.Bar x ≡ None)

arrow_ends : (at : Span) → EndsChoices (symbol_item key.Arrow at)
unfolding same
arrow_ends at = (((((((refl, refl), refl), refl), refl), refl), refl), refl)

end_whens : (at : Span) → EndsHandlers (symbol_item key.End at)
unfolding same
end_whens at = (refl, refl)

-- a choice does not begin with `others`
prefix_no_others : (op : UnaryOp) (s : Span) → symbol key.Others (symbol_item (prefix_symbol op) s) ≡ None
unfolding same
prefix_no_others unary.Plus s = refl
prefix_no_others unary.Minus s = refl
prefix_no_others unary.Abs s = refl
prefix_no_others unary.Not s = refl

paren_no_others : (s : Span) → symbol key.Others (symbol_item key.LeftParen s) ≡ None
unfolding same
paren_no_others s = refl

expr_no_others : (e : PExpr) (text : List Item) (x : Item) → Spells e text → symbol key.Others (first_of x text) ≡ None
expr_no_others e text x is = spells_first (λ k. symbol key.Others k ≡ None) (λ w. refl) (λ n s. refl) paren_no_others prefix_no_others e text x is

choice_no_others : (d : ℕ) (first : PExpr) (last : Option PExpr) (text : List Item) (x : Item) → IsChoiceOf d first last text → symbol key.Others (first_of x text) ≡ None
choice_no_others d first None text x is = expr_no_others first text x is.spells
choice_no_others d first (Some last) text x is =
    rw is.text_is (rw (first_append x is.front (symbol_item key.DotDot is.at ∷ is.back)) (expr_no_others first is.front (symbol_item key.DotDot is.at) is.first.spells))

case_list : PCaseArms → List PCaseArm
case_list no_case_arm = []
case_list (case_arm_then x k) = x ∷ case_list k

cases_same : (k : PCaseArms) → k ≡ case_arms_of (case_list k)
unfolding case_list
cases_same no_case_arm = refl
cases_same (case_arm_then x k) = ap (λ l. case_arm_then x l) (cases_same k)

as_option : PMaybe → Option PStmts
as_option absent = None
as_option (present l) = Some l

maybe_same : (o : PMaybe) → o ≡ maybe (as_option o)
unfolding as_option
maybe_same absent = refl
maybe_same (present l) = refl

abbrev pub IsCase : PStmt → Type 0
IsCase (SCase e arms o s) = Unit {0}
IsCase x = ⊥

abbrev Choices : Texts Item (List PChoice)
Choices d list = Separated (Key key.Bar) (Choice d) list

module _ (source : Source) where
  abbrev CasePart : Span → Texts Item PCaseArm
  CasePart lead d (case_arm choices l) text = (Choices d choices ▷ ArrowStmts source d l) text

  abbrev OthersRest : Span → Texts Item PStmts
  OthersRest lead d l text = ArrowStmts source d l text

  part_is : (e : ℕ) (lead : Span) (x : PCaseArm) (text : List Item) → CasePart lead e x text → Made (λ v. case_arm v.0 v.1) (Both Choices (λ choices. ArrowStmts source)) e x text
  part_is e lead (case_arm choices l) text is = ((choices, l), refl, is)

  law_case_part : (d : ℕ) (lead : Span) {r r' : Readers} → LevelLaws source d r r' → Lawful d (case_part d r lead) (case_part (suc d) r' lead) (CasePart lead) EndsStmts
  law_case_part d lead laws = made_fit (λ v. case_arm v.0 v.1) (Both Choices (λ choices. ArrowStmts source)) (λ e v text is. is) (λ e x text is. part_is e lead x text is)
      (made_bind {R = EndsChoices} (λ choices l. case_arm choices l) (λ choices. ArrowStmts source) (law_separated key.Bar (law_choice d) bar_ends (λ x stop. stop.0) (λ x stop. stop.1))
      (λ choices. made_key key.Arrow (λ l. case_arm choices l) (StmtsTexts source) (made_pure (λ l. case_arm choices l) (law_stmts source laws)))
      (λ choices. starts_key key.Arrow (λ l. case_arm choices l) (StmtsTexts source) arrow_ends))

  part_starts : (d : ℕ) (lead : Span) → Starts d (CasePart lead) EndsStmts (IsPassed (symbol key.Others))
  part_starts d lead = record { begins_with = λ x text k is stop. starts x text k is } where
    starts : (x : PCaseArm) (text : List Item) (k : Item) → CasePart lead d x text → symbol key.Others (first_of k text) ≡ None
    starts (case_arm [] l) text k (front, back, from, never, rest) = absurd never
    starts (case_arm (c ∷ more) l) text k (front, back, from, (f, g, split, is, other), rest) =
        rw (from ∙ ap (λ l. l ++ back) split ∙ append_assoc f g back) (rw (first_append k f (g ++ back)) (choice_no_others d c.first c.last f (first_of k (g ++ back)) is))

  case_arm_same : (e : ℕ) (x : PCaseArm) → Same (WhenPart CasePart e x) (IsCaseArm source e x)
  case_arm_same e (case_arm choices l) = same_through
      (record {
        to = λ text (lead, back, from, is). subst (Key key.When ▷ (Choices e choices ▷ ArrowStmts source e l)) (sym from) (key_then key.When (Choices e choices ▷ ArrowStmts source e l) lead back is);
        back = λ text is. let (lead, back, from, rest) = after_key key.When (Choices e choices ▷ ArrowStmts source e l) text is in (lead, back, from, rest);
      })
      (same_through (same_behind (Key key.When) (same_grouped (Choices e choices) (Key key.Arrow) (Stmts source e l))) (same_grouped (Key key.When) (Choices e choices ▷ Key key.Arrow) (Stmts source e l)))

  -- `when others => stmts`
  last_same : (e : ℕ) (o : Option PStmts) → Same (LastText OthersRest e o) (OthersPart source e (maybe o))
  last_same e None = same_self Nothing
  last_same e (Some l) = same_through
      (record {
        to = λ text (lead, at, back, from, is). subst (Key key.When ▷ (Key key.Others ▷ ArrowStmts source e l)) (sym from)
            (key_then key.When (Key key.Others ▷ ArrowStmts source e l) lead (symbol_item key.Others at ∷ back) (key_then key.Others (ArrowStmts source e l) at back is));
        back = λ text is.
            let (lead, more, from, rest) = after_key key.When (Key key.Others ▷ ArrowStmts source e l) text is in
            let (at, back, split, last) = after_key key.Others (ArrowStmts source e l) more rest in
            (lead, at, back, from ∙ ap (λ l. symbol_item key.When lead ∷ l) split, last);
      })
      (same_through (same_behind (Key key.When) (same_grouped (Key key.Others) (Key key.Arrow) (Stmts source e l))) (same_grouped (Key key.When) (Key key.Others ▷ Key key.Arrow) (Stmts source e l)))

  parts_same : (e : ℕ) (list : List PCaseArm) (o : Option PStmts) → Same (PartTexts CasePart OthersRest e list o) (IsCaseArms source e (case_arms_of list) ▷ OthersPart source e (maybe o))
  parts_same e [] o = same_through (last_same e o) (same_begun (OthersPart source e (maybe o)))
  parts_same e (x ∷ more) o = same_through (same_then (case_arm_same e x) (parts_same e more o)) (same_grouped (IsCaseArm source e x) (IsCaseArms source e (case_arms_of more)) (OthersPart source e (maybe o)))

  abbrev Arms : Type 0
  Arms = Whens PCaseArm PStmts

  abbrev CaseWhens : Texts Item Arms
  CaseWhens = WhensTexts CasePart OthersRest

  abbrev CaseBehind : PExpr → ℕ → Arms × Span → Spelling
  CaseBehind selector e v = Key key.Is ▷ Both CaseWhens (λ x. EndShut key.Case) e v

  abbrev case_tree : Span → PExpr → Arms × Span → PStmt
  case_tree lead selector v = SCase selector (case_arms_of v.0.parts) (maybe v.0.others) (from_to lead v.1)

  abbrev CaseSpelled : ℕ → PExpr × (Arms × Span) → Spelling
  CaseSpelled = Both Expressions CaseBehind

  abbrev CaseInside : ℕ → PExpr → PCaseArms → PMaybe → Spelling
  CaseInside e selector arms o = Expression e selector ▷ Key key.Is ▷ IsCaseArms source e arms ▷ OthersPart source e o

  case_same : (e : ℕ) (selector : PExpr) (x : Arms) (close : Span) →
      Same (CaseSpelled e (selector, (x, close))) (CaseInside e selector (case_arms_of x.parts) (maybe x.others) ▷ EndShut key.Case e close)
  case_same e selector x close =
      let arms : Spelling = IsCaseArms source e (case_arms_of x.parts) ▷ OthersPart source e (maybe x.others) in
      same_through (same_behind (Expression e selector) (same_behind (Key key.Is) (same_then (parts_same e x.parts x.others) (same_self (EndShut key.Case e close)))))
      (same_through (same_behind (Expression e selector) (same_grouped (Key key.Is) arms (EndShut key.Case e close))) (same_grouped (Expression e selector) (Key key.Is ▷ arms) (EndShut key.Case e close)))

  is_case : (lead : Span) (e : ℕ) (v : PExpr × (Arms × Span)) (text : List Item) → CaseSpelled e v text → LedBelow source IsCase key.Case lead e (case_tree lead v.0 v.1) text
  is_case lead e (selector, (x, close)) text is =
      (tt, placed_key key.Case (end_closing (CaseInside e selector (case_arms_of x.parts) (maybe x.others)) key.Case) lead close text ((case_same e selector x close).to text is))

  case_is : (lead : Span) (e : ℕ) (x : PStmt) (text : List Item) → LedBelow source IsCase key.Case lead e x text → Made (λ v. case_tree lead v.0 v.1) CaseSpelled e x text
  case_is lead e (SCase selector arms o s) text (kind, is) =
      let (close, place, rest) = key_placed key.Case (end_closing (CaseInside e selector arms o) key.Case) s lead text is in
      let x : Arms = record { parts = case_list arms; others = as_option o } in (
        (selector, (x, close)),
        ap (SCase selector arms o) place ∙ ap (λ k. SCase selector k o (from_to lead close)) (cases_same arms) ∙ ap (λ k. SCase selector (case_arms_of (case_list arms)) k (from_to lead close)) (maybe_same o),
        (case_same e selector x close).back text (subst (λ k. (CaseInside e selector (case_arms_of (case_list arms)) k ▷ EndShut key.Case e close) text) (maybe_same o)
            (subst (λ k. (CaseInside e selector k o ▷ EndShut key.Case e close) text) (cases_same arms) rest)),
      )
  case_is lead e x text (kind, is) = absurd kind

  pub law_case : (d : ℕ) {r r' : Readers} (lead : Span) → LevelLaws source d r r' → Lawful d (case_rest d r lead) (case_rest (suc d) r' lead) (LedBelow source IsCase key.Case lead) Anything
  law_case d lead laws = made_fit (λ v. case_tree lead v.0 v.1) CaseSpelled (is_case lead) (case_is lead)
      (made_bind (case_tree lead) CaseBehind (law_expression d)
      (λ selector. made_key key.Is (λ v. case_tree lead selector v) (Both CaseWhens (λ x. EndShut key.Case))
      (made_bind {R = EndsHandlers} (λ x close. case_tree lead selector (x, close)) (λ x. EndShut key.Case)
      (law_whens (λ at. law_case_part d at laws) (λ at. law_key key.Arrow (law_stops (λ x stop. stop.0) (law_stmts source laws))) (part_starts d) when_stmts (λ x stop. stop.0) (λ x stop. stop.1))
      (λ x. law_end d key.Case (λ close. case_tree lead selector (x, close)) Anything)
      (λ x. starts_key key.End (λ close. case_tree lead selector (x, close)) (λ e close. Key key.Case ▷ KeyAt key.Semicolon close) end_whens)))
      (λ selector. starts_key key.Is (λ v. case_tree lead selector v) (Both CaseWhens (λ x. EndShut key.Case)) is_ends))

  -- `case 0 is end case ;`
  pub some_case : (lead : Span) → (e : ℕ) × (x : PStmt) × (f : List Item) × LedBelow source IsCase key.Case lead e x f
  some_case lead =
      let x : Arms = record { parts = []; others = None } in
      let (text, is) : Has (CaseSpelled 0 (zero_is, (x, no_place))) = has_then (has_zero 0) (has_then (has_key key.Is) (has_then has_nothing (has_end key.Case 0))) in
      (0, case_tree lead zero_is (x, no_place), text, is_case lead 0 (zero_is, (x, no_place)) text is)
