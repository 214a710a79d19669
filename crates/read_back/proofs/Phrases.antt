-- The texts of what is built of expressions and names alone: lists, ranges, variables, calls, formal parts, choices, loop heads.
use Rattle.std.proofs.Common.{◌≡◌, ℕ, zero, suc, ◌+◌, ◌≤◌, Bool, true, false, List, [], ◌∷◌, ◌++◌, length, codes, Option, None, Some, IfSome, All, refl, ap, ◌∙◌, sym, subst, arith, inr, append_assoc, append-nil}
use Rattle.std.proofs.lemmas.List.Elements.{recursion_from_All}
use Rattle.std.specs.List.{AllZip, AllByRecursion}
use Rattle.ada_tree.specs.declared.naming.Span.{Span}
use Rattle.ada_tree.specs.declared.naming.Word.{Word}
use Rattle.ada_tree.specs.declared.statements.ParMode.{ParMode}
use Rattle.ada_tree.specs.declared.statements.ParMode.TheVariants.{Take, Give, Both}
use Rattle.ada_tree.specs.PlainExpr.{PExpr, PBounds, PSubind, PDrange, RGiven, RMarked}
use Rattle.ada_tree.specs.PlainStmt.{PTarget, PCallee, PArgs, PCall, PFormal, PChoice, PScheme, LWhile, LFor, PHead}
use Rattle.ada_tree.specs.WellPlaced.{level, well_placed}
use Rattle.ada_tree.specs.Every.{EveryWord, EveryExpr, EveryBounds, EverySubind, EveryDrange, EveryTarget, EveryCallee, EveryExprs, EveryArgs, EveryCall, EveryNames, EveryFormal, EveryChoice, EveryScheme, EveryHead}
use Rattle.ada_tree.specs.Same.{SameOption, SameWord, SameExpr, SameBounds, SameSubind, SameDrange, SameTarget, SameCallee, SameArgs, SameCall, SameFormal, SameChoice, SameScheme, SameHead}
use Rattle.ada_tree.specs.Lexical.{IsDuration}
use Rattle.ada_lexer.specs.declared.symbols.Symbol.{Symbol}
use Rattle.ada_lexer.specs.declared.symbols.Symbol.TheVariants as key
use Rattle.ada_expr_parser.specs.declared.items.Item.{Item}
use Rattle.ada_expr_parser.specs.declared.levels.Level.TheVariants.{Simple}
use Rattle.ada_expr_parser.specs.Grammar.{symbol_item, word_item, Spells, IsExpr, IsBounds, IsRangeOf, IsSubind, IsEnclosed, IsTarget, AreMore, AreEnclosed, IsSecondList, AreArgs}
use Rattle.ada_expr_parser.specs.Trees.{levels}
use Rattle.ada_phrase_parser.specs.Spelling.{Spelling, Nothing, ◌▷◌, IfThere, Key, Named, Behind, Separated}
use Rattle.ada_phrase_parser.specs.Phrases.{Names, Expression, NestedExpr, Mode, IsFormal, Formals, Index, AcceptHead, Choice, WhenRaised, Reverse, Drange, IsScheme, LoopName, LoopNameAgain, DelayOf}
use Rattle.ada_stmt_parser.specs.Statements.{Target, Callee, Call}
use Rattle.ded_io.specs.Written.{◌⧺◌, each_text}
use Rattle.ada_printer.specs.Layout.{separated, word_text, words_text, later_word}
use Rattle.ada_printer.specs.ExprText.{expr_text, exprs_text, index_text, bounds_text, range_text, subind_text, drange_text}
use Rattle.ada_printer.specs.StmtText.{mode_text, reverse_text, delay_text, target_text, callee_text, second_text, args_text, call_text, formal_text, formals_text, head_text, choice_text, caught_text, label_text, scheme_text, when_text}
use Rattle.read_back.proofs.Classes.{Class, Anything, Plain, WordEnd, Stop, under}
use Rattle.read_back.proofs.Told.{Setting, names_of, Told, Blank, Line, Sign, told_as, told_same, told_opens, told_ends, told_any, told_nothing, told_then, told_text, told_bits, told_closed}
use Rattle.read_back.proofs.NamesAndLiterals.{IsOldName, new_word, told_word, told_duration}
use Rattle.read_back.proofs.Expressions.{read_expr, led, joined}

-- ---- items grouped otherwise

pub group : {P Q R : Spelling} {items : List Item} → (P ▷ Q ▷ R) items → ((P ▷ Q) ▷ R) items
group (one, more, is, p, (two, three, then, q, r)) =
    (one ++ two, three, is ∙ ap (λ l. one ++ l) then ∙ sym (append_assoc one two three), (one, two, refl, p, q), r)

pub under_first : {P Q R : Spelling} {items : List Item} → ((more : List Item) → Q more → R more) → (P ▷ Q) items → (P ▷ R) items
under_first f (one, more, is, p, q) = (one, more, is, p, f more q)

pub over_first : {P Q R : Spelling} {items : List Item} → ((front : List Item) → P front → Q front) → (P ▷ R) items → (Q ▷ R) items
over_first f (one, more, is, p, r) = (one, more, is, f one p, r)

pub group3 : {P Q R S : Spelling} {items : List Item} → (P ▷ Q ▷ R ▷ S) items → ((P ▷ Q ▷ R) ▷ S) items
group3 {P = P} {Q = Q} {R = R} {S = S} {items = items} (one, more, is, p, rest) = out (group rest)
  where
    out : ((Q ▷ R) ▷ S) more → ((P ▷ Q ▷ R) ▷ S) items
    out (two, last, then, qr, s) = (one ++ two, last, is ∙ ap (λ l. one ++ l) then ∙ sym (append_assoc one two last), (one, two, refl, p, qr), s)

pub group4 : {P Q R S T : Spelling} {items : List Item} → (P ▷ Q ▷ R ▷ S ▷ T) items → ((P ▷ Q ▷ R ▷ S) ▷ T) items
group4 {P = P} {Q = Q} {R = R} {S = S} {T = T} {items = items} (one, more, is, p, rest) = out (group3 rest)
  where
    out : ((Q ▷ R ▷ S) ▷ T) more → ((P ▷ Q ▷ R ▷ S) ▷ T) items
    out (two, last, then, qr, s) = (one ++ two, last, is ∙ ap (λ l. one ++ l) then ∙ sym (append_assoc one two last), (one, two, refl, p, qr), s)

pub drop_nothing : {P : Spelling} {items : List Item} → (P ▷ Nothing) items → P items
drop_nothing {P = P} (front, back, is, p, none) = subst P (sym (is ∙ ap (λ l. front ++ l) none ∙ append-nil front)) p

pub assoc_shut : (t u v : List ℕ) → t ⧺ (u ⧺ v) ≡ (t ⧺ u) ⧺ v
unfolding ◌⧺◌
assoc_shut t u v = sym (append_assoc t u v)

pub nil_shut : (t : List ℕ) → t ⧺ [] ≡ t
unfolding ◌⧺◌
nil_shut t = append-nil t

module _ (w : Setting) (n : List (List ℕ)) where
  -- a tree that is the same as a given one, told by a text at a place
  abbrev pub Found : {A : Type 0} → (A → Type 0) → Class → Class → (A → Spelling) → ℕ → List ℕ → Type 0
  Found {A} S o a P at text = (y : A) × Told w (S y) o a (P y) at text

  pub told_group : {S : Type 0} {o a : Class} {P : Spelling} {at : ℕ} (t u v : List ℕ) → Told w S o a P at (t ⧺ (u ⧺ v)) → Told w S o a P at ((t ⧺ u) ⧺ v)
  told_group t u v h = told_text w _ _ (assoc_shut t u v) h

  -- ---- lists with a mark between their members

  module _ {A : Type 0} (Same : A → A → Type 0) (Part : A → Spelling) (text : A → List ℕ) (Good : A → Type 0) (o a : Class) (read : (x : A) (at : ℕ) → Good x → Found (Same x) o a Part at (text x))
      (s : Symbol) (mark : List ℕ) (between : (S : Type 0) (Q : Spelling) (at : ℕ) (u : List ℕ) → Told w S o Stop Q (at + length mark) u → Told w S Stop Stop (Key s ▷ Q) at (mark ⧺ u)) (ends : under a Stop ≡ true) where
    read_behind : (xs : List A) (at : ℕ) → AllByRecursion Good xs → Found (AllZip Same xs) Stop Stop (Behind (Key s) Part) at (each_text (λ y. mark ⧺ text y) xs)
    read_behind [] at good = ([], told_nothing w)
    read_behind (x ∷ xs) at good =
        let y = read x (at + length mark) good.0 in
        let ys = read_behind xs ((at + length mark) + length (text x)) good.1 in
        (y.0 ∷ ys.0, told_group mark (text x) _ (between _ _ at _ (told_then w y.1 ys.1 ends)))

    pub read_separated : (x : A) (xs : List A) (at : ℕ) → AllByRecursion Good (x ∷ xs) → Found (AllZip Same (x ∷ xs)) o Stop (Separated (Key s) Part) at (separated mark text (x ∷ xs))
    read_separated x xs at good =
        let y = read x at good.0 in
        let ys = read_behind xs (at + length (text x)) good.1 in
        (y.0 ∷ ys.0, told_then w y.1 ys.1 ends)

  pub behind_comma : (S : Type 0) (Q : Spelling) (o : Class) (at : ℕ) (u : List ℕ) → Told w S o Stop Q (at + length (codes ", ")) u → Told w S Stop Stop (Key key.Comma ▷ Q) at (codes ", " ⧺ u)
  behind_comma S Q o at u h = told_bits w (Sign key.Comma ∷ Blank ∷ []) h refl

  pub behind_semicolon : (S : Type 0) (Q : Spelling) (o : Class) (at : ℕ) (u : List ℕ) → Told w S o Stop Q (at + length (codes "; ")) u → Told w S Stop Stop (Key key.Semicolon ▷ Q) at (codes "; " ⧺ u)
  behind_semicolon S Q o at u h = told_bits w (Sign key.Semicolon ∷ Blank ∷ []) h refl

  pub behind_ampersand : (S : Type 0) (Q : Spelling) (o : Class) (at : ℕ) (u : List ℕ) → Told w S o Stop Q (at + length (codes " & ")) u → Told w S Stop Stop (Key key.Ampersand ▷ Q) at (codes " & " ⧺ u)
  behind_ampersand S Q o at u h = told_bits w (Blank ∷ Sign key.Ampersand ∷ Blank ∷ []) h refl

  pub behind_bar : (S : Type 0) (Q : Spelling) (o : Class) (at : ℕ) (u : List ℕ) → Told w S o Stop Q (at + length (codes " | ")) u → Told w S Stop Stop (Key key.Bar ▷ Q) at (codes " | " ⧺ u)
  behind_bar S Q o at u h = told_bits w (Blank ∷ Sign key.Bar ∷ Blank ∷ []) h refl

  -- ---- names

  pub read_word : (v : Word) (at : ℕ) → IsOldName w n v.name → Found (SameWord n (names_of w) v) Plain WordEnd Named at (word_text n v)
  read_word v at known = (new_word w n at v, told_word w n v known)

  pub read_names : (ws : List Word) (at : ℕ) → EveryNames (well_placed n) ws → Found (AllZip (SameWord n (names_of w)) ws) Plain Stop Names at (words_text n ws)
  read_names [] at every = absurd (omega (arith, every.0))
  read_names (v ∷ ws) at every =
      read_separated (SameWord n (names_of w)) Named (word_text n) (λ x. IsOldName w n x.name) Plain WordEnd read_word key.Comma (codes ", ") (λ S Q. behind_comma S Q Plain) refl v ws at (recursion_from_All _ (v ∷ ws) every.1)

  -- a name that may be left out, behind a blank
  pub read_later : (v : Option Word) (at : ℕ) → IfSome v (EveryWord (well_placed n)) → Found (SameOption (SameWord n (names_of w)) v) Stop Stop (λ y. IfThere y Named) at (later_word n v)
  read_later None at every = (None, told_nothing w)
  read_later (Some v) at every = (Some (new_word w n (at + 1) v), told_ends w (told_bits w (Blank ∷ []) (told_word w n v every) refl) refl)

  -- ---- expressions

  pub is_expression : (k d : ℕ) (x : PExpr) (at : ℕ) → 300 ≤ k + d → EveryExpr (well_placed n) k x → Found (SameExpr n (names_of w) x) Anything Stop (Expression d) at (expr_text n x)
  is_expression k d x at deep every =
      let e = read_expr w n k x at every in
      (e.tree, told_any w (told_as w e.told (λ items spells same. (record { spells = spells; fits = omega arith; nested = omega (arith, e.low, deep) }, same))))

  pub is_operand : (k d : ℕ) (x : PExpr) (at : ℕ) → 300 ≤ k + d → EveryExpr (well_placed n) (k + 1) x → Found (SameExpr n (names_of w) x) Anything Stop (NestedExpr d) at (expr_text n x)
  is_operand k zero x at deep every =
      let e = read_expr w n (k + 1) x at every in absurd (omega (arith, e.low, deep))
  is_operand k (suc d) x at deep every = is_expression (k + 1) d x at (omega (arith, deep)) every

  -- an expression of a list in parentheses, one level deeper
  abbrev InList : ℕ → PExpr → Spelling
  InList d e items = Spells e items × (levels e + 1 ≤ d)

  in_list : (k d : ℕ) (x : PExpr) (at : ℕ) → 300 ≤ k + d → EveryExpr (well_placed n) (k + 1) x → Found (SameExpr n (names_of w) x) Anything Stop (InList d) at (expr_text n x)
  in_list k d x at deep every =
      let e = read_expr w n (k + 1) x at every in
      (e.tree, told_any w (told_as w e.told (λ items spells same. ((spells, omega (arith, e.low, deep)), same))))

  more_are : (d : ℕ) (es : List PExpr) (items : List Item) → Behind (Key key.Comma) (InList d) es items → AreMore d es items
  more_are d [] items said = said
  more_are d (e ∷ es) items (one, more, is, (at, comma), (front, back, then, (spells, low), rest)) =
      (at, front, back, spells, low, more_are d es back rest, led is comma then)

  enclosed : (d : ℕ) (e : PExpr) (es : List PExpr) (items : List Item) → (Key key.LeftParen ▷ Separated (Key key.Comma) (InList d) (e ∷ es) ▷ Key key.RightParen) items → AreEnclosed d (e ∷ es) items
  enclosed d e es items (one, more, is, (lead, first), (list, last, then, (front, back, split, (spells, low), rest), (close, closed))) =
      (lead, front, back, close, spells, low, more_are d es back rest, led is first (then ∙ ap (λ l. l ++ last) split ∙ append_assoc front back last ∙ ap (λ l. front ++ (back ++ l)) closed))

  -- expressions in parentheses, one at least
  pub read_exprs : (k d : ℕ) (es : List PExpr) (at : ℕ) → 300 ≤ k + d → EveryExprs (well_placed n) (k + 1) es → Found (AllZip (SameExpr n (names_of w)) es) Stop Stop (λ ys. AreEnclosed d ys) at (exprs_text n es)
  read_exprs k d [] at deep every = absurd (omega (arith, every.0))
  read_exprs k d (e ∷ es) at deep every =
      let list = read_separated (SameExpr n (names_of w)) (InList d) (expr_text n) (EveryExpr (well_placed n) (k + 1)) Anything Stop (λ x at good. in_list k d x at deep good) key.Comma (codes ", ") (λ S Q. behind_comma S Q Anything) refl e es (at + 1) (recursion_from_All _ (e ∷ es) every.1) in
      close (list.0) (told_bits w (Sign key.LeftParen ∷ []) (told_closed w (Sign key.RightParen ∷ []) list.1 refl refl) refl)
    where
      close : (ys : List PExpr) → Told w (AllZip (SameExpr n (names_of w)) (e ∷ es) ys) Stop Stop (Key key.LeftParen ▷ Separated (Key key.Comma) (InList d) ys ▷ Key key.RightParen) at (exprs_text n (e ∷ es)) → Found (AllZip (SameExpr n (names_of w)) (e ∷ es)) Stop Stop (λ ys. AreEnclosed d ys) at (exprs_text n (e ∷ es))
      close [] told = ([], told_as w told (λ items said same. absurd same))
      close (y ∷ ys) told = (y ∷ ys, told_as w told (λ items said same. (enclosed d y ys items said, same)))

  -- ---- ranges

  are_bounds : (d : ℕ) (b : PBounds) (items : List Item) → ((λ text. IsExpr Simple d b.first text) ▷ Key key.DotDot ▷ (λ text. IsExpr Simple d b.last text)) items → IsBounds d b items
  are_bounds d b items (front, more, is, first, (one, back, then, (at, dots), last)) =
      record { front = front; at = at; back = back; first = first; last = last; text_is = joined front is (led then dots refl) }

  simple_expr : (k d : ℕ) (x : PExpr) (at : ℕ) → 300 ≤ k + d → 2 ≤ level x → EveryExpr (well_placed n) k x → Found (SameExpr n (names_of w) x) Anything Stop (λ y text. IsExpr Simple d y text) at (expr_text n x)
  simple_expr k d x at deep high every =
      let e = read_expr w n k x at every in
      (e.tree, told_any w (told_as w e.told (λ items spells same. (record { spells = spells; fits = omega (arith, high, e.level_is); nested = omega (arith, e.low, deep) }, same))))

  pub read_bounds : (k d : ℕ) (b : PBounds) (at : ℕ) → 300 ≤ k + d → EveryBounds (well_placed n) k b → Found (SameBounds n (names_of w) b) Anything Stop (λ y text. IsBounds d y text) at (bounds_text n b)
  read_bounds k d b at deep every =
      let first = simple_expr k d b.first at deep every.0.0 every.1 in
      let last = simple_expr k d b.last ((at + length (expr_text n b.first)) + 4) deep every.0.1 every.2 in
      (record { first = first.0; last = last.0 }, told_as w (told_then w first.1 (told_bits w (Blank ∷ Sign key.DotDot ∷ Blank ∷ []) last.1 refl) refl) (λ items said same. (are_bounds d _ items said, same)))

  read_range : (k d : ℕ) (b : Option PBounds) (at : ℕ) → 300 ≤ k + d → IfSome b (EveryBounds (well_placed n) k) → Found (SameOption (SameBounds n (names_of w)) b) Stop Stop (λ y. IsRangeOf d y) at (range_text n b)
  read_range k d None at deep every = (None, told_nothing w)
  read_range k d (Some b) at deep every =
      let bounds = read_bounds k d b (at + 7) deep every in
      (Some bounds.0, told_as w (told_bits w (Blank ∷ Sign key.Range ∷ Blank ∷ []) bounds.1 refl) (λ items said same. (ranged said, same)))
    where
      ranged : {y : PBounds} {items : List Item} → (Key key.Range ▷ (λ text. IsBounds d y text)) items → IsRangeOf d (Some y) items
      ranged (one, back, is, (at, range), bounds) = (at, back, bounds, led is range refl)

  pub read_subind : (k d : ℕ) (x : PSubind) (at : ℕ) → 300 ≤ k + d → EverySubind (well_placed n) k x → Found (SameSubind n (names_of w) x) Plain Stop (λ y text. IsSubind d y text) at (subind_text n x)
  read_subind k d x at deep every =
      let range = read_range k d x.bounds (at + length (word_text n x.mark)) deep every.1 in
      (record { mark = new_word w n at x.mark; bounds = range.0 }, told_as w (told_then w (told_word w n x.mark every.0) range.1 refl) (λ items said same. (marked said, same)))
    where
      marked : {y : PSubind} {items : List Item} → (Named y.mark ▷ IsRangeOf d y.bounds) items → IsSubind d y items
      marked (one, back, is, named, bounds) = record { back = back; bounds = bounds; text_is = led is named refl }

  pub read_drange : (k d : ℕ) (x : PDrange) (at : ℕ) → 300 ≤ k + d → EveryDrange (well_placed n) k x → Found (SameDrange n (names_of w) x) Anything Stop (Drange d) at (drange_text n x)
  read_drange k d (RGiven b) at deep every = let y = read_bounds k d b at deep every in (RGiven y.0, y.1)
  read_drange k d (RMarked x) at deep every = let y = read_subind k d x at deep every in (RMarked y.0, told_any w y.1)

  -- ---- variables, tasks and calls

  read_index : (k d : ℕ) (i : Option PExpr) (at : ℕ) → 300 ≤ k + d → IfSome i (EveryExpr (well_placed n) (k + 1)) → Found (SameOption (SameExpr n (names_of w)) i) WordEnd WordEnd (Index d) at (index_text n i)
  read_index k d None at deep every = (None, told_nothing w)
  read_index k d (Some e) at deep every =
      let part = in_list k d e (at + 1) deep every in
      (Some part.0, told_opens w (told_as w (told_bits w (Sign key.LeftParen ∷ []) (told_closed w (Sign key.RightParen ∷ []) part.1 refl refl) refl) (λ items said same. (indexed said, same))) refl)
    where
      indexed : {y : PExpr} {items : List Item} → (Key key.LeftParen ▷ InList d y ▷ Key key.RightParen) items → IsEnclosed d y items
      indexed (one, more, is, (lead, first), (part, last, then, (spells, low), (close, closed))) =
          record { lead = lead; close = close; part = part; spells = spells; nested = low; text_is = led is first (joined part then closed) }

  targeted : {d : ℕ} {y : PTarget} {items : List Item} → (Named y.name ▷ Index d y.index) items → IsTarget d y items
  targeted (one, back, is, named, index) = record { back = back; index = index; text_is = led is named refl }

  pub read_target : (k d : ℕ) (x : PTarget) (at : ℕ) → 300 ≤ k + d → EveryTarget (well_placed n) (k + 1) x → Found (SameTarget n (names_of w) x) Plain WordEnd (Target d) at (target_text n x)
  read_target k d x at deep every =
      let index = read_index k d x.index (at + length (word_text n x.name)) deep every.1 in
      (record { name = new_word w n at x.name; index = index.0 }, told_as w (told_then w (told_word w n x.name every.0) index.1 refl) (λ items said same. (targeted said, same)))

  pub read_callee : (k d : ℕ) (x : PCallee) (at : ℕ) → 300 ≤ k + d → EveryCallee (well_placed n) (k + 1) x → Found (SameCallee n (names_of w) x) Plain WordEnd (Callee d) at (callee_text n x)
  read_callee k d x at deep every =
      let index = read_index k d x.index (at + length (word_text n x.name)) deep every.1 in
      (record { name = new_word w n at x.name; index = index.0 }, told_as w (told_then w (told_word w n x.name every.0) index.1 refl) (λ items said same. (targeted said, same)))

  read_second : (k d : ℕ) (es : Option (List PExpr)) (at : ℕ) → 300 ≤ k + d → IfSome es (EveryExprs (well_placed n) (k + 1)) → Found (SameOption (AllZip (SameExpr n (names_of w))) es) Stop Stop (λ ys. IsSecondList d ys) at (second_text n es)
  read_second k d None at deep every = (None, told_nothing w)
  read_second k d (Some es) at deep every = let list = read_exprs k d es at deep every in (Some list.0, list.1)

  read_args : (k d : ℕ) (x : Option PArgs) (at : ℕ) → 300 ≤ k + d → IfSome x (EveryArgs (well_placed n) (k + 1)) → Found (SameOption (SameArgs n (names_of w)) x) Stop Stop (λ y. AreArgs d y) at (args_text n x)
  read_args k d None at deep every = (None, told_nothing w)
  read_args k d (Some x) at deep every =
      let first = read_exprs k d x.first at deep every.0 in
      let second = read_second k d x.second (at + length (exprs_text n x.first)) deep every.1 in
      (Some record { first = first.0; second = second.0 }, told_as w (told_then w first.1 second.1 refl) (λ items said same. ((said.0, said.1, said.3, said.4, said.2), same)))

  -- a call, with its semicolon
  pub read_call : (k d : ℕ) (x : PCall) (at : ℕ) → 300 ≤ k + d → EveryCall (well_placed n) (k + 1) x → Found (SameCall n (names_of w) x) Plain Anything (λ y. Call d y ▷ Key key.Semicolon) at (call_text n x)
  read_call k d x at deep every =
      let task = read_callee k d x.task at deep every.0 in
      let behind = (at + length (callee_text n x.task)) + 1 in
      let args = read_args k d x.args (behind + length (word_text n x.entry)) deep every.2 in (
        record { task = task.0; entry = new_word w n behind x.entry; args = args.0 },
        told_as w (told_then w task.1 (told_bits w (Sign key.Dot ∷ []) (told_then w (told_word w n x.entry every.1) (told_closed w (Sign key.Semicolon ∷ Line ∷ []) args.1 refl refl) refl) refl) refl)
            (λ items said same. (called said, (same.0, same.1.0, same.1.1))),
      )
    where
      called : {y : PCall} {items : List Item} → (Callee d y.task ▷ Key key.Dot ▷ Named y.entry ▷ AreArgs d y.args ▷ Key key.Semicolon) items → (Call d y ▷ Key key.Semicolon) items
      called (front, m1, is, task, (one, m2, then, (dot, dotted), (two, m3, next, named, (back, last, end, args, close)))) = (
        front ++ symbol_item key.Dot dot ∷ word_item _ ∷ back,
        last,
        joined front is (led then dotted (led next named end)) ∙ sym (append_assoc front (symbol_item key.Dot dot ∷ word_item _ ∷ back) last),
        record { front = front; dot = dot; back = back; task = task; args = args; text_is = refl },
        close,
      )

  -- ---- formal parts

  read_mode : {S : Type 0} {Q : Spelling} {at : ℕ} {u : List ℕ} (m : ParMode) → Told w S Plain WordEnd Q (at + length (mode_text m)) u → Told w S Plain WordEnd (Mode m ▷ Q) at (mode_text m ⧺ u)
  read_mode Take h = told_as w (told_bits w (Sign key.In ∷ Blank ∷ []) h refl) (λ items said same. (over_first (λ front p. inr p) said, same))
  read_mode Give h = told_bits w (Sign key.Out ∷ Blank ∷ []) h refl
  read_mode Both h = told_as w (told_bits w (Sign key.In ∷ Blank ∷ Sign key.Out ∷ Blank ∷ []) h refl) (λ items said same. (group said, same))

  read_formal : (f : PFormal) (at : ℕ) → EveryFormal (well_placed n) f → Found (SameFormal n (names_of w) f) Plain WordEnd IsFormal at (formal_text n f)
  read_formal f at every =
      let names = read_names f.names at every.0 in
      let place = ((at + length (words_text n f.names)) + 3) + length (mode_text f.mode) in (
        record { names = names.0; mode = f.mode; mark = new_word w n place f.mark },
        told_same w (told_then w names.1 (told_bits w (Blank ∷ Sign key.Colon ∷ Blank ∷ []) (read_mode f.mode (told_word w n f.mark every.1)) refl) refl) (λ same. (same.0, refl, same.1)),
      )

  pub read_formals : (fs : List PFormal) (at : ℕ) → All (EveryFormal (well_placed n)) fs → Found (AllZip (SameFormal n (names_of w)) fs) Stop Stop Formals at (formals_text n fs)
  read_formals [] at every = ([], told_nothing w)
  read_formals (f ∷ fs) at every =
      let list = read_separated (SameFormal n (names_of w)) IsFormal (formal_text n) (EveryFormal (well_placed n)) Plain WordEnd read_formal key.Semicolon (codes "; ") (λ S Q. behind_semicolon S Q Plain) refl f fs (at + 1) (recursion_from_All _ (f ∷ fs) every) in
      close list.0 (told_bits w (Sign key.LeftParen ∷ []) (told_closed w (Sign key.RightParen ∷ []) list.1 refl refl) refl)
    where
      close : (ys : List PFormal) → Told w (AllZip (SameFormal n (names_of w)) (f ∷ fs) ys) Stop Stop (Key key.LeftParen ▷ Separated (Key key.Semicolon) IsFormal ys ▷ Key key.RightParen) at (formals_text n (f ∷ fs)) → Found (AllZip (SameFormal n (names_of w)) (f ∷ fs)) Stop Stop Formals at (formals_text n (f ∷ fs))
      close [] told = ([], told_as w told (λ items said same. absurd same))
      close (y ∷ ys) told = (y ∷ ys, told)

  -- the head of an accept statement at a place, with this index and these formals
  abbrev pub new_head : ℕ → PHead → Option PExpr → List PFormal → Span → PHead
  new_head at h i fs s = record { entry = new_word w n (at + 7) h.entry; index = i; formals = fs; span = s }

  -- what an accept statement begins with, at whatever place
  pub read_head : (k d : ℕ) (h : PHead) (at : ℕ) → 300 ≤ k + d → EveryHead (well_placed n) k h →
      (i : Option PExpr) × (fs : List PFormal) × ((s : Span) → Told w (SameHead n (names_of w) h (new_head at h i fs s)) Plain Stop (AcceptHead d (new_head at h i fs s)) at (head_text n h.entry h.index h.formals))
  read_head k d h at deep every =
      let place = at + 7 in
      let index = read_index k d h.index (place + length (word_text n h.entry)) deep every.1 in
      let formals = read_formals h.formals ((place + length (word_text n h.entry)) + length (index_text n h.index)) every.2 in
      (index.0, formals.0, λ s. told_same w (told_bits w (Sign key.Accept ∷ Blank ∷ []) (told_then w (told_word w n h.entry every.0) (told_then w index.1 formals.1 refl) refl) refl) (λ same. (same.0, same.1.0, same.1.1)))

  -- ---- choices

  pub read_choice : (k d : ℕ) (x : PChoice) (at : ℕ) → 300 ≤ k + d → EveryChoice (well_placed n) k x → Found (SameChoice n (names_of w) x) Anything Stop (Choice d) at (choice_text n x)
  read_choice k d x at deep every = by x.first x.last every
    where
      by : (first : PExpr) (last : Option PExpr) → EveryChoice (well_placed n) k (record { first = first; last = last }) → Found (SameChoice n (names_of w) (record { first = first; last = last })) Anything Stop (Choice d) at (choice_text n (record { first = first; last = last }))
      by first None good =
          let e = is_expression k d first at deep good.0 in
          (record { first = e.0; last = None }, told_as w (told_then w e.1 (told_nothing w {a = Stop}) refl) (λ items said same. (drop_nothing said, same)))
      by first (Some last) good =
          let b = read_bounds k d (record { first = first; last = last }) at deep (good.1.0, good.0, good.1.1) in
          (record { first = b.0.first; last = Some b.0.last }, b.1)

  pub read_choices : (k d : ℕ) (xs : List PChoice) (at : ℕ) → 300 ≤ k + d → 1 ≤ length xs → All (EveryChoice (well_placed n) k) xs → Found (AllZip (SameChoice n (names_of w)) xs) Anything Stop (Separated (Key key.Bar) (Choice d)) at (separated (codes " | ") (choice_text n) xs)
  read_choices k d [] at deep some every = absurd (omega (arith, some))
  read_choices k d (x ∷ xs) at deep some every =
      read_separated (SameChoice n (names_of w)) (Choice d) (choice_text n) (EveryChoice (well_placed n) k) Anything Stop (λ y place good. read_choice k d y place deep good) key.Bar (codes " | ") (λ S Q. behind_bar S Q Anything) refl x xs at (recursion_from_All _ (x ∷ xs) every)

  -- the tasks of an abort statement
  pub read_callees : (k d : ℕ) (xs : List PCallee) (at : ℕ) → 300 ≤ k + d → 1 ≤ length xs → All (EveryCallee (well_placed n) (k + 1)) xs → Found (AllZip (SameCallee n (names_of w)) xs) Plain Stop (Separated (Key key.Comma) (Callee d)) at (separated (codes ", ") (callee_text n) xs)
  read_callees k d [] at deep some every = absurd (omega (arith, some))
  read_callees k d (x ∷ xs) at deep some every =
      read_separated (SameCallee n (names_of w)) (Callee d) (callee_text n) (EveryCallee (well_placed n) (k + 1)) Plain WordEnd (λ y place good. read_callee k d y place deep good) key.Comma (codes ", ") (λ S Q. behind_comma S Q Plain) refl x xs at (recursion_from_All _ (x ∷ xs) every)

  -- ---- handlers, loops, delays

  -- `when A | B =>`
  pub read_raised : {S : Type 0} {Q : Spelling} {o a : Class} {u : List ℕ} (ws : List Word) (at : ℕ) → All (EveryWord (well_placed n)) ws → Told w S o a Q (((at + 5) + length (caught_text n ws)) + 4) u → (ys : List Word) × Told w (AllZip (SameWord n (names_of w)) ws ys × S) Plain a (WhenRaised ys ▷ Q) at (codes "when " ⧺ (caught_text n ws ⧺ (codes " =>\n" ⧺ u)))
  read_raised [] at every behind =
      ([], told_as w (told_bits w (Sign key.When ∷ Blank ∷ []) (told_bits w (Sign key.Others ∷ []) (told_bits w (Blank ∷ Sign key.Arrow ∷ Line ∷ []) (told_any w behind) refl) refl) refl) (λ items said same. (group3 said, (tt, same))))
  read_raised {S = S} {Q = Q} {a = a} {u = u} (v ∷ ws) at every behind =
      let list = read_separated (SameWord n (names_of w)) Named (word_text n) (λ x. IsOldName w n x.name) Plain WordEnd read_word key.Bar (codes " | ") (λ T R. behind_bar T R Plain) refl v ws (at + 5) (recursion_from_All _ (v ∷ ws) every) in
      close list.0 (told_bits w (Sign key.When ∷ Blank ∷ []) (told_then w list.1 (told_bits w (Blank ∷ Sign key.Arrow ∷ Line ∷ []) (told_any w behind) refl) refl) refl)
    where
      close : (ys : List Word) → Told w (AllZip (SameWord n (names_of w)) (v ∷ ws) ys × S) Plain a (Key key.When ▷ Separated (Key key.Bar) Named ys ▷ Key key.Arrow ▷ Q) at (codes "when " ⧺ (caught_text n (v ∷ ws) ⧺ (codes " =>\n" ⧺ u))) →
          (ys : List Word) × Told w (AllZip (SameWord n (names_of w)) (v ∷ ws) ys × S) Plain a (WhenRaised ys ▷ Q) at (codes "when " ⧺ (caught_text n (v ∷ ws) ⧺ (codes " =>\n" ⧺ u)))
      close [] told = ([], told_as w told (λ items said same. absurd same.0))
      close (y ∷ ys) told = (y ∷ ys, told_as w told (λ items said same. (group3 said, same)))

  pub read_label : (v : Option Word) (at : ℕ) → IfSome v (EveryWord (well_placed n)) → Found (SameOption (SameWord n (names_of w)) v) Anything Anything LoopName at (label_text n v)
  read_label None at every = (None, told_nothing w)
  read_label (Some v) at every = (Some (new_word w n at v), told_any w (told_closed w (Blank ∷ Sign key.Colon ∷ Blank ∷ []) (told_word w n v every) refl refl))

  -- the name of a loop once more, behind its end
  pub read_again : (v : Option Word) (at from : ℕ) (every : IfSome v (EveryWord (well_placed n))) → Told w (Unit {0}) Stop Stop (LoopNameAgain (read_label v from every).0) at (later_word n v)
  unfolding read_label
  read_again None at from every = told_nothing w
  read_again (Some v) at from every = told_ends w (told_as w (told_bits w (Blank ∷ []) (told_word w n v every) refl) (λ items named same. ((_, named), tt))) refl

  read_reverse : {S : Type 0} {Q : Spelling} {a : Class} {at : ℕ} {u : List ℕ} (r : Bool) → Told w S Anything a Q (at + length (reverse_text r)) u → Told w S Anything a (Reverse r ▷ Q) at (reverse_text r ⧺ u)
  read_reverse true h = told_any w (told_bits w (Sign key.Reverse ∷ Blank ∷ []) h refl)
  read_reverse false h = told_same w (told_then w (told_nothing w {a = Anything}) h refl) (λ same. same.1)

  pub read_scheme : (k d : ℕ) (x : Option PScheme) (at : ℕ) → 300 ≤ k + d → IfSome x (EveryScheme (well_placed n) k) → Found (SameOption (SameScheme n (names_of w)) x) Anything Anything (λ y. IfThere y (IsScheme d)) at (scheme_text n x)
  read_scheme k d None at deep every = (None, told_nothing w)
  read_scheme k d (Some (LWhile e)) at deep every =
      let y = is_expression k d e (at + 6) deep every in
      (Some (LWhile y.0), told_any w (told_as w (told_bits w (Sign key.While ∷ Blank ∷ []) (told_closed w (Blank ∷ []) y.1 refl refl) refl) (λ items said same. (under_first (λ more p. drop_nothing p) said, same))))
  read_scheme k d (Some (LFor v r x)) at deep every =
      let y = read_drange k d x (((((at + 4) + length (word_text n v)) + 4)) + length (reverse_text r)) deep every.1 in (
        Some (LFor (new_word w n (at + 4) v) r y.0),
        told_any w (told_as w (told_bits w (Sign key.For ∷ Blank ∷ []) (told_then w (told_word w n v every.0) (told_bits w (Blank ∷ Sign key.In ∷ Blank ∷ []) (read_reverse r (told_closed w (Blank ∷ []) y.1 refl refl)) refl) refl) refl)
            (λ items said same. (under_first (λ m1. under_first (λ m2. under_first (λ m3. under_first (λ m4 p. drop_nothing p)))) said, (same.0, refl, same.1)))),
      )

  -- the condition of an exit statement
  pub read_when : (k d : ℕ) (x : Option PExpr) (at : ℕ) → 300 ≤ k + d → IfSome x (EveryExpr (well_placed n) (k + 1)) → Found (SameOption (SameExpr n (names_of w)) x) Stop Stop (λ y. IfThere y (λ test. Key key.When ▷ NestedExpr d test)) at (when_text n x)
  read_when k d None at deep every = (None, told_nothing w)
  read_when k d (Some e) at deep every =
      let y = is_operand k d e (at + 6) deep every in
      (Some y.0, told_bits w (Blank ∷ Sign key.When ∷ Blank ∷ []) y.1 refl)

  pub read_delay : (d : ℕ) (at : ℕ) → IsDuration d → Told w (Unit {0}) Plain Anything (DelayOf d) at (delay_text d)
  read_delay d at le = told_bits w (Sign key.Delay ∷ Blank ∷ []) (told_closed w (Sign key.Semicolon ∷ Line ∷ []) (told_duration w n d le) refl refl) refl
