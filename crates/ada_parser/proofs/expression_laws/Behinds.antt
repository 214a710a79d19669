-- What goes on behind a first primary: its operators with their operands (4.4).
use Rattle.std.proofs.Common.{◌≡◌, ℕ, suc, ◌+◌, ◌-◌, ◌≤◌, ◌<◌, true, ◌⊎◌, inl, inr, ⊎_elim, List, [], ◌∷◌, ◌++◌, length, refl, sym, ap, ◌∙◌, subst, arith}
use Rattle.std.proofs.lemmas.List.{append-nil, append_assoc, length-append}
use Rattle.ada_tree.specs.declared.expressions.BinaryOp.{BinaryOp}
use Rattle.ada_tree.specs.declared.expressions.BinaryOp.TheVariants.{AndThen, OrElse}
use Rattle.ada_tree.specs.PlainExpr.{PExpr, EInteger, EName, EIndex, EAttribute, EAttributeOf, EParen, EUnary, EBinary}
use Rattle.ada_tree.specs.WellPlaced.{level, primary, binary_level, BinaryFits}
use Rattle.ada_lexer.specs.declared.symbols.Symbol.TheVariants as key
use Rattle.ada_expr_parser.specs.declared.items.Item.{Item}
use Rattle.ada_expr_parser.specs.declared.levels.Level.{Level}
use Rattle.ada_expr_parser.specs.declared.levels.Level.TheVariants.{Logical, Relation, Simple, Term, Factor, Primary}
use Rattle.ada_expr_parser.specs.Tests.{tighter}
use Rattle.ada_expr_parser.specs.Trees.{levels, span_of, from_to, joined}
use Rattle.ada_expr_parser.specs.Reading.{inner, operators}
use Rattle.ada_expr_parser.specs.Parts.{expr_behind}
use Rattle.ada_expr_parser.specs.Grammar.{symbol_item, SpellsSecond, SpellsOperator, Spells, rank, IsExpr}
use Rattle.ada_expr_parser.specs.readers.Readers.{Answer, Found, Fault, Reader, pure, bind, go_on, chain, chain_more}
use Rattle.ada_expr_parser.specs.readers.Grammars.{Texts, Up_to, Joined, AreChains, Begins}
use Rattle.ada_expr_parser.specs.readers.Lawful.{Lawful}
use Rattle.ada_expr_parser.proofs.readers.Binding.{law_pure}
use Rattle.ada_expr_parser.proofs.readers.Fitting.{law_fit, law_same}
use Rattle.ada_expr_parser.proofs.readers.Chaining.{law_chain}
use Rattle.ada_parser.specs.expression_laws.Stopping.{Ends}
use Rattle.ada_parser.specs.expression_laws.Laws.{first_operand, GoesOnBehind}
use Rattle.ada_parser.proofs.expression_laws.Behind.{split_le}
use Rattle.ada_parser.proofs.expression_laws.Operators.{OperatorAt, low_binary}
use Rattle.ada_parser.proofs.expression_laws.Chains.{Sp, IsOther, chain_opened, chain_closed, lawful_operators}
use Rattle.ada_parser.proofs.expression_laws.Levels.{law_expr}

-- the operators behind this first operand, with their other operands
abbrev pub Behind : PExpr → PExpr → List Item → Type 0
Behind p (EBinary op l r s) text =
    (front : List Item) × (sign : List Item) × (back : List Item) × Behind p l front × SpellsOperator op sign × Spells r back × BinaryFits op l r
    × (text ≡ front ++ (sign ++ back)) × (s ≡ from_to (span_of l) (span_of r))
Behind p e text = (e ≡ p) × (text ≡ [])

-- of trees of a level or a tighter one
abbrev pub BehindAt : Level → PExpr → PExpr → List Item → Type 0
BehindAt l p e text = Behind p e text × (rank l ≤ level e)

abbrev FirstAt : Level → PExpr → PExpr → List Item → Type 0
FirstAt l p e text = BehindAt l p e text × IsOther l e

-- ---- the chains of a level

opened : (l : Level) (p e : PExpr) (text : List Item) → BehindAt l p e text → FirstAt l p e text ⊎ Joined joined (OperatorAt l) (BehindAt l p) (Sp (tighter l)) e text
opened l p (EBinary op a b s) text (is, high) = chain_opened (Behind p) l op a b s text is high
opened l p e text is = inl (is, tt)

closed : (l : Level) (p e : PExpr) (text : List Item) → FirstAt l p e text ⊎ Joined joined (OperatorAt l) (BehindAt l p) (Sp (tighter l)) e text → BehindAt l p e text
closed l p e text (inl (is, other)) = is
closed l p e text (inr more) = chain_closed (Behind p) l e text (λ op a b s t added. added) more

chains_behind : (l : Level) (p : PExpr) → AreChains joined (OperatorAt l) (FirstAt l p) (Sp (tighter l)) (BehindAt l p)
chains_behind l p = record { opens = opened l p; closes = closed l p }

-- a tighter tree is no chain of the level, and what is none is a tighter one
tighter_first : (l : Level) (p e : PExpr) (text : List Item) → rank l < rank (tighter l) → BehindAt (tighter l) p e text → FirstAt l p e text
tighter_first l p e text less (is, high) = ((is, omega (arith, less, high)), other e high) where
  other : (e : PExpr) → rank (tighter l) ≤ level e → IsOther l e
  other (EBinary op a b s) high = λ is. omega (arith, less, high, is)
  other e high = tt

first_tighter : (l : Level) (p e : PExpr) (text : List Item) → rank (tighter l) ≤ suc (rank l) → rank (tighter l) ≤ primary → primary ≤ level p → FirstAt l p e text → BehindAt (tighter l) p e text
first_tighter l p (EBinary op a b s) text next low tight ((is, high), other) = (is, ⊎_elim (λ less. omega (arith, less, next)) (λ same. absurd (other same)) (split_le (rank l) (binary_level op) high))
first_tighter l p e text next low tight (((same, none), high), other) = ((same, none), let is = ap level same in omega (arith, is, low, tight))

-- the primary itself
only_first : (p e : PExpr) (text : List Item) → BehindAt Factor p e text → (e ≡ p) × (text ≡ [])
only_first p (EBinary op a b s) text (is, high) = let low = low_binary op in absurd (omega (arith, high, low))
only_first p e text (is, high) = is

pub first_itself : (p : PExpr) → primary ≤ level p → BehindAt Factor p p []
first_itself (EBinary op a b s) tight = let low = low_binary op in absurd (omega (arith, tight, low))
first_itself p tight = ((refl, refl), omega (arith, tight))

-- ---- one level on the other

two_binds : (answer : Answer Item PExpr) (g h : PExpr → Reader Item PExpr) → go_on answer (λ s. bind (g s) h) ≡ go_on (go_on answer g) h
two_binds (Found s rest) g h = refl
two_binds (Fault deep rest) g h = refl

three_binds : (answer : Answer Item PExpr) (f g h : PExpr → Reader Item PExpr) → go_on answer (λ t. bind (f t) (λ s. bind (g s) h)) ≡ go_on (go_on (go_on answer f) g) h
three_binds (Found t rest) f g h = two_binds (f t rest) g h
three_binds (Fault deep rest) f g h = refl

pub law_inner : (d e : ℕ) (l : Level) → d ≡ suc e → Lawful e (inner d l) (inner (suc d) l) (Up_to levels (Sp l)) (Ends l)
law_inner d e l is = subst (λ n. Lawful e (inner n l) (inner (suc n) l) (Up_to levels (Sp l)) (Ends l)) (sym is) (law_expr e l)

module _ (p : PExpr) (tight : primary ≤ level p) (d : ℕ) (low : levels p ≤ d) where
  law_first : Lawful d (pure p) (pure p) (Up_to levels (BehindAt Factor p)) (Ends Factor)
  law_first = law_fit
      (λ e deep a text (same, none). rw same (rw none (first_itself p tight, omega (arith, low, deep))))
      (λ a text (is, fits). only_first p a text is)
      (law_pure d p (Ends Factor))

  law_level : (l : Level) {first first' : Reader Item PExpr} → rank l < rank (tighter l) → rank (tighter l) ≤ suc (rank l) → rank (tighter l) ≤ primary →
      Lawful d first first' (Up_to levels (BehindAt (tighter l) p)) (Ends (tighter l)) →
      Lawful d (chain (operators l) d first (inner d (tighter l))) (chain (operators l) (suc d) first' (inner (suc d) (tighter l))) (Up_to levels (BehindAt l p)) (Ends l)
  law_level l less next high first = law_chain (lawful_operators l) (chains_behind l p) d
      (law_fit (λ e deep a text (is, fits). (tighter_first l p a text less is, fits)) (λ a text (is, fits). (first_tighter l p a text next high tight is, fits)) first)
      (λ e is. law_inner d e (tighter l) is)

  pub law_levels : Lawful d (expr_behind d p) (expr_behind (suc d) p) (Up_to levels (BehindAt Logical p)) (Ends Logical)
  law_levels = law_same (nested d) (nested (suc d))
      (law_level Logical (omega arith) (omega arith) (omega arith)
      (law_level Relation (omega arith) (omega arith) (omega arith)
      (law_level Simple (omega arith) (omega arith) (omega arith)
      (law_level Term (omega arith) (omega arith) (omega arith) law_first)))) where
        nested : (d : ℕ) (ts : List Item) → expr_behind d p ts ≡
            chain (operators Logical) d (chain (operators Relation) d (chain (operators Simple) d (chain (operators Term) d (pure p) (inner d Factor)) (inner d Term)) (inner d Simple)) (inner d Relation) ts
        nested d ts = three_binds (chain_more (operators Term) d (inner d Factor) p ts)
            (chain_more (operators Simple) d (inner d Term)) (chain_more (operators Relation) d (inner d Simple)) (chain_more (operators Logical) d (inner d Relation))

-- ---- in plain words

-- put behind the items of the primary
pub behind_spells : (p e : PExpr) (items text : List Item) → Spells p items → Behind p e text → Spells e (items ++ text)
behind_spells p (EBinary op l r s) items text first (front, sign, back, left, spelled, right, fits, from, place) =
    (items ++ front, sign, back, behind_spells p l items front first left, spelled, right, fits, ap (λ t. items ++ t) from ∙ sym (append_assoc items front (sign ++ back)), place)
behind_spells p e items text first is = rw is.1 (rw (append-nil items) (subst (λ t. Spells t items) (sym is.0) first))

pub behind_first : (p e : PExpr) (text : List Item) → Behind p e text → first_operand e ≡ p
behind_first p (EBinary op l r s) text (front, sign, back, left, spelled, right, fits, from, place) = behind_first p l front left
behind_first p e text is = is.0

-- an expression is its first operand and what stands behind it
pub spells_behind : (e : PExpr) (whole : List Item) → Spells e whole → (items : List Item) × (text : List Item) × (whole ≡ items ++ text) × Spells (first_operand e) items × Behind (first_operand e) e text
spells_behind (EBinary op l r s) whole (front, sign, back, left, spelled, right, fits, from, place) =
    let (items, text, split, first, behind) = spells_behind l front left in
    (items, text ++ (sign ++ back), from ∙ ap (λ t. t ++ (sign ++ back)) split ∙ append_assoc items text (sign ++ back), first, (text, sign, back, behind, spelled, right, fits, refl, place))
spells_behind e whole spelled = (whole, [], sym (append-nil whole), spelled, (refl, refl))

-- all spellings of a tree have the same length
second_length : (op : BinaryOp) (s t : List Item) → SpellsSecond op s → SpellsSecond op t → length s ≡ length t
second_length AndThen s t (at, is) (b, other) = rw is (rw other refl)
second_length OrElse s t (at, is) (b, other) = rw is (rw other refl)
second_length op s t is other = rw is (rw other refl)

sign_length : (op : BinaryOp) (s t : List Item) → SpellsOperator op s → SpellsOperator op t → length s ≡ length t
sign_length op s t (at, m, second, is) (b, n, other, also) = rw is (rw also (let same = second_length op m n second other in omega (arith, same)))

more_length : (part other : List Item) (x y : Item) → length part ≡ length other → length (part ++ x ∷ []) ≡ length (other ++ y ∷ [])
more_length part other x y same = let one = length-append part (x ∷ []) in let two = length-append other (y ∷ []) in grind (arith, one, two, same)

spells_length : (e : PExpr) (s t : List Item) → Spells e s → Spells e t → length s ≡ length t
spells_length (EInteger n at) s t is other = rw is (rw other refl)
spells_length (EName a at) s t is other = rw is (rw other refl)
spells_length (EIndex w e at) s t (part, lead, close, spelled, is, place) (part', lead', close', spelled', other, place') =
    rw is (rw other (let same = more_length part part' (symbol_item key.RightParen close) (symbol_item key.RightParen close') (spells_length e part part' spelled spelled') in omega (arith, same)))
spells_length (EAttribute m w at) s t (tick, is, place) (tick', other, place') = rw is (rw other refl)
spells_length (EAttributeOf m w e at) s t (part, tick, lead, close, spelled, is, place) (part', tick', lead', close', spelled', other, place') =
    rw is (rw other (let same = more_length part part' (symbol_item key.RightParen close) (symbol_item key.RightParen close') (spells_length e part part' spelled spelled') in omega (arith, same)))
spells_length (EParen e at) s t (part, lead, close, spelled, is, place) (part', lead', close', spelled', other, place') =
    rw is (rw other (let same = more_length part part' (symbol_item key.RightParen close) (symbol_item key.RightParen close') (spells_length e part part' spelled spelled') in omega (arith, same)))
spells_length (EUnary op e at) s t (part, lead, spelled, fits, is, place) (part', lead', spelled', fits', other, place') =
    rw is (rw other (let same = spells_length e part part' spelled spelled' in omega (arith, same)))
spells_length (EBinary op l r at) s t (front, sign, back, left, spelled, right, fits, is, place) (front', sign', back', left', spelled', right', fits', other, place') =
    rw is (rw other (
    let one = spells_length l front front' left left' in
    let two = sign_length op sign sign' spelled spelled' in
    let three = spells_length r back back' right right' in
    let a = length-append front (sign ++ back) in
    let b = length-append sign back in
    let a' = length-append front' (sign' ++ back') in
    let b' = length-append sign' back' in
    omega (arith, one, two, three, a, b, a', b')))

-- fronts of one length are the same
same_front : (f g m n : List Item) → length f ≡ length g → f ++ m ≡ g ++ n → (f ≡ g) × (m ≡ n)
same_front [] [] m n same is = (refl, is)
same_front [] (y ∷ g) m n same is = absurd (omega (arith, same))
same_front (x ∷ f) [] m n same is = absurd (omega (arith, same))
same_front (x ∷ f) (y ∷ g) m n same is =
    let (front, rest) = same_front f g m n (omega (arith, same)) (ap tail is) in
    (ap (λ h. h ∷ f) (ap (head x) is) ∙ ap (λ l. y ∷ l) front, rest) where
      tail : List Item → List Item
      tail [] = []
      tail (z ∷ l) = l

      head : Item → List Item → Item
      head z [] = z
      head z (w ∷ l) = w

goes_behind : (p e : PExpr) (items text : List Item) → Spells p items → Spells e (items ++ text) → first_operand e ≡ p → Behind p e text
goes_behind p e items text first spelled same =
    let (front, back, split, begin, behind) = spells_behind e (items ++ text) spelled in
    let begin' = subst (λ q. Spells q front) same begin in
    let (fronts, backs) = same_front items front text back (spells_length p items front first begin') split in
    subst (Behind p e) (sym backs) (subst (λ q. Behind q e back) same behind)

pub law_behind : (d : ℕ) (p : PExpr) (items : List Item) → Spells p items → primary ≤ level p → levels p ≤ d →
    Lawful d (expr_behind d p) (expr_behind (suc d) p) (GoesOnBehind p items) (Ends Logical)
law_behind d p items first tight low = law_fit
    (λ e deep a text ((is, high), fits). (record { spells = behind_spells p a items text first is; fits = high; nested = fits }, behind_first p a text is))
    (λ a text (is, same). ((goes_behind p a items text first is.spells same, is.fits), is.nested))
    (law_levels p tight d low)

-- ---- depths counted from that of the primary

module _ {K A : Type 0} {p p' : Reader K A} {D : Texts K A} {S : K → Type 0} (n d : ℕ) (law : Lawful (n + d) p p' D S) where
  counted_deeper : {ts : List K} {x : K} {rest : List K} → p ts ≡ Fault true (x ∷ rest) →
      (front : List K) × (ts ≡ front ++ (x ∷ rest)) × (e : ℕ) × (d ≤ e) × Begins (λ a text. D (n + e) a text) (front ++ (x ∷ []))
  counted_deeper {x = x} e =
      let (front, is, m, deep, some) = law.careful.only_deeper e in
      (front, is, m - n, omega (arith, deep), subst (λ k. Begins (D k) (front ++ (x ∷ []))) (omega (arith, deep)) some)

  law_counted : Lawful d p p' (λ e a text. D (n + e) a text) S
  law_counted = record {
    careful = record {
      sound = law.careful.sound;
      complete = law.careful.complete;
      viable = law.careful.viable;
      only_deeper = counted_deeper;
      found_alike = law.careful.found_alike;
      fault_alike = law.careful.fault_alike;
      found_deeper = law.careful.found_deeper;
      fault_deeper = law.careful.fault_deeper;
      grows = λ e deep text. law.careful.grows (n + e) (omega (arith, deep)) text;
    };
    some_text = λ e deep. law.some_text (n + e) (omega (arith, deep));
  }

pub law_behind_at : (low : ℕ) (p : PExpr) (items : List Item) → IsExpr Primary low p items → (d : ℕ) →
    Lawful d (expr_behind (low + d) p) (expr_behind (low + suc d) p) (λ d e text. GoesOnBehind p items (low + d) e text) (Ends Logical)
law_behind_at low p items is d =
    let next : suc (low + d) ≡ low + suc d = omega arith in
    let nested = is.nested in
    law_counted low d (subst (λ n. Lawful (low + d) (expr_behind (low + d) p) (expr_behind n p) (GoesOnBehind p items) (Ends Logical)) next
    (law_behind (low + d) p items is.spells is.fits (omega (arith, nested))))
