-- Whole texts: what the answer for the items of a text says of its bytes, when statements are read by the laws and a text has one list of items.
use Rattle.std.proofs.Common.{◌≡◌, ℕ, suc, Bool, true, false, true≢false, ◌⊎◌, inl, inr, ⊎_elim, List, [], ◌∷◌, ◌++◌, refl, sym, ap, ap₂, ◌∙◌, subst}
use Rattle.std.specs.Prelude.{if◌then◌else◌}
use Rattle.std.specs.List.{AllZip}
use Rattle.std.proofs.lemmas.List.{append_assoc, append-nil}
use Rattle.ada_expr_parser.specs.readers.Readers.{Answer, Found, Fault, go_on, left_at}
use Rattle.ada_expr_parser.specs.readers.Grammars.{Begins, first_of}
use Rattle.ada_expr_parser.specs.readers.Exactness.{IsSyntax, IsTooDeep, ReadsWhole}
use Rattle.ada_expr_parser.specs.readers.Lawful.{IsYes}
use Rattle.ada_expr_parser.proofs.readers.Basics.{not_empty, same_last}
use Rattle.ada_expr_parser.proofs.readers.Exactly.{reads_whole}
use Rattle.ada_lexer.specs.declared.kinds.Token.{Token}
use Rattle.ada_tree.specs.PlainProgram.{PProgram}
use Rattle.ada_expr_parser.specs.declared.items.ItemKind.{ItemKind}
use Rattle.ada_expr_parser.specs.declared.items.ItemKind.TheVariants as item
use Rattle.ada_expr_parser.specs.declared.items.Item.{Item}
use Rattle.ada_expr_parser.specs.Items.{Says, IsItemOf, end_item}
use Rattle.ada_expr_parser.specs.Gives.{place}
use Rattle.ada_phrase_parser.specs.Spelling.{Source}
use Rattle.ada_parser.specs.Units.{PUnit, Units}
use Rattle.ada_parser.specs.Reads.{deepest, is_end_kind, is_end, WholeTexts, program_unit, HasItems, Reads, BeginsSomeText, BeginsText, SyntaxAt, TooDeepAt}
use Rattle.ada_stmt_parser.specs.inner.ReadingStatements.{readers}
use Rattle.ada_parser.specs.inner.ReadingUnits as reading
use Rattle.ada_parser.specs.Laws.{HasOneText}
use Rattle.ada_parser.specs.Exactly as exactly
use Rattle.ada_parser.specs.Exactly.{program_of, IsRead, IsRefused, IsTooDeepAt, ReadsExactly}
use Rattle.ada_parser.proofs.Faults.{syntax_at, too_deep_at}
use Rattle.ada_parser.proofs.Continuing.{two_fronts}
use Rattle.ada_parser.proofs.NoEnd.{Free, free_item, unit_free}
use Rattle.ada_parser.proofs.StmtLevels.{LevelLaws}
use Rattle.ada_parser.proofs.DeclInits.{an_end}
use Rattle.ada_parser.proofs.UnitLaws.{law_unit}

-- ---- the end of a text is its last item alone

no_end_kind : (src : List ℕ) (names : List (List ℕ)) (token : Token) (kind : ItemKind) → Says src names token kind → is_end_kind kind ≡ false
no_end_kind src names token (item.Symbol s) is = refl
no_end_kind src names token (item.Name id) is = refl
no_end_kind src names token (item.Integer n) is = refl
no_end_kind src names token (item.Duration n) is = refl
no_end_kind src names token item.Text is = refl
no_end_kind src names token item.End never = absurd never

tokens_free : (src : List ℕ) (names : List (List ℕ)) (tokens : List Token) (front : List Item) → AllZip (IsItemOf src names) tokens front → Free front
tokens_free src names [] [] is = tt
tokens_free src names [] (x ∷ front) never = absurd never
tokens_free src names (t ∷ tokens) [] never = absurd never
tokens_free src names (t ∷ tokens) (x ∷ front) (is, more) = (no_end_kind src names t x.kind is.says, tokens_free src names tokens front more)

abbrev tail_of : List Item → List Item
tail_of [] = []
tail_of (x ∷ list) = list

-- nothing stands behind an end
end_last : (front f more : List Item) (e x : Item) → Free front → front ++ (e ∷ []) ≡ f ++ (x ∷ more) → is_end x ≡ true → more ≡ []
end_last [] [] more e x free is yes_is = sym (ap tail_of is)
end_last [] (y ∷ f) more e x free is yes_is = absurd (not_empty f x more (ap tail_of is))
end_last (y ∷ front) [] more e x (off, free) is yes_is = absurd (true≢false (sym yes_is ∙ ap is_end (sym (ap (first_of y) is)) ∙ off))
end_last (y ∷ front) (z ∷ f) more e x (off, free) is yes_is = end_last front f more e x free (ap tail_of is) yes_is

-- two places in one list are one, or the one stands before the other
compared : (f g : List Item) (x y : Item) (r t : List Item) → f ++ (x ∷ r) ≡ g ++ (y ∷ t) →
    ((f ≡ g) × (x ≡ y)) ⊎ (((m : List Item) × (g ≡ (f ++ (x ∷ [])) ++ m)) ⊎ ((m : List Item) × (f ≡ (g ++ (y ∷ [])) ++ m)))
compared f g x y r t is = ⊎_elim
    (λ (m, from, rest). behind m from rest)
    (λ (z, m, from, rest). inr (inr (m, from ∙ ap (λ k. g ++ (k ∷ m)) (sym (ap (first_of y) rest)) ∙ sym (append_assoc g (y ∷ []) m))))
    (two_fronts f g (x ∷ r) (y ∷ t) is) where
      behind : (m : List Item) → g ≡ f ++ m → x ∷ r ≡ m ++ (y ∷ t) → ((f ≡ g) × (x ≡ y)) ⊎ (((m : List Item) × (g ≡ (f ++ (x ∷ [])) ++ m)) ⊎ ((m : List Item) × (f ≡ (g ++ (y ∷ [])) ++ m)))
      behind [] from rest = inl (sym (from ∙ append-nil f), ap (first_of x) rest)
      behind (z ∷ m) from rest = inr (inl (m, from ∙ ap (λ k. f ++ (k ∷ m)) (sym (ap (first_of x) rest)) ∙ sym (append_assoc f (x ∷ []) m)))

-- what begins a text does so with fewer items
fewer : {A : Type 0} (D : A → List Item → Type 0) (f m : List Item) → Begins D (f ++ m) → Begins D f
fewer D f m (a, more, text) = (a, m ++ more, subst (D a) (append_assoc f m more) text)

module _ (laws : (source : Source) (d : ℕ) → LevelLaws source d (readers source d) (readers source (suc d))) (one_text : HasOneText) where
  whole_laws : (source : Source) → ReadsWhole is_end (reading.unit source) (Units source)
  whole_laws source = reads_whole is_end (Units source) an_end refl (reading.unit source) (λ d. law_unit source (laws source) d (IsYes is_end))

  module _ (bytes : List ℕ) (names : List (List ℕ)) (items : List Item) (has : HasItems bytes (record { bytes = bytes; names = names }) items) where
    abbrev source : Source
    source = record { bytes = bytes; names = names }

    abbrev Texts_here : PUnit → List Item → Type 0
    Texts_here = WholeTexts source deepest

    -- ---- the answer

    last_item : (f more : List Item) (x : Item) → items ≡ f ++ (x ∷ more) → is_end x ≡ true → more ≡ []
    last_item f more x is yes_is =
        let (front, zip, from) = has.items_are in end_last front f more (end_item bytes) x (tokens_free bytes names has.tokens front zip) (sym from ∙ is) yes_is

    not_free : Free items → ⊥
    not_free free =
        let (front, zip, from) = has.items_are in true≢false (free_item front (end_item bytes) [] (subst Free from free))

    -- an answer that is one of these: a unit before the end, or a fault at an item
    abbrev View : Answer Item PUnit → Type 0
    View (Found u rest) = (x : Item) × (front : List Item) × (items ≡ front ++ (x ∷ [])) × (is_end x ≡ true) × Units source deepest u front
    View (Fault deep rest) = (x : Item) × (more : List Item) × (rest ≡ x ∷ more)

    left_view : (u : PUnit) (front rest : List Item) → items ≡ front ++ rest → Units source deepest u front → View (left_at is_end u rest)
    left_view u front [] from is = absurd (not_free (subst Free (sym (from ∙ append-nil front)) (unit_free source deepest u front is)))
    left_view u front (x ∷ more) from is = by (is_end x) refl where
      by : (b : Bool) → is_end x ≡ b → View (if b then Found u (x ∷ more) else Fault false (x ∷ more))
      by true yes_is = (x, front, from ∙ ap (λ l. front ++ (x ∷ l)) (last_item front more x from yes_is), yes_is, is)
      by false no_is = (x, more, refl)

    unit_view : (answer : Answer Item PUnit) → reading.unit source deepest items ≡ answer → View (go_on answer (left_at is_end))
    unit_view (Found u rest) e = let (front, from, is) = (law_unit source (laws source) deepest (IsYes is_end)).careful.sound e in left_view u front rest from is
    unit_view (Fault deep (x ∷ more)) e = (x, more, refl)
    unit_view (Fault deep []) e =
        let (front, from, begun) = (law_unit source (laws source) deepest (IsYes is_end)).careful.viable e in
        absurd (⊎_elim
        (λ none. not_free (subst Free (sym (from ∙ append-nil front ∙ none)) tt))
        (λ (u, more, text). not_free (subst Free (sym (from ∙ append-nil front)) (front_free front more (unit_free source deepest u (front ++ more) text))))
        begun) where
          front_free : (f g : List Item) → Free (f ++ g) → Free f
          front_free [] g free = tt
          front_free (y ∷ f) g (off, free) = (off, front_free f g free)

    answer_view : View (reading.text source items)
    answer_view = unit_view (reading.unit source deepest items) refl

    -- ---- what stands of the bytes, said of these items

    same_items : (s : Source) (ys : List Item) → HasItems bytes s ys → (s ≡ source) × (ys ≡ items)
    same_items s ys other = one_text bytes s source ys items other has

    whole_of : (p : PProgram) → Reads bytes p → Texts_here (program_unit p) items
    whole_of p read =
        let (same, also) = same_items (record { bytes = bytes; names = p.names }) read.items read.are_items in
        subst (λ s. WholeTexts s deepest (program_unit p) items) same (subst (WholeTexts (record { bytes = bytes; names = p.names }) deepest (program_unit p)) also read.spelled)

    -- a place where the bytes are refused, among these items
    record Place (front : List Item) (x : Item) : Type 0 where
      pub rest : List Item
      pub items_are : items ≡ front ++ (x ∷ rest)

    syntax_here : (at : ℕ) → SyntaxAt bytes at → (front : List Item) × (x : Item) × Place front x × (x.span.start ≡ at) × Begins Texts_here front × (BeginsSomeText source (front ++ (x ∷ [])) → ⊥)
    syntax_here at is =
        let (same, also) = same_items is.source (is.front ++ (is.x ∷ is.stands.rest)) is.stands.are_items in
        (is.front, is.x, record { rest = is.stands.rest; items_are = sym also }, is.stands.place_is, subst (λ s. BeginsText s is.front) same is.before, subst (λ s. BeginsSomeText s (is.front ++ (is.x ∷ [])) → ⊥) same is.never)

    deep_here : (at : ℕ) → TooDeepAt bytes at →
        (front : List Item) × (x : Item) × Place front x × (x.span.start ≡ at) × Begins Texts_here front × (BeginsText source (front ++ (x ∷ [])) → ⊥) × BeginsSomeText source (front ++ (x ∷ []))
    deep_here at is =
        let (same, also) = same_items is.source (is.front ++ (is.x ∷ is.stands.rest)) is.stands.are_items in (
          is.front,
          is.x,
          record { rest = is.stands.rest; items_are = sym also },
          is.stands.place_is,
          subst (λ s. BeginsText s is.front) same is.before,
          subst (λ s. BeginsText s (is.front ++ (is.x ∷ [])) → ⊥) same is.not_here,
          subst (λ s. BeginsSomeText s (is.front ++ (is.x ∷ []))) same is.deeper,
        )

    -- a whole text begins with each front of its items
    text_begins : (u : PUnit) (f r : List Item) (x : Item) → Texts_here u items → items ≡ f ++ (x ∷ r) → Begins Texts_here (f ++ (x ∷ []))
    text_begins u f r x is from = (u, r, subst (Texts_here u) (from ∙ sym (append_assoc f (x ∷ []) r)) is)

    -- ---- a program

    read_says : (u : PUnit) → Texts_here u items → IsRead bytes (program_of names u)
    read_says u is = record {
      reads = record { items = items; are_items = has; spelled = is };
      no_other = λ q read.
          let (same, also) = same_items (record { bytes = bytes; names = q.names }) read.items read.are_items in
          let (f, x, from, ends, spelled) = whole_of q read in
          let (g, y, from', ends', spelled') = is in
          let (fronts, last) = same_last f g x y (sym from ∙ from') in
          let units : program_unit q ≡ u = (whole_laws source).one_tree deepest deepest (program_unit q) u f spelled (subst (Units source deepest u) (sym fronts) spelled') in
          ap₂ program_of (ap (λ s. s.names) same) units;
      no_syntax = λ at refused.
          let (front, x, here, there, before, never) = syntax_here at refused in
          never (deepest, text_begins u front here.rest x is here.items_are);
      not_deep = λ at refused.
          let (front, x, here, there, before, not_here, deeper) = deep_here at refused in
          not_here (text_begins u front here.rest x is here.items_are);
    }

    -- ---- faults

    syntax_says : (x : Item) (rest : List Item) → IsSyntax (WholeTexts source) deepest items x rest → IsRefused bytes x.span.start
    syntax_says x rest is = record {
      here = syntax_at bytes source items x rest has is;
      nowhere_else = λ b refused.
          let (g, y, here, there, before, never) = syntax_here b refused in ⊎_elim
          (λ (fronts, same). sym there ∙ sym (ap (λ k. k.span.start) same))
          (λ more. absurd (⊎_elim
          (λ (m, longer). is.never deepest (fewer Texts_here (is.front ++ (x ∷ [])) m (subst (Begins Texts_here) longer before)))
          (λ (m, longer). never (deepest, fewer Texts_here (g ++ (y ∷ [])) m (subst (Begins Texts_here) longer is.before)))
          more))
          (compared is.front g x y rest here.rest (sym is.tokens ∙ here.items_are));
      no_program = λ p read. is.never deepest (text_begins (program_unit p) is.front rest x (whole_of p read) is.tokens);
      not_deep = λ b refused.
          let (g, y, here, there, before, not_here, (e, deeper)) = deep_here b refused in ⊎_elim
          (λ (fronts, same). is.never e (subst (λ l. Begins (WholeTexts source e) l) (ap₂ (λ f k. f ++ (k ∷ [])) (sym fronts) (sym same)) deeper))
          (⊎_elim
          (λ (m, longer). is.never deepest (fewer Texts_here (is.front ++ (x ∷ [])) m (subst (Begins Texts_here) longer before)))
          (λ (m, longer). not_here (fewer Texts_here (g ++ (y ∷ [])) m (subst (Begins Texts_here) longer is.before))))
          (compared is.front g x y rest here.rest (sym is.tokens ∙ here.items_are));
    }

    deep_says : (x : Item) (rest : List Item) → IsTooDeep (WholeTexts source) deepest items x rest → IsTooDeepAt bytes x.span.start
    deep_says x rest is = record {
      here = too_deep_at bytes source items x rest has is;
      nowhere_else = λ b refused.
          let (g, y, here, there, before, not_here, deeper) = deep_here b refused in ⊎_elim
          (λ (fronts, same). sym there ∙ sym (ap (λ k. k.span.start) same))
          (λ more. absurd (⊎_elim
          (λ (m, longer). is.not_here (fewer Texts_here (is.front ++ (x ∷ [])) m (subst (Begins Texts_here) longer before)))
          (λ (m, longer). not_here (fewer Texts_here (g ++ (y ∷ [])) m (subst (Begins Texts_here) longer is.before)))
          more))
          (compared is.front g x y rest here.rest (sym is.tokens ∙ here.items_are));
      no_program = λ p read. is.not_here (text_begins (program_unit p) is.front rest x (whole_of p read) is.tokens);
      no_syntax = λ b refused.
          let (g, y, here, there, before, never) = syntax_here b refused in ⊎_elim
          (λ (fronts, same). let (e, deeper) = is.deeper in never (e, subst (λ l. Begins (WholeTexts source e) l) (ap₂ (λ f k. f ++ (k ∷ [])) fronts same) deeper))
          (⊎_elim
          (λ (m, longer). is.not_here (fewer Texts_here (is.front ++ (x ∷ [])) m (subst (Begins Texts_here) longer before)))
          (λ (m, longer). never (deepest, fewer Texts_here (g ++ (y ∷ [])) m (subst (Begins Texts_here) longer is.before))))
          (compared is.front g x y rest here.rest (sym is.tokens ∙ here.items_are));
    }

    -- ---- what the answer says

    says_of : (answer : Answer Item PUnit) → reading.text source items ≡ answer → View answer → exactly.Says bytes names answer
    says_of (Found u rest) e (x, front, from, ends, is) = read_says u (front, x, from, ends, is)
    says_of (Fault false rest) e (x, more, from) =
        subst (λ l. IsRefused bytes (place l)) (sym from) (syntax_says x more ((whole_laws source).faults.syntax_at deepest items x more (e ∙ ap (Fault false) from)))
    says_of (Fault true rest) e (x, more, from) =
        subst (λ l. IsTooDeepAt bytes (place l)) (sym from) (deep_says x more ((whole_laws source).faults.too_deep_at deepest items x more (e ∙ ap (Fault true) from)))

  -- The answer for the items of a text says what is so of its bytes.
  pub reads_exactly : ReadsExactly
  reads_exactly bytes names items has = says_of bytes names items has (reading.text (record { bytes = bytes; names = names }) items) refl (answer_view bytes names items has)
