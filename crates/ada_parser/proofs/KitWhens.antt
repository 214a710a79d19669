-- The law of parts that begin with `when`, the last of which may be for `others`.
use Rattle.std.proofs.Common.{◌≡◌, ℕ, zero, suc, ◌+◌, ◌≤◌, inl, inr, ⊎_elim, List, [], ◌∷◌, ◌++◌, length, Option, Some, None, refl, sym, ap, ◌∙◌, subst, arith, true, ◌⊎◌}
use Rattle.std.specs.Prelude.{is_some}
use Rattle.std.proofs.Math.Nat.{le_refl}
use Rattle.std.proofs.lemmas.List.{append-nil, length-append}
use Rattle.ada_tree.specs.declared.naming.Span.{Span}
use Rattle.ada_lexer.specs.declared.symbols.Symbol.TheVariants as key
use Rattle.ada_expr_parser.specs.declared.items.Item.{Item}
use Rattle.ada_expr_parser.specs.Tests.{symbol}
use Rattle.ada_expr_parser.specs.Grammar.{symbol_item}
use Rattle.ada_phrase_parser.specs.Spelling.{Spelling}
use Rattle.ada_phrase_parser.specs.Reading.{is_symbol}
use Rattle.ada_stmt_parser.specs.inner.ReadingStatements.{Whens, with_part, no_whens, whens_in, whens}
use Rattle.ada_expr_parser.specs.readers.Readers.{Answer, Reader, Found, Fault, go_on, pure, bind, on, on_token, look, refuse}
use Rattle.ada_expr_parser.specs.readers.Grammars.{Texts, Never, Is, One, Then, Or, Begins, Starts, first_of}
use Rattle.ada_expr_parser.specs.readers.Lawful.{Careful, Lawful, IsPassed}
use Rattle.ada_expr_parser.proofs.readers.Binding.{law_pure, law_bind}
use Rattle.ada_expr_parser.proofs.readers.Choosing.{careful_refuse, law_on}
use Rattle.ada_expr_parser.proofs.readers.Basics.{not_both, found_through, found_tree, not_empty}
use Rattle.ada_expr_parser.proofs.readers.Looking.{law_look, careful_look, CarefulWhere}
use Rattle.ada_expr_parser.proofs.readers.Fitting.{starts_is, starts_never, starts_then, law_fit, careful_fit}
use Rattle.ada_parser.proofs.expression_laws.Plainly.{after_symbol, symbol_then}
use Rattle.ada_parser.proofs.expression_laws.Tokens.{symbol_takes}
use Rattle.ada_parser.proofs.expression_laws.Primaries.{no_place}
use Rattle.ada_parser.proofs.KitLeading.{symbol_at}

-- `when` and a part
abbrev pub WhenPart : {A : Type 0} → (Span → Texts Item A) → ℕ → A → Spelling
WhenPart P d a text = (lead : Span) × (back : List Item) × (text ≡ symbol_item key.When lead ∷ back) × P lead d a back

-- `when others` and what follows
abbrev pub WhenLast : {B : Type 0} → (Span → Texts Item B) → ℕ → B → Spelling
WhenLast O d b text = (lead : Span) × (at : Span) × (back : List Item) × (text ≡ symbol_item key.When lead ∷ symbol_item key.Others at ∷ back) × O lead d b back

abbrev pub LastText : {B : Type 0} → (Span → Texts Item B) → ℕ → Option B → Spelling
LastText O d None text = text ≡ []
LastText O d (Some b) text = WhenLast O d b text

abbrev pub PartTexts : {A B : Type 0} → (Span → Texts Item A) → (Span → Texts Item B) → ℕ → List A → Option B → Spelling
PartTexts P O d [] o text = LastText O d o text
PartTexts P O d (a ∷ more) o text = (front : List Item) × (back : List Item) × (text ≡ front ++ back) × WhenPart P d a front × PartTexts P O d more o back

abbrev pub WhensTexts : {A B : Type 0} → (Span → Texts Item A) → (Span → Texts Item B) → Texts Item (Whens A B)
WhensTexts P O d x text = PartTexts P O d x.parts x.others text

-- some part
abbrev pub IsSomePart : {A B : Type 0} → List A → Option B → Type 0
IsSomePart [] None = ⊥
IsSomePart list o = Unit {0}

abbrev pub SomeTexts : {A B : Type 0} → (Span → Texts Item A) → (Span → Texts Item B) → Texts Item (Whens A B)
SomeTexts P O d x text = IsSomePart x.parts x.others × WhensTexts P O d x text

-- how many parts there are
abbrev one_if : {B : Type 0} → Option B → ℕ
one_if None = 0
one_if (Some b) = 1

abbrev count : {A B : Type 0} → List A → Option B → ℕ
count [] o = one_if o
count (a ∷ more) o = suc (count more o)

abbrev last_of : {A B : Type 0} → B → Whens A B
last_of b = record { parts = []; others = Some b }

module _ {A B : Type 0} {d : ℕ} {part part' : Span → Reader Item A} {others others' : Span → Reader Item B} {P : Span → Texts Item A} {O : Span → Texts Item B} {U S : Item → Type 0}
    (part_law : (lead : Span) → Lawful d (part lead) (part' lead) (P lead) U) (others_law : (lead : Span) → Lawful d (others lead) (others' lead) (O lead) S)
    (apart : (lead : Span) → Starts d (P lead) U (IsPassed (symbol key.Others))) (at_when : (at : Span) → U (symbol_item key.When at))
    (at_end : (x : Item) → S x → U x) (ends : (x : Item) → S x → symbol key.When x ≡ None) where
  abbrev Few : ℕ → Texts Item (Whens A B)
  Few n e x text = WhensTexts P O e x text × (count x.parts x.others ≤ n)

  abbrev Step : ℕ → Span → Texts Item (Whens A B)
  Step n lead = Or (Then (One (symbol key.Others)) (λ at. Then (O lead) (λ b. Is (last_of b)))) (Then (P lead) (λ a. Then (Few n) (λ more. Is (with_part a more))))

  -- what begins a list, or follows the empty one
  parts_start : (list : List A) (o : Option B) (text : List Item) (x : Item) → PartTexts P O d list o text → S x → U (first_of x text)
  parts_start [] None text x none stop = rw none (at_end x stop)
  parts_start [] (Some b) text x (lead, at, back, from, is) stop = rw from (at_when lead)
  parts_start (a ∷ more) o text x (front, back, from, (lead, rest, one, is), many) stop = rw from (rw one (at_when lead))

  few_starts : (n : ℕ) → Starts d (Few n) S U
  few_starts n = record { begins_with = λ x text k (is, few) stop. parts_start x.parts x.others text k is stop }

  no_when : Starts d (Is {A = Whens A B} no_whens) S (IsPassed (symbol key.When))
  no_when = starts_is ends

  -- none
  none_few : (e : ℕ) (x : Whens A B) (text : List Item) → Or Never (Is no_whens) e x text → Few 0 e x text
  none_few e x text (inl never) = absurd never
  none_few e x text (inr (same, none)) = rw same (none, omega arith)

  few_none : (parts : List A) (o : Option B) (text : List Item) → Few 0 d (record { parts = parts; others = o }) text → Or Never (Is no_whens) d (record { parts = parts; others = o }) text
  few_none [] None text (none, few) = inr (refl, none)
  few_none [] (Some b) text (is, few) = absurd (omega (arith, few))
  few_none (a ∷ more) o text (is, few) = absurd (omega (arith, few))

  -- one more
  step_few : (n e : ℕ) (x : Whens A B) (text : List Item) → Or (Then (One (symbol key.When)) (Step n)) (Is no_whens) e x text → Few (suc n) e x text
  step_few n e x text (inr (same, none)) = rw same (none, omega arith)
  step_few n e x text (inl taken) =
      let (lead, back, from, step) = after_symbol key.When (Step n) e x text taken in
      step_from lead back from step where
        step_from : (lead : Span) (back : List Item) → text ≡ symbol_item key.When lead ∷ back → Step n lead e x back → Few (suc n) e x text
        step_from lead back from (inl last) =
            let (at, more, split, (b, front, rest, parted, is, (same, none))) = after_symbol key.Others (λ at. Then (O lead) (λ b. Is (last_of b))) e x back last in
            rw same (
              (lead, at, front, from ∙ ap (λ l. symbol_item key.When lead ∷ l) (split ∙ ap (λ l. symbol_item key.Others at ∷ l) (parted ∙ ap (λ l. front ++ l) none ∙ append-nil front)), is),
              omega arith,
            )
        step_from lead back from (inr (a, front, rest, split, is, (more, many, none, parted, (texts, few), (same, empty)))) =
            rw same (
              (symbol_item key.When lead ∷ front, many, from ∙ ap (λ l. symbol_item key.When lead ∷ l) (split ∙ ap (λ l. front ++ l) (parted ∙ ap (λ l. many ++ l) empty ∙ append-nil many)), (lead, front, refl, is), texts),
              omega (arith, few),
            )

  few_step : (n : ℕ) (parts : List A) (o : Option B) (text : List Item) → Few (suc n) d (record { parts = parts; others = o }) text →
      Or (Then (One (symbol key.When)) (Step n)) (Is no_whens) d (record { parts = parts; others = o }) text
  few_step n [] None text (none, few) = inr (refl, none)
  few_step n [] (Some b) text ((lead, at, back, from, is), few) = inl (subst (Then (One (symbol key.When)) (Step n) d (last_of b)) (sym from)
      (symbol_then key.When (Step n) d (last_of b) lead (symbol_item key.Others at ∷ back)
      (inl (symbol_then key.Others (λ at. Then (O lead) (λ b. Is (last_of b))) d (last_of b) at back (b, back, [], sym (append-nil back), is, (refl, refl))))))
  few_step n (a ∷ more) o text ((front, back, from, (lead, rest, one, is), many), few) =
      let x : Whens A B = record { parts = a ∷ more; others = o } in
      inl (subst (Then (One (symbol key.When)) (Step n) d x) (sym (from ∙ ap (λ l. l ++ back) one))
      (symbol_then key.When (Step n) d x lead (rest ++ back)
      (inr (a, rest, back, refl, is, (record { parts = more; others = o }, back, [], sym (append-nil back), (many, omega (arith, few)), (refl, refl))))))

  in_law : (n : ℕ) → Lawful d (whens_in n part others) (whens_in n part' others') (Few n) S
  in_law zero = law_fit (λ e deep x text is. none_few e x text is) (λ x text is. few_none x.parts x.others text is)
      (law_look {test = is_symbol key.When} (careful_refuse d S) (law_pure d no_whens S) starts_never (starts_is (λ x stop. ap is_some (ends x stop))))
  in_law (suc n) = law_fit (λ e deep x text is. step_few n e x text is) (λ x text is. few_step n x.parts x.others text is)
      (law_on {test = symbol key.When}
      (λ lead. law_on {test = symbol key.Others}
      (λ at. law_bind (others_law lead) (λ b. law_pure d (last_of b) S) (λ b. starts_is (λ x stop. stop)))
      (law_bind (part_law lead) (λ a. law_bind (in_law n) (λ more. law_pure d (with_part a more) S) (λ more. starts_is (λ x stop. stop)))
      (λ a. starts_then (few_starts n) (λ more. starts_is (λ x stop. stop)))).careful
      (starts_then (apart lead) (λ a. starts_then (few_starts n) (λ more. starts_is (λ x stop. stop))))
      (symbol_item key.Others no_place) no_place (symbol_takes key.Others no_place))
      (law_pure d no_whens S).careful no_when (symbol_item key.When no_place) no_place (symbol_takes key.When no_place))

  -- a part leaves no more than it was given
  no_longer : (lead : Span) (ts : List Item) (a : A) (rest : List Item) → part lead ts ≡ Found a rest → length rest ≤ length ts
  no_longer lead ts a rest e =
      let (f, is, text) = (part_law lead).careful.sound e in
      rw is (let parts = length-append f rest in omega (arith, parts))

  -- readers of what follows a part that are alike on no longer lists
  abbrev Alike : Reader Item (Whens A B) → Reader Item (Whens A B) → ℕ → Type 0
  Alike q q' most = (rest : List Item) → length rest ≤ most → q rest ≡ q' rest

  behind_part : (q q' : Reader Item (Whens A B)) (answer : Answer Item A) (most : ℕ) → ((a : A) (rest : List Item) → answer ≡ Found a rest → length rest ≤ most) → Alike q q' most →
      go_on answer (λ a. bind q (λ more. pure (with_part a more))) ≡ go_on answer (λ a. bind q' (λ more. pure (with_part a more)))
  behind_part q q' (Found a rest) most few alike = ap (λ answer. go_on answer (λ more. pure (with_part a more))) (alike rest (few a rest refl))
  behind_part q q' (Fault deep rest) most few alike = refl

  -- behind `when`
  abbrev behind : Reader Item (Whens A B) → Span → Reader Item (Whens A B)
  behind q lead = on (symbol key.Others) (λ at. bind (others lead) (λ b. pure (last_of b))) (bind (part lead) (λ a. bind q (λ more. pure (with_part a more))))

  behind_when : (q q' : Reader Item (Whens A B)) (lead : Span) (ts : List Item) → Alike q q' (length ts) → behind q lead ts ≡ behind q' lead ts
  behind_when q q' lead [] alike = refl
  behind_when q q' lead (k ∷ ts) alike = by (symbol key.Others k) where
    by : (o : Option Span) →
        on_token o (λ at. bind (others lead) (λ b. pure (last_of b))) (bind (part lead) (λ a. bind q (λ more. pure (with_part a more)))) k ts ≡
        on_token o (λ at. bind (others lead) (λ b. pure (last_of b))) (bind (part lead) (λ a. bind q' (λ more. pure (with_part a more)))) k ts
    by (Some at) = refl
    by None = behind_part q q' (part lead (k ∷ ts)) (length (k ∷ ts)) (λ a rest e. no_longer lead (k ∷ ts) a rest e) alike

  turn : (o : Option Span) (q q' : Reader Item (Whens A B)) (k : Item) (ts : List Item) → Alike q q' (length ts) → on_token o (behind q) (pure no_whens) k ts ≡ on_token o (behind q') (pure no_whens) k ts
  turn (Some lead) q q' k ts alike = behind_when q q' lead ts alike
  turn None q q' k ts alike = refl

  turns_alike : (n m : ℕ) (ts : List Item) → length ts ≤ n → length ts ≤ m → whens_in n part others ts ≡ whens_in m part others ts
  turns_alike zero zero ts few enough = refl
  turns_alike zero (suc m) [] few enough = refl
  turns_alike (suc n) zero [] few enough = refl
  turns_alike zero (suc m) (k ∷ ts) few enough = absurd (grind (arith, few))
  turns_alike (suc n) zero (k ∷ ts) few enough = absurd (grind (arith, enough))
  turns_alike (suc n) (suc m) [] few enough = refl
  turns_alike (suc n) (suc m) (k ∷ ts) few enough =
      turn (symbol key.When k) (whens_in n part others) (whens_in m part others) k ts (λ rest less. turns_alike n m rest (grind (arith, less, few)) (grind (arith, less, enough)))

  pub whens_turns : (n : ℕ) (ts : List Item) → length ts ≤ n → whens part others ts ≡ whens_in n part others ts
  whens_turns n ts few = turns_alike (length ts) n ts (le_refl (length ts)) few

  count_few : (list : List A) (o : Option B) (text : List Item) → PartTexts P O d list o text → count list o ≤ length text
  count_few [] None text none = omega arith
  count_few [] (Some b) text (lead, at, back, from, is) = rw from (omega arith)
  count_few (a ∷ more) o text (front, back, from, (lead, rest, one, is), many) =
      let few = count_few more o back many in
      rw (from ∙ ap (λ l. l ++ back) one) (let parts = length-append rest back in grind (arith, parts, few))

  begins_whens : (n e : ℕ) (front : List Item) → Begins (Few n e) front → Begins (WhensTexts P O e) front
  begins_whens n e front (x, more, (is, few)) = (x, more, is)

  whens_complete : (x : Whens A B) (front : List Item) (k : Item) (rest : List Item) → WhensTexts P O d x front → S k → whens part others (front ++ (k ∷ rest)) ≡ Found x (k ∷ rest)
  whens_complete x front k rest is stop =
      let parts = length-append front (k ∷ rest) in
      let few = count_few x.parts x.others front is in
      (in_law (length (front ++ (k ∷ rest)))).careful.complete k rest (is, omega (arith, parts, few)) stop

  whens_careful : Careful d (whens part others) (whens part' others') (WhensTexts P O) S
  whens_careful = record {
    sound = λ {ts} e. let (f, is, (text, few)) = (in_law (length ts)).careful.sound e in (f, is, text);
    complete = λ {a = x} {front} k rest is stop. whens_complete x front k rest is stop;
    viable = λ {ts} e. let (f, is, some) = (in_law (length ts)).careful.viable e in (f, is, ⊎_elim inl (λ b. inr (begins_whens (length ts) d f b)) some);
    only_deeper = λ {ts} {x} e. let (f, is, e', deep, some) = (in_law (length ts)).careful.only_deeper e in (f, is, e', deep, begins_whens (length ts) e' (f ++ (x ∷ [])) some);
    found_alike = λ front {a} {x} {rest} other e.
        let n = length (front ++ (x ∷ rest)) + length (front ++ (x ∷ other)) in
        whens_turns n (front ++ (x ∷ other)) (omega arith) ∙ (in_law n).careful.found_alike front other (sym (whens_turns n (front ++ (x ∷ rest)) (omega arith)) ∙ e);
    fault_alike = λ front {deep} {x} {rest} other e.
        let n = length (front ++ (x ∷ rest)) + length (front ++ (x ∷ other)) in
        whens_turns n (front ++ (x ∷ other)) (omega arith) ∙ (in_law n).careful.fault_alike front other (sym (whens_turns n (front ++ (x ∷ rest)) (omega arith)) ∙ e);
    found_deeper = λ {ts} e. (in_law (length ts)).careful.found_deeper e;
    fault_deeper = λ {ts} e. (in_law (length ts)).careful.fault_deeper e;
    grows = λ {a = x} {front} e deep is. ((in_law (count x.parts x.others)).careful.grows e deep (is, le_refl (count x.parts x.others))).0;
  }

  pub law_whens : Lawful d (whens part others) (whens part' others') (WhensTexts P O) S
  law_whens = record { careful = whens_careful; some_text = λ e deep. (no_whens, [], refl) }

  pub starts_whens : Starts d (WhensTexts P O) S U
  starts_whens = record { begins_with = λ x text k is stop. parts_start x.parts x.others text k is stop }

  -- ---- one at least

  has_some : (n : ℕ) (lead : Span) (ts : List Item) (x : Whens A B) (rest : List Item) → behind (whens_in n part others) lead ts ≡ Found x rest → IsSomePart x.parts x.others
  has_some n lead [] x rest e = absurd (not_both (sym e))
  has_some n lead (k ∷ ts) x rest e = by (symbol key.Others k) e where
    by : (o : Option Span) → on_token o (λ at. bind (others lead) (λ b. pure (last_of b))) (bind (part lead) (λ a. bind (whens_in n part others) (λ more. pure (with_part a more)))) k ts ≡ Found x rest → IsSomePart x.parts x.others
    by (Some at) e =
        let (b, middle, one, two) = found_through (others lead ts) (λ b. pure (last_of b)) e in
        subst (λ y. IsSomePart y.parts y.others) (found_tree two) tt
    by None e =
        let (a, middle, one, two) = found_through (part lead (k ∷ ts)) (λ a. bind (whens_in n part others) (λ more. pure (with_part a more))) e in
        let (more, last, three, four) = found_through (whens_in n part others middle) (λ more. pure (with_part a more)) two in
        subst (λ y. IsSomePart y.parts y.others) (found_tree four) tt

  found_some : (k : Item) (ts : List Item) (x : Whens A B) (rest : List Item) → is_symbol key.When k ≡ true → whens part others (k ∷ ts) ≡ Found x rest → IsSomePart x.parts x.others
  found_some k ts x rest is e =
      let (lead, from) = symbol_at key.When k is in
      let taken : symbol key.When k ≡ Some lead = ap (symbol key.When) from ∙ symbol_takes key.When lead in
      has_some (length ts) lead ts x rest (sym (ap (λ m. on_token m (behind (whens_in (length ts) part others)) (pure no_whens) k ts) taken) ∙ e)

  some_or : (list : List A) (o : Option B) (e : ℕ) (text : List Item) → PartTexts P O e list o text → (text ≡ []) ⊎ IsSomePart list o
  some_or [] None e text none = inl none
  some_or [] (Some b) e text is = inr tt
  some_or (a ∷ more) o e text is = inr tt

  empty_front : (f g : List Item) → f ++ g ≡ [] → f ≡ []
  empty_front [] g none = refl
  empty_front (x ∷ f) g none = absurd (not_empty [] x (f ++ g) (sym none))

  begins_some_part : (e : ℕ) (front : List Item) → Begins (WhensTexts P O e) front → (front ≡ []) ⊎ Begins (SomeTexts P O e) front
  begins_some_part e front (x, more, is) = ⊎_elim (λ none. inl (empty_front front more none)) (λ some. inr (x, more, (some, is))) (some_or x.parts x.others e (front ++ more) is)

  begins_last : (e : ℕ) (front : List Item) (k : Item) → Begins (WhensTexts P O e) (front ++ (k ∷ [])) → Begins (SomeTexts P O e) (front ++ (k ∷ []))
  begins_last e front k some = ⊎_elim (λ none. absurd (not_empty front k [] (sym none))) (λ is. is) (begins_some_part e (front ++ (k ∷ [])) some)

  some_where : CarefulWhere (is_symbol key.When) d (whens part others) (whens part' others') (SomeTexts P O) S
  some_where = record {
    sound = λ {k} {ts} {a = x} {rest} is e. let (f, from, text) = whens_careful.sound e in (f, from, (found_some k ts x rest is e, text));
    complete = λ x rest from is text stop. whens_careful.complete x rest text.1 stop;
    viable = λ is e. let (f, from, some) = whens_careful.viable e in (f, from, ⊎_elim inl (begins_some_part d f) some);
    only_deeper = λ {k} {ts} {x} is e. let (f, from, e', deep, some) = whens_careful.only_deeper e in (f, from, e', deep, begins_last e' f x some);
    found_alike = λ front other is e. whens_careful.found_alike front other e;
    fault_alike = λ front other is e. whens_careful.fault_alike front other e;
    found_deeper = λ {k} {ts} is e. whens_careful.found_deeper {ts = k ∷ ts} e;
    fault_deeper = λ {k} {ts} is e. whens_careful.fault_deeper {ts = k ∷ ts} e;
    grows = λ e deep text. (text.0, whens_careful.grows e deep text.1);
  }

  some_starts : (list : List A) (o : Option B) (text : List Item) (x : Item) → IsSomePart list o → PartTexts P O d list o text → is_symbol key.When (first_of x text) ≡ true
  some_starts [] None text x never is = absurd never
  some_starts [] (Some b) text x some (lead, at, back, from, is) = rw from (ap is_some (symbol_takes key.When lead))
  some_starts (a ∷ more) o text x some (front, back, from, (lead, rest, one, is), many) = rw from (rw one (ap is_some (symbol_takes key.When lead)))

  some_is : (e : ℕ) (x : Whens A B) (text : List Item) → Or (SomeTexts P O) Never e x text → SomeTexts P O e x text
  some_is e x text (inl is) = is
  some_is e x text (inr never) = absurd never

  pub law_some_whens : Lawful d (look (is_symbol key.When) (whens part others) refuse) (look (is_symbol key.When) (whens part' others') refuse) (SomeTexts P O) S
  law_some_whens = record {
    careful = careful_fit (λ e deep x text is. some_is e x text is) (λ x text is. inl is)
        (careful_look some_where (careful_refuse d S) (record { begins_with = λ x text k (some, is) stop. some_starts x.parts x.others text k some is }) starts_never);
    some_text = λ e deep.
        let (a, f, is) = (part_law no_place).some_text e deep in
        (record { parts = a ∷ []; others = None }, symbol_item key.When no_place ∷ f, (tt, (symbol_item key.When no_place ∷ f, [], sym (append-nil (symbol_item key.When no_place ∷ f)), (no_place, f, refl, is), refl)));
  }
