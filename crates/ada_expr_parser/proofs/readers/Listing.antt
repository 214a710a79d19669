-- The laws of single tokens and of lists of items.
use Rattle.std.proofs.Common.{◌≡◌, ℕ, zero, suc, ◌+◌, ◌≤◌, ◌<◌, Bool, true, false, inl, inr, ⊎_elim, List, [], ◌∷◌, ◌++◌, length, refl, sym, ap, ◌∙◌, Option, Some, arith}
use Rattle.std.specs.Prelude.{if◌then◌else◌}
use Rattle.std.proofs.Math.Nat.{le_refl}
use Rattle.std.proofs.lemmas.List.{append_assoc, append-nil, length-append}
use Rattle.ada_expr_parser.specs.readers.Readers.{Answer, Found, Fault, Reader, pure, bind, go_on, token, items_in, items, some_items, fronted}
use Rattle.ada_expr_parser.specs.readers.Grammars.{Texts, Never, Is, One, Then, Or, Many, Some_of, Begins, first_of, Starts, Opens}
use Rattle.ada_expr_parser.specs.readers.Lawful.{Careful, Lawful, Shortens}
use Rattle.ada_expr_parser.proofs.readers.Binding.{law_pure, law_bind}
use Rattle.ada_expr_parser.proofs.readers.Choosing.{careful_refuse, law_on}
use Rattle.ada_expr_parser.proofs.readers.Fitting.{starts_is, starts_never, starts_then, starts_opens, opens_then, law_fit}
use Rattle.ada_expr_parser.proofs.readers.Looking.{law_look}

-- one token
pub law_token : {K B : Type 0} {d : ℕ} {test : K → Option B} {S : K → Type 0} → (k : K) (b : B) → test k ≡ Some b → Lawful d (token test) (token test) (One test) S
law_token {d = d} {test = test} {S = S} k b some = law_fit
    (λ e deep a text is. only_one test e a text is)
    (λ a text (x, is, same). inl (a, x ∷ [], [], is, (x, refl, same), (refl, refl)))
    (law_on (λ c. law_pure d c S) (careful_refuse d S) starts_never k b some) where
      only_one : {K B : Type 0} (test : K → Option B) (e : ℕ) (a : B) (text : List K) → Or (Then (One test) Is) Never e a text → One test e a text
      only_one test e a text (inl (b, one, back, is, (x, one_is, same), (tree, none))) = (x, is ∙ ap (λ l. l ++ back) one_is ∙ ap (λ l. x ∷ l) none, same ∙ ap Some (sym tree))
      only_one test e a text (inr none) = absurd none

-- Turns and steps of a list of items, each of which takes a token.
module _ {K A : Type 0} (begins : K → Bool) (item : Reader K A) (shortens : Shortens item) where
  -- so many turns serve where there are no more tokens
  behind_item : (n m : ℕ) {ts : List K} (answer : Answer K A) → item ts ≡ answer →
      ((rest : List K) → length rest < length ts → items_in n begins item rest ≡ items_in m begins item rest) →
      go_on answer (λ a. bind (items_in n begins item) (λ more. pure (a ∷ more))) ≡ go_on answer (λ a. bind (items_in m begins item) (λ more. pure (a ∷ more)))
  behind_item n m (Found a rest) e alike = ap (λ answer. go_on answer (λ more. pure (a ∷ more))) (alike rest (shortens _ a rest e))
  behind_item n m (Fault deep rest) e alike = refl

  turns_alike : (n m : ℕ) (ts : List K) → length ts ≤ n → length ts ≤ m → items_in n begins item ts ≡ items_in m begins item ts
  turns_alike zero zero ts few enough = refl
  turns_alike zero (suc m) [] few enough = refl
  turns_alike (suc n) zero [] few enough = refl
  turns_alike zero (suc m) (k ∷ ts) few enough = absurd (grind (arith, few))
  turns_alike (suc n) zero (k ∷ ts) few enough = absurd (grind (arith, enough))
  turns_alike (suc n) (suc m) [] few enough = refl
  turns_alike (suc n) (suc m) (k ∷ ts) few enough =
      ap (λ answer. if begins k then answer else Found [] (k ∷ ts))
      (behind_item n m (item (k ∷ ts)) refl (λ rest less. turns_alike n m rest (grind (arith, less, few)) (grind (arith, less, enough))))

  pub items_turns : (n : ℕ) (ts : List K) → length ts ≤ n → items begins item ts ≡ items_in n begins item ts
  items_turns n ts few = turns_alike (length ts) n ts (le_refl (length ts)) few

  pub items_more : (k : K) (ts : List K) → begins k ≡ true →
      items begins item (k ∷ ts) ≡ go_on (item (k ∷ ts)) (λ a. bind (items begins item) (λ more. pure (a ∷ more)))
  items_more k ts yes_is = ap (λ b. if b then bind item (λ a. bind (items_in (length ts) begins item) (λ more. pure (a ∷ more))) (k ∷ ts) else Found [] (k ∷ ts)) yes_is ∙
      all_turns (item (k ∷ ts)) refl where
        all_turns : (answer : Answer K A) → item (k ∷ ts) ≡ answer →
            go_on answer (λ a. bind (items_in (length ts) begins item) (λ more. pure (a ∷ more))) ≡ go_on answer (λ a. bind (items begins item) (λ more. pure (a ∷ more)))
        all_turns (Found a rest) e = ap (λ answer. go_on answer (λ more. pure (a ∷ more)))
            (turns_alike (length ts) (length rest) rest (let less = shortens (k ∷ ts) a rest e in grind (arith, less)) (le_refl (length rest)))
        all_turns (Fault deep rest) e = refl

  -- A loop: with the items so far in front, one more item, a fault in one, and the end.
  fronted_item : (done : List A) (a : A) (answer : Answer K (List A)) → fronted done (go_on answer (λ more. pure (a ∷ more))) ≡ fronted (done ++ (a ∷ [])) answer
  fronted_item done a (Found more rest) = ap (λ l. Found l rest) (sym (append_assoc done (a ∷ []) more))
  fronted_item done a (Fault deep rest) = refl

  pub items_step : (done : List A) (k : K) (ts : List K) (a : A) (rest : List K) → begins k ≡ true → item (k ∷ ts) ≡ Found a rest →
      fronted done (items begins item (k ∷ ts)) ≡ fronted (done ++ (a ∷ [])) (items begins item rest)
  items_step done k ts a rest yes_is e =
      ap (fronted done) (items_more k ts yes_is ∙ ap (λ answer. go_on answer (λ a. bind (items begins item) (λ more. pure (a ∷ more)))) e) ∙
      fronted_item done a (items begins item rest)

  pub items_fault : (done : List A) (k : K) (ts : List K) (deep : Bool) (rest : List K) → begins k ≡ true → item (k ∷ ts) ≡ Fault deep rest →
      fronted done (items begins item (k ∷ ts)) ≡ Fault deep rest
  items_fault done k ts deep rest yes_is e =
      ap (fronted done) (items_more k ts yes_is ∙ ap (λ answer. go_on answer (λ a. bind (items begins item) (λ more. pure (a ∷ more)))) e)

  pub items_end : (done : List A) (k : K) (ts : List K) → begins k ≡ false → fronted done (items begins item (k ∷ ts)) ≡ Found done (k ∷ ts)
  items_end done k ts no_is =
      ap (λ b. fronted done (if b then bind item (λ a. bind (items_in (length ts) begins item) (λ more. pure (a ∷ more))) (k ∷ ts) else Found [] (k ∷ ts))) no_is ∙
      ap (λ l. Found l (k ∷ ts)) (append-nil done)

-- at most so many
abbrev Few : {K A : Type 0} → ℕ → Texts K A → Texts K (List A)
Few n Item d list text = Many Item d list text × (length list ≤ n)

module _ {K A : Type 0} {d : ℕ} {begins : K → Bool} {item item' : Reader K A} {Item : Texts K A} {U S : K → Type 0}
    (item_law : Lawful d item item' Item U) (opens : Opens d Item begins)
    (before_item : (k : K) → begins k ≡ true → U k) (at_end : (x : K) → S x → U x) (ends : (x : K) → S x → begins x ≡ false) where
  few_starts : (n : ℕ) → Starts d (Few n Item) S U
  few_starts n = record { begins_with = λ list text x (many, few) stop. many_starts list text x many stop } where
    many_starts : (list : List A) (text : List K) (x : K) → Many Item d list text → S x → U (first_of x text)
    many_starts [] text x none stop = rw none (at_end x stop)
    many_starts (a ∷ list) text x (f, g, is, one, more) stop =
        let (k, rest, from, yes_is) = opens.opens_with a f one in rw is (rw from (before_item k yes_is))

  none_of : (n e : ℕ) (list : List A) (text : List K) → Or Never (Is []) e list text → Few n Item e list text
  none_of n e list text (inl never) = absurd never
  none_of n e list text (inr (same, none)) = rw same (none, omega arith)

  to_none : (list : List A) (text : List K) → Few 0 Item d list text → Or Never (Is []) d list text
  to_none [] text (none, few) = inr (refl, none)
  to_none (a ∷ list) text (many, few) = absurd (grind (arith, few))

  to_few : (n e : ℕ) (list : List A) (text : List K) → Or (Then Item (λ a. Then (Few n Item) (λ more. Is (a ∷ more)))) (Is []) e list text → Few (suc n) Item e list text
  to_few n e list text (inl (a, f, g, is, one, (more, h, none, also, (many, few), (same, empty)))) =
      rw same ((f, h, is ∙ ap (λ l. f ++ l) (also ∙ ap (λ l. h ++ l) empty ∙ append-nil h), one, many), omega (arith, few))
  to_few n e list text (inr (same, none)) = rw same (none, omega arith)

  from_few : (n : ℕ) (list : List A) (text : List K) → Few (suc n) Item d list text → Or (Then Item (λ a. Then (Few n Item) (λ more. Is (a ∷ more)))) (Is []) d list text
  from_few n [] text (none, few) = inr (refl, none)
  from_few n (a ∷ list) text ((f, g, is, one, many), few) = inl (a, f, g, is, one, (list, g, [], sym (append-nil g), (many, omega (arith, few)), (refl, refl)))

  -- at most so many items
  in_law : (n : ℕ) → Lawful d (items_in n begins item) (items_in n begins item') (Few n Item) S
  in_law zero = law_fit (λ e deep list text is. none_of 0 e list text is) to_none
      (law_look (careful_refuse d S) (law_pure d [] S) starts_never (starts_is ends))
  in_law (suc n) = law_fit (λ e deep list text is. to_few n e list text is) (from_few n)
      (law_look (law_bind item_law (λ a. law_bind (in_law n) (λ more. law_pure d (a ∷ more) S) (λ more. starts_is (λ x stop. stop)))
      (λ a. starts_then (few_starts n) (λ more. starts_is (λ x stop. stop)))).careful
      (law_pure d [] S) (starts_opens (opens_then opens)) (starts_is ends))

  -- an item takes a token
  pub item_shortens : Shortens item
  item_shortens ts a rest e =
      let (f, is, one) = item_law.careful.sound e in
      let (k, more, from, yes_is) = opens.opens_with a f one in
      rw (is ∙ ap (λ l. l ++ rest) from) (let parts = length-append more rest in grind (arith, parts))

  many_few : (list : List A) (text : List K) → Many Item d list text → length list ≤ length text
  many_few [] text none = omega arith
  many_few (a ∷ list) text (f, g, is, one, more) =
      let (k, rest, from, yes_is) = opens.opens_with a f one in
      let few = many_few list g more in
      rw (is ∙ ap (λ l. l ++ g) from) (let parts = length-append rest g in grind (arith, parts, few))

  begins_many : (n e : ℕ) (front : List K) → Begins (Few n Item e) front → Begins (Many Item e) front
  begins_many n e front (list, more, (many, few)) = (list, more, many)

  items_complete : (list : List A) (front : List K) (x : K) (rest : List K) → Many Item d list front → S x → items begins item (front ++ (x ∷ rest)) ≡ Found list (x ∷ rest)
  items_complete list front x rest many stop =
      let parts = length-append front (x ∷ rest) in
      let few = many_few list front many in
      (in_law (length (front ++ (x ∷ rest)))).careful.complete x rest (many, omega (arith, parts, few)) stop

  items_careful : Careful d (items begins item) (items begins item') (Many Item) S
  items_careful = record {
    sound = λ {ts} e. let (f, is, (many, few)) = (in_law (length ts)).careful.sound e in (f, is, many);
    complete = λ {a = list} {front} x rest many stop. items_complete list front x rest many stop;
    viable = λ {ts} e. let (f, is, some) = (in_law (length ts)).careful.viable e in (f, is, ⊎_elim inl (λ b. inr (begins_many (length ts) d f b)) some);
    only_deeper = λ {ts} {x} e. let (f, is, e', deep, some) = (in_law (length ts)).careful.only_deeper e in (f, is, e', deep, begins_many (length ts) e' (f ++ (x ∷ [])) some);
    found_alike = λ front {a = list} {x} {rest} other e.
        let n = length (front ++ (x ∷ rest)) + length (front ++ (x ∷ other)) in
        items_turns begins item item_shortens n (front ++ (x ∷ other)) (omega arith) ∙ (in_law n).careful.found_alike front other (sym (items_turns begins item item_shortens n (front ++ (x ∷ rest)) (omega arith)) ∙ e);
    fault_alike = λ front {deep} {x} {rest} other e.
        let n = length (front ++ (x ∷ rest)) + length (front ++ (x ∷ other)) in
        items_turns begins item item_shortens n (front ++ (x ∷ other)) (omega arith) ∙ (in_law n).careful.fault_alike front other (sym (items_turns begins item item_shortens n (front ++ (x ∷ rest)) (omega arith)) ∙ e);
    found_deeper = λ {ts} e. (in_law (length ts)).careful.found_deeper e;
    fault_deeper = λ {ts} e. (in_law (length ts)).careful.fault_deeper e;
    grows = λ {a = list} {front} e deep many. ((in_law (length list)).careful.grows e deep (many, le_refl (length list))).0;
  }

  pub law_items : Lawful d (items begins item) (items begins item') (Many Item) S
  law_items = record { careful = items_careful; some_text = λ e deep. ([], [], refl) }

  many_starts_end : Starts d (Many Item) S U
  many_starts_end = record { begins_with = λ list text x many stop. (few_starts (length list)).begins_with list text x (many, le_refl (length list)) stop }

  to_some : (e : ℕ) (list : List A) (text : List K) → Then Item (λ a. Then (Many Item) (λ more. Is (a ∷ more))) e list text → Some_of Item e list text
  to_some e list text (a, f, g, is, one, (more, h, none, also, many, (same, empty))) =
      rw same (f, h, is ∙ ap (λ l. f ++ l) (also ∙ ap (λ l. h ++ l) empty ∙ append-nil h), one, many)

  from_some : (list : List A) (text : List K) → Some_of Item d list text → Then Item (λ a. Then (Many Item) (λ more. Is (a ∷ more))) d list text
  from_some [] text never = absurd never
  from_some (a ∷ list) text (f, g, is, one, many) = (a, f, g, is, one, (list, g, [], sym (append-nil g), many, (refl, refl)))

  pub law_some_items : Lawful d (some_items begins item) (some_items begins item') (Some_of Item) S
  law_some_items = law_fit (λ e deep list text is. to_some e list text is) from_some
      (law_bind item_law (λ a. law_bind law_items (λ more. law_pure d (a ∷ more) S) (λ more. starts_is (λ x stop. stop)))
      (λ a. starts_then many_starts_end (λ more. starts_is (λ x stop. stop))))
