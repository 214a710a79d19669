-- The law of a row of parts in which some parts change what may follow.
use Rattle.std.proofs.Common.{◌≡◌, ℕ, zero, suc, ◌+◌, ◌≤◌, ◌<◌, Bool, true, false, ◌||◌, inl, inr, ⊎_elim, List, [], ◌∷◌, ◌++◌, length, refl, sym, ap, ◌∙◌, subst, arith}
use Rattle.std.specs.Prelude.{if◌then◌else◌}
use Rattle.std.proofs.Math.Nat.{le_refl}
use Rattle.std.proofs.lemmas.List.{append_assoc, append-nil, length-append}
use Rattle.ada_expr_parser.specs.readers.Readers.{Answer, Found, Fault, Reader, pure, bind, go_on, fronted}
use Rattle.ada_expr_parser.specs.readers.Grammars.{Texts, Never, Is, Then, Or, Many, Begins, first_of, Starts}
use Rattle.ada_expr_parser.specs.readers.Lawful.{Careful, Lawful, Shortens}
use Rattle.ada_expr_parser.proofs.readers.Basics.{not_empty}
use Rattle.ada_expr_parser.proofs.readers.Binding.{law_pure, law_bind}
use Rattle.ada_expr_parser.proofs.readers.Choosing.{careful_refuse}
use Rattle.ada_expr_parser.proofs.readers.Fitting.{starts_is, starts_never, starts_then, law_fit}
use Rattle.ada_expr_parser.proofs.readers.Looking.{careful_look, law_look}
use Rattle.ada_parser.specs.inner.ReadingRows.{row_in, row}
use Rattle.ada_parser.proofs.Narrowing.{Narrow, narrow_where, narrow_starts}

-- each part may stand where it does
abbrev pub Fits : {A : Type 0} → (A → Bool) → (Bool → A → Type 0) → Bool → List A → Type 0
Fits turns Allowed behind [] = Unit {0}
Fits turns Allowed behind (a ∷ list) = Allowed behind a × Fits turns Allowed (behind || turns a) list

abbrev pub RowTexts : {K A : Type 0} → (A → Bool) → (Bool → A → Type 0) → Texts K A → Bool → Texts K (List A)
RowTexts turns Allowed Part behind d list text = Many Part d list text × Fits turns Allowed behind list

abbrev FewRow : {K A : Type 0} → (A → Bool) → (Bool → A → Type 0) → Texts K A → ℕ → Bool → Texts K (List A)
FewRow turns Allowed Part n behind d list text = RowTexts turns Allowed Part behind d list text × (length list ≤ n)

-- turns and steps, where each part takes a token
module _ {K A : Type 0} (begins : Bool → K → Bool) (turns : A → Bool) (part : Reader K A) (shortens : Shortens part) where
  abbrev onward : ℕ → Bool → A → Reader K (List A)
  onward n behind a = bind (row_in begins turns part n (behind || turns a)) (λ more. pure (a ∷ more))

  behind_part : (n m : ℕ) (behind : Bool) {ts : List K} (answer : Answer K A) → part ts ≡ answer →
      ((b : Bool) (rest : List K) → length rest < length ts → row_in begins turns part n b rest ≡ row_in begins turns part m b rest) →
      go_on answer (onward n behind) ≡ go_on answer (onward m behind)
  behind_part n m behind (Found a rest) e alike = ap (λ answer. go_on answer (λ more. pure (a ∷ more))) (alike (behind || turns a) rest (shortens _ a rest e))
  behind_part n m behind (Fault deep rest) e alike = refl

  turns_alike : (n m : ℕ) (behind : Bool) (ts : List K) → length ts ≤ n → length ts ≤ m → row_in begins turns part n behind ts ≡ row_in begins turns part m behind ts
  turns_alike zero zero behind ts few enough = refl
  turns_alike zero (suc m) behind [] few enough = refl
  turns_alike (suc n) zero behind [] few enough = refl
  turns_alike zero (suc m) behind (k ∷ ts) few enough = absurd (grind (arith, few))
  turns_alike (suc n) zero behind (k ∷ ts) few enough = absurd (grind (arith, enough))
  turns_alike (suc n) (suc m) behind [] few enough = refl
  turns_alike (suc n) (suc m) behind (k ∷ ts) few enough =
      ap (λ answer. if begins behind k then answer else Found [] (k ∷ ts))
      (behind_part n m behind (part (k ∷ ts)) refl (λ b rest less. turns_alike n m b rest (grind (arith, less, few)) (grind (arith, less, enough))))

  pub row_turns : (n : ℕ) (behind : Bool) (ts : List K) → length ts ≤ n → row begins turns part behind ts ≡ row_in begins turns part n behind ts
  row_turns n behind ts few = turns_alike (length ts) n behind ts (le_refl (length ts)) few

  pub row_more : (behind : Bool) (k : K) (ts : List K) → begins behind k ≡ true →
      row begins turns part behind (k ∷ ts) ≡ go_on (part (k ∷ ts)) (λ a. bind (row begins turns part (behind || turns a)) (λ more. pure (a ∷ more)))
  row_more behind k ts yes_is = ap (λ b. if b then bind part (onward (length ts) behind) (k ∷ ts) else Found [] (k ∷ ts)) yes_is ∙ all_turns (part (k ∷ ts)) refl where
    all_turns : (answer : Answer K A) → part (k ∷ ts) ≡ answer →
        go_on answer (onward (length ts) behind) ≡ go_on answer (λ a. bind (row begins turns part (behind || turns a)) (λ more. pure (a ∷ more)))
    all_turns (Found a rest) e = ap (λ answer. go_on answer (λ more. pure (a ∷ more)))
        (turns_alike (length ts) (length rest) (behind || turns a) rest (let less = shortens (k ∷ ts) a rest e in grind (arith, less)) (le_refl (length rest)))
    all_turns (Fault deep rest) e = refl

  -- A loop: with the parts so far in front, one more part, a fault in one, and the end.
  fronted_part : (done : List A) (a : A) (answer : Answer K (List A)) → fronted done (go_on answer (λ more. pure (a ∷ more))) ≡ fronted (done ++ (a ∷ [])) answer
  fronted_part done a (Found more rest) = ap (λ l. Found l rest) (sym (append_assoc done (a ∷ []) more))
  fronted_part done a (Fault deep rest) = refl

  pub row_step : (done : List A) (behind : Bool) (k : K) (ts : List K) (a : A) (rest : List K) → begins behind k ≡ true → part (k ∷ ts) ≡ Found a rest →
      fronted done (row begins turns part behind (k ∷ ts)) ≡ fronted (done ++ (a ∷ [])) (row begins turns part (behind || turns a) rest)
  row_step done behind k ts a rest yes_is e =
      ap (fronted done) (row_more behind k ts yes_is ∙ ap (λ answer. go_on answer (λ a. bind (row begins turns part (behind || turns a)) (λ more. pure (a ∷ more)))) e) ∙
      fronted_part done a (row begins turns part (behind || turns a) rest)

  pub row_fault : (done : List A) (behind : Bool) (k : K) (ts : List K) (deep : Bool) (rest : List K) → begins behind k ≡ true → part (k ∷ ts) ≡ Fault deep rest →
      fronted done (row begins turns part behind (k ∷ ts)) ≡ Fault deep rest
  row_fault done behind k ts deep rest yes_is e =
      ap (fronted done) (row_more behind k ts yes_is ∙ ap (λ answer. go_on answer (λ a. bind (row begins turns part (behind || turns a)) (λ more. pure (a ∷ more)))) e)

  pub row_end : (done : List A) (behind : Bool) (k : K) (ts : List K) → begins behind k ≡ false → fronted done (row begins turns part behind (k ∷ ts)) ≡ Found done (k ∷ ts)
  row_end done behind k ts no_is =
      ap (λ b. fronted done (if b then bind part (onward (length ts) behind) (k ∷ ts) else Found [] (k ∷ ts))) no_is ∙ ap (λ l. Found l (k ∷ ts)) (append-nil done)

-- The first token says where a part may stand.
pub record SaysWhere {K A : Type 0} (begins : Bool → K → Bool) (Allowed : Bool → A → Type 0) (Part : Texts K A) (d : ℕ) (a : A) (text : List K) : Type 0 where
  pub k : K
  pub more : List K
  pub text_is : text ≡ k ∷ more
  pub only : (behind : Bool) → begins behind k ≡ true → Allowed behind a
  pub all : (behind : Bool) → Allowed behind a → begins behind k ≡ true

module _ {K A : Type 0} (turns : A → Bool) {d : ℕ} {begins : Bool → K → Bool} {part part' : Reader K A} {Part : Texts K A} {Allowed : Bool → A → Type 0} {U S : K → Type 0}
    (part_law : Lawful d part part' Part U) (says : (e : ℕ) (a : A) (text : List K) → Part e a text → SaysWhere begins Allowed Part e a text)
    (before_part : (behind : Bool) (k : K) → begins behind k ≡ true → U k) (at_end : (x : K) → S x → U x) (ends : (behind : Bool) (x : K) → S x → begins behind x ≡ false) where
  row_starts : (n : ℕ) (behind : Bool) → Starts d (FewRow turns Allowed Part n behind) S U
  row_starts n behind = record { begins_with = λ list text x is stop. starts_of list text x is.0.0 is.0.1 stop } where
    starts_of : (list : List A) (text : List K) (x : K) → Many Part d list text → Fits turns Allowed behind list → S x → U (first_of x text)
    starts_of [] text x none fit stop = rw none (at_end x stop)
    starts_of (a ∷ list) text x (f, g, is, one, more) fit stop =
        let said = says d a f one in rw is (rw said.text_is (before_part behind said.k (said.all behind fit.0)))

  abbrev MoreTexts : ℕ → Bool → Texts K (List A)
  MoreTexts n behind = Then Part (λ a. Then (FewRow turns Allowed Part n (behind || turns a)) (λ more. Is (a ∷ more)))

  none_of : (n : ℕ) (behind : Bool) (e : ℕ) (list : List A) (text : List K) → Or Never (Is []) e list text → FewRow turns Allowed Part n behind e list text
  none_of n behind e list text (inl never) = absurd never
  none_of n behind e list text (inr (same, none)) = rw same ((none, tt), omega arith)

  to_none : (behind : Bool) (list : List A) (text : List K) → FewRow turns Allowed Part 0 behind d list text → Or Never (Is []) d list text
  to_none behind [] text ((none, fit), few) = inr (refl, none)
  to_none behind (a ∷ list) text (many, few) = absurd (grind (arith, few))

  to_few : (n : ℕ) (behind : Bool) (e : ℕ) (list : List A) (text : List K) → Or (Narrow (begins behind) (MoreTexts n behind)) (Is []) e list text → FewRow turns Allowed Part (suc n) behind e list text
  to_few n behind e list text (inl is) = few_of is.spells where
    few_of : MoreTexts n behind e list text → FewRow turns Allowed Part (suc n) behind e list text
    few_of (a, f, g, from, one, (more, h, none, also, ((many, fit), few), (same, empty))) =
        let said = says e a f one in
        let first : is.k ≡ said.k = ap (first_of is.k) (sym is.text_is ∙ from ∙ ap (λ l. l ++ g) said.text_is) in
        rw same (
          ((f, h, from ∙ ap (λ l. f ++ l) (also ∙ ap (λ l. h ++ l) empty ∙ append-nil h), one, many), (said.only behind (subst (λ k. begins behind k ≡ true) first is.passes), fit)),
          omega (arith, few),
        )
  to_few n behind e list text (inr (same, none)) = rw same ((none, tt), omega arith)

  from_few : (n : ℕ) (behind : Bool) (list : List A) (text : List K) → FewRow turns Allowed Part (suc n) behind d list text → Or (Narrow (begins behind) (MoreTexts n behind)) (Is []) d list text
  from_few n behind [] text ((none, fit), few) = inr (refl, none)
  from_few n behind (a ∷ list) text (((f, g, is, one, many), (may, fit)), few) =
      let said = says d a f one in
      inl (record {
        k = said.k;
        more = said.more ++ g;
        text_is = is ∙ ap (λ l. l ++ g) said.text_is;
        passes = said.all behind may;
        spells = (a, f, g, is, one, (list, g, [], sym (append-nil g), ((many, fit), omega (arith, few)), (refl, refl)));
      })

  some_part : (n : ℕ) (behind : Bool) (list : List A) → MoreTexts n behind d list [] → ⊥
  some_part n behind list (a, f, g, from, one, rest) = let said = says d a f one in not_empty [] said.k (said.more ++ g) (from ∙ ap (λ l. l ++ g) said.text_is)

  in_law : (n : ℕ) (behind : Bool) → Lawful d (row_in begins turns part n behind) (row_in begins turns part' n behind) (FewRow turns Allowed Part n behind) S
  in_law zero behind = law_fit (λ e deep list text is. none_of 0 behind e list text is) (to_none behind)
      (law_look (careful_refuse d S) (law_pure d [] S) starts_never (starts_is (ends behind)))
  in_law (suc n) behind = law_fit (λ e deep list text is. to_few n behind e list text is) (from_few n behind) (record {
    careful = careful_look
        (narrow_where (begins behind)
        (law_bind part_law (λ a. law_bind (in_law n (behind || turns a)) (λ more. law_pure d (a ∷ more) S) (λ more. starts_is (λ x stop. stop)))
        (λ a. starts_then (row_starts n (behind || turns a)) (λ more. starts_is (λ x stop. stop)))).careful
        (some_part n behind))
        (law_pure d [] S).careful narrow_starts (starts_is (ends behind));
    some_text = λ e deep. ([], [], inr (refl, refl));
  })

  pub part_shortens : Shortens part
  part_shortens ts a rest e =
      let (f, is, one) = part_law.careful.sound e in
      let said = says d a f one in
      rw (is ∙ ap (λ l. l ++ rest) said.text_is) (let parts = length-append said.more rest in grind (arith, parts))

  many_few : (list : List A) (text : List K) → Many Part d list text → length list ≤ length text
  many_few [] text none = omega arith
  many_few (a ∷ list) text (f, g, is, one, more) =
      let said = says d a f one in
      let few = many_few list g more in
      rw (is ∙ ap (λ l. l ++ g) said.text_is) (let parts = length-append said.more g in grind (arith, parts, few))

  begins_row : (n : ℕ) (behind : Bool) (e : ℕ) (front : List K) → Begins (FewRow turns Allowed Part n behind e) front → Begins (RowTexts turns Allowed Part behind e) front
  begins_row n behind e front (list, more, (many, few)) = (list, more, many)

  row_careful : (behind : Bool) → Careful d (row begins turns part behind) (row begins turns part' behind) (RowTexts turns Allowed Part behind) S
  row_careful behind = record {
    sound = λ {ts} e. let (f, is, (many, few)) = (in_law (length ts) behind).careful.sound e in (f, is, many);
    complete = λ {a = list} {front} x rest many stop.
        let parts = length-append front (x ∷ rest) in
        let few = many_few list front many.0 in
        (in_law (length (front ++ (x ∷ rest))) behind).careful.complete x rest (many, omega (arith, parts, few)) stop;
    viable = λ {ts} e. let (f, is, some) = (in_law (length ts) behind).careful.viable e in (f, is, ⊎_elim inl (λ b. inr (begins_row (length ts) behind d f b)) some);
    only_deeper = λ {ts} {x} e. let (f, is, e', deep, some) = (in_law (length ts) behind).careful.only_deeper e in (f, is, e', deep, begins_row (length ts) behind e' (f ++ (x ∷ [])) some);
    found_alike = λ front {a = list} {x} {rest} other e.
        let n = length (front ++ (x ∷ rest)) + length (front ++ (x ∷ other)) in
        row_turns begins turns part part_shortens n behind (front ++ (x ∷ other)) (omega arith) ∙
        (in_law n behind).careful.found_alike front other (sym (row_turns begins turns part part_shortens n behind (front ++ (x ∷ rest)) (omega arith)) ∙ e);
    fault_alike = λ front {deep} {x} {rest} other e.
        let n = length (front ++ (x ∷ rest)) + length (front ++ (x ∷ other)) in
        row_turns begins turns part part_shortens n behind (front ++ (x ∷ other)) (omega arith) ∙
        (in_law n behind).careful.fault_alike front other (sym (row_turns begins turns part part_shortens n behind (front ++ (x ∷ rest)) (omega arith)) ∙ e);
    found_deeper = λ {ts} e. (in_law (length ts) behind).careful.found_deeper e;
    fault_deeper = λ {ts} e. (in_law (length ts) behind).careful.fault_deeper e;
    grows = λ {a = list} {front} e deep many. ((in_law (length list) behind).careful.grows e deep (many, le_refl (length list))).0;
  }

  pub law_row : (behind : Bool) → Lawful d (row begins turns part behind) (row begins turns part' behind) (RowTexts turns Allowed Part behind) S
  law_row behind = record { careful = row_careful behind; some_text = λ e deep. ([], [], (refl, tt)) }
