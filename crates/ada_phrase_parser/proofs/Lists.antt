-- How a list goes on, as the code reads it.
use Rattle.std.proofs.Common.{◌≡◌, ℕ, zero, suc, ◌-◌, ◌<◌, ◌≤◌, Bool, true, false, cond, List, [], ◌∷◌, ◌++◌, length, map, take, drop, get_or, refl, sym, ap, subst, ◌∙◌, arith}
use Rattle.std.proofs.lemmas.List.{append-nil, append_assoc, map-append}
use Rattle.ada_expr_parser.specs.readers.Readers.{Answer, Found, Fault, Reader, go_on, bind, pure, items_in, items, fronted}
use Rattle.ada_expr_parser.specs.declared.items.Item.{Item}
use Rattle.ada_expr_parser.specs.declared.errors.ParseError.{ParseError}
use Rattle.ada_expr_parser.specs.declared.errors.ParseError.TheVariants.{Syntax, TooDeep, Memory}
use Rattle.ada_expr_parser.specs.Gives.{Fails, FaultsAt}
use Rattle.ada_expr_parser.proofs.Steps.{fails_go_on}
use Rattle.ada_expr_parser.proofs.Chains.{front_and_rest}

-- what is read behind the items so far, which are fewer than the turns, is what was to be read behind the first ones
abbrev pub GoesOn : {A : Type 0} → (Item → Bool) → Reader Item A → List A → List A → List Item → List Item → Type 0
GoesOn begins item done begun rest all =
    (turns : ℕ) × (length rest ≤ turns) × (length rest ≤ length all) × (fronted done (items_in turns begins item rest) ≡ fronted begun (items begins item all))

-- a list of the code with one more, seen plainly
pub grown : {X A : Type 0} (f : X → A) (old new : List X) (x : X) → new ≡ old ++ x ∷ [] → map f new ≡ map f old ++ f x ∷ []
grown f old new x e = rw (e, map-append) refl

module _ {A : Type 0} where
  fronted_item : (done : List A) (a : A) (answer : Answer Item (List A)) → fronted done (go_on answer (λ more. pure (a ∷ more))) ≡ fronted (done ++ (a ∷ [])) answer
  fronted_item done a (Found more rest) = ap (λ l. Found l rest) (sym (append_assoc done (a ∷ []) more))
  fronted_item done a (Fault deep rest) = refl

  fails_fronted : (e : ParseError) (done : List A) (answer : Answer Item (List A)) → Fails e answer → Fails e (fronted done answer)
  fails_fronted Memory done answer h = tt
  fails_fronted (Syntax at) done (Found more rest) h = absurd h
  fails_fronted (Syntax at) done (Fault deep rest) h = h
  fails_fronted (TooDeep at) done (Found more rest) h = absurd h
  fails_fronted (TooDeep at) done (Fault deep rest) h = h

  -- what one more item is before
  abbrev onward : ℕ → (Item → Bool) → Reader Item A → A → Reader Item (List A)
  onward turns begins item a = bind (items_in turns begins item) (λ more. pure (a ∷ more))

  more_cons : (begins : Item → Bool) (item : Reader Item A) (t : ℕ) (k : Item) (ts : List Item) → begins k ≡ true → items_in (suc t) begins item (k ∷ ts) ≡ go_on (item (k ∷ ts)) (onward t begins item)
  more_cons begins item t k ts yes_is = ap (λ b. cond b (go_on (item (k ∷ ts)) (onward t begins item)) (Found [] (k ∷ ts))) yes_is

  over_cons : (begins : Item → Bool) (item : Reader Item A) (turns : ℕ) (k : Item) (ts : List Item) → begins k ≡ false → items_in turns begins item (k ∷ ts) ≡ Found [] (k ∷ ts)
  over_cons begins item zero k ts no_is = ap (λ b. cond b (Fault false (k ∷ ts)) (Found [] (k ∷ ts))) no_is
  over_cons begins item (suc t) k ts no_is = ap (λ b. cond b (go_on (item (k ∷ ts)) (onward t begins item)) (Found [] (k ∷ ts))) no_is

module _ {A : Type 0} (begins : Item → Bool) (item : Reader Item A) (done begun : List A) (ts all : List Item) (dummy : Item) where
  list_more : (turns : ℕ) → 1 ≤ length ts → length ts ≤ turns → begins (get_or ts 0 dummy) ≡ true → (t : ℕ) × (turns ≡ suc t) × (items_in turns begins item ts ≡ go_on (item ts) (onward t begins item))
  list_more zero some few yes_is = absurd (omega arith)
  list_more (suc t) some enough yes_is =
      let e : ts ≡ get_or ts 0 dummy ∷ take (length ts - 1) (drop 1 ts) = front_and_rest ts dummy some in (
        t,
        refl,
        ap (items_in (suc t) begins item) e ∙ more_cons begins item t (get_or ts 0 dummy) (take (length ts - 1) (drop 1 ts)) yes_is ∙ ap (λ l. go_on (item l) (onward t begins item)) (sym e),
      )

  -- one more item
  pub list_goes :
      (new : List A) (a : A) (rest : List Item) → new ≡ done ++ a ∷ [] → GoesOn begins item done begun ts all → 1 ≤ length ts → begins (get_or ts 0 dummy) ≡ true → item ts ≡ Found a rest → length rest < length ts →
      GoesOn begins item new begun rest all
  list_goes new a rest longer (turns, enough, upto, same) some yes_is found shorter =
      let m = list_more turns some enough yes_is in
      let next : turns ≡ suc m.0 = m.1 in (
        m.0,
        omega (arith, next, enough, shorter),
        omega (arith, upto, shorter),
        ap (λ l. fronted l (items_in m.0 begins item rest)) longer ∙ (sym (ap (fronted done) (m.2 ∙ ap (λ r. go_on r (onward m.0 begins item)) found) ∙ fronted_item done a (items_in m.0 begins item rest)) ∙ same),
      )

  -- a fault of an item is that of the list
  pub list_fails : (e : ParseError) → GoesOn begins item done begun ts all → 1 ≤ length ts → begins (get_or ts 0 dummy) ≡ true → Fails e (item ts) → Fails e (fronted begun (items begins item all))
  list_fails e (turns, enough, upto, same) some yes_is fails =
      let m = list_more turns some enough yes_is in
      subst (Fails e) same (fails_fronted e done (items_in turns begins item ts) (subst (Fails e) (sym m.2) (fails_go_on e (item ts) (onward m.0 begins item) fails)))

  -- no item is left
  pub list_over : GoesOn begins item done begun ts all → 1 ≤ length ts → begins (get_or ts 0 dummy) ≡ false → fronted begun (items begins item all) ≡ Found done ts
  list_over (turns, enough, upto, same) some no_is =
      let e : ts ≡ get_or ts 0 dummy ∷ take (length ts - 1) (drop 1 ts) = front_and_rest ts dummy some in
      sym same ∙ (ap (fronted done) (ap (items_in turns begins item) e ∙ over_cons begins item turns (get_or ts 0 dummy) (take (length ts - 1) (drop 1 ts)) no_is ∙ ap (Found []) (sym e)) ∙ ap (λ l. Found l ts) (append-nil done))

module _ {A : Type 0} (begins : Item → Bool) (item : Reader Item A) (done begun : List A) where
  empty : (turns : ℕ) (ts : List Item) → length ts < 1 → FaultsAt false 0 (fronted done (items_in turns begins item ts))
  empty zero [] h = (refl, refl)
  empty (suc t) [] h = (refl, refl)
  empty turns (x ∷ ts) h = absurd (omega arith)

  -- nothing at all is left, not even the end
  pub list_empty : (ts all : List Item) → GoesOn begins item done begun ts all → length ts < 1 → FaultsAt false 0 (fronted begun (items begins item all))
  list_empty ts all (turns, enough, upto, same) none = subst (FaultsAt false 0) same (empty turns ts none)
