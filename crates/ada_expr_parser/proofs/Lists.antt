-- How a list goes on, as the code reads it.
use Rattle.std.proofs.Common.{◌≡◌, ℕ, zero, suc, ◌+◌, ◌-◌, ◌<◌, ◌≤◌, Bool, true, false, cond, List, [], ◌∷◌, ◌++◌, length, take, drop, get_or, refl, sym, ap, ◌∙◌, arith}
use Rattle.std.proofs.lemmas.List.{append-nil, append_assoc}
use Rattle.ada_expr_parser.specs.readers.Readers.{Answer, Found, Fault, Reader, go_on, bind, pure, items_in, fronted}
use Rattle.ada_tree.specs.PlainExpr.{PExpr}
use Rattle.ada_expr_parser.specs.declared.items.Item.{Item}
use Rattle.ada_expr_parser.specs.declared.errors.ParseError.{ParseError}
use Rattle.ada_expr_parser.specs.declared.errors.ParseError.TheVariants.{Syntax, TooDeep, Memory}
use Rattle.ada_expr_parser.specs.Gives.{Fails}
use Rattle.ada_expr_parser.proofs.Steps.{fails_go_on}
use Rattle.ada_expr_parser.proofs.Chains.{front_and_rest}

fronted_item : (done : List PExpr) (a : PExpr) (answer : Answer Item (List PExpr)) → fronted done (go_on answer (λ more. pure (a ∷ more))) ≡ fronted (done ++ (a ∷ [])) answer
fronted_item done a (Found more rest) = ap (λ l. Found l rest) (sym (append_assoc done (a ∷ []) more))
fronted_item done a (Fault deep rest) = refl

fails_fronted : (e : ParseError) (done : List PExpr) (answer : Answer Item (List PExpr)) → Fails e answer → Fails e (fronted done answer)
fails_fronted Memory done answer h = tt
fails_fronted (Syntax at) done (Found more rest) h = absurd h
fails_fronted (Syntax at) done (Fault deep rest) h = h
fails_fronted (TooDeep at) done (Found more rest) h = absurd h
fails_fronted (TooDeep at) done (Fault deep rest) h = h

-- what one more item is before
abbrev pub onward : ℕ → (Item → Bool) → Reader Item PExpr → PExpr → Reader Item (List PExpr)
onward turns begins item a = bind (items_in turns begins item) (λ more. pure (a ∷ more))

more_cons : (begins : Item → Bool) (item : Reader Item PExpr) (t : ℕ) (k : Item) (ts : List Item) → begins k ≡ true → items_in (suc t) begins item (k ∷ ts) ≡ go_on (item (k ∷ ts)) (onward t begins item)
more_cons begins item t k ts yes_is = ap (λ b. cond b (go_on (item (k ∷ ts)) (onward t begins item)) (Found [] (k ∷ ts))) yes_is

over_cons : (begins : Item → Bool) (item : Reader Item PExpr) (turns : ℕ) (k : Item) (ts : List Item) → begins k ≡ false → items_in turns begins item (k ∷ ts) ≡ Found [] (k ∷ ts)
over_cons begins item zero k ts no_is = ap (λ b. cond b (Fault false (k ∷ ts)) (Found [] (k ∷ ts))) no_is
over_cons begins item (suc t) k ts no_is = ap (λ b. cond b (go_on (item (k ∷ ts)) (onward t begins item)) (Found [] (k ∷ ts))) no_is

module _ (begins : Item → Bool) (item : Reader Item PExpr) (done : List PExpr) (turns : ℕ) (ts : List Item) (dummy : Item) where
  list_more : 1 ≤ length ts → length ts ≤ turns → begins (get_or ts 0 dummy) ≡ true → (t : ℕ) × (turns ≡ suc t) × (items_in turns begins item ts ≡ go_on (item ts) (onward t begins item))
  list_more some enough yes_is = step turns enough
    where
      step : (n : ℕ) → length ts ≤ n → (t : ℕ) × (n ≡ suc t) × (items_in n begins item ts ≡ go_on (item ts) (onward t begins item))
      step zero few = absurd (omega arith)
      step (suc t) few =
          let e : ts ≡ get_or ts 0 dummy ∷ take (length ts - 1) (drop 1 ts) = front_and_rest ts dummy some in (
            t,
            refl,
            ap (items_in (suc t) begins item) e ∙ more_cons begins item t (get_or ts 0 dummy) (take (length ts - 1) (drop 1 ts)) yes_is ∙ ap (λ l. go_on (item l) (onward t begins item)) (sym e),
          )

  -- one more item
  pub list_goes :
      (a : PExpr) (rest : List Item) → 1 ≤ length ts → length ts ≤ turns → begins (get_or ts 0 dummy) ≡ true → item ts ≡ Found a rest → length rest < length ts →
      (t : ℕ) × (length rest ≤ t) × (fronted done (items_in turns begins item ts) ≡ fronted (done ++ (a ∷ [])) (items_in t begins item rest))
  list_goes a rest some enough yes_is found shorter =
      let m = list_more some enough yes_is in
      let same : turns ≡ suc m.0 = m.1 in (
        m.0,
        omega (arith, same),
        ap (fronted done) (m.2 ∙ ap (λ r. go_on r (onward m.0 begins item)) found) ∙ fronted_item done a (items_in m.0 begins item rest),
      )

  -- a fault of an item is that of the list
  pub list_fails : (e : ParseError) → 1 ≤ length ts → length ts ≤ turns → begins (get_or ts 0 dummy) ≡ true → Fails e (item ts) → Fails e (fronted done (items_in turns begins item ts))
  list_fails e some enough yes_is fails =
      let m = list_more some enough yes_is in
      fails_fronted e done (items_in turns begins item ts) (rw m.2 (fails_go_on e (item ts) (onward m.0 begins item) fails))

  -- no item is left
  pub list_over : 1 ≤ length ts → begins (get_or ts 0 dummy) ≡ false → fronted done (items_in turns begins item ts) ≡ Found done ts
  list_over some no_is =
      let e : ts ≡ get_or ts 0 dummy ∷ take (length ts - 1) (drop 1 ts) = front_and_rest ts dummy some in
      ap (fronted done) (ap (items_in turns begins item) e ∙ over_cons begins item turns (get_or ts 0 dummy) (take (length ts - 1) (drop 1 ts)) no_is ∙ ap (Found []) (sym e)) ∙ ap (λ l. Found l ts) (append-nil done)
