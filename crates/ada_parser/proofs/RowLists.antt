-- How a row of declarations goes on, as the code reads it.
use Rattle.std.proofs.Common.{◌≡◌, ◌-◌, ◌<◌, ◌≤◌, Bool, true, false, ◌||◌, List, [], ◌∷◌, ◌++◌, length, take, drop, get_or, refl, sym, ap, subst, ◌∙◌, arith}
use Rattle.ada_expr_parser.specs.readers.Readers.{Answer, Found, Fault, Reader, fronted}
use Rattle.ada_expr_parser.specs.readers.Lawful.{Shortens}
use Rattle.ada_expr_parser.specs.declared.items.Item.{Item}
use Rattle.ada_expr_parser.specs.declared.errors.ParseError.{ParseError}
use Rattle.ada_expr_parser.specs.declared.errors.ParseError.TheVariants.{Syntax, TooDeep, Memory}
use Rattle.ada_expr_parser.specs.Gives.{Fails, FaultsAt}
use Rattle.ada_expr_parser.proofs.Chains.{front_and_rest}
use Rattle.ada_parser.specs.inner.ReadingRows.{row}
use Rattle.ada_parser.proofs.Rows.{row_step, row_fault, row_end}

-- what is read behind the parts so far is what was to be read behind the first ones
abbrev pub RowGoesOn : {A : Type 0} → (Bool → Item → Bool) → (A → Bool) → Reader Item A → List A → Bool → List Item → List A → Bool → List Item → Type 0
RowGoesOn begins turns part done behind rest begun first all =
    (length rest ≤ length all) × (fronted done (row begins turns part behind rest) ≡ fronted begun (row begins turns part first all))

module _ {A : Type 0} (begins : Bool → Item → Bool) (turns : A → Bool) (part : Reader Item A) (shortens : Shortens part) (done begun : List A) (behind first : Bool) (ts all : List Item) (dummy : Item) where
  -- one more part
  pub row_goes : (new : List A) (now : Bool) (a : A) (rest : List Item) → new ≡ done ++ a ∷ [] → now ≡ (behind || turns a) → RowGoesOn begins turns part done behind ts begun first all → 1 ≤ length ts → begins behind (get_or ts 0 dummy) ≡ true → part ts ≡ Found a rest →
      RowGoesOn begins turns part new now rest begun first all
  row_goes new now a rest longer turned (upto, same) some yes_is found =
      let e : ts ≡ get_or ts 0 dummy ∷ take (length ts - 1) (drop 1 ts) = front_and_rest ts dummy some in
      let less : length rest < length ts = shortens ts a rest found in (
        omega (arith, less, upto),
        (λ i. fronted (longer i) (row begins turns part (turned i) rest)) ∙
            (sym (row_step begins turns part shortens done behind (get_or ts 0 dummy) (take (length ts - 1) (drop 1 ts)) a rest yes_is (ap part (sym e) ∙ found)) ∙ (ap (λ l. fronted done (row begins turns part behind l)) (sym e) ∙ same)),
      )

  fault_goes : (deep : Bool) (rest : List Item) → 1 ≤ length ts → begins behind (get_or ts 0 dummy) ≡ true → part ts ≡ Fault deep rest → fronted done (row begins turns part behind ts) ≡ Fault deep rest
  fault_goes deep rest some yes_is fault =
      let e : ts ≡ get_or ts 0 dummy ∷ take (length ts - 1) (drop 1 ts) = front_and_rest ts dummy some in
      ap (λ l. fronted done (row begins turns part behind l)) e ∙ row_fault begins turns part shortens done behind (get_or ts 0 dummy) (take (length ts - 1) (drop 1 ts)) deep rest yes_is (ap part (sym e) ∙ fault)

  fails_by : (e : ParseError) (answer : Answer Item A) (whole : Answer Item (List A)) → ((deep : Bool) (rest : List Item) → answer ≡ Fault deep rest → whole ≡ Fault deep rest) → Fails e answer → Fails e whole
  fails_by Memory answer whole each fails = tt
  fails_by (Syntax at) (Found a rest) whole each never = absurd never
  fails_by (Syntax at) (Fault deep rest) whole each fails = subst (Fails (Syntax at)) (sym (each deep rest refl)) fails
  fails_by (TooDeep at) (Found a rest) whole each never = absurd never
  fails_by (TooDeep at) (Fault deep rest) whole each fails = subst (Fails (TooDeep at)) (sym (each deep rest refl)) fails

  -- a fault of a part is that of the row
  pub row_fails : (e : ParseError) → RowGoesOn begins turns part done behind ts begun first all → 1 ≤ length ts → begins behind (get_or ts 0 dummy) ≡ true → Fails e (part ts) → Fails e (fronted begun (row begins turns part first all))
  row_fails e (upto, same) some yes_is fails =
      subst (Fails e) same (fails_by e (part ts) (fronted done (row begins turns part behind ts)) (λ deep rest fault. fault_goes deep rest some yes_is fault) fails)

  -- no part is left
  pub row_over : RowGoesOn begins turns part done behind ts begun first all → 1 ≤ length ts → begins behind (get_or ts 0 dummy) ≡ false → fronted begun (row begins turns part first all) ≡ Found done ts
  row_over (upto, same) some no_is =
      let e : ts ≡ get_or ts 0 dummy ∷ take (length ts - 1) (drop 1 ts) = front_and_rest ts dummy some in
      sym same ∙ (ap (λ l. fronted done (row begins turns part behind l)) e ∙ row_end begins turns part shortens done behind (get_or ts 0 dummy) (take (length ts - 1) (drop 1 ts)) no_is ∙ ap (Found done) (sym e))

module _ {A : Type 0} (begins : Bool → Item → Bool) (turns : A → Bool) (part : Reader Item A) (done begun : List A) (behind first : Bool) where
  empty : (ts : List Item) → length ts < 1 → FaultsAt false 0 (fronted done (row begins turns part behind ts))
  empty [] none = (refl, refl)
  empty (x ∷ ts) none = absurd (omega (arith, none))

  -- nothing at all is left, not even the end
  pub row_empty : (ts all : List Item) → RowGoesOn begins turns part done behind ts begun first all → length ts < 1 → FaultsAt false 0 (fronted begun (row begins turns part first all))
  row_empty ts all (upto, same) none = subst (FaultsAt false 0) same (empty ts none)
