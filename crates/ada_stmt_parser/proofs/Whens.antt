-- How parts that begin with `when` go on, as the code reads them.
use Rattle.std.proofs.Common.{◌≡◌, ℕ, zero, suc, ◌+◌, ◌-◌, ◌<◌, ◌≤◌, false, List, [], ◌∷◌, ◌++◌, cond, Some, None, is_some, length, take, drop, get_or, refl, sym, ap, subst, ◌∙◌, arith}
use Rattle.std.proofs.lemmas.Grind.{common_steps}
use Rattle.std.proofs.lemmas.List.{append-nil, append_assoc}
use Rattle.ada_expr_parser.specs.readers.Readers.{Answer, Found, Fault, Reader, go_on, bind, pure, on_token, on}
use Rattle.ada_tree.specs.declared.naming.Span.{Span}
use Rattle.ada_lexer.specs.declared.symbols.Symbol.TheVariants as key
use Rattle.ada_expr_parser.specs.declared.items.Item.{Item}
use Rattle.ada_expr_parser.specs.declared.errors.ParseError.{ParseError}
use Rattle.ada_expr_parser.specs.declared.errors.ParseError.TheVariants.{Syntax, TooDeep, Memory}
use Rattle.ada_expr_parser.specs.Tests.{symbol}
use Rattle.ada_expr_parser.specs.Gives.{Fails, FaultsAt}
use Rattle.ada_expr_parser.proofs.Steps.{fails_go_on}
use Rattle.ada_expr_parser.proofs.Chains.{front_and_rest}
use Rattle.ada_stmt_parser.specs.inner.ReadingStatements.{Whens, with_part, no_whens, whens_in, whens}

-- the parts so far, before those of an answer
abbrev pub ahead : {A B : Type 0} → List A → Answer Item (Whens A B) → Answer Item (Whens A B)
ahead done (Found x rest) = Found (record { parts = done ++ x.parts; others = x.others }) rest
ahead done (Fault deep rest) = Fault deep rest

tail_less : (ts : List Item) → length (take (length ts - 1) (drop 1 ts)) ≤ length ts
tail_less ts = grind (arith, common_steps)

-- what is read behind the parts so far, which are fewer than the turns, is what was to be read at first
pub record WhensGoOn {A B : Type 0} (part : Span → Reader Item A) (others : Span → Reader Item B) (done : List A) (rest all : List Item) : Type 0 where
  pub turns : ℕ
  pub enough : length rest ≤ turns
  pub upto : length rest ≤ length all
  pub same : ahead done (whens_in turns part others rest) ≡ whens part others all

module _ {A B : Type 0} where
  ahead_none : (answer : Answer Item (Whens A B)) → ahead [] answer ≡ answer
  ahead_none (Found x rest) = refl
  ahead_none (Fault deep rest) = refl

  ahead_part : (done : List A) (a : A) (answer : Answer Item (Whens A B)) → ahead done (go_on answer (λ more. pure (with_part a more))) ≡ ahead (done ++ (a ∷ [])) answer
  ahead_part done a (Found x rest) = ap (λ l. Found (record { parts = l; others = x.others }) rest) (sym (append_assoc done (a ∷ []) x.parts))
  ahead_part done a (Fault deep rest) = refl

  fails_ahead : (e : ParseError) (done : List A) (answer : Answer Item (Whens A B)) → Fails e answer → Fails e (ahead done answer)
  fails_ahead Memory done answer h = tt
  fails_ahead (Syntax at) done (Found x rest) h = absurd h
  fails_ahead (Syntax at) done (Fault deep rest) h = h
  fails_ahead (TooDeep at) done (Found x rest) h = absurd h
  fails_ahead (TooDeep at) done (Fault deep rest) h = h

module _ {A B : Type 0} (part : Span → Reader Item A) (others : Span → Reader Item B) where
  -- the first parts are all to come
  pub whens_begin : (all : List Item) → WhensGoOn part others [] all all
  whens_begin all = record { turns = length all; enough = omega arith; upto = omega arith; same = ahead_none (whens part others all) }

  -- what stands behind `when`
  abbrev behind_when : ℕ → Span → Reader Item (Whens A B)
  behind_when t lead =
      on (symbol key.Others) (λ at. bind (others lead) (λ b. pure record { parts = []; others = Some b }))
      (bind (part lead) (λ a. bind (whens_in t part others) (λ more. pure (with_part a more))))

  when_cons : (t : ℕ) (k : Item) (ts : List Item) (lead : Span) → symbol key.When k ≡ Some lead → whens_in (suc t) part others (k ∷ ts) ≡ behind_when t lead ts
  when_cons t k ts lead is = ap (λ o. on_token o (behind_when t) (pure no_whens) k ts) is

  over_cons : (t : ℕ) (k : Item) (ts : List Item) → symbol key.When k ≡ None → whens_in t part others (k ∷ ts) ≡ Found no_whens (k ∷ ts)
  over_cons zero k ts is = ap (λ o. cond (is_some o) (Fault false (k ∷ ts)) (Found no_whens (k ∷ ts))) is
  over_cons (suc t) k ts is = ap (λ o. on_token o (behind_when t) (pure no_whens) k ts) is

  others_cons : (t : ℕ) (lead at : Span) (k : Item) (ts : List Item) → symbol key.Others k ≡ Some at → behind_when t lead (k ∷ ts) ≡ go_on (others lead ts) (λ b. pure record { parts = []; others = Some b })
  others_cons t lead at k ts is = ap (λ o. on_token o (λ at. bind (others lead) (λ b. pure record { parts = []; others = Some b })) (bind (part lead) (λ a. bind (whens_in t part others) (λ more. pure (with_part a more)))) k ts) is

  part_cons : (t : ℕ) (lead : Span) (k : Item) (ts : List Item) → symbol key.Others k ≡ None → behind_when t lead (k ∷ ts) ≡ go_on (part lead (k ∷ ts)) (λ a. bind (whens_in t part others) (λ more. pure (with_part a more)))
  part_cons t lead k ts is = ap (λ o. on_token o (λ at. bind (others lead) (λ b. pure record { parts = []; others = Some b })) (bind (part lead) (λ a. bind (whens_in t part others) (λ more. pure (with_part a more)))) k ts) is

module _ {A B : Type 0} (part : Span → Reader Item A) (others : Span → Reader Item B) (done : List A) (ts all : List Item) (dummy : Item) where
  abbrev tail : List Item
  tail = take (length ts - 1) (drop 1 ts)

  when_more : (turns : ℕ) (lead : Span) → 1 ≤ length ts → length ts ≤ turns → symbol key.When (get_or ts 0 dummy) ≡ Some lead →
      (t : ℕ) × (turns ≡ suc t) × (whens_in turns part others ts ≡ behind_when part others t lead tail)
  when_more zero lead some few is = absurd (omega arith)
  when_more (suc t) lead some enough is =
      let e : ts ≡ get_or ts 0 dummy ∷ tail = front_and_rest ts dummy some in
      (t, refl, ap (whens_in (suc t) part others) e ∙ when_cons part others t (get_or ts 0 dummy) tail lead is)

  -- no part is left
  pub whens_over : WhensGoOn part others done ts all → 1 ≤ length ts → symbol key.When (get_or ts 0 dummy) ≡ None → whens part others all ≡ Found (record { parts = done; others = None }) ts
  whens_over before some is =
      let e : ts ≡ get_or ts 0 dummy ∷ tail = front_and_rest ts dummy some in
      sym before.same ∙ (ap (ahead done) (ap (whens_in before.turns part others) e ∙ over_cons part others before.turns (get_or ts 0 dummy) tail is ∙ ap (Found no_whens) (sym e)) ∙ ap (λ l. Found (record { parts = l; others = None }) ts) (append-nil done))

  module _ (lead : Span) (second : Item) (before : WhensGoOn part others done ts all) (some : 1 ≤ length ts) (more : 1 ≤ length tail) (is : symbol key.When (get_or ts 0 dummy) ≡ Some lead) where
    -- one more part
    pub whens_step : (new : List A) (a : A) (rest : List Item) → new ≡ done ++ a ∷ [] → symbol key.Others (get_or tail 0 second) ≡ None → part lead tail ≡ Found a rest → length rest < length tail → WhensGoOn part others new rest all
    whens_step new a rest longer none found shorter =
        let m = when_more before.turns lead some before.enough is in
        let same : before.turns ≡ suc m.0 = m.1 in
        let less : length tail ≤ length ts = tail_less ts in
        let e : tail ≡ get_or tail 0 second ∷ take (length tail - 1) (drop 1 tail) = front_and_rest tail second more in
        let goes : behind_when part others m.0 lead tail ≡ go_on (part lead tail) (λ a. bind (whens_in m.0 part others) (λ more. pure (with_part a more))) =
        ap (behind_when part others m.0 lead) e ∙ part_cons part others m.0 lead (get_or tail 0 second) (take (length tail - 1) (drop 1 tail)) none ∙ ap (λ l. go_on (part lead l) (λ a. bind (whens_in m.0 part others) (λ more. pure (with_part a more)))) (sym e) in
        record {
          turns = m.0;
          enough = omega (arith, same, before.enough, less, shorter);
          upto = omega (arith, before.upto, less, shorter);
          same = ap (λ l. ahead l (whens_in m.0 part others rest)) longer ∙ (sym (ap (ahead done) (m.2 ∙ (goes ∙ ap (λ r. go_on r (λ a. bind (whens_in m.0 part others) (λ more. pure (with_part a more)))) found)) ∙ ahead_part done a (whens_in m.0 part others rest)) ∙ before.same);
        }

    -- a fault of a part is that of all
    pub whens_fails : (e : ParseError) → symbol key.Others (get_or tail 0 second) ≡ None → Fails e (part lead tail) → Fails e (whens part others all)
    whens_fails e none fails =
        let m = when_more before.turns lead some before.enough is in
        let e1 : tail ≡ get_or tail 0 second ∷ take (length tail - 1) (drop 1 tail) = front_and_rest tail second more in
        let goes : behind_when part others m.0 lead tail ≡ go_on (part lead tail) (λ a. bind (whens_in m.0 part others) (λ more. pure (with_part a more))) =
        ap (behind_when part others m.0 lead) e1 ∙ part_cons part others m.0 lead (get_or tail 0 second) (take (length tail - 1) (drop 1 tail)) none ∙ ap (λ l. go_on (part lead l) (λ a. bind (whens_in m.0 part others) (λ more. pure (with_part a more)))) (sym e1) in
        subst (Fails e) before.same (fails_ahead e done (whens_in before.turns part others ts) (rw (m.2, goes) (fails_go_on e (part lead tail) (λ a. bind (whens_in m.0 part others) (λ more. pure (with_part a more))) fails)))

    -- the part for others is the last
    pub whens_others : (at : Span) (b : B) (rest : List Item) → symbol key.Others (get_or tail 0 second) ≡ Some at → others lead (take (length tail - 1) (drop 1 tail)) ≡ Found b rest → whens part others all ≡ Found (record { parts = done; others = Some b }) rest
    whens_others at b rest said found =
        let m = when_more before.turns lead some before.enough is in
        let e : tail ≡ get_or tail 0 second ∷ take (length tail - 1) (drop 1 tail) = front_and_rest tail second more in
        sym before.same ∙ (ap (ahead done) (m.2 ∙ (ap (behind_when part others m.0 lead) e ∙ (others_cons part others m.0 lead at (get_or tail 0 second) (take (length tail - 1) (drop 1 tail)) said ∙ ap (λ r. go_on r (λ b. pure record { parts = []; others = Some b })) found)))
        ∙ ap (λ l. Found (record { parts = l; others = Some b }) rest) (append-nil done))

    -- a fault of the part for others is that of all
    pub whens_others_fails : (e : ParseError) (at : Span) → symbol key.Others (get_or tail 0 second) ≡ Some at → Fails e (others lead (take (length tail - 1) (drop 1 tail))) → Fails e (whens part others all)
    whens_others_fails e at said fails =
        let m = when_more before.turns lead some before.enough is in
        let e1 : tail ≡ get_or tail 0 second ∷ take (length tail - 1) (drop 1 tail) = front_and_rest tail second more in
        let goes : behind_when part others m.0 lead tail ≡ go_on (others lead (take (length tail - 1) (drop 1 tail))) (λ b. pure record { parts = []; others = Some b }) =
        ap (behind_when part others m.0 lead) e1 ∙ others_cons part others m.0 lead at (get_or tail 0 second) (take (length tail - 1) (drop 1 tail)) said in
        subst (Fails e) before.same (fails_ahead e done (whens_in before.turns part others ts) (rw (m.2, goes) (fails_go_on e (others lead (take (length tail - 1) (drop 1 tail))) (λ b. pure record { parts = []; others = Some b }) fails)))

module _ {A B : Type 0} (part : Span → Reader Item A) (others : Span → Reader Item B) (done : List A) where
  empty : (turns : ℕ) (ts : List Item) → length ts < 1 → FaultsAt false 0 (ahead done (whens_in turns part others ts))
  empty zero [] h = (refl, refl)
  empty (suc t) [] h = (refl, refl)
  empty turns (x ∷ ts) h = absurd (omega arith)

  -- nothing at all is left, not even the end
  pub whens_empty : (ts all : List Item) → WhensGoOn part others done ts all → length ts < 1 → FaultsAt false 0 (whens part others all)
  whens_empty ts all before none = subst (FaultsAt false 0) before.same (empty before.turns ts none)

  cut : (t : ℕ) (lead : Span) (l : List Item) → length l < 1 → FaultsAt false 0 (ahead done (behind_when part others t lead l))
  cut t lead [] h = (refl, refl)
  cut t lead (x ∷ l) h = absurd (omega arith)

  -- nothing stands behind `when`
  pub whens_cut : (ts all : List Item) (dummy : Item) (lead : Span) → WhensGoOn part others done ts all → 1 ≤ length ts → symbol key.When (get_or ts 0 dummy) ≡ Some lead → length (take (length ts - 1) (drop 1 ts)) < 1 →
      FaultsAt false 0 (whens part others all)
  whens_cut ts all dummy lead before some is none =
      let m = when_more part others done ts all dummy before.turns lead some before.enough is in
      subst (FaultsAt false 0) before.same (subst (λ r. FaultsAt false 0 (ahead done r)) (sym m.2) (cut m.0 lead (take (length ts - 1) (drop 1 ts)) none))
