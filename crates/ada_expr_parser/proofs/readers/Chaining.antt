-- The law of chains of operators, nested to the left.
use Rattle.std.proofs.Common.{◌≡◌, ℕ, zero, suc, max, ◌+◌, ◌≤◌, ◌<◌, Bool, true, false, inl, inr, ⊎_elim, List, [], ◌∷◌, ◌++◌, refl, sym, ap, ◌∙◌, subst, arith}
use Rattle.std.specs.Prelude.{if◌then◌else◌, nat_le}
use Rattle.std.proofs.lemmas.List.{append_assoc, append-nil}
use Rattle.ada_expr_parser.specs.readers.Readers.{Reader, Operators, pure, bind, look, too_deep, chain_in, chain}
use Rattle.ada_expr_parser.specs.readers.Grammars.{Texts, Is, Then, Or, Below, Begins, Up_to, AreChains, Joined, first_of, Starts}
use Rattle.ada_expr_parser.specs.readers.Lawful.{Lawful, LawfulOperators, IsYes}
use Rattle.ada_expr_parser.proofs.readers.Binding.{law_pure, careful_bind}
use Rattle.ada_expr_parser.proofs.readers.Fitting.{first_append, starts_is, starts_then, careful_fit, law_fit}
use Rattle.ada_expr_parser.proofs.readers.Deepening.{law_shifted}
use Rattle.ada_expr_parser.proofs.readers.Looking.{decided, careful_where, too_deep_where, careful_look}

module _ {K A O : Type 0} (ops : Operators K A O) (Op : A → O → List K → Type 0) (T : A → List K → Type 0) where
  -- so many operators with their operands behind a tree
  abbrev pub Tail : ℕ → A → Texts K A
  Tail zero left d a text = (a ≡ left) × (text ≡ [])
  Tail (suc n) left d a text =
      (ops.height left < d) × Then (λ e. Op left) (λ o. Then (Below (Up_to ops.height T)) (λ right. Tail n (ops.join left o right))) d a text

  -- some of them
  abbrev pub Tails : A → Texts K A
  Tails left d a text = (n : ℕ) × Tail n left d a text

  -- at least one
  abbrev pub More : A → Texts K A
  More left d a text = (ops.height left < d) × Then (λ e. Op left) (λ o. Then (Below (Up_to ops.height T)) (λ right. Tails (ops.join left o right))) d a text

  one_more : (left : A) (d : ℕ) (a : A) (text : List K) → More left d a text → Tails left d a text
  one_more left d a text (low, (o, s, g, is, sign, (r, b, m, also, operand, (n, tail)))) = (suc n, (low, (o, s, g, is, sign, (r, b, m, also, operand, tail))))

  to_tails : (left : A) (d : ℕ) (a : A) (text : List K) → Or (More left) (Is left) d a text → Tails left d a text
  to_tails left d a text (inl more) = one_more left d a text more
  to_tails left d a text (inr none) = (zero, none)

  from_tails : (left : A) (d : ℕ) (a : A) (text : List K) → Tails left d a text → Or (More left) (Is left) d a text
  from_tails left d a text (zero, none) = inr none
  from_tails left d a text (suc n, (low, (o, s, g, is, sign, (r, b, m, also, operand, tail)))) = inl (low, (o, s, g, is, sign, (r, b, m, also, operand, (n, tail))))

  -- a level more is no matter
  operand_grows : (d : ℕ) (r : A) (b : List K) → Below (Up_to ops.height T) d r b → Below (Up_to ops.height T) (suc d) r b
  operand_grows zero r b none = absurd none
  operand_grows (suc d) r b (text, low) = (text, omega (arith, low))

  tail_grows : (n : ℕ) (left : A) (d : ℕ) (a : A) (text : List K) → Tail n left d a text → Tail n left (suc d) a text
  tail_grows zero left d a text none = none
  tail_grows (suc n) left d a text (low, (o, s, g, is, sign, (r, b, m, also, operand, tail))) =
      (omega (arith, low), (o, s, g, is, sign, (r, b, m, also, operand_grows d r b operand, tail_grows n (ops.join left o r) d a m tail)))

  -- one operator more at the end
  tail_longer : (n : ℕ) (left : A) (d : ℕ) (a : A) (text : List K) (o : O) (s : List K) (r : A) (b : List K) →
      Tail n left d a text → ops.height a < d → Op a o s → Below (Up_to ops.height T) d r b → Tail (suc n) left d (ops.join a o r) (text ++ (s ++ b))
  tail_longer zero left d a text o s r b (same, none) low sign operand =
      rw none (
      let low' : ops.height left < d = subst (λ l. ops.height l < d) same low in
      let sign' : Op left o s = subst (λ l. Op l o s) same sign in
      (low', (o, s, b, refl, sign', (r, b, [], sym (append-nil b), operand, (ap (λ l. ops.join l o r) same, refl)))))
  tail_longer (suc n) left d a text o s r b (low', (o', s', g, is, sign', (r', b', m, also, operand', tail))) low sign operand = (
    low',
    (
      o',
      s',
      g ++ (s ++ b),
      ap (λ l. l ++ (s ++ b)) is ∙ append_assoc s' g (s ++ b),
      sign',
      (r', b', m ++ (s ++ b), ap (λ l. l ++ (s ++ b)) also ∙ append_assoc b' m (s ++ b), operand', tail_longer n (ops.join left o' r') d a m o s r b tail low sign operand),
    ),
  )

  module _ (F G : A → List K → Type 0) (chains : AreChains ops.join Op F T G) (joined : (left : A) (o : O) (right : A) → ops.height (ops.join left o right) ≡ suc (max (ops.height left) (ops.height right))) where
    -- what follows a chain makes a longer one
    tail_joins : (n : ℕ) (left : A) (d : ℕ) (a : A) (f g : List K) → G left f → ops.height left ≤ d → Tail n left d a g → Up_to ops.height G d a (f ++ g)
    tail_joins zero left d a f g chain_is low (same, none) = rw same (rw none (subst (G left) (sym (append-nil f)) chain_is, low))
    tail_joins (suc n) left zero a f g chain_is low (low', (o, s, g', is, sign, (r, b, m, also, operand, tail))) = absurd operand
    tail_joins (suc n) left (suc d) a f g chain_is low (low', (o, s, g', is, sign, (r, b, m, also, (operand, fits), tail))) =
        let whole : f ++ g ≡ (f ++ (s ++ b)) ++ m =
        ap (λ l. f ++ l) (is ∙ ap (λ l. s ++ l) also ∙ sym (append_assoc s b m)) ∙ sym (append_assoc f (s ++ b) m) in
        let longer : G (ops.join left o r) (f ++ (s ++ b)) = chains.closes (ops.join left o r) (f ++ (s ++ b)) (inr (record {
          left = left;
          o = o;
          right = r;
          front = f;
          sign = s;
          back = b;
          tree_is = refl;
          text_is = refl;
          left_is = chain_is;
          sign_is = sign;
          right_is = operand;
        })) in
        rw whole (tail_joins n (ops.join left o r) (suc d) a (f ++ (s ++ b)) m longer (rw (joined left o r) (omega (arith, low', fits))) tail)

    height_is : {a : A} {text : List K} (more : Joined ops.join Op G T a text) → ops.height a ≡ suc (max (ops.height more.left) (ops.height more.right))
    height_is more = ap ops.height more.tree_is ∙ joined more.left more.o more.right

    -- a chain is a first operand and what follows it
    chain_splits : (d : ℕ) (a : A) (text : List K) → G a text → ops.height a ≤ d → Then (Up_to ops.height F) Tails d a text
    chain_splits zero a text chain_is low = ⊎_elim
        (λ first. (a, text, [], sym (append-nil text), (first, low), (zero, (refl, refl))))
        (λ more. let high = height_is more in absurd (omega (arith, low, high)))
        (chains.opens a text chain_is)
    chain_splits (suc d) a text chain_is low = ⊎_elim
        (λ first. (a, text, [], sym (append-nil text), (first, low), (zero, (refl, refl))))
        (λ more.
        let high = height_is more in
        let (l, f, g, is, (first, low'), (n, tail)) = chain_splits d more.left more.front more.left_is (omega (arith, low, high)) in
        let longer = tail_longer n l (suc d) more.left g more.o more.sign more.right more.back (tail_grows n l d more.left g tail)
        (omega (arith, low, high)) more.sign_is (more.right_is, omega (arith, low, high)) in (
          l,
          f,
          g ++ (more.sign ++ more.back),
          more.text_is ∙ ap (λ t. t ++ (more.sign ++ more.back)) is ∙ append_assoc f g (more.sign ++ more.back),
          (first, omega (arith, low')),
          (suc n, subst (λ t. Tail (suc n) l (suc d) t (g ++ (more.sign ++ more.back))) (sym more.tree_is) longer),
        ))
        (chains.opens a text chain_is)

module _ {K A O : Type 0} {ops : Operators K A O} {Op : A → O → List K → Type 0} {T : A → List K → Type 0} {R U S : K → Type 0} (law : LawfulOperators ops Op T R U S) where
  -- what a tail begins with stops an operand
  tail_starts : (d : ℕ) (left : A) → Starts d (Tails ops Op T left) S U
  tail_starts d left = record { begins_with = λ a text x (n, tail) stop. tail_starts_with d left a text x n tail stop } where
    tail_starts_with : (d : ℕ) (left a : A) (text : List K) (x : K) (n : ℕ) → Tail ops Op T n left d a text → S x → U (first_of x text)
    tail_starts_with d left a text x zero (same, none) stop = rw none (law.at_end x stop)
    tail_starts_with d left a text x (suc n) (low, (o, s, g, is, sign, next)) stop =
        rw is (rw (first_append x s g) (law.before_operator left (first_of (first_of x g) s) (law.begins_so left o s (first_of x g) sign)))

  operand_starts : (d : ℕ) → Starts (suc d) (Below (Up_to ops.height T)) U R
  operand_starts d = record { begins_with = λ a text x (is, low) stop. law.before_operand a text x is stop }

  more_starts : (d : ℕ) (left : A) → Starts d (More ops Op T left) S (IsYes (ops.goes_on left))
  more_starts d left = record {
    begins_with = λ a text x (low, (o, s, g, is, sign, next)) stop.
        rw is (rw (first_append x s g) (law.begins_so left o s (first_of x g) sign));
  }

  -- an operator and an operand behind a tree, in a text that is deep enough
  one_operator : (left : A) (k : K) → ops.goes_on left k ≡ true → (e : ℕ) → ops.height left ≤ e → Begins (More ops Op T left (suc e)) (k ∷ [])
  one_operator left k is e low =
      let (o, more, sign) = law.some_operator left k is in
      let (r, f, leaf, flat) = law.some_operand in
      (ops.join left o r, more ++ f, (omega (arith, low), (o, k ∷ more, f, refl, sign, (r, f, [], sym (append-nil f), (leaf, omega (arith, flat)), (zero, (refl, refl))))))

  -- behind a tree that fills the depth no operator may stand
  full_law : (d : ℕ) (left : A) (p' : Reader K A) → ops.height left ≡ d →
      Lawful d (look (ops.goes_on left) too_deep (pure left)) (look (ops.goes_on left) p' (pure left)) (Tails ops Op T left) S
  full_law d left p' same = record {
    careful = careful_fit (λ e deep a text is. to_tails ops Op T left e a text is) (from_tails ops Op T left d)
        (careful_look {p' = p'} (too_deep_where (ops.goes_on left)
        (λ a text (low, next). absurd (omega (arith, low, same)))
        (λ k is. (suc d, omega arith, one_operator left k is d (omega (arith, same)))))
        (law_pure d left S).careful (more_starts d left) (starts_is (law.ends left)));
    some_text = λ e deep. (left, [], (zero, (refl, refl)));
  }

  -- where a level is left an operator may stand with an operand, and then more
  open_law : (d : ℕ) (left : A) {operand operand' : Reader K A} {q q' : O → A → Reader K A} → Lawful d operand operand' (Up_to ops.height T) U →
      ((o : O) (right : A) → ops.height right ≤ d → Lawful (suc d) (q o right) (q' o right) (Tails ops Op T (ops.join left o right)) S) → ops.height left ≤ d →
      Lawful (suc d) (look (ops.goes_on left) (bind (ops.operator left) (λ o. bind operand (q o))) (pure left))
      (look (ops.goes_on left) (bind (ops.operator left) (λ o. bind operand' (q' o))) (pure left)) (Tails ops Op T left) S
  open_law d left operand_law next_law low = record {
    careful = careful_fit (λ e deep a text is. to_tails ops Op T left e a text is) (from_tails ops Op T left (suc d))
        (careful_look (careful_where (ops.goes_on left)
        (careful_fit (λ e deep a text is. (omega (arith, low, deep), is)) (λ a text (low', is). is)
        (careful_bind (law.reads (suc d) left)
        (λ o s sign. careful_bind (law_shifted operand_law).careful
        (λ right b (is, fits). (next_law o right fits).careful)
        (λ e deep right b is. (ops.join left o right, [], (zero, (refl, refl))))
        (λ right b is. tail_starts (suc d) (ops.join left o right)))
        (λ e deep o s sign. some_next e deep o)
        (λ o s sign. starts_then (operand_starts d) (λ right. tail_starts (suc d) (ops.join left o right))))))
        (law_pure (suc d) left S).careful (more_starts (suc d) left) (starts_is (law.ends left)));
    some_text = λ e deep. (left, [], (zero, (refl, refl)));
  } where
    some_next : (e : ℕ) → suc d ≤ e → (o : O) → (a : A) × (g : List K) × Then (Below (Up_to ops.height T)) (λ right. Tails ops Op T (ops.join left o right)) e a g
    some_next zero deep o = absurd (omega (arith, deep))
    some_next (suc e) deep o =
        let (r, f, leaf, flat) = law.some_operand in
        (ops.join left o r, f, (r, f, [], sym (append-nil f), (leaf, omega (arith, flat)), (zero, (refl, refl))))

  le_says : (a b : ℕ) → nat_le a b ≡ true → a ≤ b
  le_says a b e = grind (arith, e)

  lt_says : (a b : ℕ) → nat_le a b ≡ false → b < a
  lt_says a b e = grind (arith, e)

  both_full : (d : ℕ) (left : A) {b : Bool} (p p' : Reader K A) → ops.height left ≡ d → b ≡ true →
      Lawful d (look (ops.goes_on left) (if b then too_deep else p) (pure left)) (look (ops.goes_on left) p' (pure left)) (Tails ops Op T left) S
  both_full d left {b} p p' same full = subst (λ t. Lawful d (look (ops.goes_on left) (if t then too_deep else p) (pure left)) (look (ops.goes_on left) p' (pure left)) (Tails ops Op T left) S) (sym full) (full_law d left p' same)

  le_is : (a b : ℕ) → a ≤ b → nat_le a b ≡ true
  le_is a b low = grind (arith, low)

  both_open : {d : ℕ} {left : A} {b b' : Bool} (p p' : Reader K A) → b ≡ false → b' ≡ false →
      Lawful d (look (ops.goes_on left) p (pure left)) (look (ops.goes_on left) p' (pure left)) (Tails ops Op T left) S →
      Lawful d (look (ops.goes_on left) (if b then too_deep else p) (pure left)) (look (ops.goes_on left) (if b' then too_deep else p') (pure left)) (Tails ops Op T left) S
  both_open {d} {left} {b} {b'} p p' one other is = subst (λ t. Lawful d (look (ops.goes_on left) (if t then too_deep else p) (pure left)) (look (ops.goes_on left) (if b' then too_deep else p') (pure left)) (Tails ops Op T left) S) (sym one)
      (subst (λ t. Lawful d (look (ops.goes_on left) p (pure left)) (look (ops.goes_on left) (if t then too_deep else p') (pure left)) (Tails ops Op T left) S) (sym other) is)

  not_le : (a b : ℕ) → b < a → nat_le a b ≡ false
  not_le a b low = grind (arith, low)

  -- an operator, an operand and what follows, and the same where the depth may be filled
  abbrev behind : ℕ → Reader K A → ℕ → A → Reader K A
  behind d operand turns left = bind (ops.operator left) (λ o. bind operand (λ right. chain_in ops d operand turns (ops.join left o right)))

  abbrev turn : ℕ → Reader K A → ℕ → A → Reader K A
  turn d operand turns left = if nat_le d (ops.height left) then too_deep else behind d operand turns left

  tail_law : (turns d : ℕ) (left : A) (operand operand' : Reader K A) → ((e : ℕ) → d ≡ suc e → Lawful e operand operand' (Up_to ops.height T) U) →
      ops.height left ≤ d → d ≤ turns + ops.height left →
      Lawful d (chain_in ops d operand turns left) (chain_in ops (suc d) operand' (suc turns) left) (Tails ops Op T left) S
  tail_law zero d left operand operand' below low enough = full_law d left (turn (suc d) operand' 0 left) (omega (arith, low, enough))
  tail_law (suc turns) zero left operand operand' below low enough =
      both_full zero left (behind zero operand turns left) (turn 1 operand' (suc turns) left) (omega (arith, low)) (le_is zero (ops.height left) (omega arith))
  tail_law (suc turns) (suc d) left operand operand' below low enough = ⊎_elim
      (λ full. both_full (suc d) left (behind (suc d) operand turns left) (turn (suc (suc d)) operand' (suc turns) left)
      (let filled = le_says (suc d) (ops.height left) full in omega (arith, low, filled)) full)
      (λ less. let lower = lt_says (suc d) (ops.height left) less in
      both_open (behind (suc d) operand turns left) (behind (suc (suc d)) operand' (suc turns) left) less (not_le (suc (suc d)) (ops.height left) (omega (arith, lower)))
      (open_law d left (below d refl)
      (λ o right fits. tail_law turns (suc d) (ops.join left o right) operand operand' below
      (rw (law.joined left o right) (omega (arith, lower, fits))) (rw (law.joined left o right) (omega (arith, enough))))
      (omega (arith, lower))))
      (decided (nat_le (suc d) (ops.height left)))

  module _ {F G : A → List K → Type 0} (chains : AreChains ops.join Op F T G) where
    -- A chain: from the law of the first operand at its depth, and that of the others one level deeper.
    pub law_chain : (d : ℕ) {first first' operand operand' : Reader K A} → Lawful d first first' (Up_to ops.height F) U →
        ((e : ℕ) → d ≡ suc e → Lawful e operand operand' (Up_to ops.height T) U) →
        Lawful d (chain ops d first operand) (chain ops (suc d) first' operand') (Up_to ops.height G) S
    law_chain d {first} {first'} {operand} {operand'} first_law below = law_fit
        (λ e deep a text (l, f, g, is, (start, low), (n, tail)).
        subst (Up_to ops.height G e a) (sym is) (tail_joins ops Op T F G chains law.joined n l e a f g (chains.closes l f (inl start)) low tail))
        (λ a text (chain_is, low). chain_splits ops Op T F G chains law.joined d a text chain_is low)
        (record {
          careful = careful_bind first_law.careful
              (λ l f (start, low). (tail_law d d l operand operand' below low (omega arith)).careful)
              (λ e deep l f start. (l, [], (zero, (refl, refl))))
              (λ l f start. tail_starts d l);
          some_text = λ e deep. let (l, f, start) = first_law.some_text e deep in (l, f, (l, f, [], sym (append-nil f), start, (zero, (refl, refl))));
        })
