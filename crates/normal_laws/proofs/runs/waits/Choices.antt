-- Open alternatives that go together give the same choices, and the same one is taken.
use Rattle.std.proofs.Common.{◌≡◌, ℕ, ℤ, Bool, true, false, ◌&&◌, ◌||◌, not, if◌then◌else◌, List, [], ◌∷◌, ◌++◌, Option, Some, None, cond, Ok, refl, sym, ap, ◌∙◌, fold}
use Rattle.std.specs.Prelude.{find}
use Rattle.std.specs.List.{filter_map, list_any, cons_option}
use Rattle.ada_tree.specs.declared.naming.Span.{Span}
use Rattle.ada_tree.specs.declared.expressions.UnaryOp.TheVariants as unary
use Rattle.ada_tree.specs.declared.expressions.BinaryOp.TheVariants as binary
use Rattle.ada_tree.specs.PlainExpr.{PExpr, EBinary}
use Rattle.event_machine.specs.declared.Choice.{Choice}
use Rattle.event_machine.specs.declared.Choice.TheVariants as choice
use Rattle.ada_value.specs.declared.values.Value.{Value}
use Rattle.ada_value.specs.declared.values.Value.TheVariants.{Truth}
use Rattle.ada_value.specs.Values.{and_then, is_true_value}
use Rattle.ada_value.specs.Variables.{Variables}
use Rattle.ada_value.specs.Evaluating.{signed_value, combined, evaluated}
use Rattle.task_model.specs.Setting.{Setting}
use Rattle.task_model.specs.Waits.{Open, accept_choice, is_shorter, delay_choice, terminate_choice, else_choice, choices_of, accepts_member}
use Rattle.normal_model.specs.Waits.{not_held, none_held}
use Rattle.normal_laws.specs.runs.floors.Suited.{Rewritten}
use Rattle.normal_laws.proofs.runs.waits.Alternatives.{OpenAlike, accepts_alike, delays_alike, terminate_alike, MaybeOpen, none_open, some_open, OpensAlike, no_opens, open_more, AreTold, none_told, open_told, closed_told}
use Rattle.common_lemmas.proofs.Truth.{and_false, and_true}

module _ (w : Rewritten) where
  one-accept : {op op' : Open} → OpenAlike w op op' → accept_choice op ≡ accept_choice op'
  one-accept (accepts_alike e z h h' l l' d d' f old il id) = refl
  one-accept (delays_alike k d l l' im) = refl
  one-accept terminate_alike = refl

  one-shorter : (bound : ℕ) {op op' : Open} → OpenAlike w op op' → is_shorter bound op ≡ is_shorter bound op'
  one-shorter bound (accepts_alike e z h h' l l' d d' f old il id) = refl
  one-shorter bound (delays_alike k d l l' im) = refl
  one-shorter bound terminate_alike = refl

  one-terminate : {op op' : Open} → OpenAlike w op op' → terminate_choice op ≡ terminate_choice op'
  one-terminate (accepts_alike e z h h' l l' d d' f old il id) = refl
  one-terminate (delays_alike k d l l' im) = refl
  one-terminate terminate_alike = refl

  one-delay : (all all' : List Open) → ((d : ℕ) → list_any (is_shorter d) all ≡ list_any (is_shorter d) all') → {op op' : Open} → OpenAlike w op op' → delay_choice all op ≡ delay_choice all' op'
  one-delay all all' same (accepts_alike e z h h' l l' d d' f old il id) = refl
  one-delay all all' same (delays_alike k d l l' im) = ap (λ t. if t then None else Some (choice.Delay k)) (same d)
  one-delay all all' same terminate_alike = refl

  all-mapped : (f f' : Open → Option Choice) → ((op op' : Open) → OpenAlike w op op' → f op ≡ f' op') → {os os' : List Open} → OpensAlike w os os' → filter_map f os ≡ filter_map f' os'
  all-mapped f f' same no_opens = refl
  all-mapped f f' same (open_more op op' os os' a more) = ap (λ c. cons_option c (filter_map f os)) (same op op' a) ∙ ap (λ cs. cons_option (f' op') cs) (all-mapped f f' same more)

  any-shorter : (d : ℕ) {os os' : List Open} → OpensAlike w os os' → list_any (is_shorter d) os ≡ list_any (is_shorter d) os'
  any-shorter d no_opens = refl
  any-shorter d (open_more op op' os os' a more) = ap (λ t. t || list_any (is_shorter d) os) (one-shorter d a) ∙ ap (λ t. is_shorter d op' || t) (any-shorter d more)

  -- the same choices
  pub choices-alike : (has_else : Bool) {os os' : List Open} → OpensAlike w os os' → choices_of has_else os ≡ choices_of has_else os'
  choices-alike has_else {os} {os'} a =
      ap (λ cs. cs ++ (else_choice has_else ++ (filter_map (delay_choice os) os ++ filter_map terminate_choice os))) (all-mapped accept_choice accept_choice (λ op op' c. one-accept c) a)
      ∙ ap (λ cs. filter_map accept_choice os' ++ (else_choice has_else ++ (cs ++ filter_map terminate_choice os)))
      (all-mapped (delay_choice os) (delay_choice os') (λ op op' c. one-delay os os' (λ d. any-shorter d a) c) a)
      ∙ ap (λ cs. filter_map accept_choice os' ++ (else_choice has_else ++ (filter_map (delay_choice os') os' ++ cs))) (all-mapped terminate_choice terminate_choice (λ op op' c. one-terminate c) a)

  one-member : (e : ℕ) (z : ℤ) {op op' : Open} → OpenAlike w op op' → accepts_member e z op ≡ accepts_member e z op'
  one-member e z (accepts_alike e1 z1 h h' l l' d d' f old il id) = refl
  one-member e z (delays_alike k d l l' im) = refl
  one-member e z terminate_alike = refl

  -- the first that accepts a member
  pub find-alike : (e : ℕ) (z : ℤ) {os os' : List Open} → OpensAlike w os os' → MaybeOpen w (find (accepts_member e z) os) (find (accepts_member e z) os')
  find-alike e z no_opens = none_open
  find-alike e z (open_more op op' os os' a more) = go (accepts_member e z op) (accepts_member e z op') (one-member e z a) (find-alike e z more)
    where
      go : (t t' : Bool) → t ≡ t' → MaybeOpen w (find (accepts_member e z) os) (find (accepts_member e z) os') →
          MaybeOpen w (cond t (Some op) (find (accepts_member e z) os)) (cond t' (Some op') (find (accepts_member e z) os'))
      go true true q c = some_open op op' a
      go true false q c = absurd (let none : ⊥ = cc in none)
      go false true q c = absurd (let none : ⊥ = cc in none)
      go false false q c = c

-- ---- whether all are closed

abbrev pub all_closed : List Open → Bool
all_closed [] = true
all_closed (op ∷ ops) = false

pub truth-of : (t : Bool) → is_true_value (Truth t) ≡ t
truth-of true = refl
truth-of false = refl

module _ (h : Setting) (W : Variables) (s : Span) where
  -- `not G` of a guard that is told
  not-told : (e : PExpr) (v : Value) (t : Bool) → evaluated h.types W e ≡ Ok v → is_true_value v ≡ t → evaluated h.types W (not_held s e) ≡ Ok (Truth (not t))
  not-told e v t a c = ap (λ r. and_then r (λ y. signed_value unary.Not y)) a ∙ ap (λ q. Ok (Truth (not q))) c

  -- one more test
  and-told : (test : PExpr) (t : Bool) → evaluated h.types W test ≡ Ok (Truth t) → (e : PExpr) (v : Value) (q : Bool) → evaluated h.types W e ≡ Ok v → is_true_value v ≡ q →
      evaluated h.types W (EBinary binary.And test (not_held s e) s) ≡ Ok (Truth (t && not q))
  and-told test t a e v q c d =
      ap (λ r. and_then r (λ y. and_then (evaluated h.types W (not_held s e)) (λ z. combined binary.And y z))) a
      ∙ ap (λ r. and_then r (λ z. combined binary.And (Truth t) z)) (not-told e v q c d)
      ∙ ap (λ y. Ok (Truth (y && is_true_value (Truth (not q))))) (truth-of t) ∙ ap (λ y. Ok (Truth (t && y))) (truth-of (not q))

  fold-told : {es : List PExpr} {os : List Open} → AreTold h W es os → (test : PExpr) (t : Bool) → evaluated h.types W test ≡ Ok (Truth t) →
      evaluated h.types W (fold (λ test1 e. EBinary binary.And test1 (not_held s e) s) test es) ≡ Ok (Truth (t && all_closed os))
  fold-told none_told test t a = a ∙ ap (λ y. Ok (Truth y)) (sym (and_true t))
  fold-told (open_told e v op es ops c d more) test t a =
      fold-told more (EBinary binary.And test (not_held s e) s) (t && false) (and-told test t a e v true c d)
      ∙ ap (λ y. Ok (Truth (y && all_closed ops))) (and_false t) ∙ ap (λ y. Ok (Truth y)) (sym (and_false t))
  fold-told (closed_told e v es ops c d more) test t a =
      fold-told more (EBinary binary.And test (not_held s e) s) (t && true) (and-told test t a e v false c d) ∙ ap (λ y. Ok (Truth (y && all_closed ops))) (and_true t)

  -- the test in front of a wait says whether all alternatives are closed
  pub closed-told : {e : PExpr} {es : List PExpr} {os : List Open} → AreTold h W (e ∷ es) os → evaluated h.types W (none_held s e es) ≡ Ok (Truth (all_closed os))
  closed-told (open_told e v op es ops c d more) = fold-told more (not_held s e) false (not-told e v true c d)
  closed-told (closed_told e v es ops c d more) = fold-told more (not_held s e) true (not-told e v false c d)
