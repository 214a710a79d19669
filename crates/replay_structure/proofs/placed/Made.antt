-- Each piece of a replay text is well placed.
use Rattle.std.proofs.Common.{◌≡◌, ℕ, ◌+◌, ◌*◌, ◌<◌, ◌≤◌, ◌==◌, ◌&&◌, Bool, true, false, List, [], ◌∷◌, length, Option, Some, None, option_map, IfSome, unwrap_or, position, All, inl, inr, refl, arith}
use Rattle.std.specs.List.{AllByRecursion}
use Rattle.std.proofs.lemmas.List.Elements.{All-from_recursion, All-head}
use Rattle.std.proofs.lemmas.List.Quantifiers.{position-Some}
use Rattle.ada_tree.specs.declared.naming.NameId.{NameId}
use Rattle.ada_tree.specs.declared.naming.Span.{Span}
use Rattle.ada_tree.specs.PlainExpr.{PExpr, EInteger}
use Rattle.ada_tree.specs.PlainStmt.{PArgs, PHead, PAltKind, accepting, alternative, AAccept, ADelay, ATerminate, PAlts, no_alt, alt_then, PHandlers, no_handler, handler_then, handler}
use Rattle.ada_tree.specs.Every.{Rules, EveryWord, EveryExpr, EveryExprs, EveryArgs, EveryFormal}
use Rattle.ada_tree.specs.WellPlaced.{level, factor, OthersLast, well_placed}
use Rattle.ada_tree.specs.Lexical.{IsInteger}
use Rattle.syn_event.specs.Numbering.{Numbering}
use Rattle.syn_event.specs.DeclaredTasks.{text_of}
use Rattle.task_model.specs.Setting.{Setting, first_expr, lists_in, lists_of, is_family, entry_of}
use Rattle.normal_model.specs.Calls.{first_named, entry_called, lists_called}
use Rattle.normal_model.specs.RewrittenUnit.{RewrittenUnit}
use Rattle.normal_model.specs.Walk.{after_stmts, inside_handlers}
use Rattle.task_laws.specs.legal.asked.Asked.{Asks}
use Rattle.task_laws.specs.legal.asked.Kinds.{place_asks, both}
use Rattle.normal_laws.specs.structure.placed.Placeable.{IsName}
use Rattle.replay_model.specs.Names.{kind_text, argument_text, index_text}
use Rattle.replay_model.specs.Asking.{permit_part, permit_is_kind}
use Rattle.replay_model.specs.Serving.{permits_start}
use Rattle.replay_model.specs.Waiting.{Pause, pauses_of}
use Rattle.replay_model.specs.ReplayStmts.{task_called, replay_rewriter}
use Rattle.replay_structure.specs.asked.Pieces.{StandsNear, IsAlternative, first_alternative, later_alternative, Pieces}
use Rattle.replay_structure.proofs.asked.Waiting.{IsAsked, pauses-asked, alternative-asked, few-pauses}
use Rattle.replay_structure.specs.placed.Fitting.{IsShallow, reach, HasPrimaryGuards, fit_asks}
use Rattle.replay_structure.proofs.placed.Moved.{expr-moved, option-moved, args-moved, choices-moved, scheme-moved, words-moved, word-moved, formals-moved, plain-moved}
use Rattle.replay_structure.proofs.placed.Tests.{AreAdded, kind-placed, other-placed, for-placed, at-placed, guarded, IsShutBy, never-placed, due-placed}

-- ---- numbers

-- a place that is found is one of the list
place-few : {A : Type 0} (p : A → Bool) (xs : List A) (d : A) → unwrap_or (position p xs) 0 ≤ length xs
place-few p xs d = go (position p xs) refl
  where
    go : (o : Option ℕ) → position p xs ≡ o → unwrap_or o 0 ≤ length xs
    go None e = omega arith
    go (Some k) e = let l : k < length xs = (position-Some p xs k d e).0 in omega (arith, l)

pub number-few : {A : Type 0} (p : A → Bool) (xs : List A) → unwrap_or (position p xs) 0 ≤ length xs
number-few p [] = omega arith
number-few p (x ∷ xs) = place-few p (x ∷ xs) x

pub next-few : {A : Type 0} (p : A → Bool) (xs : List A) → unwrap_or (option_map (λ k. k + 1) (position p xs)) 0 ≤ length xs
next-few {A = A} p xs = by_list xs
  where
    go : (ys : List A) (d : A) (o : Option ℕ) → position p ys ≡ o → unwrap_or (option_map (λ k. k + 1) o) 0 ≤ length ys
    go ys d None e = omega arith
    go ys d (Some k) e = let l : k < length ys = (position-Some p ys k d e).0 in omega (arith, l)

    by_list : (ys : List A) → unwrap_or (option_map (λ k. k + 1) (position p ys)) 0 ≤ length ys
    by_list [] = omega arith
    by_list (y ∷ ys) = go (y ∷ ys) y (position p (y ∷ ys)) refl

pub entry-few : (numbers : Numbering) (t : ℕ) (name : NameId) → entry_of numbers t name ≤ length numbers.entries
entry-few numbers t name = next-few (λ info. (info.owner == t) && (info.name.0 == name.0)) numbers.entries

-- ---- guards

module _ (u : RewrittenUnit) where
  pub guard-primary : (guard : Option PExpr) (y : PAltKind) (s : Span) (x : PAlts) → IsAlternative (alternative guard y s) x → HasPrimaryGuards x → IfSome guard (λ e. factor < level e)
  guard-primary guard y s x (first_alternative l) h = h.0
  guard-primary guard y s x (later_alternative (alternative f z p) l i) h = guard-primary guard y s l i h.1

  pauses-primary : (x : PAlts) → HasPrimaryGuards x → AllByRecursion (λ p. IfSome p.guard (λ e. factor < level e)) (pauses_of x)
  pauses-primary no_alt h = tt
  pauses-primary (alt_then (alternative g (AAccept y l) s) rest) h = pauses-primary rest h.1
  pauses-primary (alt_then (alternative g (ADelay n l) s) rest) h = (h.0, pauses-primary rest h.1)
  pauses-primary (alt_then (alternative g ATerminate s) rest) h = pauses-primary rest h.1

-- ---- the pieces

module _ (u : RewrittenUnit) (names names' : List (List ℕ)) (old : (id : NameId) → IsName names id → IsName names' id) (known : AreAdded u.setting names') (few_tasks : IsInteger (length u.setting.numbers.tasks)) (few_entries : IsInteger (length u.setting.numbers.entries)) (task : IsInteger u.task) where
  abbrev g : Setting
  g = u.setting

  abbrev r : Rules
  r = well_placed names

  abbrev r' : Rules
  r' = well_placed names'

  abbrev C : Type 0
  C = Prim.Unit {0} × Prim.Unit {0}

  abbrev pub b : Asks C
  b = both (place_asks r) (fit_asks u)

  abbrev pub a : Asks (Prim.Unit {0})
  a = place_asks r'

  -- ---- calls

  one-placed : (k n : ℕ) (s : Span) → IsShallow k → StandsNear k n → EveryExprs r' n (EInteger u.task s ∷ [])
  one-placed k n s h le = (omega arith, All-from_recursion (EveryExpr r' n) (EInteger u.task s ∷ []) ((omega (arith, h, le), task), tt))

  permit-placed : (k n : ℕ) (s : Span) → IsShallow k → StandsNear k n → EveryExprs r' n (permit_part u s kind_text ∷ permit_part u s argument_text ∷ permit_part u s index_text ∷ [])
  permit-placed k n s h le =
      let small : n ≤ 300 = omega (arith, h, le) in
      (omega arith, All-from_recursion (EveryExpr r' n) (permit_part u s kind_text ∷ permit_part u s argument_text ∷ permit_part u s index_text ∷ []) ((small, known.kind_part), ((small, known.argument_part), ((small, known.index_part), tt))))

  -- the index of a call, wherever it stands near the call
  index-moved : (f : Bool) (j q : ℕ) (args : PArgs) → q ≤ j + 3 * j + 50 → EveryArgs (reach j) j args → EveryArgs r j args → IfSome (lists_in f args).index (EveryExpr r' q)
  index-moved true j q args le f h = first args.first f.0.1 h.0.1
    where
      first : (es : List PExpr) → All (EveryExpr (reach j) j) es → All (EveryExpr r j) es → IfSome (first_expr es) (EveryExpr r' q)
      first [] f h = tt
      first (e ∷ es) f h = expr-moved names names' old j j q e le (All-head (EveryExpr (reach j) j) e es f) (All-head (EveryExpr r j) e es h)
  index-moved false j q args le f h = tt

  called-index : (e j q : ℕ) (o : Option PArgs) → q ≤ j + 3 * j + 50 → IfSome o (EveryArgs (reach j) j) → IfSome o (EveryArgs r j) → IfSome (lists_of g.numbers e o).index (EveryExpr r' q)
  called-index e j q None le f h = tt
  called-index e j q (Some args) le f h = index-moved (is_family g.numbers e) j q args le f h

  -- ---- accepts

  served-placed : (c : C) (k n : ℕ) (s : Span) (h : PHead) → b.head c k h → n < 4 * k + 16 → EveryExpr r' n (permits_start u s h)
  served-placed c k n s h i le =
      at-placed u names' known s 1 (entry_of g.numbers u.task h.entry.name) n h.index (omega arith) (omega (arith, entry-few g.numbers u.task h.entry.name, few_entries)) (omega (arith, le, i.1.0))
      (λ q l. option-moved names names' old k (k + 1) q h.index (omega (arith, l, le)) i.1.1 i.0.1.1) (i.1.2 s)

  others-last : (hs : PHandlers) (t : RewrittenUnit) → OthersLast hs → OthersLast (inside_handlers replay_rewriter hs t)
  others-last no_handler t h = tt
  others-last (handler_then (handler [] l s) no_handler) t h = (tt, tt)
  others-last (handler_then (handler [] l s) (handler_then (handler vs m s') rest)) t h = absurd h.0
  others-last (handler_then (handler (w ∷ ws) l s) rest) t h = (tt, others-last rest (after_stmts replay_rewriter l t) h.1)

  -- ---- guards

  -- a guard that stands j deep, wherever it stands up to so deep
  shut-by : (c : C) (j most : ℕ) (guard : Option PExpr) → most ≤ j + 3 * j + 50 → IfSome guard (b.condition c j) → IfSome guard (λ e. factor < level e) → IfSome guard (λ e. (factor < level e) × ((q : ℕ) → q ≤ most → EveryExpr r' q e))
  shut-by c j most None le i h = tt
  shut-by c j most (Some e) le i h = (h, λ q l. expr-moved names names' old j j q e (omega (arith, l, le)) i.1 i.0)

  all-shut : (c : C) (j most : ℕ) (ps : List Pause) → most ≤ j + 3 * j + 50 → AllByRecursion (IsAsked b c j) ps → AllByRecursion (λ p. IfSome p.guard (λ e. factor < level e)) ps → AllByRecursion (IsShutBy u names' known most) ps
  all-shut c j most [] le i h = tt
  all-shut c j most (p ∷ ps) le i h = (shut-by c j most p.guard le i.0.0 h.0, all-shut c j most ps le i.1 h.1)

  guard-placed : (c : C) (j q : ℕ) (guard : Option PExpr) → q ≤ j + 3 * j + 50 → IfSome guard (b.condition c j) → IfSome guard (EveryExpr r' q)
  guard-placed c j q None le i = tt
  guard-placed c j q (Some e) le i = expr-moved names names' old j j q e le i.1 i.0

  -- ---- all pieces

  pub pieces : Pieces u IsShallow b a (λ c d. Prim.Unit {0})
  pieces = record {
    here = λ c k s h. h.1;
    here_accepted = λ c k h i. i.1.0;
    outer = λ c d k n s rel h le. omega (arith, h, le);
    many = λ n h. h.0;
    some = λ n. omega arith;
    duration = λ n h. h.0;
    plain = λ c d k n x i rel h le. plain-moved names names' old k n x i le h.1 h.0;
    condition = λ c d k n e rel h le. expr-moved names names' old k k n e (omega (arith, le)) h.1 h.0;
    selector = λ c d k n e xs others s rel h le. expr-moved names names' old k k n e (omega (arith, le)) h.1 h.0;
    choices = λ c d k n e xs rel h le. (h.0.0, choices-moved names names' old k k n xs (omega (arith, le)) h.1 h.0.1);
    loop = λ c d k n w x rel h le. (word-moved names names' old w h.0.0, scheme-moved names names' old k k n x (omega (arith, le)) h.1 h.0.1);
    looping = λ c d k w x rel h. tt;
    callee = λ c d k j n x rel h under i le. (old x.name.name i.0.0, option-moved names names' old j j n x.index (omega (arith, le)) i.1 i.0.1);
    call = λ c d k j n x rel h under t i le. (old x.entry.name i.0.0, args-moved names names' old j j n x.args (omega (arith, le)) i.1.0 i.0.1);
    aborts = λ c d k n xs rel h le. h.0;
    head = λ c d k n h rel i le.
        (omega (arith, i.1.0, le), (old h.entry.name i.0.1.0, option-moved names names' old k (k + 1) (n + 1) h.index (omega (arith, le)) i.1.1 i.0.1.1, formals-moved names names' old h.formals i.0.1.2));
    in_accept = λ c d k h rel i. tt;
    handlers = λ hs h. others-last hs u h.0;
    handler = λ c d k n ids ws rel h le. words-moved names names' old ws h.0;
    handling = λ c d rel. tt;
    control = λ c d k n s rel h le. (known.control, tt);
    asks = λ c d k n s rel h le. (known.go, (one-placed k n s h le, permit-placed k n s h le));
    says = λ c d k n s rel h le. (known.done, (one-placed k n s h le, tt));
    idle = λ c d k n s rel h le. (known.idle, tt);
    stop = λ c d k n s rel h le. (known.stop, tt);
    other_kind = λ c d k n s kind rel h few le. other-placed u names' known s kind n (omega (arith, few)) (omega (arith, h, le));
    others = λ s l. (tt, tt);
    no_others = tt;
    other = λ c d k n rel h le. All-from_recursion (EveryWord r') [] tt;
    null = λ c d k n s rel h le. omega (arith, h, le);
    again = λ c d k n s rel h le. (omega (arith, h, le), tt);
    called = λ c d k j n s kind x rel h under t i few le.
        at-placed u names' known s kind (entry_called g x) n (lists_called g x).index (omega (arith, few)) (omega (arith, entry-few g.numbers (first_named g x) x.entry.name, few_entries)) (omega (arith, h, le))
        (λ q l. called-index (entry_called g x) j q x.args (omega (arith, l, le, under.0)) i.1.0 i.0.1) (i.1.1 s);
    double = λ c d k j n x rel h under t i le. (known.double (text_of g.program.names x.entry.name) i.1.2, args-moved names names' old j j n x.args (omega (arith, le, under.0)) i.1.0 i.0.1);
    aborted = λ c d k n s x rel h i le. for-placed u names' known s 9 (task_called u x) n (omega arith) (omega (arith, number-few (λ info. info.name.0 == x.name.name.0) g.numbers.tasks, few_tasks)) (omega (arith, h, le));
    served = λ c d k n s h rel i le. served-placed c k n s h i (omega (arith, le));
    taken = λ c d k n x els t guard h o l s rel near w all i le.
        let one = alternative-asked b c (k + 1) guard (AAccept (accepting h o) l) s x i all in
        guarded u names' known s (permits_start u s h) n guard (omega (arith, near, le)) (inr (refl, refl))
        (λ q m. served-placed c ((k + 1) + 1) q s h one.2.0.0 (omega (arith, m, le)))
        (guard-primary u guard (AAccept (accepting h o) l) s x i w.1.1) (guard-placed c ((k + 1) + 1) (n + 1) guard (omega (arith, le)) one.1);
    due = λ c d k n x els t guard duration l s place rel near w all i few le.
        let one = alternative-asked b c (k + 1) guard (ADelay duration l) s x i all in
        let less : length (pauses_of x) ≤ 32 = omega (arith, few-pauses x, w.1.0) in
        due-placed u names' known s (pauses_of x) place duration n guard (omega (arith, few, less)) (omega (arith, near, le, less))
        (all-shut c ((k + 1) + 1) (n + length (pauses_of x) + 4) (pauses_of x) (omega (arith, le, less)) (pauses-asked b c (k + 1) x all) (pauses-primary u x w.1.1))
        (shut-by c ((k + 1) + 1) (n + length (pauses_of x) + 4) guard (omega (arith, le, less)) one.1 (guard-primary u guard (ADelay duration l) s x i w.1.1));
    ends = λ c d k n x els t guard s rel near w all i le.
        let one = alternative-asked b c (k + 1) guard ATerminate s x i all in
        guarded u names' known s (permit_is_kind u s 10) n guard (omega (arith, near, le)) (inl (omega arith)) (λ q m. kind-placed u names' known s 10 q (omega arith) (omega (arith, m, near, le)))
        (guard-primary u guard ATerminate s x i w.1.1) (guard-placed c ((k + 1) + 1) (n + 1) guard (omega (arith, le)) one.1);
    passes = λ c d k n s rel h le. kind-placed u names' known s 3 n (omega arith) (omega (arith, h, le));
    never = λ c d k n x els t s rel h w all le. (omega (arith, h, le), (known.never, tt, All-from_recursion (EveryFormal r') [] tt));
    shut = λ c d k n s rel h le. never-placed u names' known s n (omega (arith, h, le));
    delay = λ c d k n s taken rel h le. omega (arith, h, le);
    pausing = λ c d k n x els t s place rel h w all le. tt;
    ending = λ c d k n x els t s rel h w all le. tt;
    passing = λ c d k n x t s rel h w all le. tt;
  }
