-- Each piece of a collecting text is well placed.
use Rattle.std.proofs.Common.{◌≡◌, ℕ, ◌+◌, ◌*◌, ◌≤◌, ◌==◌, Bool, true, false, List, [], ◌∷◌, length, slice_get, Option, Some, None, IfSome, unwrap_or, position, All, inl, refl, arith}
use Rattle.std.proofs.lemmas.List.Elements.{All-from_recursion, All-head, All-cons}
use Rattle.ada_tree.specs.declared.naming.NameId.{NameId}
use Rattle.ada_tree.specs.declared.naming.Span.{Span}
use Rattle.ada_tree.specs.declared.static_types.Kind.{Kind}
use Rattle.ada_tree.specs.declared.static_types.Kind.TheVariants as kind
use Rattle.ada_tree.specs.PlainExpr.{PExpr, EInteger, EName, PDrange}
use Rattle.ada_tree.specs.PlainStmt.{PArgs, PCall, PHandlers, no_handler, handler_then, handler}
use Rattle.ada_tree.specs.Every.{Rules, EveryWord, EveryExpr, EveryExprs, EveryArgs, EveryFormal}
use Rattle.ada_tree.specs.WellPlaced.{OthersLast, well_placed}
use Rattle.ada_tree.specs.Lexical.{IsInteger}
use Rattle.syn_event.specs.Numbering.{owner_of}
use Rattle.task_model.specs.Setting.{Setting, first_expr, lists_in, lists_of, is_family, entry_of}
use Rattle.normal_model.specs.Ranges.{word_at, kind_of_range, family_range}
use Rattle.normal_model.specs.Calls.{entry_called, lists_called}
use Rattle.normal_model.specs.RewrittenUnit.{RewrittenUnit}
use Rattle.normal_model.specs.Walk.{after_stmts, inside_handlers}
use Rattle.task_laws.specs.legal.asked.Asked.{Asks}
use Rattle.task_laws.specs.legal.asked.Kinds.{place_asks, both}
use Rattle.normal_laws.specs.structure.placed.Placeable.{IsName}
use Rattle.replay_model.specs.Asking.{as_number, number_in, member_number}
use Rattle.replay_structure.specs.asked.Pieces.{StandsNear}
use Rattle.replay_structure.specs.placed.Fitting.{IsShallow, reach, fit_asks}
use Rattle.replay_structure.proofs.placed.Moved.{expr-moved, option-moved, args-moved, choices-moved, scheme-moved, words-moved, word-moved, formals-moved, plain-moved}
use Rattle.collect_model.specs.declared.AddedNames.{AddedNames}
use Rattle.collect_model.specs.Teller.{Teller}
use Rattle.collect_model.specs.Noting.{own_number, note_actuals}
use Rattle.collect_model.specs.Calling.{member_called, args_with, tasking_error}
use Rattle.collect_model.specs.Serving.{caller_formal}
use Rattle.collect_model.specs.CollectStmts.{collect_rewriter}
use Rattle.collect_structure.specs.asked.Pieces.{Pieces}
use Rattle.collect_structure.specs.placed.Placeable.{HasLists, tell_asks}
use Rattle.collect_structure.proofs.placed.Named.{AreAdded}
use Rattle.replay_structure.proofs.placed.Made.{entry-few}

-- ---- the pieces

module _ (u : RewrittenUnit) (task : ℕ) (names names' : List (List ℕ)) (n : AddedNames) (old : (id : NameId) → IsName names id → IsName names' id) (known : AreAdded u.setting names' n)
    (few_entries : IsInteger (length u.setting.numbers.entries)) (few_task : IsInteger task) (owners : (e : ℕ) → IsInteger (owner_of u.setting.numbers e)) where
  abbrev g : Setting
  g = u.setting

  -- the unit as one that tells
  abbrev pub x : Teller
  x = record { added = n; member = λ e s i. member_number g s e i; numbers = g.numbers; task = task }

  abbrev r : Rules
  r = well_placed names

  abbrev r' : Rules
  r' = well_placed names'

  abbrev C : Type 0
  C = (Prim.Unit {0} × Prim.Unit {0}) × Prim.Unit {0}

  abbrev pub b : Asks C
  b = both (both (place_asks r) (fit_asks u)) (tell_asks u)

  abbrev pub a : Asks (Prim.Unit {0})
  a = place_asks r'

  -- ---- members of families

  module _ (s : Span) (e : PExpr) (q : ℕ) (le : q ≤ 300) (one : EveryExpr r' q e) (two : EveryExpr r' (q + 1) e) where
    as-number-placed : (k : ℕ) (o : Option Kind) → EveryExpr r' q (as_number g.types s k o e)
    as-number-placed k (Some kind.Integer) = one
    as-number-placed k (Some kind.Truth) = (le, known.kinds k, known.first 20 (omega arith), two)
    as-number-placed k (Some (kind.Enumeration ids)) = (le, known.kinds k, known.first 20 (omega arith), two)
    as-number-placed k (Some (kind.Array index first last part)) = (le, known.kinds k, known.first 20 (omega arith), two)
    as-number-placed k None = (le, known.kinds k, known.first 20 (omega arith), two)

    number-placed : (o : Option PDrange) → EveryExpr r' q (number_in g.types s o e)
    number-placed None = one
    number-placed (Some y) = as-number-placed (kind_of_range g.types y) (slice_get g.types.kinds (kind_of_range g.types y))

  member-placed : (s : Span) (e q : ℕ) (o : Option PExpr) → q ≤ 300 → ((j : ℕ) → j ≤ q + 1 → IfSome o (EveryExpr r' j)) → EveryExpr r' q (member_number g s e o)
  member-placed s e q None le h = (le, omega arith)
  member-placed s e q (Some y) le h = number-placed s y q le (h q (omega arith)) (h (q + 1) (omega arith)) (family_range g e)

  -- ---- notes

  notes-placed : (q : ℕ) (s : Span) (k : ℕ) (t : PExpr) (e : ℕ) (i : PExpr) (o : ℕ) → q ≤ 300 → IsInteger k → EveryExpr r' q t → IsInteger e → EveryExpr r' q i → IsInteger o → IsName names' n.note × EveryArgs r' q (record { first = note_actuals x s k t e i o; second = None })
  notes-placed q s k t e i o le few one few_e two few_o = (
    known.note,
    (
      (omega arith, All-from_recursion (EveryExpr r' q) (note_actuals x s k t e i o) ((le, few), (one, ((le, few_e), (two, ((le, few_o), ((le, known.answer), tt))))))),
      tt,
    ),
  )

  own-placed : (q : ℕ) (s : Span) → q ≤ 300 → EveryExpr r' q (own_number x s)
  own-placed q s le = (le, few_task)

  -- ---- calls

  -- the index of a call, wherever it stands near the call
  index-moved : (f : Bool) (j q : ℕ) (args : PArgs) → q ≤ j + 3 * j + 50 → EveryArgs (reach j) j args → EveryArgs r j args → IfSome (lists_in f args).index (EveryExpr r' q)
  index-moved true j q args le f h = first args.first f.0.1 h.0.1
    where
      first : (es : List PExpr) → All (EveryExpr (reach j) j) es → All (EveryExpr r j) es → IfSome (first_expr es) (EveryExpr r' q)
      first [] f h = tt
      first (e ∷ es) f h = expr-moved names names' old j j q e le (All-head (EveryExpr (reach j) j) e es f) (All-head (EveryExpr r j) e es h)
  index-moved false j q args le f h = tt

  called-index : (e j q : ℕ) (o : Option PArgs) → q ≤ j + 3 * j + 50 → IfSome o (EveryArgs (reach j) j) → IfSome o (EveryArgs r j) → IfSome (lists_of g.numbers e o).index (EveryExpr r' q)
  called-index e j q None le f h = tt
  called-index e j q (Some args) le f h = index-moved (is_family g.numbers e) j q args le f h

  call-note-placed : (c : C) (k j q : ℕ) (s : Span) (kind : ℕ) (y : PCall) → IsShallow k → k + 1 ≤ j → b.call c j y → kind ≤ 8 → StandsNear k q →
      IsName names' n.note × EveryArgs r' q (record { first = note_actuals x s kind (own_number x s) (entry_called g y) (member_called x s y) (owner_of g.numbers (entry_called g y)); second = None })
  call-note-placed c k j q s kind y h low i few le =
      let small : q ≤ 300 = omega (arith, h, le) in
      notes-placed q s kind (own_number x s) (entry_called g y) (member_called x s y) (owner_of g.numbers (entry_called g y)) small (omega (arith, few)) (own-placed q s small)
      (omega (arith, entry-few g.numbers (unwrap_or (position (λ info. info.name.0 == y.task.name.name.0) g.numbers.tasks) 0) y.entry.name, few_entries))
      (member-placed s (entry_called g y) q (lists_called g y).index small (λ m l. called-index (entry_called g y) j m y.args (omega (arith, l, le, low)) i.0.1.0 i.0.0.1))
      (owners (entry_called g y))

  telling-placed : (j q : ℕ) (s : Span) (f : Bool) (o : Option PArgs) → q ≤ 300 → q ≤ j + 3 * j + 50 → (f ≡ true → HasLists o) → IfSome o (EveryArgs (reach j) j) → IfSome o (EveryArgs r j) → EveryArgs r' q (args_with f (own_number x s) o)
  telling-placed j q s true None small le has f h = absurd (has refl)
  telling-placed j q s true (Some args) small le has f h = let moved : EveryArgs r' q args = args-moved names names' old j j q (Some args) le f h in (moved.0, (omega arith, All-cons (EveryExpr r' q) (own_number x s) (unwrap_or args.second []) (own-placed q s small) (behind args.second moved.1)))
    where
      behind : (m : Option (List PExpr)) → IfSome m (EveryExprs r' q) → All (EveryExpr r' q) (unwrap_or m [])
      behind None i = All-from_recursion (EveryExpr r' q) [] tt
      behind (Some es) i = i.1
  telling-placed j q s false None small le has f h = ((omega arith, All-from_recursion (EveryExpr r' q) (own_number x s ∷ []) (own-placed q s small, tt)), tt)
  telling-placed j q s false (Some args) small le has f h =
      let moved : EveryArgs r' q args = args-moved names names' old j j q (Some args) le f h in
      ((omega arith, All-cons (EveryExpr r' q) (own_number x s) args.first (own-placed q s small) moved.0.1), moved.1)

  -- ---- accepts

  pub formal-placed : (s : Span) → EveryFormal r' (caller_formal n s)
  formal-placed s = ((omega arith, All-from_recursion (EveryWord r') (word_at s n.caller ∷ []) (known.caller, tt)), known.first 0 (omega arith))

  others-last : (hs : PHandlers) (t : ℕ) → OthersLast hs → OthersLast (inside_handlers (collect_rewriter x) hs t)
  others-last no_handler t h = tt
  others-last (handler_then (handler [] l s) no_handler) t h = (tt, tt)
  others-last (handler_then (handler [] l s) (handler_then (handler vs m s') rest)) t h = absurd h.0
  others-last (handler_then (handler (w ∷ ws) l s) rest) t h = (tt, others-last rest (after_stmts (collect_rewriter x) l t) h.1)

  -- ---- all pieces

  pub pieces : Pieces x IsShallow b a (λ c d. Prim.Unit {0})
  pieces = record {
    here = λ c k s h. h.0.1;
    here_accepted = λ c k h i. i.0.1.0;
    outer = λ c d k q s rel h le. omega (arith, h, le);
    many = λ q h. h.0.0;
    some = λ q. omega arith;
    duration = λ q h. h.0.0;
    plain = λ c d k q y i rel h le. plain-moved names names' old k q y i le h.0.1 h.0.0;
    condition = λ c d k q e rel h le. expr-moved names names' old k k q e (omega (arith, le)) h.0.1 h.0.0;
    selector = λ c d k q e xs others s rel h le. expr-moved names names' old k k q e (omega (arith, le)) h.0.1 h.0.0;
    choices = λ c d k q e xs rel h le. (h.0.0.0, choices-moved names names' old k k q xs (omega (arith, le)) h.0.1 h.0.0.1);
    loop = λ c d k q w y rel h le. (word-moved names names' old w h.0.0.0, scheme-moved names names' old k k q y (omega (arith, le)) h.0.1 h.0.0.1);
    looping = λ c d k w y rel h. tt;
    callee = λ c d k j q y rel h under i le. (old y.name.name i.0.0.0, option-moved names names' old j j q y.index (omega (arith, le)) i.0.1 i.0.0.1);
    aborts = λ c d k q xs rel h le. h.0.0;
    handlers = λ hs t h. others-last hs t h.0.0;
    handled = λ c d k q ids ws rel h le. words-moved names names' old ws h.0.0;
    handling = λ c d rel. tt;
    wait = λ c d k q xs others s t rel near h all le. tt;
    delay = λ c d k q guard s rel near h le. omega (arith, near, le);
    telling = λ c d k j q s y rel h under t i le.
        (old y.entry.name i.0.0.0, telling-placed j q s (is_family g.numbers (entry_called g y)) y.args (omega (arith, h, under.1, le)) (omega (arith, le)) i.1 i.0.1.0 i.0.0.1);
    head = λ c d k q h rel i le. (
      omega (arith, i.0.1.0, le),
      (
        old h.entry.name i.0.0.1.0,
        option-moved names names' old k (k + 1) (q + 1) h.index (omega (arith, le)) i.0.1.1 i.0.0.1.1,
        All-cons (EveryFormal r') (caller_formal n h.entry.span) h.formals (formal-placed h.entry.span) (formals-moved names names' old h.formals i.0.0.1.2),
      ),
    );
    in_accept = λ c d k h rel i. tt;
    recorder = λ c d k q s rel h le. (known.recorder, tt);
    own = λ c d k q s kind rel h few le.
        let small : q ≤ 300 = omega (arith, h, le) in
        notes-placed q s kind (own_number x s) 0 (EInteger 0 s) 0 small (omega (arith, few)) (own-placed q s small) (omega arith) (small, omega arith) (omega arith);
    delayed = λ c d k q xs others t s place rel h w few le.
        let small : q ≤ 300 = omega (arith, h, le) in
        notes-placed q s 4 (own_number x s) place (EInteger 0 s) 0 small (omega arith) (own-placed q s small) (omega (arith, few, w.0.1.0)) (small, omega arith) (omega arith);
    told = λ c d k j q s kind y rel h under t i few le. call-note-placed c k j q s kind y h under.0 i few le;
    failed = λ c d k j q s y rel h under t i le. call-note-placed c k j q s 7 y h under.0 i (omega arith) le;
    begun = λ c d k q s h rel i le.
        let small : q ≤ 300 = omega (arith, i.0.1.0, le) in
        let e : ℕ = entry_of g.numbers task h.entry.name in
        notes-placed q s 1 (EName n.caller s) e (member_number g s e h.index) task small (omega arith) (small, known.caller) (omega (arith, entry-few g.numbers task h.entry.name, few_entries))
        (member-placed s e q h.index small (λ m l. option-moved names names' old k (k + 1) m h.index (omega (arith, l, le)) i.0.1.1 i.0.0.1.1)) few_task;
    part = λ c d k q s w rel h few le. (omega (arith, h, le), (known.part, tt), (omega (arith, h, le), omega (arith, few)));
    came = λ c d k q s rel h le. (omega (arith, h, le), (inl (omega arith), omega arith), (omega (arith, h, le), known.part), (omega (arith, h, le), omega arith));
    answered = λ c d k q s rel h le. (omega (arith, h, le), known.answer);
    late = λ c d k q s rel h le. (omega (arith, h, le), known.first 9 (omega arith));
    watched = λ s l. (tt, tt);
    watch = λ c d k q s rel h le. All-from_recursion (EveryWord r') (tasking_error s ∷ []) (known.first 9 (omega arith), tt);
    others = λ s l. (tt, tt);
    no_others = tt;
    other = λ c d k q rel h le. All-from_recursion (EveryWord r') [] tt;
    null = λ c d k q s rel h le. omega (arith, h, le);
    again = λ c d k q s rel h le. (omega (arith, h, le), tt);
  }
