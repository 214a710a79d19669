-- Each piece of a collecting text of a program with abort statements meets the static rules 1 and 3 to 12, and so does the body of a unit.
use Rattle.std.proofs.Common.{◌≡◌, ℕ, ◌≤◌, Bool, List, [], refl, subst, sym}
use Rattle.std.specs.List.{AllByRecursion}
use Rattle.std.proofs.lemmas.List.Elements.{recursion_from_All}
use Rattle.ada_tree.specs.declared.naming.Span.{Span}
use Rattle.ada_tree.specs.PlainExpr.{PExpr, EInteger}
use Rattle.ada_tree.specs.PlainStmt.{PChoice, PCall, PBody}
use Rattle.ada_tree.specs.PlainProgram.{PProgram}
use Rattle.ada_tree.specs.Every.{Rules, EveryWord, EveryChoice}
use Rattle.ada_static_rules.specs.Scope.{Scope, integer_kind}
use Rattle.ada_static_rules.specs.RuleArrayUse.{array_in_node}
use Rattle.ada_static_rules.specs.Sites.{body_sites}
use Rattle.task_model.specs.Setting.{Setting}
use Rattle.syn_event.specs.Numbering.{owner_of}
use Rattle.task_laws.specs.legal.asked.Asked.{Asks, AskedBody}
use Rattle.task_laws.specs.legal.asked.Kinds.{type_asks}
use Rattle.task_laws.proofs.legal.asked.Typed.{asked_typed}
use Rattle.task_laws.specs.legal.alike_scopes.Old.{IsOldExpr, IsOldChoice}
use Rattle.task_laws.specs.legal.alike_scopes.Laws.{IsMetBut}
use Rattle.normal_model.specs.RewrittenUnit.{RewrittenUnit}
use Rattle.normal_laws.specs.structure.checked.Around.{own_rules}
use Rattle.normal_laws.proofs.structure.typed.Cases.{with_cases, cases_asked}
use Rattle.normal_laws.proofs.structure.typed.Stays.{old-expr, old-choices, no-array, condition-stays, loop-stays, choices-stay, selector-stays, handler-stays, plain-stays}
use Rattle.replay_model.specs.Asking.{member_number}
use Rattle.replay_structure.proofs.typed.Tests.{IsFit, literal-fit}
use Rattle.collect_model.specs.Names.{answer_text, collect_names, added_in}
use Rattle.collect_model.specs.Teller.{Teller, task_of}
use Rattle.collect_model.specs.Calling.{entry_called, member_called}
use Rattle.collect_model.specs.Noting.{has_delay, has_failed}
use Rattle.collect_structure.specs.Names.{added_id}
use Rattle.collect_structure.specs.asked.Pieces.{own_call, call_call}
use Rattle.collect_structure.specs.typed.Told.{AreOuter, IsToldScope, told_asks}
use Rattle.collect_structure.proofs.typed.Notes.{CallMet, answer-met, late-met, part-met, note-met, recorder-met}
use Rattle.collect_structure.proofs.typed.Calls.{callee-stays, telling-met, index-fit}
use Rattle.collect_structure.proofs.typed.Accepts.{head-met}
use Rattle.collect_structure.proofs.typed.Inside.{IsCallerApart, loop-scope-kept}
use Rattle.collect_model.specs.aborts.AbortTeller.{AbortTeller}
use Rattle.collect_model.specs.aborts.AbortStmts.{main_body, task_body}
use Rattle.collect_model.specs.aborts.Noting.{at_abort}
use Rattle.collect_model.specs.aborts.Places.{places_in}
use Rattle.collect_structure.specs.aborts.asked.Pieces.{Pieces}
use Rattle.collect_structure.specs.aborts.typed.Told.{ArePlacesOuter, SeesPlaces}
use Rattle.collect_structure.proofs.aborts.asked.Walk.{main-keeps, task-keeps}
use Rattle.collect_structure.proofs.aborts.typed.Inside.{inside-told, inside-places, caller-fit, begun-met, loop-places}
use Rattle.collect_structure.proofs.aborts.typed.Places.{number-kept-met, truth-kept-met, not-truth-met, part-is-met, is-taken-met, over-met}
use Rattle.replay_structure.proofs.typed.Typed.{same}
use Rattle.collect_structure.proofs.typed.Typed.{if-args}

-- what a unit is told, by another teller
abbrev pub telling_by : AbortTeller → Teller → AbortTeller
telling_by y t = record { teller = t; acceptors = y.acceptors; each = y.each; taken = y.taken; refused = y.refused }

module _ (g : Setting) (task : ℕ) (old inner : ℕ → Bool) (outer : AreOuter g.program inner) (apart : IsCallerApart g old) where
  abbrev q : PProgram
  q = g.program

  abbrev u : RewrittenUnit
  u = record { setting = g; task = task }

  abbrev r : Rules
  r = own_rules old

  abbrev pub C : Type 0
  C = Prim.Unit {0} × Scope

  abbrev pub known : Asks C
  known = told_asks old inner

  -- a selector is of old names, and no whole array
  abbrev IsSelector : C → PExpr → Type 0
  IsSelector c e = IsOldExpr old e × (array_in_node c.1 e ≡ [])

  abbrev b : Asks C
  b = with_cases known IsSelector (IsOldChoice old)

  abbrev a : Asks Scope
  a = type_asks IsMetBut

  -- nothing more is to be known of nesting
  abbrev H : ℕ → Type 0
  H k = Prim.Unit {0}

  -- what a unit is told without aborts
  abbrev pub told : Teller
  told = record { added = added_in (collect_names q); member = λ e s i. member_number g s e i; numbers = g.numbers; task = task }

  module _ (z : AbortTeller) (most : ℕ) (shown : ArePlacesOuter q inner z most) where
    -- what can be used in the normal form and in the text
    abbrev pub R : C → Scope → Type 0
    R c d = IsToldScope u old inner c.1 d × SeesPlaces z most d

    abbrev y : AbortTeller
    y = telling_by z told

    -- ---- notes

    own-met : (c : C) (d : Scope) (rel : IsToldScope u old inner c.1 d) (s : Span) (kind place : ℕ) → CallMet d (own_call told s kind place)
    own-met c d rel s kind place = note-met q told refl d rel.recorder rel.answer s kind (EInteger task s) place (EInteger 0 s) 0 (literal-fit d task s) (literal-fit d 0 s)

    call-met : (c : C) (d : Scope) (rel : IsToldScope u old inner c.1 d) (s : Span) (kind : ℕ) (v : PCall) → IsFit d integer_kind (member_called told s v) → CallMet d (call_call told s kind v)
    call-met c d rel s kind v i =
        note-met q told refl d rel.recorder rel.answer s kind (EInteger task s) (entry_called told v) (member_called told s v) (owner_of g.numbers (entry_called told v)) (literal-fit d task s) i

    -- ---- all pieces

    pieces : Pieces y most H b a R R
    pieces = record {
      near = λ c d rel. rel;
      looping = λ c d k w v rel h. (loop-scope-kept g task old inner outer apart c.1 d k v h.0.1 h.1.1 rel.0, loop-places q old inner z most shown d v h.1.1 rel.1);
      handling = λ c d rel. rel;
      in_accept = λ c d k h rel i. (
        inside-told g task old inner outer apart c.1 d k h rel.0 i.0.0.1 i.0.1.1 i.0.1.2,
        inside-places g task old inner outer apart c.1 d k h rel.0 i.0.0.1 i.0.1.1 i.0.1.2 z most shown rel.1,
      );
      in_loop = λ c d rel. rel;
      in_handler = λ c d rel. rel;
      here = λ c k s h. tt;
      here_accepted = λ c k h i. tt;
      outer = λ c d k n s rel h le. tt;
      many = λ n h. tt;
      some = λ n. tt;
      duration = λ n h. tt;
      plain = λ c d k n v i rel h le. plain-stays IsMetBut same old c.1 d rel.0.names k v i h.0 h.1;
      condition = λ c d k n e rel h le. condition-stays IsMetBut same old c.1 d rel.0.names e (old-expr old k e h.0) h.1;
      selector = λ c d k n e xs others s rel h le. selector-stays IsMetBut same old c.1 d rel.0.names e xs others s (old-expr old k e h.0.0) h.1 h.0.1;
      choices = λ c d k n e xs rel h le. choices-stay IsMetBut same old c.1 d rel.0.names e xs h.1.0 h.1.1 (old-choices old k xs (recursion_from_All (EveryChoice r k) xs h.0.0.1)) h.0.1;
      loop = λ c d k n w v rel h le. loop-stays IsMetBut same old c.1 d rel.0.names k w v h.0.1 h.1.0;
      callee = λ c d k j n v rel h un i le. callee-stays g task old inner c.1 d rel.0 v i.0.0 i.1.1 i.1.0;
      aborts = λ c d k n xs rel h le. tt;
      handlers = λ hs t h. tt;
      handled = λ c d k n ids ws rel h le. handler-stays IsMetBut same old c.1 d rel.0.names ids ws (recursion_from_All (EveryWord r) ws h.0) h.1;
      telling = λ c d k j n s v rel h un i m le. telling-met g task old inner c.1 d rel.0 v i.0.0 i.1.1 (if-args g task old inner outer apart j v.args m.0.1) m.1 s;
      head = λ c d k n h rel i le. head-met g task old inner c.1 d rel.0 k h i.0.0.1 i.0.1.1 i.0.1.0;
      wait = λ c d k n xs others s t p rel near place w all le. tt;
      delay = λ c d k n guard s rel near h le. tt;
      branched = λ c k xs others s w. tt;
      recorder = λ c d k n s rel h le. recorder-met q told refl d rel.0.recorder rel.0.answer s;
      own = λ c d k n s kind rel h few le. own-met c d rel.0 s kind 0;
      aborted = λ c d k n s v rel h i m le. own-met c d rel.0 s at_abort (task_of g.numbers v.name.name);
      delayed = λ c d k n xs others t s place rel h w few le. own-met c d rel.0 s has_delay place;
      told = λ c d k j n s kind v rel h un i m few le. call-met c d rel.0 s kind v (index-fit g task old inner c.1 d rel.0 v i.0.0 i.1.1 (if-args g task old inner outer apart j v.args m.0.1) m.1 s);
      failed = λ c d k j n s v rel h un i m le. call-met c d rel.0 s has_failed v (index-fit g task old inner c.1 d rel.0 v i.0.0 i.1.1 (if-args g task old inner outer apart j v.args m.0.1) m.1 s);
      begun = λ c d k n s h rel i le. begun-met g task old inner outer apart c.1 d k h rel.0 i.0.0.1 i.0.1.1 i.0.1.2 i.0.1.0 i.1 s;
      over = λ c d k n s p rel h place le. over-met q y refl d rel.0.recorder rel.0.answer s p (rel.1.taken p place);
      takes = λ c d k n s h p rel i place le.
          number-kept-met _ (z.taken p) (added_in (collect_names q)).caller s
          ((inside-places g task old inner outer apart c.1 d k h rel.0 i.0.0.1 i.0.1.1 i.0.1.2 z most shown rel.1).taken p place)
          (caller-fit g task old inner outer apart c.1 d k h rel.0 i.0.0.1 i.0.1.1 i.0.1.2 s);
      keeps = λ c d k n s p rel h place le. truth-kept-met d (z.refused p) (added_id q answer_text) s (rel.1.refused p place) rel.0.answer;
      refused = λ c d k n s p rel h place le. answer-met d (z.refused p) s (rel.1.refused p place);
      unrefused = λ c d k n s p rel h place le. not-truth-met d (z.refused p) s (rel.1.refused p place);
      tries = λ c d k n rel h le. tt;
      leaves = λ c d k n s p rel h place le. not-truth-met d (z.refused p) s (rel.1.refused p place);
      leaves_wait = λ c d k n s rel h le. is-taken-met d y s rel.0.part;
      part = λ c d k n s w rel h few le. part-met d told s w rel.0.part;
      came = λ c d k n s rel h le. part-is-met d told s 1 rel.0.part;
      chosen = λ c d k n xs others t s w rel h i few le. part-met d told s w rel.0.part;
      chose = λ c d k n xs others t s w rel h i few le. part-is-met d told s w rel.0.part;
      answered = λ c d k n s rel h le. answer-met d (added_id q answer_text) s rel.0.answer;
      late = λ c d k n s rel h le. late-met d s rel.0.tasking;
      others = λ s l. tt;
      no_others = tt;
      other = λ c d k n rel h le. tt;
      null = λ c d k n s rel h le. tt;
      again = λ c d k n s rel h le. tt;
    }

    -- ---- from what is asked of a body of the normal form

    selects : (c : C) (k : ℕ) (e : PExpr) (xs : List PChoice) (others : Bool) (s : Span) → known.selector c k e xs others s → IsSelector c e
    selects c k e xs others s h = (old-expr old k e h.0, no-array IsMetBut same c.1 e h.1.1)

    each : (c : C) (k : ℕ) (e : PExpr) (xs : List PChoice) → known.choices c k e xs → AllByRecursion (IsOldChoice old) xs
    each c k e xs h = old-choices old k xs (recursion_from_All (EveryChoice r k) xs h.0.1)

    -- The body of main, and that of a task, in the text, where it has no more places than are seen.
    pub main-met : z.teller ≡ told → (c : C) (d : Scope) (k : ℕ) (v : PBody) → R c d → 1 ≤ k → places_in v ≤ most → AskedBody known c k v → AllByRecursion IsMetBut (body_sites d (main_body z v))
    main-met is c d k v rel low few h =
        subst (λ t. AllByRecursion IsMetBut (body_sites d (main_body (telling_by z t) v))) (sym is)
        (asked_typed IsMetBut d k (main_body y v) (main-keeps y most H b a R R pieces c d k v rel low few (cases_asked known IsSelector (IsOldChoice old) selects each c k v h)))

    pub task-met : z.teller ≡ told → (c : C) (d : Scope) (k : ℕ) (s : Span) (v : PBody) → R c d → 1 ≤ k → places_in v ≤ most → AskedBody known c k v →
        AllByRecursion IsMetBut (body_sites d (task_body z s v))
    task-met is c d k s v rel low few h =
        subst (λ t. AllByRecursion IsMetBut (body_sites d (task_body (telling_by z t) s v))) (sym is)
        (asked_typed IsMetBut d k (task_body y s v) (task-keeps y most H b a R R pieces c d k s v rel tt low few (cases_asked known IsSelector (IsOldChoice old) selects each c k v h)))
