-- What a renaming of ids does to frames: ends, exceptions, exits and callers, and to tasks that go on.
use Rattle.std.proofs.Common.{◌++◌, ◌==◌, ◌∙◌, ◌∷◌, ◌≡◌, Err, List, None, Ok, Option, Result, Some, [], ap, arith, drop, map, option_map, refl, sym, unwrap_or, ℕ}
use Rattle.std.proofs.lemmas.List.{drop-map, length-map}
use Rattle.ada_tree.specs.PlainStmt.{PHandlers, PMaybe, PStmts, absent, handler, handler_then, no_handler, no_stmt, present, stmt_then}
use Rattle.ada_tree.specs.declared.naming.NameId.{NameId}
use Rattle.ada_tree.specs.declared.naming.Word.{Word}
use Rattle.ada_value.specs.Variables.{Variables}
use Rattle.ada_value.specs.declared.values.Raised.{Raised}
use Rattle.task_model.specs.Frames.{Around, Block, Control, Counting, Endless, Handling, Loop, Opened, OwnBody, PFrame, Turns, While, block_with, brought, brought_by, caller_at, callers_among, callers_in, control, exited_in, handled_among, handled_at, handled_by, handler_for, in_front, is_for, is_left, or_else, raised_in, raised_name, raised_named, settled, settled_in, unit_with, without_own}
use Rattle.task_model.specs.Machine.{after}
use Rattle.task_model.specs.Tasks.{Task, entered, gone_to, or_raised, outer_of, place_of, pushed, raised_there, stmts_or_none, vars_of, with_control}
use Rattle.replay_runs.proofs.same.Lists.{any_mapped, if_like, unwrapped}
use Rattle.replay_runs.proofs.same.Names.{kept, told}
use Rattle.replay_runs.specs.same.Renamed.{IsRenaming, renamed_handlers, renamed_id, renamed_maybe, renamed_stmt, renamed_stmts, renamed_word}
use Rattle.replay_runs.specs.same.inner.RenamedTasks.{renamed_around, renamed_control, renamed_frame, renamed_parameter, renamed_state, renamed_turns}
use Rattle.replay_runs.specs.same.inner.RenamedValues.{renamed_object, renamed_raised, renamed_result, renamed_vars}
use Rattle.ada_value.specs.declared.values.Raised.TheVariants as raised

module _ (f : ℕ → ℕ) (r : IsRenaming f) where
  pub in_front_same : (a b : PStmts) → in_front (renamed_stmts f a) (renamed_stmts f b) ≡ renamed_stmts f (in_front a b)
  in_front_same no_stmt b = refl
  in_front_same (stmt_then s a) b = ap (stmt_then (renamed_stmt f s)) (in_front_same a b)

  pub or_none_same : (o : PMaybe) → stmts_or_none (renamed_maybe f o) ≡ renamed_stmts f (stmts_or_none o)
  or_none_same absent = refl
  or_none_same (present stmts) = refl

  -- ---- ends

  pub settled_same : (outer : List PFrame) (rest : PStmts) (place : Around) (vars : Variables) →
      settled_in (map (renamed_frame f) outer) (renamed_stmts f rest) (renamed_around f place) (renamed_vars f vars) ≡ renamed_control f (settled_in outer rest place vars)
  settled_same outer (stmt_then s l) place vars = refl
  settled_same [] no_stmt (OwnBody handlers taken) vars = refl
  settled_same [] no_stmt (Block handlers) vars = refl
  settled_same [] no_stmt (Handling x) vars = refl
  settled_same [] no_stmt (Loop name turns stmts) vars = refl
  settled_same [] no_stmt (Opened caller formals pending) vars = refl
  settled_same (part ∷ parts) no_stmt (OwnBody handlers taken) vars = refl
  settled_same (part ∷ parts) no_stmt (Block handlers) vars = settled_same parts part.rest part.place vars
  settled_same (part ∷ parts) no_stmt (Handling x) vars = settled_same parts part.rest part.place vars
  settled_same (part ∷ parts) no_stmt (Loop name turns stmts) vars = refl
  settled_same (part ∷ parts) no_stmt (Opened caller formals pending) vars = refl

  pub settled_control : (c : Control) → settled (renamed_control f c) ≡ renamed_control f (settled c)
  settled_control c = settled_same c.outer c.top.rest c.top.place c.vars

  -- ---- leaving

  brought_by_same : (turns : Turns) → brought_by (renamed_turns f turns) ≡ brought_by turns
  brought_by_same Endless = refl
  brought_by_same (While e) = refl
  brought_by_same (Counting backwards last) = refl

  brought_same : (place : Around) → brought (renamed_around f place) ≡ brought place
  brought_same (OwnBody handlers taken) = refl
  brought_same (Block handlers) = refl
  brought_same (Handling x) = refl
  brought_same (Loop name turns stmts) = brought_by_same turns
  brought_same (Opened caller formals pending) = length-map formals (renamed_parameter f)

  dropped : (n m : ℕ) → n ≡ m → (vars : Variables) → drop n (renamed_vars f vars) ≡ renamed_vars f (drop m vars)
  dropped n m e vars = ap (λ k. drop k (renamed_vars f vars)) e ∙ drop-map (renamed_object f) m vars

  pub turns_dropped : (turns : Turns) (vars : Variables) → drop (brought_by (renamed_turns f turns)) (renamed_vars f vars) ≡ renamed_vars f (drop (brought_by turns) vars)
  turns_dropped turns vars = dropped _ _ (brought_by_same turns) vars

  pub own_dropped : (place : Around) (vars : Variables) → without_own (renamed_around f place) (renamed_vars f vars) ≡ renamed_vars f (without_own place vars)
  own_dropped place vars = dropped _ _ (brought_same place) vars

  -- ---- exceptions

  raised_name_same : (x : Raised) → raised_name (renamed_raised f x) ≡ f (raised_name x)
  raised_name_same raised.Constraint = sym (r.fixed 6 (omega arith))
  raised_name_same raised.Numeric = sym (r.fixed 7 (omega arith))
  raised_name_same raised.Program = sym (r.fixed 8 (omega arith))
  raised_name_same raised.Tasking = sym (r.fixed 9 (omega arith))
  raised_name_same raised.Storage = sym (r.fixed 10 (omega arith))
  raised_name_same raised.End = sym (r.fixed 11 (omega arith))
  raised_name_same (raised.Other id) = refl

  pub raised_named_same : (id : NameId) → raised_named (renamed_id f id) ≡ renamed_raised f (raised_named id)
  raised_named_same id =
      if_like (renamed_raised f) _ (id.0 == 6) (told f r id.0 6 (omega arith)) refl
      (if_like (renamed_raised f) _ (id.0 == 7) (told f r id.0 7 (omega arith)) refl
      (if_like (renamed_raised f) _ (id.0 == 8) (told f r id.0 8 (omega arith)) refl
      (if_like (renamed_raised f) _ (id.0 == 9) (told f r id.0 9 (omega arith)) refl
      (if_like (renamed_raised f) _ (id.0 == 10) (told f r id.0 10 (omega arith)) refl
      (if_like (renamed_raised f) _ (id.0 == 11) (told f r id.0 11 (omega arith)) refl refl)))))

  is_for_same : (x : Raised) (ws : List Word) → is_for (renamed_raised f x) (map (renamed_word f) ws) ≡ is_for x ws
  is_for_same x [] = refl
  is_for_same x (w ∷ ws) = any_mapped (renamed_word f) (λ v. v.name.0 == raised_name (renamed_raised f x)) (λ v. v.name.0 == raised_name x)
      (λ v. ap (λ n. f v.name.0 == n) (raised_name_same x) ∙ r.same v.name.0 (raised_name x)) (w ∷ ws)

  handler_for_same : (x : Raised) (hs : PHandlers) → handler_for (renamed_raised f x) (renamed_handlers f hs) ≡ option_map (renamed_stmts f) (handler_for x hs)
  handler_for_same x no_handler = refl
  handler_for_same x (handler_then (handler ws stmts s) rest) = if_like (option_map (renamed_stmts f)) _ (is_for x ws) (is_for_same x ws) refl (handler_for_same x rest)

  unit_with_same : (o : Option PStmts) (x : Raised) (hs : PHandlers) (outer : List PFrame) (vars : Variables) →
      unit_with (option_map (renamed_stmts f) o) (renamed_raised f x) (renamed_handlers f hs) (map (renamed_frame f) outer) (renamed_vars f vars) ≡ renamed_control f (unit_with o x hs outer vars)
  unit_with_same None x hs outer vars = refl
  unit_with_same (Some stmts) x hs outer vars = refl

  block_with_same : (o : Option PStmts) (x : Raised) (outer : List PFrame) (vars : Variables) (beyond : Control) (after : Control) → after ≡ renamed_control f beyond →
      block_with (option_map (renamed_stmts f) o) (renamed_raised f x) (map (renamed_frame f) outer) (renamed_vars f vars) after ≡ renamed_control f (block_with o x outer vars beyond)
  block_with_same None x outer vars beyond after e = e
  block_with_same (Some stmts) x outer vars beyond after e = refl

  own_raised : (x : Raised) (outer : List PFrame) (hs : PHandlers) (vars : Variables) →
      unit_with (handler_for (renamed_raised f x) (renamed_handlers f hs)) (renamed_raised f x) (renamed_handlers f hs) (map (renamed_frame f) outer) (renamed_vars f vars)
      ≡ renamed_control f (unit_with (handler_for x hs) x hs outer vars)
  own_raised x outer hs vars =
      ap (λ o. unit_with o (renamed_raised f x) (renamed_handlers f hs) (map (renamed_frame f) outer) (renamed_vars f vars)) (handler_for_same x hs)
      ∙ unit_with_same (handler_for x hs) x hs outer vars

  raised_same : (x : Raised) (outer : List PFrame) (place : Around) (vars : Variables) →
      raised_in (renamed_raised f x) (map (renamed_frame f) outer) (renamed_around f place) (renamed_vars f vars) ≡ renamed_control f (raised_in x outer place vars)
  raised_same x [] (OwnBody hs None) vars = own_raised x [] hs vars
  raised_same x [] (OwnBody hs (Some y)) vars = refl
  raised_same x [] (Opened caller formals pending) vars = refl
  raised_same x [] (Block hs) vars = refl
  raised_same x [] (Handling y) vars = refl
  raised_same x [] (Loop name turns stmts) vars = refl
  raised_same x (part ∷ parts) (OwnBody hs None) vars = own_raised x (part ∷ parts) hs vars
  raised_same x (part ∷ parts) (OwnBody hs (Some y)) vars = refl
  raised_same x (part ∷ parts) (Opened caller formals pending) vars = refl
  raised_same x (part ∷ parts) (Block hs) vars =
      ap (λ o. block_with o (renamed_raised f x) (map (renamed_frame f) (part ∷ parts)) (renamed_vars f vars)
      (raised_in (renamed_raised f x) (map (renamed_frame f) parts) (renamed_around f part.place) (renamed_vars f vars))) (handler_for_same x hs)
      ∙ block_with_same (handler_for x hs) x (part ∷ parts) vars _ _ (raised_same x parts part.place vars)
  raised_same x (part ∷ parts) (Handling y) vars = raised_same x parts part.place vars
  raised_same x (part ∷ parts) (Loop name turns stmts) vars =
      ap (λ vs. raised_in (renamed_raised f x) (map (renamed_frame f) parts) (renamed_around f part.place) vs) (turns_dropped turns vars)
      ∙ raised_same x parts part.place (drop (brought_by turns) vars)

  handled_at_same : (place : Around) → handled_at (renamed_around f place) ≡ option_map (renamed_raised f) (handled_at place)
  handled_at_same (OwnBody hs taken) = refl
  handled_at_same (Block hs) = refl
  handled_at_same (Handling x) = refl
  handled_at_same (Loop name turns stmts) = refl
  handled_at_same (Opened caller formals pending) = refl

  or_else_same : (o p : Option Raised) → or_else (option_map (renamed_raised f) o) (option_map (renamed_raised f) p) ≡ option_map (renamed_raised f) (or_else o p)
  or_else_same None p = refl
  or_else_same (Some x) p = refl

  handled_among_same : (parts : List PFrame) → handled_among (map (renamed_frame f) parts) ≡ option_map (renamed_raised f) (handled_among parts)
  handled_among_same [] = refl
  handled_among_same (part ∷ parts) = (λ i. or_else (handled_at_same part.place i) (handled_among_same parts i)) ∙ or_else_same (handled_at part.place) (handled_among parts)

  pub handled_by_same : (c : Control) → handled_by (renamed_control f c) ≡ renamed_raised f (handled_by c)
  handled_by_same c =
      ap (λ o. unwrap_or o raised.Program) ((λ i. or_else (handled_at_same c.top.place i) (handled_among_same c.outer i)) ∙ or_else_same (handled_at c.top.place) (handled_among c.outer))
      ∙ unwrapped (renamed_raised f) (or_else (handled_at c.top.place) (handled_among c.outer)) raised.Program

  -- ---- exits

  is_left_same : (w v : Option Word) → is_left (option_map (renamed_word f) w) (option_map (renamed_word f) v) ≡ is_left w v
  is_left_same None v = refl
  is_left_same (Some w) None = refl
  is_left_same (Some w) (Some v) = r.same w.name.0 v.name.0

  pub exited_same : (w : Option Word) (outer : List PFrame) (place : Around) (vars : Variables) →
      exited_in (option_map (renamed_word f) w) (map (renamed_frame f) outer) (renamed_around f place) (renamed_vars f vars) ≡ renamed_control f (exited_in w outer place vars)
  exited_same w [] (OwnBody hs taken) vars = refl
  exited_same w [] (Opened caller formals pending) vars = refl
  exited_same w [] (Block hs) vars = refl
  exited_same w [] (Handling y) vars = refl
  exited_same w [] (Loop name turns stmts) vars = refl
  exited_same w (part ∷ parts) (OwnBody hs taken) vars = refl
  exited_same w (part ∷ parts) (Opened caller formals pending) vars = refl
  exited_same w (part ∷ parts) (Block hs) vars = exited_same w parts part.place vars
  exited_same w (part ∷ parts) (Handling y) vars = exited_same w parts part.place vars
  exited_same w (part ∷ parts) (Loop name turns stmts) vars = if_like (renamed_control f) _ (is_left w name) (is_left_same w name)
      (ap (λ vs. control (renamed_stmts f part.rest) (renamed_around f part.place) (map (renamed_frame f) parts) vs) (turns_dropped turns vars))
      (ap (λ vs. exited_in (option_map (renamed_word f) w) (map (renamed_frame f) parts) (renamed_around f part.place) vs) (turns_dropped turns vars)
      ∙ exited_same w parts part.place (drop (brought_by turns) vars))

  -- ---- callers

  caller_at_same : (place : Around) → caller_at (renamed_around f place) ≡ caller_at place
  caller_at_same (OwnBody hs taken) = refl
  caller_at_same (Block hs) = refl
  caller_at_same (Handling x) = refl
  caller_at_same (Loop name turns stmts) = refl
  caller_at_same (Opened caller formals pending) = refl

  callers_among_same : (parts : List PFrame) → callers_among (map (renamed_frame f) parts) ≡ callers_among parts
  callers_among_same [] = refl
  callers_among_same (part ∷ parts) = λ i. caller_at_same part.place i ++ callers_among_same parts i

  pub callers_same : (c : Control) → callers_in (renamed_control f c) ≡ callers_in c
  callers_same c = λ i. caller_at_same c.top.place i ++ callers_among_same c.outer i

  -- ---- tasks that go on

  module _ (names : List (List ℕ)) where
    pub gone_same : (rest : PStmts) (t : Task) → gone_to (renamed_stmts f rest) (renamed_state f names t) ≡ renamed_state f names (gone_to rest t)
    gone_same rest t = ap (with_control (renamed_state f names t)) (settled_same (outer_of t) rest (place_of t) (vars_of t))

    pub entered_same : (stmts behind : PStmts) (t : Task) → entered (renamed_stmts f stmts) (renamed_stmts f behind) (renamed_state f names t) ≡ renamed_state f names (entered stmts behind t)
    entered_same stmts behind t = ap (λ k. gone_to k (renamed_state f names t)) (in_front_same stmts behind) ∙ gone_same (in_front stmts behind) t

    pub pushed_same : (stmts : PStmts) (place : Around) (vars : Variables) (behind : PStmts) (t : Task) →
        pushed (renamed_stmts f stmts) (renamed_around f place) (renamed_vars f vars) (renamed_stmts f behind) (renamed_state f names t) ≡ renamed_state f names (pushed stmts place vars behind t)
    pushed_same stmts place vars behind t =
        ap (with_control (renamed_state f names t)) (settled_same (record { rest = behind; place = place_of t } ∷ outer_of t) stmts place vars)

    pub raised_there_same : (x : Raised) (t : Task) → raised_there (renamed_raised f x) (renamed_state f names t) ≡ renamed_state f names (raised_there x t)
    raised_there_same x t = ap (with_control (renamed_state f names t))
        (ap settled (raised_same x (outer_of t) (place_of t) (vars_of t)) ∙ settled_control (raised_in x (outer_of t) (place_of t) (vars_of t)))

    pub or_raised_like : {A B : Type 0} (h : A → B) (go : A → Task) (on : B → Task) (t : Task) (x : Result A Raised) (x' : Result B Raised) → x' ≡ renamed_result f h x →
        ((a : A) → on (h a) ≡ renamed_state f names (go a)) → or_raised on (renamed_state f names t) x' ≡ renamed_state f names (or_raised go t x)
    or_raised_like h go on t x x' e each = ap (or_raised on (renamed_state f names t)) e ∙ by_case x
      where
        by_case : (x : _) → or_raised on (renamed_state f names t) (renamed_result f h x) ≡ renamed_state f names (or_raised go t x)
        by_case (Ok a) = each a
        by_case (Err y) = raised_there_same y t

    pub or_raised_kept : {A : Type 0} (go : A → Task) (on : A → Task) (t : Task) (x x' : Result A Raised) → x' ≡ kept f r x →
        ((a : A) → on a ≡ renamed_state f names (go a)) → or_raised on (renamed_state f names t) x' ≡ renamed_state f names (or_raised go t x)
    or_raised_kept {A} go on t x x' e each = or_raised_like (λ (a : A). a) go on t x x' e each
