-- Each unit of the normal form of a legal program has fewer than 2^64 places where calls are accepted: they are those of the program's unit, and a unit has no more of them than it weighs.
use Rattle.std.proofs.Common.{◌≡◌, ℕ, ◌+◌, ◌<◌, ◌≤◌, ◌^◌, Bool, true, false, List, [], ◌∷◌, ◌++◌, flat_map, map, length, Option, Some, None, refl, sym, ap, ◌∙◌, subst, arith}
use Rattle.std.specs.List.{AllByRecursion}
use Rattle.common_lemmas.proofs.Lists.{all_joined, all_weaker}
use Rattle.ada_tree.specs.declared.naming.Span.{Span}
use Rattle.ada_tree.specs.declared.naming.Word.{Word}
use Rattle.ada_tree.specs.declared.naming.NameId.{NameId}
use Rattle.ada_tree.specs.declared.statements.ParMode.{ParMode}
use Rattle.ada_tree.specs.declared.statements.ParMode.TheVariants.{Take, Give, Both}
use Rattle.ada_tree.specs.PlainExpr.{PExpr}
use Rattle.ada_tree.specs.PlainStmt.{PCallee, PCall, PStmt, SNull, SAssign, SDelay, SExit, SRaise, SAbort, SCall, SAccept, SWait, SConditional, STimed, SPut, SPutLine, SNewLine, SGet, SIf, SCase, SBlock, SLoop, PStmts, no_stmt, stmt_then, PMaybe, absent, present, accepting, PAlt, alternative, AAccept, ADelay, ATerminate, PAlts, no_alt, alt_then, PArms, no_arm, arm_then, arm, PCaseArms, no_case_arm, case_arm_then, case_arm, case_arms_of, PBody, body, PHandlers, no_handler, handler_then, handler}
use Rattle.ada_tree.specs.PlainDecl.{PDecl, DNumber, DObject, DEnumeration, DArray, DSubtype, DException, DIntIo, DPragma, DTask, DTaskBody, PDecls, no_decl, decl_then}
use Rattle.ada_tree.specs.PlainProgram.{PProgram}
use Rattle.ada_tree.specs.Every.{Rules, alts_count, EveryStmt, EveryStmts, EverySome, EveryMaybe, EveryAlts, EveryArms, EveryCaseArms, EveryBody, EveryHandlers, EveryDecls}
use Rattle.ada_tree.specs.WellPlaced.{well_placed}
use Rattle.ada_static_rules.specs.Refusals.{types_in}
use Rattle.syn_event.specs.declared.numbering.TaskInfo.{TaskInfo}
use Rattle.syn_event.specs.DeclaredTasks.{decl_list}
use Rattle.task_model.specs.Setting.{Setting}
use Rattle.task_model.specs.Frames.{in_front}
use Rattle.task_model.specs.Calls.{variable_of}
use Rattle.normal_model.specs.Making.{one, or_null, Kept, kept_before, moving}
use Rattle.normal_model.specs.Members.{callee_kept, member_arm, by_member, chosen_if, chosen, known_callee, members_of}
use Rattle.normal_model.specs.Calls.{Slot, slots_called, lists_called, actual_before, actuals_before, copied_to, actual_behind, actuals_behind, indices_kept, actual_number, call_before, call_behind, call_to, plain_image, is_chosen, flagged, part_taken, select_if, select_image}
use Rattle.normal_model.specs.RewrittenUnit.{RewrittenUnit}
use Rattle.normal_model.specs.Waits.{accept_kept, accept_left, kind_kept, under_guard, guarded_before, alternative_before, all_guards, raised_unless, closed_test, wait_image}
use Rattle.normal_model.specs.Aborts.{abort_of, callee_aborted, callees_aborted, abort_image}
use Rattle.normal_model.specs.Variables.{statement_variables, alternative_variables}
use Rattle.normal_model.specs.Walk.{Rewriter, after_parts, after_stmts, after_maybe, after_accept, after_kind, after_alt, after_alts, after_arms, after_case_arms, after_body, after_handlers, alts_leads, leads, parts_rewritten, rewritten, inside_maybe, inside_alts, inside_arms, inside_case_arms, inside_body, inside_handlers}
use Rattle.normal_model.specs.NormalStmts.{normal_image, normal_rewriter, normal_body, unit_variables}
use Rattle.normal_model.specs.NormalTree.{unit_for, running, body_copy, bodies_of, main_unit, greatest}
use Rattle.normal_laws.proofs.structure.numbers.Listed.{IsPlain, IsOneTask, first-plain, firsts, vars, tasks, bodies, vars-plain, tasks-all, normal-list}
use Rattle.normal_laws.specs.runs.forms.Normalisable.{numbers_of, setting_for, made_for}
use Rattle.normal_laws.specs.existence.units.Weights.{own_weight, parts_weight, stmts_weight, maybe_weight, alts_weight, arms_weight, case_arms_weight, body_weight, handlers_weight, AreLight}
use Rattle.normal_laws.specs.existence.Laws.{IsLegalOriginal}
use Rattle.collect_model.specs.aborts.Places.{with_place, place_counter, places_in, places_of, most_places}

-- how many places there are behind parts of a text, by how many there are before them
abbrev behind : PStmts → ℕ → ℕ
behind l t = after_stmts place_counter l t

-- ---- lists of statements

front-places : (a b : PStmts) (t : ℕ) → behind (in_front a b) t ≡ behind b (behind a t)
front-places no_stmt b t = refl
front-places (stmt_then x l) b t = front-places l b (after_parts place_counter x (with_place t x))

-- no place stands in the statements
abbrev IsStill : PStmts → Type 0
IsStill a = (t : ℕ) → behind a t ≡ t

-- such statements in front of others
still-front : (a b : PStmts) → IsStill a → (t : ℕ) → behind (in_front a b) t ≡ behind b t
still-front a b h t = front-places a b t ∙ ap (behind b) (h t)

both-still : (a b : PStmts) → IsStill a → IsStill b → IsStill (in_front a b)
both-still a b h k t = still-front a b h t ∙ k t

null-places : (s : Span) (l : PStmts) (t : ℕ) → behind (or_null s l) t ≡ behind l t
null-places s no_stmt t = refl
null-places s (stmt_then x l) t = refl

-- ---- in what is put in front of statements and behind them stands none

kept-still : (g : Setting) (s : Span) (xs : List Kept) (k : ℕ) → IsStill (kept_before g s xs k)
kept-still g s [] k t = refl
kept-still g s (x ∷ xs) k t = kept-still g s xs (k + 1) t

module _ (g : Setting) (s : Span) where
  before-still : (mode : ParMode) (e : PExpr) (k : ℕ) → IsStill (actual_before g s mode e k)
  before-still Take e k t = refl
  before-still Give e k t = refl
  before-still Both e k t = refl

  all-before-still : (xs : List Slot) (es : List PExpr) (k : ℕ) → IsStill (actuals_before g s xs es k)
  all-before-still [] es k t = refl
  all-before-still (x ∷ xs) [] k t = refl
  all-before-still (x ∷ xs) (e ∷ es) k t =
      both-still (actual_before g s x.mode e k) (actuals_before g s xs es (k + 1)) (before-still x.mode e k) (all-before-still xs es (k + 1)) t

  copied-still : (e : PExpr) (o : Option NameId) (k : ℕ) → IsStill (copied_to g s e o k)
  copied-still e None k t = refl
  copied-still e (Some id) k t = refl

  behind-still : (mode : ParMode) (e : PExpr) (k : ℕ) → IsStill (actual_behind g s mode e k)
  behind-still Take e k t = refl
  behind-still Give e k t = copied-still e (variable_of e) k t
  behind-still Both e k t = copied-still e (variable_of e) k t

  all-behind-still : (xs : List Slot) (es : List PExpr) (k : ℕ) → IsStill (actuals_behind g s xs es k)
  all-behind-still [] es k t = refl
  all-behind-still (x ∷ xs) [] k t = refl
  all-behind-still (x ∷ xs) (e ∷ es) k t =
      both-still (actual_behind g s x.mode e k) (actuals_behind g s xs es (k + 1)) (behind-still x.mode e k) (all-behind-still xs es (k + 1)) t

  -- ---- callees

  arms-still : (x : PCallee) (what : Word → PStmts) → ((w : Word) → IsStill (what w)) → (infos : List TaskInfo) (t : ℕ) →
      after_case_arms place_counter (case_arms_of (map (member_arm g s x what) infos)) t ≡ t
  arms-still x what q [] t = refl
  arms-still x what q (info ∷ infos) t =
      ap (after_case_arms place_counter (case_arms_of (map (member_arm g s x what) infos))) (q _ t) ∙ arms-still x what q infos t

  member-still : (x : PCallee) (k : ℕ) (what : Word → PStmts) → ((w : Word) → IsStill (what w)) → IsStill (one (by_member g s x k what))
  member-still x k what q t = arms-still x what q (members_of g x.name.name) t

  chosen-still : (o : Option PExpr) (x : PCallee) (k : ℕ) (what : Word → PStmts) → ((w : Word) → IsStill (what w)) → IsStill (chosen_if o g s x k what)
  chosen-still None x k what q t = q (known_callee g x) t
  chosen-still (Some e) x k what q t = member-still x k what q t

  -- ---- calls

  call-before-still : (c : PCall) (n : ℕ) → IsStill (call_before g s c n)
  call-before-still c n =
      both-still (kept_before g s (indices_kept g s c) n) (actuals_before g s (slots_called g c) (lists_called g c).actuals (actual_number g s c n))
      (kept-still g s (indices_kept g s c) n) (all-before-still (slots_called g c) (lists_called g c).actuals (actual_number g s c n))

  call-behind-still : (c : PCall) (n : ℕ) → IsStill (call_behind g s c n)
  call-behind-still c n = all-behind-still (slots_called g c) (lists_called g c).actuals (actual_number g s c n)

  plain-still : (c : PCall) (n : ℕ) → IsStill (plain_image g s c n)
  plain-still c n =
      let call : Word → PStmts = λ w. one (SCall (call_to g s c n w) s) in
      both-still (call_before g s c n) (in_front (chosen g s c.task n call) (call_behind g s c n)) (call-before-still c n)
      (both-still (chosen g s c.task n call) (call_behind g s c n) (chosen-still (moving g.types c.task.index) c.task n call (λ w t. refl)) (call-behind-still c n))

  -- a form of calls with two lists of statements has the places of both
  abbrev HasBoth : (PCall → PStmts → PStmts → PStmt) → Type 0
  HasBoth form = (c : PCall) (m o : PStmts) (t : ℕ) → behind (one (form c m o)) t ≡ behind o (behind m t)

  part-places : (c : PCall) (n : ℕ) (met other : PStmts) (t : ℕ) → behind (one (part_taken g s c n met other)) t ≡ behind other (behind met t)
  part-places c n met other t = null-places s other (behind (or_null s met) t) ∙ ap (behind other) (null-places s met t)

  if-places : (b : Bool) (form : PCall → PStmts → PStmts → PStmt) → HasBoth form → (c : PCall) (n : ℕ) (met other : PStmts) (t : ℕ) →
      behind (select_if b form g s c n met other) t ≡ behind other (behind met t)
  if-places true form f c n met other t =
      let part : Word → PStmts = λ w. one (form (call_to g s c n w) (flagged g s c n 1) (flagged g s c n 2)) in
      ap (behind (one (part_taken g s c n met other))) (member-still c.task n part (λ w v. f (call_to g s c n w) (flagged g s c n 1) (flagged g s c n 2) v) t)
      ∙ part-places c n met other t
  if-places false form f c n met other t = f (call_to g s c n (known_callee g c.task)) met other t

  select-places : (form : PCall → PStmts → PStmts → PStmt) → HasBoth form → (c : PCall) (n : ℕ) (met other : PStmts) (t : ℕ) →
      behind (select_image form g s c n met other) t ≡ behind other (behind met t)
  select-places form f c n met other t =
      still-front (call_before g s c n) (select_if (is_chosen g c) form g s c n (in_front (call_behind g s c n) met) other) (call-before-still c n) t
      ∙ if-places (is_chosen g c) form f c n (in_front (call_behind g s c n) met) other t
      ∙ ap (behind other) (still-front (call_behind g s c n) met (call-behind-still c n) t)

  -- ---- aborts

  aborted-still : (cs : List PCallee) (n : ℕ) → IsStill (callees_aborted g s cs n)
  aborted-still [] n t = refl
  aborted-still (c ∷ cs) n t =
      both-still (callee_aborted g s c n) (callees_aborted g s cs (n + length (callee_kept g s c)))
      (both-still (kept_before g s (callee_kept g s c) n) (chosen g s c n (abort_of s)) (kept-still g s (callee_kept g s c) n)
      (chosen-still (moving g.types c.index) c n (abort_of s) (λ w v. refl)))
      (aborted-still cs (n + length (callee_kept g s c))) t

  abort-still : (cs : List PCallee) (n : ℕ) → IsStill (abort_image g s cs n)
  abort-still [] n t = refl
  abort-still (c ∷ cs) n t = aborted-still (c ∷ cs) n t

-- ---- waits

module _ (u : RewrittenUnit) where
  abbrev r : Rewriter (List PDecl)
  r = normal_rewriter u

  guard-still : (s : Span) (n : ℕ) (xs : List Kept) → IsStill (under_guard u s n xs)
  guard-still s n [] t = refl
  guard-still s n (x ∷ xs) t = kept-still u.setting s (x ∷ xs) (n + 1) t

  guarded-still : (s : Span) (o : Option PExpr) (xs : List Kept) (n : ℕ) → IsStill (guarded_before u s o xs n)
  guarded-still s None xs n t = kept-still u.setting s xs n t
  guarded-still s (Some e) xs n t = guard-still s n xs t

  lead-still : (x : PAlt) (n : ℕ) → IsStill (alternative_before u x n)
  lead-still (alternative g x s) n t = guarded-still s g (kind_kept u s x) n t

  leads-still : (x : PAlts) (v : List PDecl) → IsStill (alts_leads r x v)
  leads-still no_alt v t = refl
  leads-still (alt_then x l) v t =
      both-still (alternative_before u x (length v)) (alts_leads r l (after_alt r x v)) (lead-still x (length v)) (leads-still l (after_alt r x v)) t

  raised-still : (s : Span) (es : List PExpr) → IsStill (raised_unless s es)
  raised-still s [] t = refl
  raised-still s (e ∷ es) t = refl

  closed-still : (s : Span) (o : PMaybe) (guards : Option (List PExpr)) → IsStill (closed_test s o guards)
  closed-still s absent (Some guards) t = raised-still s guards t
  closed-still s absent None t = refl
  closed-still s (present l) guards t = refl

  -- ---- the walk

  module _ (rules : Rules) (parts : (n : ℕ) → rules.parts 1 n → 1 ≤ n) where
    some-each : (l : PStmts) (k : ℕ) → EverySome rules k l → EveryStmts rules k l
    some-each no_stmt k e = tt
    some-each (stmt_then x l) k e = (e.1, e.2)

    mutual
      -- what stands in the place of a statement, where `v` are the variables behind those that it asks for itself
      image-few : (x : PStmt) (n : ℕ) (v : List PDecl) (k : ℕ) → EveryStmt rules k x → (t : ℕ) →
          behind (in_front (leads r x v) (normal_image u n (parts_rewritten r x v))) t ≤ t + (own_weight x + parts_weight x)
      image-few (SNull s) n v k e t = omega arith
      image-few (SAssign x y s) n v k e t = omega arith
      image-few (SDelay d s) n v k e t = omega arith
      image-few (SExit w y s) n v k e t = omega arith
      image-few (SRaise w s) n v k e t = omega arith
      image-few (SPut ps s) n v k e t = omega arith
      image-few (SPutLine ps s) n v k e t = omega arith
      image-few (SNewLine s) n v k e t = omega arith
      image-few (SGet x s) n v k e t = omega arith
      image-few (SAbort cs s) n v k e t = omega (arith, abort-still u.setting s cs n t)
      image-few (SCall c s) n v k e t = omega (arith, plain-still u.setting s c n t)
      image-few (SAccept (accepting h o) s) n v k e t =
          let kept : PStmts = kept_before u.setting s (accept_kept u s h) n in
          let there : PStmts = one (SAccept (accept_left u s (accepting h (inside_maybe r o v)) n) s) in
          omega (arith, still-front kept there (kept-still u.setting s (accept_kept u s h) n) t, maybe-few o v (k + 1) e.2 (t + 1))
      image-few (SWait x o s) n v k e t =
          let x' : PAlts = inside_alts r x v in
          let o' : PMaybe = inside_maybe r o (after_alts r x v) in
          let first = still-front (alts_leads r x v) (wait_image s x' o') (leads-still x v) t in
          let second = still-front (closed_test s o' (all_guards x')) (one (SWait x' o' s)) (closed-still s o' (all_guards x')) t in
          let some = parts (alts_count x) e.1 in
          let those = alts-few x v (k + 1) e.2 (t + 1) in
          let other = maybe-few o (after_alts r x v) (k + 1) e.3 (after_alts place_counter x' (t + 1)) in
          omega (arith, first, second, some, those, other)
      image-few (SConditional c b o s) n v k e t =
          let b' : PStmts = rewritten r b v in
          let o' : PStmts = rewritten r o (after_stmts r b v) in
          omega (
            arith,
            select-places u.setting s (λ call met other. SConditional call met other s) (λ d m z w. refl) c n b' o' t,
            stmts-few b v (k + 1) e.3 t,
            stmts-few o (after_stmts r b v) (k + 1) (some-each o (k + 1) e.4) (behind b' t),
          )
      image-few (STimed c b d a s) n v k e t =
          let b' : PStmts = rewritten r b v in
          let a' : PStmts = rewritten r a (after_stmts r b v) in
          omega (
            arith,
            select-places u.setting s (λ call met other. STimed call met d other s) (λ y m z w. refl) c n b' a' t,
            stmts-few b v (k + 1) e.3 t,
            stmts-few a (after_stmts r b v) (k + 1) e.5 (behind b' t),
          )
      image-few (SIf x o s) n v k e t =
          omega (arith, arms-few x v (k + 1) e.2 t, maybe-few o (after_arms r x v) (k + 1) e.3 (after_arms place_counter (inside_arms r x v) t))
      image-few (SCase y x o s) n v k e t =
          omega (arith, case-arms-few x v (k + 1) e.2 t, maybe-few o (after_case_arms r x v) (k + 1) e.3 (after_case_arms place_counter (inside_case_arms r x v) t))
      image-few (SBlock b s) n v k e t = omega (arith, inner-few b v (k + 1) e.1 t)
      image-few (SLoop w c l s) n v k e t = omega (arith, stmts-few l v (k + 1) (some-each l (k + 1) e.3) t)

      stmts-few : (l : PStmts) (v : List PDecl) (k : ℕ) → EveryStmts rules k l → (t : ℕ) → behind (rewritten r l v) t ≤ t + stmts_weight l
      stmts-few no_stmt v k e t = omega arith
      stmts-few (stmt_then x l) v k e t =
          let v' : List PDecl = statement_variables u v x in
          let image : PStmts = in_front (leads r x v') (normal_image u (length v) (parts_rewritten r x v')) in
          omega (
            arith,
            front-places image (rewritten r l (after_parts r x v')) t,
            image-few x (length v) v' k e.0 t,
            stmts-few l (after_parts r x v') k e.1 (behind image t),
          )

      maybe-few : (o : PMaybe) (v : List PDecl) (k : ℕ) → EveryMaybe rules k o → (t : ℕ) → after_maybe place_counter (inside_maybe r o v) t ≤ t + maybe_weight o
      maybe-few absent v k e t = omega arith
      maybe-few (present l) v k e t = stmts-few l v k (some-each l k e) t

      -- an accept that is an alternative is no place of its own
      alts-few : (x : PAlts) (v : List PDecl) (k : ℕ) → EveryAlts rules k x → (t : ℕ) →
          after_alts place_counter (inside_alts r x v) t + alts_count x ≤ t + alts_weight x
      alts-few no_alt v k e t = omega arith
      alts-few (alt_then (alternative g (AAccept (accepting h o) l) s) rest) v k e t =
          let v' : List PDecl = alternative_variables u v (alternative g (AAccept (accepting h o) l) s) in
          let one' : ℕ = after_maybe place_counter (inside_maybe r o v') t in
          let two : ℕ = behind (rewritten r l (after_accept r (accepting h o) v')) one' in
          omega (
            arith,
            maybe-few o v' (k + 1 + 1) e.0.2.0.2 t,
            stmts-few l (after_accept r (accepting h o) v') (k + 1) e.0.2.1 one',
            alts-few rest (after_kind r (AAccept (accepting h o) l) v') k e.1 two,
          )
      alts-few (alt_then (alternative g (ADelay d l) s) rest) v k e t =
          let v' : List PDecl = alternative_variables u v (alternative g (ADelay d l) s) in
          omega (arith, stmts-few l v' (k + 1) e.0.2.2 t, alts-few rest (after_kind r (ADelay d l) v') k e.1 (behind (rewritten r l v') t))
      alts-few (alt_then (alternative g ATerminate s) rest) v k e t =
          omega (arith, alts-few rest (alternative_variables u v (alternative g ATerminate s)) k e.1 t)

      arms-few : (x : PArms) (v : List PDecl) (k : ℕ) → EveryArms rules k x → (t : ℕ) → after_arms place_counter (inside_arms r x v) t ≤ t + arms_weight x
      arms-few no_arm v k e t = omega arith
      arms-few (arm_then (arm y l) rest) v k e t = omega (arith, stmts-few l v k (some-each l k e.0.1) t, arms-few rest (after_stmts r l v) k e.1 (behind (rewritten r l v) t))

      case-arms-few : (x : PCaseArms) (v : List PDecl) (k : ℕ) → EveryCaseArms rules k x → (t : ℕ) →
          after_case_arms place_counter (inside_case_arms r x v) t ≤ t + case_arms_weight x
      case-arms-few no_case_arm v k e t = omega arith
      case-arms-few (case_arm_then (case_arm cs l) rest) v k e t =
          omega (arith, stmts-few l v k (some-each l k e.0.2) t, case-arms-few rest (after_stmts r l v) k e.1 (behind (rewritten r l v) t))

      inner-few : (b : PBody) (v : List PDecl) (k : ℕ) → EveryBody rules k b → (t : ℕ) → after_body place_counter (inside_body r b v) t ≤ t + body_weight b
      inner-few (body l hs) v k e t = omega (arith, stmts-few l v k (some-each l k e.0) t, handlers-few hs (after_stmts r l v) k e.2 (behind (rewritten r l v) t))

      handlers-few : (hs : PHandlers) (v : List PDecl) (k : ℕ) → EveryHandlers rules k hs → (t : ℕ) →
          after_handlers place_counter (inside_handlers r hs v) t ≤ t + handlers_weight hs
      handlers-few no_handler v k e t = omega arith
      handlers-few (handler_then (handler ws l s) rest) v k e t =
          omega (arith, stmts-few l v (k + 1) (some-each l (k + 1) e.0.2) t, handlers-few rest (after_stmts r l v) k e.1 (behind (rewritten r l v) t))

    -- The body of a unit in the normal form has no more places than the unit's body weighs.
    body-few : (b : PBody) (k : ℕ) → EveryBody rules k b → places_in (normal_body u b) ≤ body_weight b
    body-few b k e = omega (arith, inner-few b [] k e 0)

-- ---- units

greatest-below : (ns : List ℕ) → AllByRecursion (λ n. n < 2 ^ 64) ns → greatest ns < 2 ^ 64
greatest-below [] h = omega arith
greatest-below (n ∷ ns) h = omega (arith, h.0, greatest-below ns h.1)

all-mapped : (ds : List PDecl) → AllByRecursion (λ d. places_of d < 2 ^ 64) ds → AllByRecursion (λ n. n < 2 ^ 64) (map places_of ds)
all-mapped [] h = tt
all-mapped (d ∷ ds) h = (h.0, all-mapped ds h.1)

-- only a body has places
plain-few : (d : PDecl) → IsPlain d → places_of d < 2 ^ 64
plain-few (DNumber w e s) h = omega arith
plain-few (DObject ws c x i s) h = omega arith
plain-few (DEnumeration w ws s) h = omega arith
plain-few (DArray w r x s) h = omega arith
plain-few (DSubtype w x s) h = omega arith
plain-few (DException ws s) h = omega arith
plain-few (DIntIo w s) h = omega arith
plain-few (DPragma e s) h = omega arith
plain-few (DTask t s) h = absurd h
plain-few (DTaskBody w objects its s) h = absurd h

task-few : (d : PDecl) → IsOneTask d → places_of d < 2 ^ 64
task-few (DTask t s) h = omega arith
task-few (DNumber w e s) h = absurd h
task-few (DObject ws c x i s) h = absurd h
task-few (DEnumeration w ws s) h = absurd h
task-few (DArray w r x s) h = absurd h
task-few (DSubtype w x s) h = absurd h
task-few (DException ws s) h = absurd h
task-few (DIntIo w s) h = absurd h
task-few (DPragma e s) h = absurd h
task-few (DTaskBody w objects its s) h = absurd h

module _ (p : PProgram) (h : IsLegalOriginal p) where
  abbrev g : Setting
  g = setting_for p

  abbrev rules : Rules
  rules = well_placed p.names

  abbrev AreFew : List PDecl → Type 0
  AreFew ds = AllByRecursion (λ d. places_of d < 2 ^ 64) ds

  copies-few : (ds : PDecls) → EveryDecls rules ds → AreLight ds → AreFew (flat_map (bodies_of g) (decl_list ds))
  copies-few no_decl e l = tt
  copies-few (decl_then (DTaskBody w objects its s) rest) e l =
      all_joined (λ d. places_of d < 2 ^ 64) (bodies_of g (DTaskBody w objects its s)) (flat_map (bodies_of g) (decl_list rest)) (copies (running g w.name)) (copies-few rest e.1 l.1)
    where
      copies : (infos : List TaskInfo) →
          AreFew (map (body_copy g w objects (unit_variables (unit_for g w.name) its) (normal_body (unit_for g w.name) its) (λ ds b v. DTaskBody v ds b s)) infos)
      copies [] = tt
      copies (i ∷ infos) = (omega (arith, l.0, body-few (unit_for g w.name) rules (λ n le. le) its 1 e.0.4), copies infos)
  copies-few (decl_then d rest) e l = copies-few rest e.1 l

  all-few : AreFew (firsts p (types_in p) (numbers_of p) ++ (vars p (types_in p) (numbers_of p) ++ tasks p (types_in p) (numbers_of p) ++ bodies p (types_in p) (numbers_of p)))
  all-few =
      let Few : PDecl → Type 0 = λ d. places_of d < 2 ^ 64 in
      all_joined Few _ _ (all_weaker IsPlain Few _ plain-few (first-plain p.decls []))
      (all_joined Few _ _
      (all_joined Few _ _ (all_weaker IsPlain Few _ plain-few (vars-plain p (types_in p) (numbers_of p))) (all_weaker IsOneTask Few _ task-few (tasks-all g)))
      (copies-few p.decls h.placed.2 h.light.1))

  -- So no unit of the normal form has 2^64 places.
  pub legal-has-few : most_places (made_for p) < 2 ^ 64
  legal-has-few =
      let ds : List PDecl = decl_list (made_for p).decls in
      greatest-below (places_in (made_for p).body ∷ map places_of ds) (
        omega (arith, h.light.0, body-few (main_unit g) rules (λ n le. le) p.body 1 h.placed.3),
        all-mapped ds (subst AreFew (sym (normal-list p (types_in p) (numbers_of p))) all-few),
      )
