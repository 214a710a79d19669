-- A program in whose text no abort statement is found has none, and neither has its normal form.
use Rattle.std.proofs.Common.{◌≡◌, ℕ, zero, suc, ◌+◌, ◌≤◌, ◌<◌, ◌==◌, nat_le, Bool, true, false, if◌then◌else◌, List, [], length, fold, Option, Some, None, unwrap_or, refl, sym, ap, ◌∙◌, subst, arith}
use Rattle.std.proofs.lemmas.Bool.{ne_eqb}
use Rattle.std.proofs.lemmas.Option.{slice_get_past}
use Rattle.common_lemmas.proofs.Numbers.{le_is, le_is_not}
use Rattle.common_lemmas.proofs.Options.{not_missing}
use Rattle.ada_tree.specs.declared.naming.NameId.{NameId}
use Rattle.ada_tree.specs.declared.naming.Span.{Span}
use Rattle.ada_tree.specs.PlainStmt.{PStmt, SNull, SAssign, SDelay, SExit, SRaise, SAbort, SCall, SAccept, SWait, SConditional, STimed, SPut, SPutLine, SNewLine, SGet, SIf, SCase, SBlock, SLoop, PStmts, no_stmt, stmt_then, PMaybe, absent, present, PAccept, accepting, AAccept, ADelay, ATerminate, PAlts, no_alt, alt_then, alternative, PArms, no_arm, arm_then, arm, PCaseArms, no_case_arm, case_arm_then, case_arm, PBody, body, PHandlers, no_handler, handler_then, handler}
use Rattle.ada_tree.specs.PlainExpr.{PExpr}
use Rattle.ada_tree.specs.PlainDecl.{PDecl, DNumber, DObject, DEnumeration, DArray, DSubtype, DException, DIntIo, DPragma, DTask, DTaskBody, PDecls, no_decl, decl_then}
use Rattle.ada_tree.specs.PlainProgram.{PProgram}
use Rattle.syn_event.specs.declared.numbering.TaskInfo.{TaskInfo}
use Rattle.syn_event.specs.Numbering.{Numbering, task_at}
use Rattle.syn_event.specs.DeclaredTasks.{decl_list}
use Rattle.task_model.specs.Starting.{Unit as OneUnit, unit_of_decl, unit_among, unit_of_info, unit_of}
use Rattle.task_laws.specs.statements.Each.{Loops, InBody}
use Rattle.task_laws.specs.legal.asked.Asked.{Asks, AskedStmt, AskedStmts, AskedSome, AskedMaybe, AskedAccept, AskedAlts, AskedArms, AskedCaseArms, AskedBody, AskedHandlers}
use Rattle.task_laws.specs.legal.asked.Kinds.{no_asks}
use Rattle.normal_model.specs.RewrittenUnit.{RewrittenUnit}
use Rattle.normal_model.specs.Walk.{Rewriter, after_parts, after_stmts, after_maybe, after_accept, after_alts, after_arms, after_case_arms, after_body, after_handlers}
use Rattle.normal_model.specs.NormalStmts.{normal_body, unit_variables}
use Rattle.normal_model.proofs.VariablesLemmas.{Begins}
use Rattle.normal_laws.specs.structure.asked.Pieces.{Pieces}
use Rattle.normal_laws.proofs.structure.asked.Walk.{body-keeps}
use Rattle.normal_laws.specs.runs.floors.Suited.{rewritten_unit}
use Rattle.normal_laws.specs.runs.runs.Premises.{Rewrite, unit_at, unit_before}
use Rattle.normal_laws.specs.runs.forms.Normalisable.{numbers_of, variables_of, normal_rewrite}
use Rattle.normal_laws.specs.existence.Laws.{IsLegalOriginal}
use Rattle.normal_laws.proofs.existence.Joined.{legal_is_normal}
use Rattle.normal_laws.proofs.existence.statements.Asked.{body-each}
use Rattle.replay_runs.specs.starts.Laws.{form_in}
use Rattle.collect_model.specs.FirstAbort.{found_or, with_stmt, abort_finder, with_decl, first_abort}
use Rattle.collect_runs.specs.starts.Laws.{IsNoAbort, HasNoAborts, LegalHasNoAborts}

-- no statement is an abort statement
abbrev none_asks : Asks (Unit {0})
none_asks = record no_asks { aborts = λ c k xs. ⊥ }

abbrev F : Rewriter (Option Span)
F = abort_finder

-- ---- the program

some-none : (k : ℕ) (l : PStmts) → AskedStmts none_asks tt k l → AskedSome none_asks tt k l
some-none k no_stmt h = tt
some-none k (stmt_then x l) h = (tt, h.0, h.1)

never-found : (t : Option Span) (s : Span) → found_or t s ≡ None → ⊥
never-found None s e = not_missing s (sym e)
never-found (Some u) s e = not_missing u (sym e)

mutual
  -- where none has been found behind statements, none had been found in front of them, and none stands there
  stmt-none : (x : PStmt) (t : Option Span) (k : ℕ) → after_parts F x (with_stmt t x) ≡ None → (t ≡ None) × AskedStmt none_asks tt k x
  stmt-none (SAbort xs s) t k e = absurd (never-found t s e)
  stmt-none (SAccept a s) t k e = accept-none a t k e
  stmt-none (SWait x o s) t k e =
      let second = maybe-none o (after_alts F x t) (k + 1) e in
      let first = alts-none x t (k + 1) second.0 in (first.0, (tt, tt, tt, first.1, second.1))
  stmt-none (SConditional c b o s) t k e =
      let second = stmts-none o (after_stmts F b t) (k + 1) e in
      let first = stmts-none b t (k + 1) second.0 in (first.0, (tt, tt, tt, tt, first.1, some-none (k + 1) o second.1))
  stmt-none (STimed c b d a s) t k e =
      let second = stmts-none a (after_stmts F b t) (k + 1) e in
      let first = stmts-none b t (k + 1) second.0 in (first.0, (tt, tt, tt, tt, tt, first.1, second.1))
  stmt-none (SIf x o s) t k e =
      let second = maybe-none o (after_arms F x t) (k + 1) e in
      let first = arms-none x t (k + 1) second.0 in (first.0, (tt, tt, first.1, second.1))
  stmt-none (SCase c x o s) t k e =
      let second = maybe-none o (after_case_arms F x t) (k + 1) e in
      let first = case-arms-none x t (k + 1) c second.0 in (first.0, (tt, tt, first.1, second.1))
  stmt-none (SBlock b s) t k e = let inner = body-none b t (k + 1) e in (inner.0, (tt, inner.1))
  stmt-none (SLoop w x l s) t k e = let inner = stmts-none l t (k + 1) e in (inner.0, (tt, tt, some-none (k + 1) l inner.1))
  stmt-none (SCall c s) t k e = (e, (tt, tt, tt))
  stmt-none (SNull s) t k e = (e, tt)
  stmt-none (SAssign y x s) t k e = (e, tt)
  stmt-none (SDelay d s) t k e = (e, tt)
  stmt-none (SExit w x s) t k e = (e, tt)
  stmt-none (SRaise w s) t k e = (e, tt)
  stmt-none (SPut ps s) t k e = (e, tt)
  stmt-none (SPutLine ps s) t k e = (e, tt)
  stmt-none (SNewLine s) t k e = (e, tt)
  stmt-none (SGet y s) t k e = (e, tt)

  stmts-none : (l : PStmts) (t : Option Span) (k : ℕ) → after_stmts F l t ≡ None → (t ≡ None) × AskedStmts none_asks tt k l
  stmts-none no_stmt t k e = (e, tt)
  stmts-none (stmt_then x l) t k e =
      let rest = stmts-none l (after_parts F x (with_stmt t x)) k e in
      let here = stmt-none x t k rest.0 in (here.0, (here.1, rest.1))

  maybe-none : (o : PMaybe) (t : Option Span) (k : ℕ) → after_maybe F o t ≡ None → (t ≡ None) × AskedMaybe none_asks tt k o
  maybe-none absent t k e = (e, tt)
  maybe-none (present l) t k e = let inner = stmts-none l t k e in (inner.0, some-none k l inner.1)

  accept-none : (a : PAccept) (t : Option Span) (k : ℕ) → after_accept F a t ≡ None → (t ≡ None) × AskedAccept none_asks tt k a
  accept-none (accepting h o) t k e = let inner = maybe-none o t (k + 1) e in (inner.0, (tt, inner.1))

  alts-none : (x : PAlts) (t : Option Span) (k : ℕ) → after_alts F x t ≡ None → (t ≡ None) × AskedAlts none_asks tt k x
  alts-none no_alt t k e = (e, tt)
  alts-none (alt_then (alternative None (AAccept a l) s) rest) t k e =
      let third = alts-none rest (after_stmts F l (after_accept F a t)) k e in
      let second = stmts-none l (after_accept F a t) (k + 1) third.0 in
      let first = accept-none a t (k + 1) second.0 in (first.0, (tt, tt, (first.1, second.1), third.1))
  alts-none (alt_then (alternative (Some g) (AAccept a l) s) rest) t k e =
      let third = alts-none rest (after_stmts F l (after_accept F a t)) k e in
      let second = stmts-none l (after_accept F a t) (k + 1) third.0 in
      let first = accept-none a t (k + 1) second.0 in (first.0, (tt, tt, (first.1, second.1), third.1))
  alts-none (alt_then (alternative None (ADelay d l) s) rest) t k e =
      let third = alts-none rest (after_stmts F l t) k e in
      let second = stmts-none l t (k + 1) third.0 in (second.0, (tt, tt, (tt, tt, second.1), third.1))
  alts-none (alt_then (alternative (Some g) (ADelay d l) s) rest) t k e =
      let third = alts-none rest (after_stmts F l t) k e in
      let second = stmts-none l t (k + 1) third.0 in (second.0, (tt, tt, (tt, tt, second.1), third.1))
  alts-none (alt_then (alternative None ATerminate s) rest) t k e = let third = alts-none rest t k e in (third.0, (tt, tt, tt, third.1))
  alts-none (alt_then (alternative (Some g) ATerminate s) rest) t k e = let third = alts-none rest t k e in (third.0, (tt, tt, tt, third.1))

  arms-none : (x : PArms) (t : Option Span) (k : ℕ) → after_arms F x t ≡ None → (t ≡ None) × AskedArms none_asks tt k x
  arms-none no_arm t k e = (e, tt)
  arms-none (arm_then (arm c l) rest) t k e =
      let second = arms-none rest (after_stmts F l t) k e in
      let first = stmts-none l t k second.0 in (first.0, (tt, some-none k l first.1, second.1))

  case-arms-none : (x : PCaseArms) (t : Option Span) (k : ℕ) (c : PExpr) → after_case_arms F x t ≡ None → (t ≡ None) × AskedCaseArms none_asks tt k c x
  case-arms-none no_case_arm t k c e = (e, tt)
  case-arms-none (case_arm_then (case_arm cs l) rest) t k c e =
      let second = case-arms-none rest (after_stmts F l t) k c e in
      let first = stmts-none l t k second.0 in (first.0, (tt, some-none k l first.1, second.1))

  body-none : (b : PBody) (t : Option Span) (k : ℕ) → after_body F b t ≡ None → (t ≡ None) × AskedBody none_asks tt k b
  body-none (body l hs) t k e =
      let second = handlers-none hs (after_stmts F l t) k [] e in
      let first = stmts-none l t k second.0 in (first.0, (some-none k l first.1, tt, second.1))

  handlers-none : (hs : PHandlers) (t : Option Span) (k : ℕ) (names : List ℕ) → after_handlers F hs t ≡ None → (t ≡ None) × AskedHandlers none_asks tt k names hs
  handlers-none no_handler t k names e = (e, tt)
  handlers-none (handler_then (handler ws l s) rest) t k names e =
      let second = handlers-none rest (after_stmts F l t) k _ e in
      let first = stmts-none l t (k + 1) second.0 in (first.0, (tt, tt, some-none (k + 1) l first.1, second.1))

-- ---- its units

abbrev UnitNone : OneUnit → Type 0
UnitNone u = AskedBody none_asks tt 1 u.body

-- the body of each task
among-none : (ds : PDecls) (found : Option Span) → fold with_decl found (decl_list ds) ≡ None → (found ≡ None) × ((name : NameId) → UnitNone (unit_among ds name))
among-none no_decl found e = (e, λ name. (tt, tt, tt))
among-none (decl_then d ds) found e =
    let rest = among-none ds (with_decl found d) e in
    let here = one-none d found rest.0 (unit_among ds) rest.1 in here
  where
    chosen : (b : Bool) (u v : OneUnit) → UnitNone u → UnitNone v → UnitNone (unwrap_or (if b then Some u else None) v)
    chosen true u v h k = h
    chosen false u v h k = k

    one-none : (x : PDecl) (t : Option Span) → with_decl t x ≡ None → (others : NameId → OneUnit) → ((name : NameId) → UnitNone (others name)) →
        (t ≡ None) × ((name : NameId) → UnitNone (unwrap_or (unit_of_decl x name) (others name)))
    one-none (DTaskBody w objects its s) t q others h =
        let inner = body-none its t 1 q in
        (inner.0, λ name. chosen (w.name.0 == name.0) (record { in_main = false; decls = objects; body = its }) (others name) inner.1 (h name))
    one-none (DTask t' s) t q others h = (q, h)
    one-none (DNumber w x s) t q others h = (q, h)
    one-none (DObject ws c x i s) t q others h = (q, h)
    one-none (DEnumeration w ws s) t q others h = (q, h)
    one-none (DArray w r x s) t q others h = (q, h)
    one-none (DSubtype w x s) t q others h = (q, h)
    one-none (DException ws s) t q others h = (q, h)
    one-none (DIntIo w s) t q others h = (q, h)
    one-none (DPragma x s) t q others h = (q, h)

module _ (p : PProgram) (none : first_abort p ≡ None) where
  -- the body of the unit that a task runs
  units-none : (numbers : Numbering) (t : ℕ) → UnitNone (unit_of p numbers t)
  units-none numbers t = go (t == 0)
    where
      main : (fold with_decl None (decl_list p.decls) ≡ None) × AskedBody none_asks tt 1 p.body
      main = body-none p.body (fold with_decl None (decl_list p.decls)) 1 none

      of_info : (o : Option TaskInfo) → UnitNone (unit_of_info p o)
      of_info None = (tt, tt, tt)
      of_info (Some info) = (among-none p.decls None main.0).1 info.unit

      go : (b : Bool) → UnitNone (if b then record { in_main = true; decls = p.decls; body = p.body } else unit_of_info p (task_at numbers t))
      go true = main.1
      go false = of_info (task_at numbers t)

-- ---- its normal form

module _ (u : RewrittenUnit) (vars : List PDecl) where
  -- what a normal form puts in the place of a statement has no abort statement where the statement has none
  pieces : Pieces u vars none_asks none_asks (λ c d. Unit {0})
  pieces = record {
    outer = λ c d k n s rel m le. tt;
    many = λ n m. tt;
    some = λ n. tt;
    duration = λ n m. tt;
    plain = λ c d k x i rel m. tt;
    condition = λ c d k e rel m. tt;
    selector = λ c d k e xs others s rel m. tt;
    choices = λ c d k e xs rel m. tt;
    loop = λ c d k w x rel m. tt;
    looping = λ c d k w x rel m. tt;
    delay = λ c d k guard f s rel m. tt;
    handlers = λ hs l m. tt;
    handler = λ c d k names ws rel m. tt;
    handling = λ c d rel. tt;
    null = λ c d k n s rel m le. tt;
    program_error = λ c d k n s rel m le. tt;
    callee_index = λ c d k n s x e j rel m f v le. tt;
    target = λ c d k n x w rel m i le. tt;
    chooses = λ c d k n s x e j rel m f v le. tt;
    chosen = λ c d k n s x e j info rel m f v i le. tt;
    called = λ c d k n s x j w rel m i o v le. tt;
    family_index = λ c d k n s x e j rel m i f v le. tt;
    actual_before = λ c d k n s x slot e j rel m i pair f v le. tt;
    actual_behind = λ c d k n s x slot e id j rel m i pair f q v le. tt;
    flag = λ c d k n s part j rel m small v le. tt;
    flag_test = λ c d k n s j rel m v le. tt;
    aborted = λ c d k n xs w rel m le. m;
    no_abort = λ c d k rel m. m;
    head = λ c d k x rel i f. tt;
    head_moved = λ c d k s x e j rel i f v. tt;
    accept_index = λ c d k n s x e j rel i f v le. tt;
    accepting = λ c d k s x j rel i. tt;
    guard = λ c d k n s e j rel m v le. tt;
    guard_test = λ c d k n s j rel m v le. tt;
    closed = λ c d k n x others s e es rel m w all few le. tt;
    wait = λ c d k x others s l rel m alts. tt;
  }

each-none : (x : PStmt) (c : Unit {0}) (k : ℕ) (loops : Loops) → AskedStmt none_asks c k x → IsNoAbort loops x
each-none (SAbort xs s) c k loops m = m.1
each-none (SCall x s) c k loops m = tt
each-none (SConditional x l o s) c k loops m = tt
each-none (STimed x l d o s) c k loops m = tt
each-none (SAccept a s) c k loops m = tt
each-none (SWait x o s) c k loops m = tt
each-none (SNull s) c k loops m = tt
each-none (SAssign y e s) c k loops m = tt
each-none (SDelay d s) c k loops m = tt
each-none (SExit w e s) c k loops m = tt
each-none (SRaise w s) c k loops m = tt
each-none (SPut ps s) c k loops m = tt
each-none (SPutLine ps s) c k loops m = tt
each-none (SNewLine s) c k loops m = tt
each-none (SGet y s) c k loops m = tt
each-none (SIf x o s) c k loops m = tt
each-none (SCase e x o s) c k loops m = tt
each-none (SBlock y s) c k loops m = tt
each-none (SLoop w x l s) c k loops m = tt

module _ (p : PProgram) (h : IsLegalOriginal p) (none : first_abort p ≡ None) where
  abbrev r : Rewrite
  r = normal_rewrite p []

  abbrev u : ℕ → RewrittenUnit
  u t = rewritten_unit (unit_at r t)

  made-none : (t : ℕ) → t < length (numbers_of p).tasks → InBody IsNoAbort [] (normal_body (u t) (unit_before r t).body)
  made-none t l =
      let begins = (legal_is_normal p h []).begins t l in
      let its : Begins (unit_variables (u t) (unit_before r t).body) (variables_of p t) = record { more = begins.0; joined = begins.1 } in
      body-each none_asks IsNoAbort each-none (normal_body (u t) (unit_before r t).body) tt 1 []
      (body-keeps (u t) (variables_of p t) none_asks none_asks (λ c d. Unit {0}) (pieces (u t) (variables_of p t)) tt tt 1 (unit_before r t).body tt (units-none p none (numbers_of p) t) its)

  -- a number beyond those of the tasks is that of no unit
  beyond : (t : ℕ) → length (numbers_of p).tasks ≤ t → InBody IsNoAbort [] (unit_of (form_in p).program (form_in p).numbers t).body
  beyond zero l = absurd (omega (arith, l))
  beyond (suc t) l =
      let size : length (form_in p).numbers.tasks ≡ length (numbers_of p).tasks = (legal_is_normal p h []).size in
      let past : length (form_in p).numbers.tasks ≤ suc t = omega (arith, l, size) in
      subst (λ (x : OneUnit). InBody IsNoAbort [] x.body)
      (sym (ap (λ c. if c then record { in_main = true; decls = (form_in p).program.decls; body = (form_in p).program.body } else unit_of_info (form_in p).program (task_at (form_in p).numbers (suc t))) (ne_eqb (suc t) 0 (λ e. omega (arith, e)))
      ∙ ap (unit_of_info (form_in p).program) (slice_get_past (form_in p).numbers.tasks (suc t) past)))
      (tt, tt)

  pub no-aborts : HasNoAborts p
  no-aborts t = by_test (nat_le (length (numbers_of p).tasks) t) refl
    where
      by_test : (c : Bool) → nat_le (length (numbers_of p).tasks) t ≡ c → InBody IsNoAbort [] (unit_of (form_in p).program (form_in p).numbers t).body
      by_test true e = beyond t (le_is (length (numbers_of p).tasks) t e)
      by_test false e = let l : t < length (numbers_of p).tasks = le_is_not (length (numbers_of p).tasks) t e in subst (InBody IsNoAbort []) (sym ((legal_is_normal p h []).bodies t l)) (made-none t l)

pub legal_has_no_aborts : LegalHasNoAborts
legal_has_no_aborts p h none = no-aborts p h none
