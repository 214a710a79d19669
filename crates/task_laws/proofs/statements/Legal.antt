-- What the static rules leave of each statement of a unit; and that so each exit leaves a loop.
use Rattle.std.proofs.Common.{◌≡◌, ℕ, ◌+◌, Bool, true, false, ◌||◌, ◌==◌, if◌then◌else◌, List, [], ◌∷◌, ◌++◌, map, flat_map, option_map, unwrap_or, Option, Some, None, refl, sym, ap, ap₂, ◌∙◌, subst}
use Rattle.std.specs.List.{AllByRecursion, list_any}
use Rattle.std.proofs.lemmas.Bool.{eqb-true, eq-eqb}
use Rattle.std.proofs.lemmas.Option.{none-some}
use Rattle.common_lemmas.proofs.Options.{some_same}
use Rattle.ada_tree.specs.declared.naming.NameId.{NameId}
use Rattle.ada_tree.specs.declared.naming.Span.{Span}
use Rattle.ada_tree.specs.declared.naming.Word.{Word}
use Rattle.ada_tree.specs.PlainExpr.{PExpr}
use Rattle.ada_tree.specs.PlainStmt.{PScheme, LWhile, LFor, PHead, PStmt, SNull, SAssign, SDelay, SExit, SRaise, SAbort, SCall, SAccept, SWait, SConditional, STimed, SPut, SPutLine, SNewLine, SGet, SIf, SCase, SBlock, SLoop, PStmts, no_stmt, stmt_then, PMaybe, absent, present, PAccept, accepting, alternative, PAltKind, AAccept, ADelay, ATerminate, PAlts, no_alt, alt_then, PArms, no_arm, arm_then, arm, PCaseArms, no_case_arm, case_arm_then, case_arm, PBody, body, PHandlers, no_handler, handler_then, handler}
use Rattle.ada_tree.specs.PlainDecl.{OPlain, OArray, PDecl, DNumber, DObject, DEnumeration, DArray, DSubtype, DException, DIntIo, DPragma, DTask, DTaskBody, PDecls, no_decl, decl_then}
use Rattle.ada_tree.specs.PlainProgram.{PProgram}
use Rattle.syn_event.specs.declared.numbering.Mode.{Mode}
use Rattle.syn_event.specs.declared.numbering.TaskInfo.{TaskInfo}
use Rattle.syn_event.specs.declared.meanings.Meant.{Meant}
use Rattle.syn_event.specs.declared.meanings.Meant.TheVariants as meant
use Rattle.syn_event.specs.Numbering.{Numbering, task_at}
use Rattle.syn_event.specs.CheckScope.{CheckScope, CheckSite, declares, exits}
use Rattle.syn_event.specs.CheckSites as check
use Rattle.syn_event.specs.declared.limits.What.TheVariants.{Alternatives}
use Rattle.syn_event.specs.CheckRefusals.{MeetsCheckRules}
use Rattle.syn_event.specs.RuleExitPlace as rule
use Rattle.task_model.specs.Frames.{is_left}
use Rattle.task_model.specs.Starting.{Unit, unit_of_decl, unit_among, unit_of_info, unit_of}
use Rattle.task_laws.specs.legal.sites.Met.{IsCheckMet}
use Rattle.task_laws.proofs.legal.sites.Meeting.{all_check_met}
use Rattle.common_lemmas.proofs.Lists.{all_front, all_back, not_empty}
use Rattle.task_laws.specs.statements.Each.{Loops, InParts, InStmts, InMaybe, InAccept, InAltKind, InAlts, InArms, InCaseArms, InBody, InHandlers}
use Rattle.task_laws.specs.statements.Laws.{ExitLeaves, LegalExitsLeave}

-- ---- names of loops

-- the name of a loop, where it has one
abbrev loop_name : Option Word → Option NameId
loop_name w = option_map (λ x. x.name) w

turned : (a b : ℕ) → (a == b) ≡ (b == a)
turned a b = by_test (a == b) refl (b == a) refl
  where
    by_test : (c : Bool) → (a == b) ≡ c → (d : Bool) → (b == a) ≡ d → c ≡ d
    by_test true p true q = refl
    by_test false p false q = refl
    by_test true p false q = sym (eq-eqb b a (sym (eqb-true a b p))) ∙ q
    by_test false p true q = sym p ∙ eq-eqb a b (sym (eqb-true b a q))

-- the rule and the task ask the same of a loop
same-left : (w v : Option Word) → rule.is_left w (loop_name v) ≡ is_left w v
same-left None v = refl
same-left (Some w) None = refl
same-left (Some w) (Some v) = turned v.name.0 w.name.0

any-left : (w : Option Word) (loops : Loops) → list_any (rule.is_left w) (map loop_name loops) ≡ list_any (is_left w) loops
any-left w [] = refl
any-left w (v ∷ loops) = ap₂ (λ a b. a || b) (same-left w v) (any-left w loops)

-- the loops that the rules know of are those around
abbrev pub Knows : CheckScope → Loops → Type 0
Knows c loops = c.loops ≡ map loop_name loops

exit-leaves : (w : Option Word) (s : Span) (c : CheckScope) (loops : Loops) → Knows c loops → rule.exit_place c (exits w s) ≡ [] → list_any (is_left w) loops ≡ true
exit-leaves w s c loops k h = sym (ap (list_any (rule.is_left w)) k ∙ any-left w loops) ∙ by_test (list_any (rule.is_left w) c.loops) h
  where
    by_test : (b : Bool) → (if◌then◌else◌ {A = List Span} b [] (s ∷ [])) ≡ [] → b ≡ true
    by_test true q = refl
    by_test false q = absurd (not_empty s [] q)

meant-loops : (k : Meant) (c : CheckScope) (ws : List Word) → (check.with_meant k c ws).loops ≡ c.loops
meant-loops k c [] = refl
meant-loops k c (w ∷ ws) = meant-loops k (record c { names = (w.name.0, k) ∷ c.names }) ws

in-loop-knows : (c : CheckScope) (loops : Loops) (w : Option Word) (x : Option PScheme) → Knows c loops → Knows (check.in_loop c w x) (w ∷ loops)
in-loop-knows c loops w None k = ap (λ ls. loop_name w ∷ ls) k
in-loop-knows c loops w (Some (LWhile e)) k = ap (λ ls. loop_name w ∷ ls) k
in-loop-knows c loops w (Some (LFor v r y)) k = ap (λ ls. loop_name w ∷ ls) k

in-accept-knows : (c : CheckScope) (h : PHead) → Knows (check.in_accept c h) []
in-accept-knows c h = meant-loops meant.Inner _ (check.formal_names h.formals)

-- ---- statements

-- what each statement has by what is met at its places
abbrev pub AtEach : Mode → List (List ℕ) → (Loops → PStmt → Type 0) → Type 0
AtEach m names Each =
    (x : PStmt) (c : CheckScope) (n : ℕ) (loops : Loops) → Knows c loops → AllByRecursion (IsCheckMet m names) (check.stmt_sites c n x) → Each loops x

module _ (m : Mode) (names : List (List ℕ)) (Each : Loops → PStmt → Type 0) (each : AtEach m names Each) where
  abbrev AllMet : List CheckSite → Type 0
  AllMet xs = AllByRecursion (IsCheckMet m names) xs

  front : (xs ys : List CheckSite) → AllMet (xs ++ ys) → AllMet xs
  front xs ys h = all_front (IsCheckMet m names) xs ys h

  back : (xs ys : List CheckSite) → AllMet (xs ++ ys) → AllMet ys
  back xs ys h = all_back (IsCheckMet m names) xs ys h

  second : (xs ys zs : List CheckSite) → AllMet (xs ++ ys ++ zs) → AllMet ys
  second xs ys zs h = back xs ys (front (xs ++ ys) zs h)

  third : (xs ys zs : List CheckSite) → AllMet (xs ++ ys ++ zs) → AllMet zs
  third xs ys zs h = back (xs ++ ys) zs h

  mutual
    parts : (x : PStmt) (c : CheckScope) (n : ℕ) (loops : Loops) → Knows c loops → AllMet (check.stmt_sites c n x) → InParts Each loops x
    parts (SNull s) c n loops k h = tt
    parts (SAssign t e s) c n loops k h = tt
    parts (SDelay d s) c n loops k h = tt
    parts (SExit w e s) c n loops k h = tt
    parts (SRaise w s) c n loops k h = tt
    parts (SAbort cs s) c n loops k h = tt
    parts (SCall x s) c n loops k h = tt
    parts (SAccept a s) c n loops k h = accept a c n h
    parts (SWait x o s) c n loops k h =
        let us : List CheckSite = check.numbered c Alternatives 0 (check.alt_places x) in
        let vs : List CheckSite = check.alts_sites c (n + 1) x in
        let ws : List CheckSite = check.maybe_sites c (n + 1) o in
        (alts x c (n + 1) loops k (second us vs ws h.1.1), maybe o c (n + 1) loops k (third us vs ws h.1.1))
    parts (SConditional x l o s) c n loops k h =
        let us : List CheckSite = check.select_sites c n x in
        let vs : List CheckSite = check.stmts_sites c (n + 1) l in
        let ws : List CheckSite = check.stmts_sites c (n + 1) o in
        (stmts l c (n + 1) loops k (second us vs ws h.1), stmts o c (n + 1) loops k (third us vs ws h.1))
    parts (STimed x l d o s) c n loops k h =
        let us : List CheckSite = check.select_sites c n x in
        let vs : List CheckSite = check.stmts_sites c (n + 1) l in
        let ws : List CheckSite = check.stmts_sites c (n + 1) o in
        (stmts l c (n + 1) loops k (second us vs ws h.1), stmts o c (n + 1) loops k (third us vs ws h.1))
    parts (SPut ps s) c n loops k h = tt
    parts (SPutLine ps s) c n loops k h = tt
    parts (SNewLine s) c n loops k h = tt
    parts (SGet t s) c n loops k h = tt
    parts (SIf x o s) c n loops k h =
        let vs : List CheckSite = check.arms_sites c (n + 1) x in
        let ws : List CheckSite = check.maybe_sites c (n + 1) o in
        (arms x c (n + 1) loops k (front vs ws h.1), maybe o c (n + 1) loops k (back vs ws h.1))
    parts (SCase e x o s) c n loops k h =
        let us : List CheckSite = check.expr_sites c (n + 1) e in
        let vs : List CheckSite = check.case_arms_sites c (n + 1) x in
        let ws : List CheckSite = check.maybe_sites c (n + 1) o in
        (case_arms x c (n + 1) loops k (second us vs ws h.1), maybe o c (n + 1) loops k (third us vs ws h.1))
    parts (SBlock b s) c n loops k h = of_body b c (n + 1) loops k h.1
    parts (SLoop w x l s) c n loops k h =
        let us : List CheckSite = check.if_there (λ y. check.site c (declares y) ∷ []) w in
        let vs : List CheckSite = check.if_there (check.scheme_sites c (n + 1)) x in
        let ws : List CheckSite = check.stmts_sites (check.in_loop c w x) (n + 1) l in
        stmts l (check.in_loop c w x) (n + 1) (w ∷ loops) (in-loop-knows c loops w x k) (third us vs ws h.1)

    stmts : (l : PStmts) (c : CheckScope) (n : ℕ) (loops : Loops) → Knows c loops → AllMet (check.stmts_sites c n l) → InStmts Each loops l
    stmts no_stmt c n loops k h = tt
    stmts (stmt_then x l) c n loops k h =
        let here : AllMet (check.stmt_sites c n x) = front (check.stmt_sites c n x) (check.stmts_sites c n l) h in
        ((each x c n loops k here, parts x c n loops k here), stmts l c n loops k (back (check.stmt_sites c n x) (check.stmts_sites c n l) h))

    maybe : (o : PMaybe) (c : CheckScope) (n : ℕ) (loops : Loops) → Knows c loops → AllMet (check.maybe_sites c n o) → InMaybe Each loops o
    maybe absent c n loops k h = tt
    maybe (present l) c n loops k h = stmts l c n loops k h

    accept : (a : PAccept) (c : CheckScope) (n : ℕ) → AllMet (check.accept_sites c n a) → InAccept Each a
    accept (accepting d o) c n h = maybe o (check.in_accept c d) (n + 1) [] (in-accept-knows c d) (back (check.head_sites c n d) (check.maybe_sites (check.in_accept c d) (n + 1) o) h)

    alts : (x : PAlts) (c : CheckScope) (n : ℕ) (loops : Loops) → Knows c loops → AllMet (check.alts_sites c n x) → InAlts Each loops x
    alts no_alt c n loops k h = tt
    alts (alt_then (alternative guard x s) l) c n loops k h =
        let us : List CheckSite = check.if_there (check.expr_sites c (n + 1)) guard in
        let vs : List CheckSite = check.alt_sites c (n + 1) guard s x in
        let ws : List CheckSite = check.alts_sites c n l in
        (alt x c (n + 1) guard s loops k (second us vs ws h.1), alts l c n loops k (third us vs ws h.1))

    alt : (x : PAltKind) (c : CheckScope) (n : ℕ) (guard : Option PExpr) (s : Span) (loops : Loops) → Knows c loops → AllMet (check.alt_sites c n guard s x) → InAltKind Each loops x
    alt (AAccept a l) c n guard s loops k h =
        (accept a c n (front (check.accept_sites c n a) (check.stmts_sites c n l) h), stmts l c n loops k (back (check.accept_sites c n a) (check.stmts_sites c n l) h))
    alt (ADelay d l) c n guard s loops k h = stmts l c n loops k (back (check.delay_sites c n guard s) (check.stmts_sites c n l) h)
    alt ATerminate c n guard s loops k h = tt

    arms : (x : PArms) (c : CheckScope) (n : ℕ) (loops : Loops) → Knows c loops → AllMet (check.arms_sites c n x) → InArms Each loops x
    arms no_arm c n loops k h = tt
    arms (arm_then (arm e l) rest) c n loops k h =
        let us : List CheckSite = check.expr_sites c n e in
        let vs : List CheckSite = check.stmts_sites c n l in
        let ws : List CheckSite = check.arms_sites c n rest in
        (stmts l c n loops k (second us vs ws h), arms rest c n loops k (third us vs ws h))

    case_arms : (x : PCaseArms) (c : CheckScope) (n : ℕ) (loops : Loops) → Knows c loops → AllMet (check.case_arms_sites c n x) → InCaseArms Each loops x
    case_arms no_case_arm c n loops k h = tt
    case_arms (case_arm_then (case_arm cs l) rest) c n loops k h =
        let us : List CheckSite = flat_map (check.choice_sites c n) cs in
        let vs : List CheckSite = check.stmts_sites c n l in
        let ws : List CheckSite = check.case_arms_sites c n rest in
        (stmts l c n loops k (second us vs ws h), case_arms rest c n loops k (third us vs ws h))

    of_body : (b : PBody) (c : CheckScope) (n : ℕ) (loops : Loops) → Knows c loops → AllMet (check.body_sites c n b) → InBody Each loops b
    of_body (body l hs) c n loops k h =
        (stmts l c n loops k (front (check.stmts_sites c n l) (check.handlers_sites c n hs) h), handlers hs c n loops k (back (check.stmts_sites c n l) (check.handlers_sites c n hs) h))

    handlers : (hs : PHandlers) (c : CheckScope) (n : ℕ) (loops : Loops) → Knows c loops → AllMet (check.handlers_sites c n hs) → InHandlers Each loops hs
    handlers no_handler c n loops k h = tt
    handlers (handler_then (handler ws l s) rest) c n loops k h =
        let us : List CheckSite = check.stmts_sites (check.handling c) (n + 1) l in
        let vs : List CheckSite = check.handlers_sites c n rest in
        (stmts l (check.handling c) (n + 1) loops k (front us vs h.1), handlers rest c n loops k (back us vs h.1))

  -- ---- units

  own-loops : (ds : PDecls) (c : CheckScope) → (check.after_own c ds).loops ≡ c.loops
  own-loops no_decl c = refl
  own-loops (decl_then (DObject ws k x i s) rest) c = own-loops rest (check.after_own_object c (DObject ws k x i s)) ∙ meant-loops meant.Inner c ws
  own-loops (decl_then (DNumber w e s) rest) c = own-loops rest c
  own-loops (decl_then (DEnumeration w ws s) rest) c = own-loops rest c
  own-loops (decl_then (DArray w r x s) rest) c = own-loops rest c
  own-loops (decl_then (DSubtype w x s) rest) c = own-loops rest c
  own-loops (decl_then (DException ws s) rest) c = own-loops rest c
  own-loops (decl_then (DIntIo w s) rest) c = own-loops rest c
  own-loops (decl_then (DPragma e s) rest) c = own-loops rest c
  own-loops (decl_then (DTask t s) rest) c = own-loops rest c
  own-loops (decl_then (DTaskBody w objects its s) rest) c = own-loops rest c

  shared-loops : (b : Bool) (c : CheckScope) (ws : List Word) → (check.with_declared_object b c ws).loops ≡ c.loops
  shared-loops true c ws = meant-loops meant.Shared c ws
  shared-loops false c ws = refl

  object-loops : (c : CheckScope) (o : Option Meant) (mark : Word) (b : Bool) (ws : List Word) → (check.with_object c o mark b ws).loops ≡ c.loops
  object-loops c None mark b ws = shared-loops b c ws
  object-loops c (Some meant.MainProcedure) mark b ws = shared-loops b c ws
  object-loops c (Some meant.TaskType) mark b ws = meant-loops (meant.TaskOf mark.name) c ws
  object-loops c (Some (meant.TaskOf id)) mark b ws = shared-loops b c ws
  object-loops c (Some meant.Shared) mark b ws = shared-loops b c ws
  object-loops c (Some meant.Inner) mark b ws = shared-loops b c ws

  decl-loops : (d : PDecl) (c : CheckScope) → (check.after_decl c d).loops ≡ c.loops
  decl-loops (DObject ws k (OPlain x) i s) c = object-loops c _ _ _ ws
  decl-loops (DObject ws k (OArray r x) i s) c = object-loops c _ _ _ ws
  decl-loops (DTask t s) c = meant-loops (check.meant_by_task t) (record c { units = check.enclosing_unit t ∷ c.units }) (t.name ∷ [])
  decl-loops (DNumber w e s) c = refl
  decl-loops (DEnumeration w ws s) c = refl
  decl-loops (DArray w r x s) c = refl
  decl-loops (DSubtype w x s) c = refl
  decl-loops (DException ws s) c = refl
  decl-loops (DIntIo w s) c = refl
  decl-loops (DPragma e s) c = refl
  decl-loops (DTaskBody w objects its s) c = refl

  decls-loops : (ds : PDecls) (c : CheckScope) → (check.after_decls c ds).loops ≡ c.loops
  decls-loops no_decl c = refl
  decls-loops (decl_then d rest) c = decls-loops rest (check.after_decl c d) ∙ decl-loops d c

  -- the body of a unit that is found among declarations
  among : (ds : PDecls) (c : CheckScope) (bodies : List ℕ) (id : NameId) → Knows c [] → AllMet (check.decls_sites c bodies ds) → InBody Each [] (unit_among ds id).body
  among no_decl c bodies id k h = (tt, tt)
  among (decl_then d rest) c bodies id k h =
      by_unit (unit_of_decl d id) refl
      (among rest (check.after_decl c d) bodies id (decl-loops d c ∙ k) (back (check.decl_sites c bodies d) (check.decls_sites (check.after_decl c d) bodies rest) h))
    where
      here : (x : PDecl) → AllMet (check.decl_sites c bodies x) → (u : Unit) → unit_of_decl x id ≡ Some u → InBody Each [] u.body
      here (DTaskBody w objects its s) a u q = by_name (w.name.0 == id.0) q
        where
          by_name : (b : Bool) → (if b then Some (record { in_main = false; decls = objects; body = its }) else None) ≡ Some u → InBody Each [] u.body
          by_name true r =
              subst (λ (v : Unit). InBody Each [] v.body) (some_same r)
              (of_body its (check.after_own (check.in_body c w) objects) 1 [] (own-loops objects (check.in_body c w) ∙ k)
              (back (check.own_sites (check.in_body c w) objects) (check.body_sites (check.after_own (check.in_body c w) objects) 1 its) a))
          by_name false r = absurd (none-some u r)
      here (DObject ws b x i s) a u q = absurd (none-some u q)
      here (DNumber w e s) a u q = absurd (none-some u q)
      here (DEnumeration w ws s) a u q = absurd (none-some u q)
      here (DArray w r x s) a u q = absurd (none-some u q)
      here (DSubtype w x s) a u q = absurd (none-some u q)
      here (DException ws s) a u q = absurd (none-some u q)
      here (DIntIo w s) a u q = absurd (none-some u q)
      here (DPragma e s) a u q = absurd (none-some u q)
      here (DTask t s) a u q = absurd (none-some u q)

      by_unit : (o : Option Unit) → unit_of_decl d id ≡ o → InBody Each [] (unit_among rest id).body → InBody Each [] (unwrap_or o (unit_among rest id)).body
      by_unit None q later = later
      by_unit (Some u) q later = here d (front (check.decl_sites c bodies d) (check.decls_sites (check.after_decl c d) bodies rest) h) u q

-- ---- programs

module _ (p : PProgram) (m : Mode) (meets : MeetsCheckRules p m) (Each : Loops → PStmt → Type 0) (each : AtEach m p.names Each) where
  abbrev c0 : CheckScope
  c0 = check.around_program p

  abbrev declared : List CheckSite
  declared = check.decls_sites c0 (check.body_names p.decls) p.decls

  abbrev its_body : List CheckSite
  its_body = check.body_sites (check.after_decls c0 p.decls) 1 p.body

  two : AllMet m p.names Each each (declared ++ its_body)
  two = front m p.names Each each (declared ++ its_body) (check.counted_sites c0 p) (all_check_met p m meets).1

  of_info : (o : Option TaskInfo) → InBody Each [] (unit_of_info p o).body
  of_info None = (tt, tt)
  of_info (Some info) = among m p.names Each each p.decls c0 (check.body_names p.decls) info.unit refl (front m p.names Each each declared its_body two)

  -- so it is of each statement of each unit
  pub of-unit : (numbers : Numbering) (t : ℕ) → InBody Each [] (unit_of p numbers t).body
  of-unit numbers t = by_number (t == 0)
    where
      by_number : (b : Bool) → InBody Each [] (if b then record { in_main = true; decls = p.decls; body = p.body } else unit_of_info p (task_at numbers t)).body
      by_number true = of_body m p.names Each each p.body (check.after_decls c0 p.decls) 1 [] (decls-loops m p.names Each each p.decls c0) (back m p.names Each each declared its_body two)
      by_number false = of_info (task_at numbers t)

-- ---- exits

exit-each : (m : Mode) (names : List (List ℕ)) → AtEach m names ExitLeaves
exit-each m names (SExit w e s) c n loops k h = exit-leaves w s c loops k h.1.0.exits
exit-each m names (SNull s) c n loops k h = tt
exit-each m names (SAssign t e s) c n loops k h = tt
exit-each m names (SDelay d s) c n loops k h = tt
exit-each m names (SRaise w s) c n loops k h = tt
exit-each m names (SAbort cs s) c n loops k h = tt
exit-each m names (SCall x s) c n loops k h = tt
exit-each m names (SAccept a s) c n loops k h = tt
exit-each m names (SWait x o s) c n loops k h = tt
exit-each m names (SConditional x l o s) c n loops k h = tt
exit-each m names (STimed x l d o s) c n loops k h = tt
exit-each m names (SPut ps s) c n loops k h = tt
exit-each m names (SPutLine ps s) c n loops k h = tt
exit-each m names (SNewLine s) c n loops k h = tt
exit-each m names (SGet t s) c n loops k h = tt
exit-each m names (SIf x o s) c n loops k h = tt
exit-each m names (SCase e x o s) c n loops k h = tt
exit-each m names (SBlock b s) c n loops k h = tt
exit-each m names (SLoop w x l s) c n loops k h = tt

pub legal_exits_leave : LegalExitsLeave
legal_exits_leave p m meets numbers t = of-unit p m meets ExitLeaves (exit-each m p.names) numbers t
