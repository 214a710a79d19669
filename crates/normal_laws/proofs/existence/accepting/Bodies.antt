-- The accepts of a legal program have the formals of their entries, and its waits have few alternatives.
use Rattle.std.proofs.Common.{◌≡◌, ℕ, ◌+◌, ◌≤◌, ◌==◌, ◌&&◌, nat_le, nat_lt, Bool, true, false, if◌then◌else◌, List, [], ◌∷◌, ◌++◌, unwrap_or, Option, Some, None, refl, sym, ap, ◌∙◌, subst, arith}
use Rattle.std.specs.List.{AllByRecursion}
use Rattle.std.proofs.lemmas.Option.{none-some}
use Rattle.common_lemmas.proofs.Lists.{all_back, all_front}
use Rattle.common_lemmas.proofs.Options.{some_same}
use Rattle.ada_tree.specs.declared.naming.NameId.{NameId}
use Rattle.ada_tree.specs.declared.naming.Span.{Span}
use Rattle.ada_tree.specs.PlainExpr.{PExpr}
use Rattle.ada_tree.specs.PlainStmt.{PHead, PStmt, SNull, SAssign, SDelay, SExit, SRaise, SAbort, SCall, SAccept, SWait, SConditional, STimed, SPut, SPutLine, SNewLine, SGet, SIf, SCase, SBlock, SLoop, PStmts, no_stmt, stmt_then, PMaybe, absent, present, PAccept, accepting, alternative, PAltKind, AAccept, ADelay, ATerminate, PAlts, no_alt, alt_then, PArms, no_arm, arm_then, arm, PCaseArms, no_case_arm, case_arm_then, case_arm, PBody, body, PHandlers, no_handler, handler_then, handler}
use Rattle.ada_tree.specs.PlainDecl.{PDecl, DNumber, DObject, DEnumeration, DArray, DSubtype, DException, DIntIo, DPragma, DTask, DTaskBody, PDecls, no_decl, decl_then}
use Rattle.ada_tree.specs.PlainProgram.{PProgram}
use Rattle.ada_tree.specs.Every.{alts_count}
use Rattle.ada_static_rules.specs.Sites.{with_words}
use Rattle.syn_event.specs.declared.limits.What.TheVariants.{Alternatives}
use Rattle.syn_event.specs.declared.numbering.Mode.{Mode}
use Rattle.syn_event.specs.declared.numbering.Mode.TheVariants as mode
use Rattle.syn_event.specs.declared.numbering.TaskInfo.{TaskInfo}
use Rattle.syn_event.specs.Numbering.{Numbering, task_at}
use Rattle.syn_event.specs.Limits.{limit_of}
use Rattle.syn_event.specs.RuleLimit.{limit_passed}
use Rattle.syn_event.specs.CheckScope.{CheckScope, CheckSite}
use Rattle.syn_event.specs.CheckSites as check
use Rattle.syn_event.specs.CheckRefusals.{MeetsCheckRules}
use Rattle.syn_event.proofs.Nothing.{test_fails}
use Rattle.syn_event.proofs.Weaker.{placed_tokens}
use Rattle.task_model.specs.Setting.{Setting}
use Rattle.task_model.specs.Starting.{Unit as TaskUnit, unit_of_decl, unit_among, unit_of_info, unit_of}
use Rattle.task_laws.specs.invariants.AcceptHeads as heads
use Rattle.task_laws.specs.statements.Each.{Loops, InParts, InStmts, InMaybe, InAccept, InAltKind, InAlts, InArms, InCaseArms, InBody, InHandlers}
use Rattle.task_laws.proofs.statements.Carried.{starts-so, stays-so}
use Rattle.task_laws.specs.legal.asked.Asked.{Asks, AskedStmt, AskedStmts, AskedSome, AskedMaybe, AskedAccept, AskedAlts, AskedKind, AskedArms, AskedCaseArms, AskedBody, AskedHandlers}
use Rattle.task_laws.specs.legal.asked.Kinds.{check_asks}
use Rattle.task_laws.specs.legal.sites.Met.{IsCheckMet}
use Rattle.task_laws.proofs.legal.asked.Checked.{checked_asked}
use Rattle.task_laws.proofs.legal.sites.Meeting.{all_check_met}
use Rattle.normal_laws.specs.runs.forms.Normalisable.{numbers_of, setting_for}
use Rattle.normal_laws.proofs.structure.placed.Depth.{one-more}
use Rattle.normal_laws.specs.existence.accepting.Laws.{HasFormals, HaveFormals, CanAccept, LegalBodiesCanAccept, LegalTasksCanAccept, CanAcceptStays}
use Rattle.normal_laws.proofs.existence.units.Conforms.{heads-hold}

-- ---- alternatives

module _ (m : Mode) (names : List (List ℕ)) where
  abbrev Met : CheckSite → Type 0
  Met x = IsCheckMet m names x

  -- alternatives that keep to the limit of the mode
  few-at : (limit : ℕ) → limit_of m Alternatives ≡ Some limit → (c : CheckScope) (x : PAlts) (n : ℕ) → n ≤ limit → AllByRecursion Met (check.numbered c Alternatives n (check.alt_places x)) → n + alts_count x ≤ limit
  few-at limit e c no_alt n le h = omega (arith, le)
  few-at limit e c (alt_then (alternative guard what s) rest) n le h =
      let passed : limit_passed Alternatives (Some limit) n 1 s ≡ [] = ap (λ o. limit_passed Alternatives o n 1 s) (sym e) ∙ h.0.limits in
      let more : n + 1 ≤ limit = one-more limit n le (test_fails (nat_le n limit && nat_lt limit (n + 1)) _ passed) in
      let all : n + 1 + alts_count rest ≤ limit = few-at limit e c rest (n + 1) more h.1 in
      omega (arith, all)

few-alternatives : (m : Mode) (names : List (List ℕ)) (c : CheckScope) (x : PAlts) → AllByRecursion (Met m names) (check.numbered c Alternatives 0 (check.alt_places x)) → alts_count x ≤ 33
few-alternatives mode.Original names c x h = let few : 0 + alts_count x ≤ 32 = few-at mode.Original names 32 refl c x 0 (omega arith) h in omega (arith, few)
few-alternatives mode.Any names c x h = let few : 0 + alts_count x ≤ 33 = few-at mode.Any names 33 refl c x 0 (omega arith) h in omega (arith, few)

-- ---- statements

module _ (m : Mode) (names : List (List ℕ)) (g : Setting) (t : ℕ) where
  abbrev H : PHead → Type 0
  H = HasFormals g t

  abbrev Each : Loops → PStmt → Type 0
  Each = CanAccept g t

  abbrev a : Asks CheckScope
  a = check_asks (Met m names)

  -- the accepts among alternatives
  have : (x : PAlts) → heads.InAlts H x → HaveFormals g t x
  have no_alt h = tt
  have (alt_then (alternative guard (AAccept (accepting head o) l) s) rest) h = (h.0.0.0, have rest h.1)
  have (alt_then (alternative guard (ADelay d l) s) rest) h = have rest h.1
  have (alt_then (alternative guard ATerminate s) rest) h = have rest h.1

  -- what is known of the heads of all accepts, and what the rules 13 to 23 leave, of each statement
  each : (x : PStmt) (c : CheckScope) (k : ℕ) (loops : Loops) → heads.InStmt H x → AskedStmt a c k x → Each loops x
  each (SAccept (accepting head o) s) c k loops h q = h.0
  each (SWait x o s) c k loops h q = (have x h.0, few-alternatives m names c x q.2.1)
  each (SNull s) c k loops h q = tt
  each (SAssign v e s) c k loops h q = tt
  each (SDelay d s) c k loops h q = tt
  each (SExit w e s) c k loops h q = tt
  each (SRaise w s) c k loops h q = tt
  each (SAbort xs s) c k loops h q = tt
  each (SCall x s) c k loops h q = tt
  each (SConditional x l o s) c k loops h q = tt
  each (STimed x l d o s) c k loops h q = tt
  each (SPut ps s) c k loops h q = tt
  each (SPutLine ps s) c k loops h q = tt
  each (SNewLine s) c k loops h q = tt
  each (SGet v s) c k loops h q = tt
  each (SIf x o s) c k loops h q = tt
  each (SCase e x o s) c k loops h q = tt
  each (SBlock b s) c k loops h q = tt
  each (SLoop w x l s) c k loops h q = tt

  mutual
    parts : (x : PStmt) (c : CheckScope) (k : ℕ) (loops : Loops) → heads.InStmt H x → AskedStmt a c k x → InParts Each loops x
    parts (SAccept x s) c k loops h q = accept x c k h q
    parts (SWait x o s) c k loops h q = (alts x c (k + 1) loops h.0 q.3, maybe o c (k + 1) loops h.1 q.4)
    parts (SConditional x l o s) c k loops h q = (row l c (k + 1) loops h.0 q.4, some o c (k + 1) loops h.1 q.5)
    parts (STimed x l d o s) c k loops h q = (row l c (k + 1) loops h.0 q.5, row o c (k + 1) loops h.1 q.6)
    parts (SIf x o s) c k loops h q = (arms x c (k + 1) loops h.0 q.2, maybe o c (k + 1) loops h.1 q.3)
    parts (SCase e x o s) c k loops h q = (case-arms x e c (k + 1) loops h.0 q.2, maybe o c (k + 1) loops h.1 q.3)
    parts (SBlock b s) c k loops h q = in-body b c (k + 1) loops h q.1
    parts (SLoop w x l s) c k loops h q = some l (a.looping c w x) (k + 1) (w ∷ loops) h q.2
    parts (SNull s) c k loops h q = tt
    parts (SAssign v e s) c k loops h q = tt
    parts (SDelay d s) c k loops h q = tt
    parts (SExit w e s) c k loops h q = tt
    parts (SRaise w s) c k loops h q = tt
    parts (SAbort xs s) c k loops h q = tt
    parts (SCall x s) c k loops h q = tt
    parts (SPut ps s) c k loops h q = tt
    parts (SPutLine ps s) c k loops h q = tt
    parts (SNewLine s) c k loops h q = tt
    parts (SGet v s) c k loops h q = tt

    row : (l : PStmts) (c : CheckScope) (k : ℕ) (loops : Loops) → heads.InStmts H l → AskedStmts a c k l → InStmts Each loops l
    row no_stmt c k loops h q = tt
    row (stmt_then x l) c k loops h q = ((each x c k loops h.0 q.0, parts x c k loops h.0 q.0), row l c k loops h.1 q.1)

    some : (l : PStmts) (c : CheckScope) (k : ℕ) (loops : Loops) → heads.InStmts H l → AskedSome a c k l → InStmts Each loops l
    some no_stmt c k loops h q = tt
    some (stmt_then x l) c k loops h q = ((each x c k loops h.0 q.1, parts x c k loops h.0 q.1), row l c k loops h.1 q.2)

    maybe : (o : PMaybe) (c : CheckScope) (k : ℕ) (loops : Loops) → heads.InMaybe H o → AskedMaybe a c k o → InMaybe Each loops o
    maybe absent c k loops h q = tt
    maybe (present l) c k loops h q = some l c k loops h q

    accept : (x : PAccept) (c : CheckScope) (k : ℕ) → heads.InAccept H x → AskedAccept a c k x → InAccept Each x
    accept (accepting head o) c k h q = maybe o (a.accepting c head) (k + 1) [] h.1 q.1

    alts : (x : PAlts) (c : CheckScope) (k : ℕ) (loops : Loops) → heads.InAlts H x → AskedAlts a c k x → InAlts Each loops x
    alts no_alt c k loops h q = tt
    alts (alt_then (alternative guard w s) rest) c k loops h q = (kind w guard s c (k + 1) loops h.0 q.2, alts rest c k loops h.1 q.3)

    kind : (w : PAltKind) (guard : Option PExpr) (s : Span) (c : CheckScope) (k : ℕ) (loops : Loops) → heads.InAltKind H w → AskedKind a c k guard s w → InAltKind Each loops w
    kind (AAccept x l) guard s c k loops h q = (accept x c k h.0 q.0, row l c k loops h.1 q.1)
    kind (ADelay d l) guard s c k loops h q = row l c k loops h q.2
    kind ATerminate guard s c k loops h q = tt

    arms : (x : PArms) (c : CheckScope) (k : ℕ) (loops : Loops) → heads.InArms H x → AskedArms a c k x → InArms Each loops x
    arms no_arm c k loops h q = tt
    arms (arm_then (arm e l) rest) c k loops h q = (some l c k loops h.0 q.1, arms rest c k loops h.1 q.2)

    case-arms : (x : PCaseArms) (e : PExpr) (c : CheckScope) (k : ℕ) (loops : Loops) → heads.InCaseArms H x → AskedCaseArms a c k e x → InCaseArms Each loops x
    case-arms no_case_arm e c k loops h q = tt
    case-arms (case_arm_then (case_arm xs l) rest) e c k loops h q = (some l c k loops h.0 q.1, case-arms rest e c k loops h.1 q.2)

    in-body : (b : PBody) (c : CheckScope) (k : ℕ) (loops : Loops) → heads.InBody H b → AskedBody a c k b → InBody Each loops b
    in-body (body l hs) c k loops h q = (some l c k loops h.0 q.0, handlers hs [] c k loops h.1 q.2)

    handlers : (hs : PHandlers) (ids : List ℕ) (c : CheckScope) (k : ℕ) (loops : Loops) → heads.InHandlers H hs → AskedHandlers a c k ids hs → InHandlers Each loops hs
    handlers no_handler ids c k loops h q = tt
    handlers (handler_then (handler ws l s) rest) ids c k loops h q = (some l (a.handling c) (k + 1) loops h.0 q.2, handlers rest (with_words ids ws) c k loops h.1 q.3)

-- ---- units

module _ (m : Mode) (names : List (List ℕ)) where
  abbrev Asked : PBody → Type 0
  Asked b = (c : CheckScope) × AskedBody (check_asks (Met m names)) c 1 b

  -- what the rules leave of the body of a unit that is found among declarations
  among : (ds : PDecls) (c : CheckScope) (bodies : List ℕ) (id : NameId) → AllByRecursion (Met m names) (check.decls_sites c bodies ds) → Asked (unit_among ds id).body
  among no_decl c bodies id h = (c, checked_asked (Met m names) c 1 (body no_stmt no_handler) tt)
  among (decl_then d rest) c bodies id h =
      by_unit (unit_of_decl d id) refl (among rest (check.after_decl c d) bodies id (all_back (Met m names) (check.decl_sites c bodies d) (check.decls_sites (check.after_decl c d) bodies rest) h))
    where
      here : (x : PDecl) → AllByRecursion (Met m names) (check.decl_sites c bodies x) → (u : TaskUnit) → unit_of_decl x id ≡ Some u → Asked u.body
      here (DTaskBody w objects its s) q u e = by_name (w.name.0 == id.0) e
        where
          by_name : (b : Bool) → (if b then Some (record { in_main = false; decls = objects; body = its }) else None) ≡ Some u → Asked u.body
          by_name true r =
              subst (λ (v : TaskUnit). Asked v.body) (some_same r) (
                check.after_own (check.in_body c w) objects,
                checked_asked (Met m names) (check.after_own (check.in_body c w) objects) 1 its
                    (all_back (Met m names) (check.own_sites (check.in_body c w) objects) (check.body_sites (check.after_own (check.in_body c w) objects) 1 its) q),
              )
          by_name false r = absurd (none-some u r)
      here (DObject ws b x i s) q u e = absurd (none-some u e)
      here (DNumber w v s) q u e = absurd (none-some u e)
      here (DEnumeration w ws s) q u e = absurd (none-some u e)
      here (DArray w r x s) q u e = absurd (none-some u e)
      here (DSubtype w x s) q u e = absurd (none-some u e)
      here (DException ws s) q u e = absurd (none-some u e)
      here (DIntIo w s) q u e = absurd (none-some u e)
      here (DPragma v s) q u e = absurd (none-some u e)
      here (DTask v s) q u e = absurd (none-some u e)

      by_unit : (o : Option TaskUnit) → unit_of_decl d id ≡ o → Asked (unit_among rest id).body → Asked (unwrap_or o (unit_among rest id)).body
      by_unit None e later = later
      by_unit (Some u) e later = here d (all_front (Met m names) (check.decl_sites c bodies d) (check.decls_sites (check.after_decl c d) bodies rest) h) u e

-- ---- programs

module _ (p : PProgram) (m : Mode) (meets : MeetsCheckRules p m) where
  abbrev c0 : CheckScope
  c0 = check.around_program p

  abbrev declared : List CheckSite
  declared = check.decls_sites c0 (check.body_names p.decls) p.decls

  abbrev its_body : List CheckSite
  its_body = check.body_sites (check.after_decls c0 p.decls) 1 p.body

  two : AllByRecursion (Met m p.names) (declared ++ its_body)
  two = all_front (Met m p.names) (declared ++ its_body) (check.counted_sites c0 p) (all_check_met p m meets).1

  of-info : (o : Option TaskInfo) → Asked m p.names (unit_of_info p o).body
  of-info None = (c0, checked_asked (Met m p.names) c0 1 (body no_stmt no_handler) tt)
  of-info (Some info) = among m p.names p.decls c0 (check.body_names p.decls) info.unit (all_front (Met m p.names) declared its_body two)

  unit-asked : (numbers : Numbering) (t : ℕ) → Asked m p.names (unit_of p numbers t).body
  unit-asked numbers t = by_number (t == 0)
    where
      by_number : (b : Bool) → Asked m p.names (if b then record { in_main = true; decls = p.decls; body = p.body } else unit_of_info p (task_at numbers t)).body
      by_number true = (check.after_decls c0 p.decls, checked_asked (Met m p.names) (check.after_decls c0 p.decls) 1 p.body (all_back (Met m p.names) declared its_body two))
      by_number false = of-info (task_at numbers t)

-- ---- the laws

pub legal_bodies_can_accept : LegalBodiesCanAccept
legal_bodies_can_accept p types numbers m legal placed t =
    let asked = unit-asked p m legal.check_rules (numbers_of p) t in
    let known = heads-hold m p legal.type_rules legal.check_rules (placed_tokens p placed) (HasFormals (setting_for p)) (λ n h e. e) t in
    in-body m p.names (setting_for p) t (unit_of p (numbers_of p) t).body asked.0 1 [] known asked.1

pub legal_tasks_can_accept : LegalTasksCanAccept
legal_tasks_can_accept p types numbers m legal placed inputs t = starts-so (CanAccept (setting_for p) t) (setting_for p) inputs t (legal_bodies_can_accept p types numbers m legal placed t)

pub can_accept_stays : CanAcceptStays
can_accept_stays g t l h = stays-so (CanAccept g t) (λ loops c d cs s i. tt) l h
