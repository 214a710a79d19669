-- What is known of the statements of a unit, wherever they stand.
use Rattle.std.proofs.Common.{◌≡◌, ◌<◌, ◌≤◌, ◌+◌, ℕ, ℤ, Bool, true, false, ◌&&◌, nat_lt, nat_le, List, [], ◌∷◌, length, Some, refl, true≢false, arith}
use Rattle.std.specs.List.{AllByRecursion}
use Rattle.std.proofs.lemmas.Bool.Decides.{nat_tests}
use Rattle.ada_tree.specs.declared.naming.Span.{Span}
use Rattle.ada_tree.specs.PlainStmt.{PCallee, PStmt, SNull, SAssign, SDelay, SExit, SRaise, SAbort, SCall, SAccept, SWait, SConditional, STimed, SPut, SPutLine, SNewLine, SGet, SIf, SCase, SBlock, SLoop, PStmts, no_stmt, stmt_then, PMaybe, absent, present, accepting, alternative, PAltKind, AAccept, ADelay, ATerminate, PAlts, no_alt, alt_then, PArms, no_arm, arm_then, arm, PCaseArms, no_case_arm, case_arm_then, case_arm, PBody, body, PHandlers, no_handler, handler_then, handler}
use Rattle.ada_tree.specs.PlainProgram.{PProgram}
use Rattle.ada_static_rules.specs.Refusals.{types_in}
use Rattle.syn_event.specs.declared.numbering.Mode.TheVariants.{Original}
use Rattle.syn_event.specs.declared.limits.What.TheVariants.{Alternatives}
use Rattle.syn_event.specs.CheckScope.{CheckScope, CheckSite}
use Rattle.syn_event.specs.CheckSites as checks
use Rattle.syn_event.specs.RuleLimit.{limit_passed}
use Rattle.syn_event.proofs.Nothing.{test_fails}
use Rattle.task_model.specs.Starting.{unit_of}
use Rattle.task_model.specs.Waits.{delays_with}
use Rattle.task_laws.specs.statements.Each.{Loops, InParts, InStmts, InMaybe, InAlts, InAltKind, InArms, InCaseArms, InBody, InHandlers}
use Rattle.task_laws.specs.translation.OldTexts.{Asked, OldCallees, old_callee, OldStmt, old_abort, old_call, old_accept, old_wait, old_conditional, old_timed, old_if, old_case, old_block, old_loop, OldStmts, old_stmt, OldMaybe, old_present, OldAlts, old_alt, OldKind, old_accepts, old_delays, OldArms, old_arm, OldCaseArms, old_case_arm, OldHandlers, old_handler, OldBody, old_body}
use Rattle.task_laws.specs.legal.asked.Asked.{AskedStmt}
use Rattle.task_laws.specs.legal.asked.Kinds.{check_asks}
use Rattle.task_laws.specs.legal.sites.Met.{IsCheckMet}
use Rattle.task_laws.proofs.legal.asked.Checked.{checked_asked}
use Rattle.normal_laws.proofs.structure.entries.Entries.{g}
use Rattle.normal_laws.specs.runs.forms.Normalisable.{numbers_of}
use Rattle.normal_laws.specs.existence.Laws.{IsLegalOriginal}
use Rattle.normal_laws.proofs.existence.statements.Asked.{body-each}
use Rattle.progress_law.specs.offers.inner.Stated.{IsKnownCallee, IsKnownAt, HasFewDelays, delays_behind}
use Rattle.progress_law.proofs.offers.Texts.{HasAccept, asked, unit-text, unit-checked}

-- ---- what is asked of a text holds of each statement in it

module _ (a : Asked) (Each : Loops → PStmt → Type 0) (each : (x : PStmt) (loops : Loops) → OldStmt a x → Each loops x) where
  mutual
    parts : (x : PStmt) (loops : Loops) → OldStmt a x → InParts Each loops x
    parts (SAccept (accepting h o) s) loops (old_accept _ _ _ oh ah om) = maybe o [] om
    parts (SWait x o s) loops (old_wait _ _ _ w oa om) = (alts x loops oa, maybe o loops om)
    parts (SConditional c l m s) loops (old_conditional _ _ _ _ oc ac ol om) = (row l loops ol, row m loops om)
    parts (STimed c l d m s) loops (old_timed _ _ _ _ _ oc ac ol om) = (row l loops ol, row m loops om)
    parts (SIf x o s) loops (old_if _ _ _ ox om) = (arms x loops ox, maybe o loops om)
    parts (SCase e x o s) loops (old_case _ _ _ _ oe ox om) = (case-arms x loops ox, maybe o loops om)
    parts (SBlock (body l hs) s) loops (old_block _ _ _ ol oh) = (row l loops ol, handlers hs loops oh)
    parts (SLoop w c l s) loops (old_loop _ _ _ _ oc ol) = row l (w ∷ loops) ol
    parts (SNull s) loops h = tt
    parts (SAssign t e s) loops h = tt
    parts (SDelay d s) loops h = tt
    parts (SExit w e s) loops h = tt
    parts (SRaise w s) loops h = tt
    parts (SAbort xs s) loops h = tt
    parts (SCall c s) loops h = tt
    parts (SPut ps s) loops h = tt
    parts (SPutLine ps s) loops h = tt
    parts (SNewLine s) loops h = tt
    parts (SGet t s) loops h = tt

    row : (l : PStmts) (loops : Loops) → OldStmts a l → InStmts Each loops l
    row no_stmt loops h = tt
    row (stmt_then x l) loops (old_stmt _ _ ox ol) = ((each x loops ox, parts x loops ox), row l loops ol)

    maybe : (o : PMaybe) (loops : Loops) → OldMaybe a o → InMaybe Each loops o
    maybe absent loops h = tt
    maybe (present l) loops (old_present _ ol) = row l loops ol

    alts : (x : PAlts) (loops : Loops) → OldAlts a x → InAlts Each loops x
    alts no_alt loops h = tt
    alts (alt_then (alternative guard k s) rest) loops (old_alt _ _ _ _ og ok orest) = (kind k loops ok, alts rest loops orest)

    kind : (k : PAltKind) (loops : Loops) → OldKind a k → InAltKind Each loops k
    kind (AAccept (accepting h o) l) loops (old_accepts _ _ _ oh ah om ol) = (maybe o [] om, row l loops ol)
    kind (ADelay d l) loops (old_delays _ _ ol) = row l loops ol
    kind ATerminate loops h = tt

    arms : (x : PArms) (loops : Loops) → OldArms a x → InArms Each loops x
    arms no_arm loops h = tt
    arms (arm_then (arm e l) rest) loops (old_arm _ _ _ oe ol orest) = (row l loops ol, arms rest loops orest)

    case-arms : (x : PCaseArms) (loops : Loops) → OldCaseArms a x → InCaseArms Each loops x
    case-arms no_case_arm loops h = tt
    case-arms (case_arm_then (case_arm cs l) rest) loops (old_case_arm _ _ _ oc ol orest) = (row l loops ol, case-arms rest loops orest)

    handlers : (x : PHandlers) (loops : Loops) → OldHandlers a x → InHandlers Each loops x
    handlers no_handler loops h = tt
    handlers (handler_then (handler ws l s) rest) loops (old_handler _ _ _ _ ol orest) = (row l loops ol, handlers rest loops orest)

  body-of : (x : PBody) (loops : Loops) → OldBody a x → InBody Each loops x
  body-of (body l hs) loops (old_body _ _ ol oh) = (row l loops ol, handlers hs loops oh)

-- ---- alternatives

-- a wait has no more delay alternatives than alternatives
delays-most : (x : PAlts) (k : ℕ) → delays_behind x k ≤ k + length (checks.alt_places x)
delays-most no_alt k = omega arith
delays-most (alt_then (alternative g x s) rest) k =
    let here : delays_with x k ≤ k + 1 = one x in
    let more : delays_behind rest (delays_with x k) ≤ delays_with x k + length (checks.alt_places rest) = delays-most rest (delays_with x k) in
    omega (arith, here, more)
  where
    one : (x : PAltKind) → delays_with x k ≤ k + 1
    one (AAccept a l) = omega arith
    one (ADelay d l) = omega arith
    one ATerminate = omega arith

module _ (names : List (List ℕ)) (c : CheckScope) where
  abbrev M : CheckSite → Type 0
  M x = IsCheckMet Original names x

  within : (n : ℕ) (s : Span) → n ≤ 32 → limit_passed Alternatives (Some 32) n 1 s ≡ [] → n + 1 ≤ 32
  within n s start h = split (nat_le n 32) (nat_lt 32 (n + 1)) refl refl (test_fails (nat_le n 32 && nat_lt 32 (n + 1)) _ h)
    where
      split : (x y : Bool) → nat_le n 32 ≡ x → nat_lt 32 (n + 1) ≡ y → (x && y) ≡ false → n + 1 ≤ 32
      split true false ex ey f = grind (arith, nat_tests)
      split true true ex ey f = absurd (true≢false f)
      split false y ex ey f = absurd (true≢false (grind (arith, nat_tests)))

  few-places : (n : ℕ) (spans : List Span) → n ≤ 32 → AllByRecursion M (checks.numbered c Alternatives n spans) → n + length spans ≤ 32
  few-places n [] start m = omega (arith, start)
  few-places n (s ∷ spans) start m =
      let here : n + 1 ≤ 32 = within n s start m.0.limits in
      omega (arith, few-places (n + 1) spans here m.1)

  few-delays : (k : ℕ) (x : PStmt) (loops : Loops) → AskedStmt (check_asks M) c k x → HasFewDelays loops x
  few-delays k (SWait x o s) loops h =
      let few : 0 + length (checks.alt_places x) ≤ 32 = few-places 0 (checks.alt_places x) (omega arith) h.2.1 in
      let most : delays_behind x 0 ≤ 0 + length (checks.alt_places x) = delays-most x 0 in
      omega (arith, few, most)
  few-delays k (SNull s) loops h = tt
  few-delays k (SAssign t e s) loops h = tt
  few-delays k (SDelay d s) loops h = tt
  few-delays k (SExit w e s) loops h = tt
  few-delays k (SRaise w s) loops h = tt
  few-delays k (SAbort xs s) loops h = tt
  few-delays k (SCall x s) loops h = tt
  few-delays k (SAccept a s) loops h = tt
  few-delays k (SConditional x l o s) loops h = tt
  few-delays k (STimed x l d o s) loops h = tt
  few-delays k (SPut ps s) loops h = tt
  few-delays k (SPutLine ps s) loops h = tt
  few-delays k (SNewLine s) loops h = tt
  few-delays k (SGet t s) loops h = tt
  few-delays k (SIf x o s) loops h = tt
  few-delays k (SCase e x o s) loops h = tt
  few-delays k (SBlock b s) loops h = tt
  few-delays k (SLoop w x l s) loops h = tt

-- ---- the units of a legal program

module _ (p : PProgram) (h : IsLegalOriginal p) (inputs : List (List ℤ)) (t : ℕ) where
  abbrev its : Asked
  its = asked p h inputs t

  -- a wait of which one alternative accepts stands in no body of main
  accept-of : (x : PAlts) → HasAccept x → OldAlts its x → 0 < t
  accept-of no_alt w o = absurd w
  accept-of (alt_then (alternative guard (AAccept (accepting head o) l) s) rest) w (old_alt _ _ _ _ og (old_accepts _ _ _ oh ah om ol) orest) = ah
  accept-of (alt_then (alternative guard (ADelay d l) s) rest) w (old_alt _ _ _ _ og ok orest) = accept-of rest w orest
  accept-of (alt_then (alternative guard ATerminate s) rest) w (old_alt _ _ _ _ og ok orest) = accept-of rest w orest

  callees : (xs : List PCallee) → OldCallees its xs → AllByRecursion (IsKnownCallee (g p (types_in p))) xs
  callees [] h = tt
  callees (x ∷ xs) (old_callee _ _ o ax oxs) = (ax, callees xs oxs)

  each : (x : PStmt) (loops : Loops) → OldStmt its x → IsKnownAt (g p (types_in p)) t loops x
  each (SCall c s) loops (old_call _ _ oc ac) = ac
  each (SConditional c l m s) loops (old_conditional _ _ _ _ oc ac ol om) = ac
  each (STimed c l d m s) loops (old_timed _ _ _ _ _ oc ac ol om) = ac
  each (SAbort xs s) loops (old_abort _ _ oxs) = callees xs oxs
  each (SAccept (accepting head o) s) loops (old_accept _ _ _ oh ah om) = ah
  each (SWait x o s) loops (old_wait _ _ _ w oa om) = accept-of x w oa
  each (SNull s) loops o = tt
  each (SAssign t e s) loops o = tt
  each (SDelay d s) loops o = tt
  each (SExit w e s) loops o = tt
  each (SRaise w s) loops o = tt
  each (SPut ps s) loops o = tt
  each (SPutLine ps s) loops o = tt
  each (SNewLine s) loops o = tt
  each (SGet t s) loops o = tt
  each (SIf x o s) loops o' = tt
  each (SCase e x o s) loops o' = tt
  each (SBlock b s) loops o = tt
  each (SLoop w x l s) loops o = tt

  pub unit-known : InBody (IsKnownAt (g p (types_in p)) t) [] (unit_of p (numbers_of p) t).body
  unit-known = body-of its (IsKnownAt (g p (types_in p)) t) each (unit_of p (numbers_of p) t).body [] (unit-text p h inputs t)

  pub unit-few : InBody HasFewDelays [] (unit_of p (numbers_of p) t).body
  unit-few =
      let at = unit-checked p h inputs t in
      body-each (check_asks (λ (x : CheckSite). IsCheckMet Original p.names x)) HasFewDelays (λ x c k loops a. few-delays p.names c k x loops a) (unit_of p (numbers_of p) t).body at.around 1 []
      (checked_asked (λ (x : CheckSite). IsCheckMet Original p.names x) at.around 1 (unit_of p (numbers_of p) t).body at.at)
