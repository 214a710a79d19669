-- From statements that are as a rewriter asks to what holds of every accept in them.
use Rattle.ada_tree.specs.PlainStmt.{PHead, PStmt, PStmts, PMaybe, PAltKind, PAlts, PArms, PCaseArms, PBody, PHandlers}
use Rattle.task_laws.specs.invariants.AcceptHeads.{InStmt, InStmts, InMaybe, InAltKind, InAlts, InArms, InCaseArms, InBody, InHandlers}
use Rattle.task_laws.specs.translation.OldTexts.{Asked, OldStmt, old_null, old_assign, old_delay, old_exit, old_raise, old_abort, old_call, old_accept, old_wait, old_conditional, old_timed, old_put, old_put_line, old_new_line, old_get, old_if, old_case, old_block, old_loop, OldStmts, old_no_stmt, old_stmt, OldMaybe, old_absent, old_present, OldAlts, old_no_alt, old_alt, OldKind, old_accepts, old_delays, old_terminates, OldArms, old_no_arm, old_arm, OldCaseArms, old_no_case_arm, old_case_arm, OldHandlers, old_no_handler, old_handler, OldBody, old_body}

module _ (a : Asked) (H : PHead → Type 0) (f : (h : PHead) → a.head h → H h) where
  mutual
    in-stmt : {x : PStmt} → OldStmt a x → InStmt H x
    in-stmt (old_null s) = tt
    in-stmt (old_assign t e s o p) = tt
    in-stmt (old_delay d s) = tt
    in-stmt (old_exit w e s o) = tt
    in-stmt (old_raise w s) = tt
    in-stmt (old_abort cs s o) = tt
    in-stmt (old_call c s o p) = tt
    in-stmt (old_accept h o s q p m) = (f h p, in-maybe m)
    in-stmt (old_wait alts o s q p m) = (in-alts p, in-maybe m)
    in-stmt (old_conditional c l m s o p q r) = (in-stmts q, in-stmts r)
    in-stmt (old_timed c l d m s o p q r) = (in-stmts q, in-stmts r)
    in-stmt (old_put ps s o) = tt
    in-stmt (old_put_line ps s o) = tt
    in-stmt (old_new_line s) = tt
    in-stmt (old_get t s o) = tt
    in-stmt (old_if arms o s p m) = (in-arms p, in-maybe m)
    in-stmt (old_case e arms o s q p m) = (in-case-arms p, in-maybe m)
    in-stmt (old_block l hs s p q) = (in-stmts p, in-handlers q)
    in-stmt (old_loop w c l s p q) = in-stmts q

    in-stmts : {x : PStmts} → OldStmts a x → InStmts H x
    in-stmts old_no_stmt = tt
    in-stmts (old_stmt s rest p q) = (in-stmt p, in-stmts q)

    in-maybe : {x : PMaybe} → OldMaybe a x → InMaybe H x
    in-maybe old_absent = tt
    in-maybe (old_present l p) = in-stmts p

    in-alts : {x : PAlts} → OldAlts a x → InAlts H x
    in-alts old_no_alt = tt
    in-alts (old_alt guard k s rest o p q) = (in-kind p, in-alts q)

    in-kind : {x : PAltKind} → OldKind a x → InAltKind H x
    in-kind (old_accepts h o l q p m r) = ((f h p, in-maybe m), in-stmts r)
    in-kind (old_delays d l p) = in-stmts p
    in-kind old_terminates = tt

    in-arms : {x : PArms} → OldArms a x → InArms H x
    in-arms old_no_arm = tt
    in-arms (old_arm e l rest o p q) = (in-stmts p, in-arms q)

    in-case-arms : {x : PCaseArms} → OldCaseArms a x → InCaseArms H x
    in-case-arms old_no_case_arm = tt
    in-case-arms (old_case_arm cs l rest o p q) = (in-stmts p, in-case-arms q)

    in-handlers : {x : PHandlers} → OldHandlers a x → InHandlers H x
    in-handlers old_no_handler = tt
    in-handlers (old_handler ws l s rest p q) = (in-stmts p, in-handlers q)

  pub in-body : {x : PBody} → OldBody a x → InBody H x
  in-body (old_body l hs p q) = (in-stmts p, in-handlers q)
