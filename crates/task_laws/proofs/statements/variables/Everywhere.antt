-- With a test that holds of each id, nothing is asked of the names that loops and accepts declare.
use Rattle.std.proofs.Common.{◌≡◌, ℕ, true, List, [], ◌∷◌, Option, Some, None, refl}
use Rattle.std.specs.List.{AllByRecursion}
use Rattle.ada_tree.specs.declared.naming.Word.{Word}
use Rattle.ada_tree.specs.PlainStmt.{PScheme, LWhile, LFor, PStmt, SNull, SAssign, SDelay, SExit, SRaise, SAbort, SCall, SAccept, SWait, SConditional, STimed, SPut, SPutLine, SNewLine, SGet, SIf, SCase, SBlock, SLoop, PStmts, no_stmt, stmt_then, PMaybe, absent, present, PAccept, accepting, alternative, PAltKind, AAccept, ADelay, ATerminate, PAlts, no_alt, alt_then, PArms, no_arm, arm_then, arm, PCaseArms, no_case_arm, case_arm_then, case_arm, PBody, body, PHandlers, no_handler, handler_then, handler}
use Rattle.ada_static_rules.specs.Sites.{all_names}
use Rattle.task_laws.specs.statements.Each.{Loops, InParts, InStmts, InMaybe, InAccept as InAcceptStmts, InAltKind, InAlts, InArms, InCaseArms, InBody, InHandlers}
use Rattle.task_laws.specs.statements.variables.Held.{InAccept, InKind, InAlternatives, DeclaresInner}
use Rattle.task_laws.specs.statements.variables.Laws.{EveryBodyIsSo}

-- what holds of each statement whatever it is holds in each body
module _ (Each : Loops → PStmt → Type 0) (each : (loops : Loops) (x : PStmt) → Each loops x) where
  mutual
    parts : (loops : Loops) (x : PStmt) → InParts Each loops x
    parts loops (SAccept a s) = accept a
    parts loops (SWait x o s) = (alts loops x, maybe loops o)
    parts loops (SConditional x l o s) = (row loops l, row loops o)
    parts loops (STimed x l d o s) = (row loops l, row loops o)
    parts loops (SIf x o s) = (arms loops x, maybe loops o)
    parts loops (SCase e x o s) = (case-arms loops x, maybe loops o)
    parts loops (SBlock b s) = in-body loops b
    parts loops (SLoop w x l s) = row (w ∷ loops) l
    parts loops (SNull s) = tt
    parts loops (SAssign v e s) = tt
    parts loops (SDelay d s) = tt
    parts loops (SExit w e s) = tt
    parts loops (SRaise w s) = tt
    parts loops (SAbort xs s) = tt
    parts loops (SCall x s) = tt
    parts loops (SPut ps s) = tt
    parts loops (SPutLine ps s) = tt
    parts loops (SNewLine s) = tt
    parts loops (SGet v s) = tt

    row : (loops : Loops) (l : PStmts) → InStmts Each loops l
    row loops no_stmt = tt
    row loops (stmt_then x l) = ((each loops x, parts loops x), row loops l)

    maybe : (loops : Loops) (o : PMaybe) → InMaybe Each loops o
    maybe loops absent = tt
    maybe loops (present l) = row loops l

    accept : (a : PAccept) → InAcceptStmts Each a
    accept (accepting head o) = maybe [] o

    kind : (loops : Loops) (x : PAltKind) → InAltKind Each loops x
    kind loops (AAccept a l) = (accept a, row loops l)
    kind loops (ADelay d l) = row loops l
    kind loops ATerminate = tt

    alts : (loops : Loops) (x : PAlts) → InAlts Each loops x
    alts loops no_alt = tt
    alts loops (alt_then (alternative guard w s) rest) = (kind loops w, alts loops rest)

    arms : (loops : Loops) (x : PArms) → InArms Each loops x
    arms loops no_arm = tt
    arms loops (arm_then (arm e l) rest) = (row loops l, arms loops rest)

    case-arms : (loops : Loops) (x : PCaseArms) → InCaseArms Each loops x
    case-arms loops no_case_arm = tt
    case-arms loops (case_arm_then (case_arm xs l) rest) = (row loops l, case-arms loops rest)

    in-body : (loops : Loops) (b : PBody) → InBody Each loops b
    in-body loops (body l hs) = (row loops l, handlers loops hs)

    handlers : (loops : Loops) (hs : PHandlers) → InHandlers Each loops hs
    handlers loops no_handler = tt
    handlers loops (handler_then (handler ws l s) rest) = (row loops l, handlers loops rest)

names-so : (ws : List Word) → AllByRecursion (λ (w : Word). (λ (n : ℕ). true) w.name.0 ≡ true) ws
names-so [] = tt
names-so (w ∷ ws) = (refl, names-so ws)

accept-so : (a : PAccept) → InAccept (λ n. true) a
accept-so (accepting head o) = names-so (all_names head.formals)

kind-so : (x : PAltKind) → InKind (λ n. true) x
kind-so (AAccept a l) = accept-so a
kind-so (ADelay d l) = tt
kind-so ATerminate = tt

alternatives-so : (x : PAlts) → InAlternatives (λ n. true) x
alternatives-so no_alt = tt
alternatives-so (alt_then (alternative guard w s) rest) = (kind-so w, alternatives-so rest)

loop-so : (loops : Loops) (w : Option Word) (x : Option PScheme) (l : PStmts) (s : _) → DeclaresInner (λ n. true) loops (SLoop w x l s)
loop-so loops w None l s = tt
loop-so loops w (Some (LWhile e)) l s = tt
loop-so loops w (Some (LFor v backwards range)) l s = refl

declares-so : (loops : Loops) (x : PStmt) → DeclaresInner (λ n. true) loops x
declares-so loops (SLoop w x l s) = loop-so loops w x l s
declares-so loops (SAccept a s) = accept-so a
declares-so loops (SWait x o s) = alternatives-so x
declares-so loops (SConditional x l o s) = tt
declares-so loops (STimed x l d o s) = tt
declares-so loops (SIf x o s) = tt
declares-so loops (SCase e x o s) = tt
declares-so loops (SBlock b s) = tt
declares-so loops (SNull s) = tt
declares-so loops (SAssign v e s) = tt
declares-so loops (SDelay d s) = tt
declares-so loops (SExit w e s) = tt
declares-so loops (SRaise w s) = tt
declares-so loops (SAbort xs s) = tt
declares-so loops (SCall x s) = tt
declares-so loops (SPut ps s) = tt
declares-so loops (SPutLine ps s) = tt
declares-so loops (SNewLine s) = tt
declares-so loops (SGet v s) = tt

pub every_body_is_so : EveryBodyIsSo
every_body_is_so b = in-body (DeclaresInner (λ n. true)) declares-so [] b
