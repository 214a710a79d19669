-- The statements of a normal form name tasks without an index.
use Rattle.std.proofs.Common.{ℕ, ◌≤◌, List, [], ◌∷◌, length, refl, sym, subst, arith}
use Rattle.ada_tree.specs.PlainStmt.{PStmt, SNull, SAssign, SDelay, SExit, SRaise, SAbort, SCall, SAccept, SWait, SConditional, STimed, SPut, SPutLine, SNewLine, SGet, SIf, SCase, SBlock, SLoop}
use Rattle.ada_tree.specs.PlainDecl.{PDecl}
use Rattle.syn_event.specs.CheckScope.{CheckScope, CheckSite}
use Rattle.syn_event.specs.CheckSites as check
use Rattle.task_laws.specs.statements.Each.{Loops, InBody}
use Rattle.task_laws.proofs.statements.Carried.{starts-so, stays-so}
use Rattle.task_laws.specs.legal.asked.Asked.{Asks, AskedStmt, AskedBody}
use Rattle.task_laws.specs.legal.asked.Kinds.{no_asks, check_asks}
use Rattle.task_laws.proofs.legal.asked.Checked.{checked_asked}
use Rattle.normal_model.specs.RewrittenUnit.{RewrittenUnit}
use Rattle.normal_model.specs.NormalStmts.{normal_body, unit_variables}
use Rattle.normal_model.proofs.VariablesLemmas.{begins-refl}
use Rattle.normal_laws.specs.structure.asked.Pieces.{Pieces}
use Rattle.normal_laws.proofs.structure.asked.Walk.{body-keeps}
use Rattle.normal_laws.specs.runs.floors.Suited.{rewritten_unit}
use Rattle.normal_laws.specs.runs.runs.Premises.{unit_at, unit_before}
use Rattle.normal_laws.specs.runs.forms.Normalisable.{normal_rewrite}
use Rattle.normal_laws.proofs.existence.Joined.{legal_is_normal}
use Rattle.normal_laws.specs.existence.statements.Laws.{IsSimpleName, NamesTasksSimply, BodiesNameSimply, made_setting, LegalTasksNameSimply, NamesStaySimple}
use Rattle.normal_laws.proofs.existence.statements.Asked.{nothing-asked, body-each}

-- callees are plain names, and an abort statement has at most one
abbrev name_asks : Asks (Unit {0})
name_asks = record no_asks { callee = λ c k x. IsSimpleName x; aborts = λ c k xs. length xs ≤ 1 }

-- nothing is asked of the program
abbrev free_asks : Asks CheckScope
free_asks = check_asks (λ (x : CheckSite). Unit {0})

pieces : (u : RewrittenUnit) (vs : List PDecl) → Pieces u vs free_asks name_asks (λ c d. Unit {0})
pieces u vs = record {
  outer = λ c d k n s rel h le. tt;
  many = λ n h. tt;
  some = λ n. tt;
  duration = λ n h. tt;
  plain = λ c d k x p rel h. tt;
  condition = λ c d k e rel h. tt;
  selector = λ c d k e xs others s rel h. tt;
  choices = λ c d k e xs rel h. tt;
  loop = λ c d k w x rel h. tt;
  looping = λ c d k w x rel h. tt;
  delay = λ c d k guard f s rel h. tt;
  handlers = λ hs t h. tt;
  handler = λ c d k names ws rel h. tt;
  handling = λ c d rel. tt;
  null = λ c d k n s rel h le. tt;
  program_error = λ c d k n s rel h le. tt;
  callee_index = λ c d k n s x e j rel h f v le. tt;
  target = λ c d k n x w rel h t le. refl;
  chooses = λ c d k n s x e j rel h f v le. tt;
  chosen = λ c d k n s x e j info rel h f v i le. tt;
  called = λ c d k n s x j w rel h i t v le. tt;
  family_index = λ c d k n s x e j rel h i f v le. tt;
  actual_before = λ c d k n s x slot e j rel h i pair f v le. tt;
  actual_behind = λ c d k n s x slot e id j rel h i pair f q v le. tt;
  flag = λ c d k n s part j rel h small v le. tt;
  flag_test = λ c d k n s j rel h v le. tt;
  aborted = λ c d k n xs w rel h le. omega arith;
  no_abort = λ c d k rel h. omega arith;
  head = λ c d k h rel i f. tt;
  head_moved = λ c d k s h e j rel i f v. tt;
  accept_index = λ c d k n s h e j rel i f v le. tt;
  accepting = λ c d k s h j rel i. tt;
  guard = λ c d k n s e j rel h v le. tt;
  guard_test = λ c d k n s j rel h v le. tt;
  closed = λ c d k n x others s e es rel h w all few le. tt;
  wait = λ c d k x others s t rel h alts. tt;
}

-- what is asked of one statement
asked-each : (x : PStmt) (c : Unit {0}) (k : ℕ) (loops : Loops) → AskedStmt name_asks c k x → NamesTasksSimply loops x
asked-each (SAbort xs s) c k loops h = (h.1, h.2)
asked-each (SCall x s) c k loops h = h.1
asked-each (SConditional x l o s) c k loops h = h.2
asked-each (STimed x l d o s) c k loops h = h.2
asked-each (SNull s) c k loops h = tt
asked-each (SAssign t e s) c k loops h = tt
asked-each (SDelay d s) c k loops h = tt
asked-each (SExit w e s) c k loops h = tt
asked-each (SRaise w s) c k loops h = tt
asked-each (SAccept x s) c k loops h = tt
asked-each (SWait x o s) c k loops h = tt
asked-each (SPut ps s) c k loops h = tt
asked-each (SPutLine ps s) c k loops h = tt
asked-each (SNewLine s) c k loops h = tt
asked-each (SGet t s) c k loops h = tt
asked-each (SIf x o s) c k loops h = tt
asked-each (SCase e x o s) c k loops h = tt
asked-each (SBlock b s) c k loops h = tt
asked-each (SLoop w x l s) c k loops h = tt

pub bodies_name_simply : BodiesNameSimply
bodies_name_simply u x =
    let c0 : CheckScope = check.around_program u.setting.program in
    let asked : AskedBody free_asks c0 1 x = checked_asked (λ (s : CheckSite). Unit {0}) c0 1 x (nothing-asked (check.body_sites c0 1 x)) in
    body-each name_asks NamesTasksSimply asked-each (normal_body u x) tt 1 []
    (body-keeps u (unit_variables u x) free_asks name_asks (λ c d. Unit {0}) (pieces u (unit_variables u x)) c0 tt 1 x tt asked (begins-refl (unit_variables u x)))

pub legal_tasks_name_simply : LegalTasksNameSimply
legal_tasks_name_simply p h inputs t l =
    let r = normal_rewrite p [] in
    let same = (legal_is_normal p h []).bodies t l in
    starts-so NamesTasksSimply (made_setting p) inputs t
    (subst (InBody NamesTasksSimply []) (sym same) (bodies_name_simply (rewritten_unit (unit_at r t)) (unit_before r t).body))

pub names_stay_simple : NamesStaySimple
names_stay_simple t h = stays-so NamesTasksSimply (λ loops c d cs s i. absurd (let few : length (c ∷ d ∷ cs) ≤ 1 = i.0 in omega (arith, few))) t h
