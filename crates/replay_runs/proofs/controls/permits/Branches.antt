-- Which branch a task takes by its permit.
use Rattle.std.proofs.Common.{◌≡◌, Bool, true, false, if◌then◌else◌, List, Ok, refl, sym, ap, ◌∙◌, subst}
use Rattle.event_machine.specs.declared.Event.{Event}
use Rattle.ada_tree.specs.declared.naming.Span.{Span}
use Rattle.ada_tree.specs.PlainExpr.{PExpr}
use Rattle.ada_tree.specs.PlainStmt.{SIf, PStmts, stmt_then, PMaybe, present, PArms}
use Rattle.ada_tree.specs.PlainProgram.{PProgram}
use Rattle.ada_static_rules.specs.Refusals.{types_in}
use Rattle.ada_value.specs.Values.{and_then, is_true_value}
use Rattle.task_model.specs.Tasks.{Task, vars_of, entered, stmts_or_none, or_raised}
use Rattle.task_model.specs.Steps.{condition, arm_taken}
use Rattle.task_model.specs.Stands.{stepped}
use Rattle.task_model.specs.Rendezvous.{resumed}
use Rattle.normal_laws.specs.runs.floors.Preludes.{Reaches, reaches_here, reaches_by}
use Rattle.normal_laws.proofs.runs.waits.Choices.{truth-of}
use Rattle.run_laws.specs.replaying.Copies.{AtNothing, Spots}
use Rattle.replay_model.specs.Asking.{ask}
use Rattle.replay_runs.specs.starts.Laws.{text_in}
use Rattle.replay_runs.specs.controls.Asking.{unit_of_task, Surroundings, with_next, having, permit_stored}
use Rattle.replay_runs.proofs.controls.Asking.{legal_asks_controller}
use Rattle.replay_runs.specs.controls.permits.Laws.{EvaluatesTo, TakesBranch, takes_other, takes_this, takes_later, PermitsDecide}

condition-says : (k : Task) (e : PExpr) (b : Bool) → EvaluatesTo k.setting.types (vars_of k) e b → condition k e ≡ Ok b
condition-says k e b h = ap (λ r. and_then r (λ v. Ok (is_true_value v))) h ∙ ap (λ c. Ok c) (truth-of b)

-- the part that an if statement takes, whose statements are these
record IsTaken (k : Task) (arms : PArms) (o : PMaybe) (m : PStmts) : Type 0 where
  part : PMaybe
  taken : arm_taken k arms o ≡ Ok part
  same : stmts_or_none part ≡ m

arm-taken : (k : Task) {arms : PArms} {o : PMaybe} {m : PStmts} → TakesBranch k.setting.types (vars_of k) arms o m → IsTaken k arms o m
arm-taken k (takes_other o) = record { part = o; taken = refl; same = refl }
arm-taken k (takes_this e l rest o h) = record {
  part = present l;
  taken = ap (λ r. and_then r (λ b. if b then Ok (present l) else arm_taken k rest o)) (condition-says k e true h);
  same = refl;
}
arm-taken k (takes_later e l rest o m h later) =
    let w = arm-taken k later in
    record { part = w.part; taken = ap (λ r. and_then r (λ b. if b then Ok (present l) else arm_taken k rest o)) (condition-says k e false h) ∙ w.taken; same = w.same }

-- a task at an if statement steps into the branch
if-steps : (p : PProgram) (events : List Event) (arms : PArms) (o : PMaybe) (s : Span) (r m : PStmts) (x : Surroundings) → TakesBranch (types_in (text_in p events)) x.vars arms o m →
    stepped (with_next p events (stmt_then (SIf arms o s) r) x) ≡ entered m r (with_next p events r x)
if-steps p events arms o s r m x h =
    let k = with_next p events (stmt_then (SIf arms o s) r) x in
    let w = arm-taken k h in
    ap (or_raised (λ part. entered (stmts_or_none part) r k) k) w.taken ∙ ap (λ l. entered l r k) w.same

-- any numbers of entries
pub nowhere : Spots
nowhere = record {
  original = λ e. e;
  shadow = λ e. e;
  go = 0;
  done = 0;
  hold = 0;
  join = λ t. t;
  never = λ t. t;
  stop = 0;
  rest = 0;
  sort = λ e. AtNothing;
}

pub permits_decide : PermitsDecide
permits_decide p events t h l s arms o r m x j kind argument index has few_kind few_argument fits pending finals takes =
    let y = having x (permit_stored p x.vars kind argument index) in
    let k = with_next p events (stmt_then (SIf arms o s) r) y in
    let end = entered m r (with_next p events r y) in
    let e : stepped k ≡ end = if-steps p events arms o s r m y takes in
    let there : resumed j (with_next p events (stmt_then (ask (unit_of_task p t) s) (stmt_then (SIf arms o s) r)) x) ≡ k =
    (legal_asks_controller nowhere p events t h l).permitted s (stmt_then (SIf arms o s) r) x j kind argument index has few_kind few_argument fits pending finals in
    subst (λ z. Reaches z end) (sym there) (reaches_by k end refl (ap (λ (z : Task). z.output) e) (subst (λ z. Reaches z end) (sym e) (reaches_here end)))
