-- The local steps of the recorder, one a form of statement, wherever it stands in a frame that is not left early.
use Rattle.std.proofs.Common.{◌≡◌, ℕ, ◌≤◌, List, [], ◌++◌, Option, Some, None, append-nil, ap, ◌∙◌}
use Rattle.std.specs.Prelude.{pos, Result, Ok}
use Rattle.ada_tree.specs.declared.naming.NameId.{NameId}
use Rattle.ada_tree.specs.declared.naming.Span.{Span}
use Rattle.ada_tree.specs.PlainExpr.{PExpr, EName}
use Rattle.ada_tree.specs.PlainStmt.{PTarget, PPart, SAssign, SPut, SNewLine, SIf, SCase, PStmts, stmt_then, PMaybe, PArms, PCaseArms}
use Rattle.ada_value.specs.declared.values.Limits.{Limits}
use Rattle.ada_value.specs.declared.values.Value.{Value}
use Rattle.ada_value.specs.declared.values.Value.TheVariants.{Number}
use Rattle.ada_value.specs.declared.values.Raised.{Raised}
use Rattle.ada_value.specs.Values.{and_then, checked}
use Rattle.ada_value.specs.Variables.{Object, Variables, object_named, component_place, checked_for, set_value}
use Rattle.ada_value.specs.Evaluating.{evaluated}
use Rattle.ada_value.specs.Texts.{parts_output}
use Rattle.task_model.specs.Frames.{Around, PFrame, Control, control, in_front, settled_in}
use Rattle.task_model.specs.Tasks.{Task, gone_to, with_text, with_vars, stmts_or_none, entered, or_raised}
use Rattle.task_model.specs.Stands.{stepped}
use Rattle.task_model.specs.Steps.{line_end, assigned, arm_taken, case_taken}
use Rattle.normal_model.specs.Ranges.{word_at}
use Rattle.collect_runs.specs.aborts.recorder.Recorders.{Recorder, last_of}
use Rattle.collect_runs.specs.aborts.recorder.States.{standing, table_object}
use Rattle.collect_runs.proofs.aborts.recorder.Tables.{table-place}

module _
    (k : Recorder) (place : Around) (outer : List PFrame)
    (holds : (rest : PStmts) (vars : Variables) → settled_in outer rest place vars ≡ control rest place outer vars)
  where
    -- there, before these statements
    abbrev pub here : PStmts → Variables → List ℕ → Task
    here stmts vars output = standing k (control stmts place outer vars) output

    pub on-to : (stmts rest : PStmts) (vars : Variables) (output : List ℕ) → gone_to rest (here stmts vars output) ≡ here rest vars output
    on-to stmts rest vars output = ap (λ (x : Control). standing k x output) (holds rest vars)

    -- ---- assignments

    pub assigns : (target : PTarget) (e : PExpr) (s : Span) (rest : PStmts) (vars after : Variables) (output : List ℕ) →
        assigned (here (stmt_then (SAssign target e s) rest) vars output) target e ≡ Ok after → stepped (here (stmt_then (SAssign target e s) rest) vars output) ≡ here rest after output
    assigns target e s rest vars after output is =
        let t : Task = here (stmt_then (SAssign target e s) rest) vars output in
        ap (λ (r : Result Variables Raised). or_raised (λ vs. gone_to rest (with_vars t vs)) t r) is ∙ on-to (stmt_then (SAssign target e s) rest) rest after output

    -- of a whole variable
    pub whole-assigned : (stmts : PStmts) (vars after : Variables) (output : List ℕ) (name : NameId) (o : Object) (e : PExpr) (v : Value) (s : Span) →
        object_named vars name ≡ Some o → evaluated k.setting.types vars e ≡ Ok v → checked o.limits v ≡ Ok v → set_value vars name 0 v ≡ after →
        assigned (here stmts vars output) (record { name = word_at s name; index = None }) e ≡ Ok after
    whole-assigned stmts vars after output name o e v s named value fits set =
        ap (λ (r : Result Value Raised). and_then r (λ w. and_then (checked_for (object_named vars name) w) (λ u. Ok (set_value vars name 0 u)))) value
        ∙ ap (λ (x : Option Object). and_then (checked_for x v) (λ u. Ok (set_value vars name 0 u))) named
        ∙ ap (λ (r : Result Value Raised). and_then r (λ u. Ok (set_value vars name 0 u))) fits
        ∙ ap (λ (vs : Variables). Ok vs) set

    -- of the value of the task that a variable names
    pub entry-assigned :
        (stmts : PStmts) (vars after : Variables) (output : List ℕ) (table task : NameId) (limits : Limits) (f : ℕ → Value) (u : ℕ) (e : PExpr) (v : Value) (s : Span) →
        object_named vars table ≡ Some (table_object k table limits f) → evaluated k.setting.types vars (EName task s) ≡ Ok (Number (pos u)) → u ≤ last_of k →
        evaluated k.setting.types vars e ≡ Ok v → checked limits v ≡ Ok v → set_value vars table u v ≡ after →
        assigned (here stmts vars output) (record { name = word_at s table; index = Some (EName task s) }) e ≡ Ok after
    entry-assigned stmts vars after output table task limits f u e v s named at l value fits set =
        ap (λ (r : Result Value Raised). and_then (and_then r (λ w. component_place (object_named vars table) w))
        (λ j. and_then (evaluated k.setting.types vars e) (λ w. and_then (checked_for (object_named vars table) w) (λ x. Ok (set_value vars table j x))))) at
        ∙ ap (λ (o : Option Object). and_then (component_place o (Number (pos u)))
        (λ j. and_then (evaluated k.setting.types vars e) (λ w. and_then (checked_for o w) (λ x. Ok (set_value vars table j x))))) named
        ∙ ap (λ (r : Result ℕ Raised). and_then r (λ j. and_then (evaluated k.setting.types vars e) (λ w. and_then (checked limits w) (λ x. Ok (set_value vars table j x)))))
        (table-place k table limits f u l)
        ∙ ap (λ (r : Result Value Raised). and_then r (λ w. and_then (checked limits w) (λ x. Ok (set_value vars table u x)))) value
        ∙ ap (λ (r : Result Value Raised). and_then r (λ x. Ok (set_value vars table u x))) fits
        ∙ ap (λ (vs : Variables). Ok vs) set

    -- ---- branches

    -- into a branch of an if statement, and of a case statement
    pub tests : (arms : PArms) (otherwise branch : PMaybe) (s : Span) (rest : PStmts) (vars : Variables) (output : List ℕ) →
        arm_taken (here (stmt_then (SIf arms otherwise s) rest) vars output) arms otherwise ≡ Ok branch →
        stepped (here (stmt_then (SIf arms otherwise s) rest) vars output) ≡ here (in_front (stmts_or_none branch) rest) vars output
    tests arms otherwise branch s rest vars output is =
        let t : Task = here (stmt_then (SIf arms otherwise s) rest) vars output in
        ap (λ (r : Result PMaybe Raised). or_raised (λ x. entered (stmts_or_none x) rest t) t r) is
        ∙ on-to (stmt_then (SIf arms otherwise s) rest) (in_front (stmts_or_none branch) rest) vars output

    pub chooses : (e : PExpr) (v : Value) (arms : PCaseArms) (others branch : PMaybe) (s : Span) (rest : PStmts) (vars : Variables) (output : List ℕ) →
        evaluated k.setting.types vars e ≡ Ok v → case_taken (here (stmt_then (SCase e arms others s) rest) vars output) v arms others ≡ Ok branch →
        stepped (here (stmt_then (SCase e arms others s) rest) vars output) ≡ here (in_front (stmts_or_none branch) rest) vars output
    chooses e v arms others branch s rest vars output value is =
        let t : Task = here (stmt_then (SCase e arms others s) rest) vars output in
        ap (λ (r : Result Value Raised). or_raised (λ x. entered (stmts_or_none x) rest t) t (and_then r (λ w. case_taken t w arms others))) value
        ∙ ap (λ (r : Result PMaybe Raised). or_raised (λ x. entered (stmts_or_none x) rest t) t r) is
        ∙ on-to (stmt_then (SCase e arms others s) rest) (in_front (stmts_or_none branch) rest) vars output

    -- ---- texts

    -- a PUT with this text, and the end of a line
    pub puts : (parts : List PPart) (text : List ℕ) (s : Span) (rest : PStmts) (vars : Variables) (output : List ℕ) →
        parts_output k.setting.program.names k.setting.types vars parts ≡ Ok text → stepped (here (stmt_then (SPut parts s) rest) vars output) ≡ here rest vars (output ++ text)
    puts parts text s rest vars output is =
        let t : Task = here (stmt_then (SPut parts s) rest) vars output in
        ap (λ (r : Result (List ℕ) Raised). or_raised (λ x. gone_to rest (with_text t (x ++ []))) t r) is
        ∙ ap (λ (x : List ℕ). gone_to rest (with_text t x)) (append-nil text)
        ∙ on-to (stmt_then (SPut parts s) rest) rest vars (output ++ text)

    pub line-ends : (s : Span) (rest : PStmts) (vars : Variables) (output : List ℕ) → stepped (here (stmt_then (SNewLine s) rest) vars output) ≡ here rest vars (output ++ line_end)
    line-ends s rest vars output = on-to (stmt_then (SNewLine s) rest) rest vars (output ++ line_end)
