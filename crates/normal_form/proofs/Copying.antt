-- The copies of a body, and how many variables it has where a task runs it.
use Rattle.std.proofs.Common.{◌≡◌, ℕ, List, [], ◌∷◌, ◌++◌, length, map, Result, Ok, Err, OnOk, refl, sym, ap, ◌∙◌}
use Rattle.std.proofs.lemmas.List.{length-map}
use Rattle.ada_tree.specs.declared.naming.Span.{Span}
use Rattle.ada_tree.specs.declared.naming.Word.{Word}
use Rattle.ada_tree.specs.declared.naming.NameId.{NameId}
use Rattle.ada_tree.specs.declared.declarations.Decl.{Decl}
use Rattle.ada_tree.specs.PlainStmt.{PBody, plain_body}
use Rattle.ada_tree.specs.PlainDecl.{PDecl, PDecls, DTaskBody, decls_of, plain_decl}
use Rattle.syn_event.specs.declared.numbering.TaskInfo.{TaskInfo}
use Rattle.task_model.specs.Setting.{Setting}
use Rattle.normal_model.specs.Names.{task_name}
use Rattle.normal_model.specs.Ranges.{word_at}
use Rattle.normal_model.specs.RewrittenUnit.{RewrittenUnit}
use Rattle.normal_model.specs.NormalStmts.{normal_body, unit_variables}
use Rattle.normal_model.specs.NormalTree.{bodies_of, body_copy, decls_front, first_running, running, unit_for}
use Rattle.normal_form.specs.declared.body_copies.BodyDecl.{BodyDecl}
use Rattle.normal_form.specs.inner.Bodies.{seen_body}

-- copies under the names of tasks
pub copies_are : (g : Setting) (w : Word) (objects : PDecls) (vars : List PDecl) (its : PBody) (s : Span) (infos : List TaskInfo) →
    map (λ (name : NameId). DTaskBody (word_at w.span name) (decls_front objects (decls_of vars)) its s) (map (task_name g) infos) ≡ map (body_copy g w objects vars its (λ ds b name. DTaskBody name ds b s)) infos
copies_are g w objects vars its s [] = refl
copies_are g w objects vars its s (info ∷ infos) = ap (λ l. DTaskBody (word_at w.span (task_name g info)) (decls_front objects (decls_of vars)) its s ∷ l) (copies_are g w objects vars its s infos)

-- the copies of a body as it is rewritten for the first of the tasks that run it
pub copies_made : (g : Setting) (x : BodyDecl) (task : ℕ) (vars : List PDecl) (its : PBody) (names : List NameId) →
    task ≡ first_running g x.name.name → names ≡ map (task_name g) (running g x.name.name) →
    vars ≡ unit_variables (record { setting = g; task = task }) (plain_body x.body.now) → its ≡ normal_body (record { setting = g; task = task }) (plain_body x.body.now) →
    map (λ (name : NameId). DTaskBody (word_at x.name.span name) (decls_front (decls_of (map plain_decl x.objects.now)) (decls_of vars)) its x.span) names ≡ bodies_of g (seen_body x)
copies_made g x task vars its names first named variables statements =
    let objects = decls_of (map plain_decl x.objects.now) in
    let infos = running g x.name.name in
    let mine = λ (t : ℕ). let u : RewrittenUnit = record { setting = g; task = t } in u in
    ap (map (λ (name : NameId). DTaskBody (word_at x.name.span name) (decls_front objects (decls_of vars)) its x.span)) named
    ∙ copies_are g x.name objects vars its x.span infos
    ∙ ap (λ v. map (body_copy g x.name objects v its (λ ds b name. DTaskBody name ds b x.span)) infos) (variables ∙ ap (λ t. unit_variables (mine t) (plain_body x.body.now)) first)
    ∙ ap (λ i. map (body_copy g x.name objects (unit_variables (unit_for g x.name.name) (plain_body x.body.now)) i (λ ds b name. DTaskBody name ds b x.span)) infos) (statements ∙ ap (λ t. normal_body (mine t) (plain_body x.body.now)) first)

-- how many variables it has
pub variables_made : (g : Setting) (x : BodyDecl) (task : ℕ) (vars : List Decl) →
    task ≡ first_running g x.name.name → map plain_decl vars ≡ unit_variables (record { setting = g; task = task }) (plain_body x.body.now) →
    length vars ≡ length (unit_variables (unit_for g x.name.name) (plain_body x.body.now))
variables_made g x task vars first variables =
    let mine = λ (t : ℕ). let u : RewrittenUnit = record { setting = g; task = t } in u in
    sym (length-map vars plain_decl) ∙ ap length (variables ∙ ap (λ t. unit_variables (mine t) (plain_body x.body.now)) first)

-- the copies that were put are those of the body
pub run_put : {T E : Type 0} (g : Setting) (x : BodyDecl) (task : ℕ) (vars : List PDecl) (its : PBody) (names : List NameId) (r : Result T E) (before after : List PDecl) →
    task ≡ first_running g x.name.name → names ≡ map (task_name g) (running g x.name.name) →
    vars ≡ unit_variables (record { setting = g; task = task }) (plain_body x.body.now) → its ≡ normal_body (record { setting = g; task = task }) (plain_body x.body.now) →
    OnOk r (after ≡ before ++ map (λ (name : NameId). DTaskBody (word_at x.name.span name) (decls_front (decls_of (map plain_decl x.objects.now)) (decls_of vars)) its x.span) names) →
    OnOk r (after ≡ before ++ bodies_of g (seen_body x))
run_put g x task vars its names (Err e) before after first named variables statements h = tt
run_put g x task vars its names (Ok u) before after first named variables statements h = h ∙ ap (λ l. before ++ l) (copies_made g x task vars its names first named variables statements)

-- the copies of what is seen in another way
pub seen_put : {T E : Type 0} (g : Setting) (d seen : PDecl) (r : Result T E) (before after : List PDecl) → d ≡ seen → OnOk r (after ≡ before ++ bodies_of g seen) → OnOk r (after ≡ before ++ bodies_of g d)
seen_put g d seen (Err e) before after same h = tt
seen_put g d seen (Ok u) before after same h = h ∙ ap (λ x. before ++ bodies_of g x) (sym same)
