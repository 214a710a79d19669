-- The notes of a unit in a collecting text meet the static rules 1 and 3 to 12, and so do its two variables.
use Rattle.std.proofs.Common.{◌≡◌, ℕ, if◌then◌else◌, List, [], ◌∷◌, ◌++◌, Some, Ok, is_some, refl, sym, ap, ap₂, subst, ◌∙◌}
use Rattle.common_lemmas.proofs.Lists.{all_back, all_front, all_joined}
use Rattle.ada_tree.specs.declared.naming.NameId.{NameId}
use Rattle.ada_tree.specs.declared.naming.Span.{Span}
use Rattle.ada_tree.specs.declared.expressions.BinaryOp.TheVariants as binary
use Rattle.ada_tree.specs.declared.statements.ParMode.TheVariants.{Give}
use Rattle.ada_tree.specs.PlainExpr.{PExpr, EInteger, EName}
use Rattle.ada_tree.specs.PlainStmt.{PCall}
use Rattle.ada_tree.specs.PlainProgram.{PProgram}
use Rattle.ada_static_rules.specs.Scope.{Scope, FormalPart, single, integer_kind, truth_kind, AnException, meaning}
use Rattle.ada_static_rules.specs.ExprTypes.{kind_of}
use Rattle.ada_static_rules.specs.Demand.{calls, is_actual, must_be_of, names_exception, Site}
use Rattle.ada_static_rules.specs.Declaring.{predefined_types}
use Rattle.ada_static_rules.specs.RuleMismatch.{of_other_kind}
use Rattle.ada_static_rules.specs.RuleArgCount.{called_entry}
use Rattle.ada_static_rules.specs.RuleNotException.{no_exception}
use Rattle.ada_static_rules.specs.Sites.{site, if_there, expr_sites, actuals_sites, args_sites, callee_sites, condition_sites, stmt_sites, handler_names_sites}
use Rattle.task_laws.specs.legal.alike_scopes.Laws.{IsMetBut}
use Rattle.normal_model.specs.Ranges.{word_at, truth_subtype}
use Rattle.normal_laws.specs.structure.asked.Pieces.{named}
use Rattle.normal_laws.specs.structure.typed.ScopeOf.{IsVariableOf}
use Rattle.normal_laws.proofs.structure.typed.Places.{met-of, met-exception, met-handles}
use Rattle.normal_laws.proofs.structure.typed.Variables.{AllMetBut, of-kind, variable-kind, variable-met, actual-met, assigned-met}
use Rattle.replay_structure.specs.typed.ScopeOf.{IsNumber}
use Rattle.replay_structure.proofs.typed.Tests.{IsFit, fit-met, loose-met, literal-fit, number-variable, compared}
use Rattle.replay_structure.proofs.typed.Calls.{single-met, listed-call}
use Rattle.collect_model.specs.Names.{answer_text, recorder_text, subject_text, argument_text, index_text, owner_text, reply_text, collect_names, added_in}
use Rattle.collect_model.specs.Teller.{Teller}
use Rattle.collect_model.specs.Noting.{note_actuals}
use Rattle.collect_model.specs.Calling.{tasking_error}
use Rattle.collect_structure.specs.Names.{added_id}
use Rattle.collect_structure.specs.asked.Pieces.{note_call, sets_part, has_come, raises}
use Rattle.collect_structure.specs.typed.Told.{in_number, note_parts, IsRecorder, IsTruth}

-- ---- actuals

-- an actual of mode in, in front of others
pub take-met : (d : Scope) (k : ℕ) (e : PExpr) (rest : List Site) → IsFit d k e → AllMetBut rest → AllMetBut (expr_sites d e ++ (site d (must_be_of e (Some k)) ∷ rest))
take-met d k e rest h m =
    let all = fit-met d k e h in
    all_joined IsMetBut (expr_sites d e) (site d (must_be_of e (Some k)) ∷ rest) (all_front IsMetBut (expr_sites d e) (site d (must_be_of e (Some k)) ∷ []) all)
    ((all_back IsMetBut (expr_sites d e) (site d (must_be_of e (Some k)) ∷ []) all).0, m)

-- a variable of BOOLEAN is one with that subtype
abbrev pub truth-variable : (d : Scope) (id : NameId) (s : Span) → IsTruth d id → IsVariableOf predefined_types d id (truth_subtype s)
truth-variable d id s v = record {
  place = v.place;
  mark = v.mark;
  means = v.means;
  there = v.there;
  scalar = v.scalar;
  limits =
      subst (λ k. Ok (record { kind = truth_kind; first = _; last = _ }) ≡ Ok (record { kind = k; first = v.mark.first; last = v.mark.last })) (sym v.kind)
      (ap₂ (λ a b. Ok (record { kind = truth_kind; first = a; last = b })) (sym v.first) (sym v.last));
  changes = v.changes;
}

pub truth-kind : (d : Scope) (id : NameId) (s : Span) → IsTruth d id → kind_of d (EName id s) ≡ Some truth_kind
truth-kind d id s v = variable-kind (truth-variable d id s v) s ∙ ap Some v.kind

-- the answer as an actual of mode out, and as a condition
answer-actual : (d : Scope) (id : NameId) (s : Span) → IsTruth d id → IsMetBut (site d (is_actual Give (EName id s))) × IsMetBut (site d (must_be_of (EName id s) (Some truth_kind)))
answer-actual d id s v = (actual-met (truth-variable d id s v) Give s, met-of d (EName id s) (Some truth_kind) (of-kind d (EName id s) truth_kind (truth-kind d id s v)))

pub answer-met : (d : Scope) (id : NameId) (s : Span) → IsTruth d id → AllMetBut (condition_sites d (EName id s))
answer-met d id s v = all_joined IsMetBut (expr_sites d (EName id s)) (site d (must_be_of (EName id s) (Some truth_kind)) ∷ []) (variable-met (truth-variable d id s v) s) (met-of d (EName id s) (Some truth_kind) (of-kind d (EName id s) truth_kind (truth-kind d id s v)), tt)

-- TASKING_ERROR is raised and handled
error-met : (d : Scope) (s : Span) → meaning d (record { 0 = 9 }) ≡ Some AnException → IsMetBut (site d (names_exception (tasking_error s)))
error-met d s h = met-exception d (tasking_error s) (ap (λ o. if is_some o then [] else s ∷ []) h) (ap (λ o. no_exception o (tasking_error s)) h)

pub late-met : (d : Scope) (s : Span) → meaning d (record { 0 = 9 }) ≡ Some AnException → AllMetBut (stmt_sites d (raises s))
late-met d s h = (error-met d s h, tt)

pub watch-met : (d : Scope) (s : Span) → meaning d (record { 0 = 9 }) ≡ Some AnException → AllMetBut (handler_names_sites d [] (tasking_error s ∷ []))
watch-met d s h = (error-met d s h, (met-handles d [] (tasking_error s), tt))

-- ---- the part of a call

pub part-met : (d : Scope) (x : Teller) (s : Span) (w : ℕ) → IsNumber d x.added.part → AllMetBut (stmt_sites d (sets_part x s w))
part-met d x s w v =
    let is = number-variable d x.added.part s v in
    let e = literal-fit d w s in
    let all = fit-met d integer_kind (EInteger w s) e in
    assigned-met is s (EInteger w s) (all_front IsMetBut (expr_sites d (EInteger w s)) (site d (must_be_of (EInteger w s) (Some integer_kind)) ∷ []) all) (ap (λ k. of_other_kind d (Some k) (EInteger w s)) v.kind)

pub came-met : (d : Scope) (x : Teller) (s : Span) → IsNumber d x.added.part → AllMetBut (condition_sites d (has_come x s))
came-met d x s v = loose-met d (has_come x s) (compared d x.added.part s v binary.Equal refl (EInteger 1 s) (literal-fit d 1 s))

-- ---- notes

-- what is asked of the places of a call
abbrev pub CallMet : Scope → PCall → Type 0
CallMet d c = AllMetBut (site d (calls c) ∷ if_there (args_sites d (called_entry (meaning d c.task.name.name) c.entry.name)) c.args)

module _ (q : PProgram) (x : Teller) (is : x.added ≡ added_in (collect_names q)) (d : Scope) (recorder : IsRecorder q d) (answer : IsTruth d (added_id q answer_text)) where
  abbrev y : Teller
  y = record { added = added_in (collect_names q); member = x.member; numbers = x.numbers; task = x.task }

  -- a note about a task, with a member
  pub note-met : (s : Span) (k : ℕ) (t : PExpr) (a : ℕ) (i : PExpr) (o : ℕ) → IsFit d integer_kind t → IsFit d integer_kind i → CallMet d (note_call x s k t a i o)
  note-met s k t a i o h j =
      let two = answer-actual d (added_id q answer_text) s answer in
      let reply : List FormalPart = record { name = added_id q reply_text; mode = Give; mark = record { 0 = 3 }; kind = Some truth_kind } ∷ [] in
      let owner : List FormalPart = in_number q owner_text ∷ reply in
      let index : List FormalPart = in_number q index_text ∷ owner in
      let argument : List FormalPart = in_number q argument_text ∷ index in
      let subject : List FormalPart = in_number q subject_text ∷ argument in
      let answers : List PExpr = EName (added_id q answer_text) s ∷ [] in
      let owners : List PExpr = EInteger o s ∷ answers in
      let members : List PExpr = i ∷ owners in
      let arguments : List PExpr = EInteger a s ∷ members in
      let subjects : List PExpr = t ∷ arguments in
      subst (λ n. CallMet d (note_call (record { added = n; member = x.member; numbers = x.numbers; task = x.task }) s k t a i o)) (sym is)
      (listed-call d (note_call y s k t a i o) recorder.entries single (note_parts q) recorder.means recorder.note refl
      (all_joined IsMetBut (actuals_sites d (note_parts q) (note_actuals y s k t a i o)) []
      (take-met d integer_kind (EInteger k s) (actuals_sites d subject subjects) (literal-fit d k s)
      (take-met d integer_kind t (actuals_sites d argument arguments) h
      (take-met d integer_kind (EInteger a s) (actuals_sites d index members) (literal-fit d a s)
      (take-met d integer_kind i (actuals_sites d owner owners) j (take-met d integer_kind (EInteger o s) (actuals_sites d reply answers) (literal-fit d o s) (two.0, (two.1, tt)))))))
      tt))

  pub recorder-met : (s : Span) → AllMetBut (callee_sites d (named (word_at s x.added.recorder)))
  recorder-met s = subst (λ n. AllMetBut (callee_sites d (named (word_at s n.recorder)))) (sym is) (single-met d (word_at s (added_id q recorder_text)) recorder.entries recorder.means)
