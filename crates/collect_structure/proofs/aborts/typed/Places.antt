-- The variables of the places of a unit, in a collecting text of a program with abort statements, meet the static rules 1 and 3 to 12: what is assigned to them, the tests of them, and the note that a rendezvous is over.
use Rattle.std.proofs.Common.{List, Some, [], ap, if◌then◌else◌, refl, subst, sym, ℕ, ◌∙◌, ◌∷◌, ◌≡◌}
use Rattle.common_lemmas.proofs.Lists.{all_front, all_joined}
use Rattle.ada_tree.specs.PlainExpr.{EInteger, EName, EUnary, PExpr}
use Rattle.ada_tree.specs.PlainProgram.{PProgram}
use Rattle.ada_tree.specs.declared.expressions.BinaryOp.TheVariants as binary
use Rattle.ada_tree.specs.declared.expressions.UnaryOp.TheVariants.{Not}
use Rattle.ada_tree.specs.declared.naming.NameId.{NameId}
use Rattle.ada_tree.specs.declared.naming.Span.{Span}
use Rattle.ada_tree.specs.declared.statements.ParMode.TheVariants.{Give}
use Rattle.ada_static_rules.specs.Demand.{must_be_of}
use Rattle.ada_static_rules.specs.ExprTypes.{is_other_kind}
use Rattle.ada_static_rules.specs.RuleMismatch.{of_other_kind}
use Rattle.ada_static_rules.specs.Scope.{FormalPart, Scope, integer_kind, meaning, single, truth_kind}
use Rattle.ada_static_rules.specs.Sites.{actuals_sites, condition_sites, expr_sites, site, stmt_sites}
use Rattle.task_laws.proofs.legal.rewritten_types.Keeping.{keeps-self}
use Rattle.task_laws.specs.legal.alike_scopes.Laws.{IsMetBut}
use Rattle.task_laws.specs.legal.rewritten_types.Agreement.{Keeps}
use Rattle.normal_laws.proofs.structure.typed.Places.{met-of}
use Rattle.normal_laws.proofs.structure.typed.Variables.{AllMetBut, actual-met, assigned-met, of-kind, variable-met}
use Rattle.replay_structure.proofs.scopes.Permit.{number-step, only}
use Rattle.replay_structure.proofs.typed.Calls.{listed-call}
use Rattle.replay_structure.proofs.typed.Tests.{IsFit, compared, fit-met, fit-of, literal-fit, loose-met, not-fit, number-kind, number-variable}
use Rattle.replay_structure.specs.typed.ScopeOf.{IsNumber}
use Rattle.collect_model.specs.Names.{added_in, answer_text, argument_text, collect_names, index_text, owner_text, reply_text, subject_text}
use Rattle.collect_model.specs.Noting.{at_finish, number, own_number}
use Rattle.collect_model.specs.Teller.{Teller}
use Rattle.collect_structure.proofs.typed.Notes.{CallMet, answer-met, take-met, truth-kind, truth-variable}
use Rattle.collect_structure.proofs.scopes.Unit.{truth-step}
use Rattle.collect_structure.specs.Names.{added_id}
use Rattle.collect_structure.specs.typed.Told.{IsRecorder, IsTruth, in_number, note_parts}
use Rattle.collect_model.specs.aborts.AbortTeller.{AbortTeller}
use Rattle.collect_model.specs.aborts.Calling.{is_part}
use Rattle.collect_model.specs.aborts.Serving.{variable_is}
use Rattle.collect_model.specs.aborts.Waiting.{is_taken}
use Rattle.collect_structure.specs.aborts.asked.Pieces.{IsPlace, over_call}
use Rattle.collect_structure.specs.aborts.typed.Told.{SeesPlaces}

-- ---- what stays

-- where names that are not hidden mean the same and the types are the same, the variables are seen
pub places-step : (x : AbortTeller) (most : ℕ) (d d' : Scope) → ((p : ℕ) → IsPlace most p → meaning d' (x.taken p) ≡ meaning d (x.taken p)) →
    ((p : ℕ) → IsPlace most p → meaning d' (x.refused p) ≡ meaning d (x.refused p)) → d'.types ≡ d.types → SeesPlaces x most d → SeesPlaces x most d'
places-step x most d d' a b types h = record {
  taken = λ p i. number-step d d' (x.taken p) (a p i) (kept (x.taken p)) (h.taken p i);
  refused = λ p i. truth-step d d' (x.refused p) (b p i) (kept (x.refused p)) (h.refused p i);
}
  where
    kept : (id : NameId) → Keeps (only id) d.types d'.types
    kept id = subst (Keeps (only id) d.types) (sym types) (keeps-self d.types)

-- ---- what is assigned

-- a number is kept in a variable
pub number-kept-met : (d : Scope) (a b : NameId) (s : Span) → IsNumber d a → IsFit d integer_kind (EName b s) → AllMetBut (stmt_sites d (variable_is s a b))
number-kept-met d a b s v fit =
    assigned-met (number-variable d a s v) s (EName b s)
    (all_front IsMetBut (expr_sites d (EName b s)) (site d (must_be_of (EName b s) (Some integer_kind)) ∷ []) (fit-met d integer_kind (EName b s) fit))
    (ap (λ k. of_other_kind d (Some k) (EName b s)) v.kind ∙ ap (λ t. if t then s ∷ [] else []) fit.kind)

-- so is a truth value
pub truth-kept-met : (d : Scope) (a b : NameId) (s : Span) → IsTruth d a → IsTruth d b → AllMetBut (stmt_sites d (variable_is s a b))
truth-kept-met d a b s v w =
    assigned-met (truth-variable d a s v) s (EName b s) (variable-met (truth-variable d b s w) s)
    (ap (λ k. of_other_kind d (Some k) (EName b s)) v.kind ∙ of-kind d (EName b s) truth_kind (truth-kind d b s w))

-- ---- tests

pub not-truth-met : (d : Scope) (id : NameId) (s : Span) → IsTruth d id → AllMetBut (condition_sites d (EUnary Not (EName id s) s))
not-truth-met d id s v = fit-met d truth_kind (EUnary Not (EName id s) s) (not-fit d s (EName id s) (fit-of d truth_kind (EName id s) (answer-met d id s v)))

pub part-is-met : (d : Scope) (x : Teller) (s : Span) (w : ℕ) → IsNumber d x.added.part → AllMetBut (condition_sites d (is_part x s w))
part-is-met d x s w v = loose-met d (is_part x s w) (compared d x.added.part s v binary.Equal refl (EInteger w s) (literal-fit d w s))

pub is-taken-met : (d : Scope) (x : AbortTeller) (s : Span) → IsNumber d x.teller.added.part → AllMetBut (condition_sites d (is_taken x s))
is-taken-met d x s v = loose-met d (is_taken x s) (compared d x.teller.added.part s v binary.NotEqual refl (EInteger 0 s) (literal-fit d 0 s))

-- ---- the note that a rendezvous is over

number-fit : (d : Scope) (id : NameId) (s : Span) → IsNumber d id → IsFit d integer_kind (EName id s)
number-fit d id s v = record { kind = ap (is_other_kind (Some integer_kind)) (number-kind d id s v); raised = refl; parts = (variable-met (number-variable d id s v) s).1 }

module _ (q : PProgram) (x : AbortTeller) (is : x.teller.added ≡ added_in (collect_names q)) (d : Scope) (recorder : IsRecorder q d) (answer : IsTruth d (added_id q answer_text)) where
  abbrev y : AbortTeller
  y = record {
    teller = record { added = added_in (collect_names q); member = x.teller.member; numbers = x.teller.numbers; task = x.teller.task };
    acceptors = x.acceptors;
    each = x.each;
    taken = x.taken;
    refused = x.refused;
  }

  pub over-met : (s : Span) (p : ℕ) → IsNumber d (x.taken p) → CallMet d (over_call x s p)
  over-met s p v =
      let reply : List FormalPart = record { name = added_id q reply_text; mode = Give; mark = record { 0 = 3 }; kind = Some truth_kind } ∷ [] in
      let owner : List FormalPart = in_number q owner_text ∷ reply in
      let index : List FormalPart = in_number q index_text ∷ owner in
      let argument : List FormalPart = in_number q argument_text ∷ index in
      let subject : List FormalPart = in_number q subject_text ∷ argument in
      let answers : List PExpr = EName (added_id q answer_text) s ∷ [] in
      let owners : List PExpr = EInteger 0 s ∷ answers in
      let members : List PExpr = EInteger 0 s ∷ owners in
      let caller : PExpr = EName (x.taken p) s in
      let arguments : List PExpr = caller ∷ members in
      let own : PExpr = own_number x.teller s in
      let subjects : List PExpr = own ∷ arguments in
      let variable = truth-variable d (added_id q answer_text) s answer in
      let last = met-of d (EName (added_id q answer_text) s) (Some truth_kind) (of-kind d (EName (added_id q answer_text) s) truth_kind (truth-kind d (added_id q answer_text) s answer)) in
      subst
      (λ n. CallMet d (over_call
      (record { teller = record { added = n; member = x.teller.member; numbers = x.teller.numbers; task = x.teller.task }; acceptors = x.acceptors; each = x.each; taken = x.taken; refused = x.refused }) s p))
      (sym is)
      (listed-call d (over_call y s p) recorder.entries single (note_parts q) recorder.means recorder.note refl
      (all_joined IsMetBut (actuals_sites d (note_parts q) (number s at_finish ∷ subjects)) []
      (take-met d integer_kind (number s at_finish) (actuals_sites d subject subjects) (literal-fit d at_finish s)
      (take-met d integer_kind own (actuals_sites d argument arguments) (literal-fit d x.teller.task s)
      (take-met d integer_kind caller (actuals_sites d index members) (number-fit d (x.taken p) s v)
      (take-met d integer_kind (EInteger 0 s) (actuals_sites d owner owners) (literal-fit d 0 s)
      (take-met d integer_kind (EInteger 0 s) (actuals_sites d reply answers) (literal-fit d 0 s) (actual-met variable Give s, (last, tt)))))))
      tt))
