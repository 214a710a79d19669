-- A note: the task offers a call of NOTE with its numbers, and as it is answered it goes on with the answer in its variable.
use Rattle.std.proofs.Common.{◌≡◌, ℕ, ℤ, pos, Bool, true, false, List, [], ◌∷◌, Some, None, Ok, refl, sym, ap, subst, ◌∙◌}
use Rattle.event_machine.specs.declared.CallForm.TheVariants.{Plain}
use Rattle.ada_tree.specs.declared.naming.NameId.{NameId}
use Rattle.ada_tree.specs.declared.naming.Span.{Span}
use Rattle.ada_tree.specs.declared.statements.ParMode.TheVariants.{Take, Give}
use Rattle.ada_tree.specs.TypeTable.{TypeTable}
use Rattle.ada_tree.specs.PlainExpr.{PExpr, EName}
use Rattle.ada_tree.specs.PlainStmt.{PArgs, PCall, SCall, PStmts, stmt_then}
use Rattle.ada_static_rules.specs.StaticValue.{is_integer_value}
use Rattle.ada_value.specs.declared.values.Value.{Value}
use Rattle.ada_value.specs.declared.values.Value.TheVariants.{Number, Truth}
use Rattle.ada_value.specs.Values.{position_of, and_then, checked, lower_bound, limits_named, truth_limits}
use Rattle.ada_value.specs.Variables.{Variables, checked_for, set_value}
use Rattle.ada_value.specs.Evaluating.{evaluated}
use Rattle.task_model.specs.declared.parameters.FormalParameter.{FormalParameter}
use Rattle.task_model.specs.Setting.{Setting, entry_of, entry_parameters, lists_in, lists_of, parameters_of}
use Rattle.task_model.specs.Frames.{Around, PFrame, control, settled}
use Rattle.task_model.specs.Tasks.{Task}
use Rattle.task_model.specs.Calls.{called, called_with, opening_values, openings, Copies, copies_on, copied_back}
use Rattle.task_model.specs.Stands.{call_stand, steps_at, offered}
use Rattle.task_model.specs.Rendezvous.{resumed, resumed_with, returned, come_back, copies_of, call_ended, pending_of, finals_of}
use Rattle.task_laws.specs.translation.Controls.{task_in}
use Rattle.normal_model.specs.Ranges.{word_at}
use Rattle.collect_model.specs.declared.AddedNames.{AddedNames}
use Rattle.collect_model.specs.Noting.{number}
use Rattle.collect_model.specs.Recording.{note_formals}
use Rattle.collect_runs.specs.translation.Floors.{HasVariables}
use Rattle.collect_runs.specs.recorder.Telling.{Spelled, note_values}
use Rattle.collect_runs.specs.telling.Texts.{IsInteger, TellsMember}
use Rattle.collect_runs.specs.telling.Meetings.{ComesTo}
use Rattle.collect_runs.proofs.telling.Noting.{literal, taken}
use Rattle.run_laws.specs.aborts.Notes.{Note}
use Rattle.collect_runs.specs.aborts.recorder.Telling.{member_of, spelled}
use Rattle.collect_runs.specs.aborts.telling.Texts.{Texts, plain, text, CanTell}
use Rattle.collect_runs.specs.aborts.telling.Forms.{Form}
use Rattle.collect_runs.specs.aborts.telling.Meetings.{IsNoting}

-- the variables with the answer
abbrev pub hearing : Texts → Bool → Variables → Variables
hearing x b V = set_value V x.main.teller.added.answer 0 (Truth b)

module _ (x : Texts) (can : CanTell x) (t : ℕ) where
  abbrev g : Setting
  g = text x

  abbrev T : TypeTable
  T = (text x).types

  abbrev n : AddedNames
  n = x.main.teller.added

  -- the image of the task t where it stands so
  abbrev pub at : List ℤ → List ℕ → PStmts → Around → List PFrame → Variables → Task
  at i w r q o V = task_in (text x) t i w (control r q o V)

  -- and as it goes on with them
  abbrev pub going : List ℤ → List ℕ → PStmts → Around → List PFrame → Variables → Task
  going i w r q o V = task_in (text x) t i w (settled (control r q o V))

  -- What a note is about: three expressions that come to a task, to an argument and to a member.
  pub record Evaluates (V : Variables) (te ae ie : PExpr) (about argued : ℕ) (z : ℤ) : Type 0 where
    pub subject : evaluated (text x).types V te ≡ Ok (Number (pos about))
    pub subject_fits : IsInteger about
    pub argument : evaluated (text x).types V ae ≡ Ok (Number (pos argued))
    pub argument_fits : IsInteger argued
    pub index : TellsMember (text x).types V ie z

  module _ (V : Variables) (s : Span) (k : ℕ) (te ae ie : PExpr) (o about argued : ℕ) (z : ℤ) (kind_fits : IsInteger k) (owner_fits : IsInteger o) (is : Evaluates V te ae ie about argued z) where
    abbrev actuals : List PExpr
    actuals = number s k ∷ te ∷ ae ∷ ie ∷ number s o ∷ EName n.answer s ∷ []

    abbrev lists : PArgs
    lists = record { first = actuals; second = None }

    abbrev call : PCall
    call = record { task = record { name = word_at s n.recorder; index = None }; entry = word_at s n.note; args = Some lists }

    abbrev values : List Value
    values = Number (pos k) ∷ Number (pos about) ∷ Number (pos argued) ∷ is.index.value ∷ Number (pos o) ∷ lower_bound T (limits_named T record { 0 = 3 }) ∷ []

    -- the formals of NOTE from each of the first five on
    abbrev formal : NameId → FormalParameter
    formal name = record { name = name; mode = Take; limits = limits_named T record { 0 = 0 } }

    abbrev f5 : List FormalParameter
    f5 = record { name = n.reply; mode = Give; limits = limits_named T record { 0 = 3 } } ∷ []

    abbrev f4 : List FormalParameter
    f4 = formal n.owner ∷ f5

    abbrev f3 : List FormalParameter
    f3 = formal n.index ∷ f4

    abbrev f2 : List FormalParameter
    f2 = formal n.argument ∷ f3

    abbrev f1 : List FormalParameter
    f1 = formal n.subject ∷ f2

    -- and the actuals
    abbrev e5 : List PExpr
    e5 = EName n.answer s ∷ []

    abbrev e4 : List PExpr
    e4 = number s o ∷ e5

    abbrev e3 : List PExpr
    e3 = ie ∷ e4

    abbrev e2 : List PExpr
    e2 = ae ∷ e3

    abbrev e1 : List PExpr
    e1 = te ∷ e2

    index-fits : is_integer_value (position_of is.index.value) ≡ true
    index-fits = ap is_integer_value is.index.position ∙ is.index.fits

    opens : openings T V (parameters_of T (note_formals n can.plainly.span)) actuals ≡ Ok values
    opens =
        taken (plain x) can.plainly t V n.kind (number s k) (Number (pos k)) f1 e1 _ (literal T V k s kind_fits) kind_fits
        (taken (plain x) can.plainly t V n.subject te (Number (pos about)) f2 e2 _ is.subject is.subject_fits
        (taken (plain x) can.plainly t V n.argument ae (Number (pos argued)) f3 e3 _ is.argument is.argument_fits
        (taken (plain x) can.plainly t V n.index ie is.index.value f4 e4 _ is.index.worth index-fits
        (taken (plain x) can.plainly t V n.owner (number s o) (Number (pos o)) f5 e5 _ (literal T V o s owner_fits) owner_fits refl))))

    -- what the call comes to
    pub note-called : called g V call ≡ Ok record { entry = x.note; index = pos 0; values = values }
    note-called =
        ap (λ m. called_with g V (entry_of g.numbers m n.note) (lists_of g.numbers (entry_of g.numbers m n.note) (Some lists))) can.plainly.recorder
        ∙ ap (λ e. called_with g V e (lists_of g.numbers e (Some lists))) can.plainly.note
        ∙ ap (λ c. called_with g V x.note (lists_in c lists)) can.plainly.single
        ∙ ap (λ fs. and_then (openings T V fs actuals) (λ vs. Ok record { entry = x.note; index = pos 0; values = vs })) can.plainly.formals
        ∙ ap (λ r. and_then r (λ vs. Ok record { entry = x.note; index = pos 0; values = vs })) opens

    module _ (there : HasVariables n V) (i : List ℤ) (w : List ℕ) (rest : PStmts) (q : Around) (out : List PFrame) where
      -- the task before the note
      abbrev κ : Task
      κ = at i w (stmt_then (SCall call s) rest) q out V

      fits-truth : (b : Bool) → checked truth_limits (Truth b) ≡ Ok (Truth b)
      fits-truth true = refl
      fits-truth false = refl

      copies-are : (b : Bool) → copies_of κ (Truth b ∷ []) ≡ record { vars = hearing x b V; stopped = None }
      copies-are b =
          ap (λ r. call_ended κ call r (Truth b ∷ [])) note-called
          ∙ ap (λ c. copied_back (entry_parameters g x.note) (lists_in c lists).actuals (Truth b ∷ []) V) can.plainly.single
          ∙ ap (λ fs. copied_back fs actuals (Truth b ∷ []) V) can.plainly.formals
          ∙ ap (λ y. copies_on (λ changed. record { vars = changed; stopped = None }) V (and_then (checked_for y (Truth b)) (λ v. Ok (set_value V n.answer 0 v)))) there.answer.1.found
          ∙ ap (λ r. copies_on (λ changed. record { vars = changed; stopped = None }) V (and_then r (λ v. Ok (set_value V n.answer 0 v)))) (fits-truth b)

      goes-on : (b : Bool) (j : Task) → pending_of j ≡ None → finals_of j ≡ Truth b ∷ [] → resumed j κ ≡ going i w rest q out (hearing x b V)
      goes-on b j pending finals =
          ap (λ e. resumed_with e (finals_of j) κ) pending ∙ ap (λ vs. returned vs κ) finals ∙ ap (λ (c : Copies). come_back κ c c.stopped) (copies-are b)

      -- So it tells this note, and comes to where it is to come to with each answer.
      pub notes : (f : Form x) (said : Note) (other : ℕ) (IsSo : Bool → Task → Type 0) →
          ((v : Value) → spelled said other v ≡ record { kind = k; subject = about; argument = argued; index = v; owner = o }) → member_of said ≡ z →
          ((b : Bool) → ComesTo (IsSo b) (going i w rest q out (hearing x b V))) → IsNoting f said IsSo κ
      notes f said other IsSo spells named comes = record {
        offers = record {
          rests = ap (λ r. steps_at (call_stand Plain r)) note-called;
          offers = ap (λ r. offered (call_stand Plain r)) note-called;
        };
        tells = record {
          other = other;
          index = is.index.value;
          member = is.index.position ∙ sym named;
          opens_with = lower_bound T (limits_named T record { 0 = 3 });
          values = ap (λ r. opening_values (Some r)) note-called ∙ sym (ap (λ (z : Spelled). note_values z (lower_bound T (limits_named T record { 0 = 3 }))) (spells is.index.value));
        };
        answered = λ b j pending finals. subst (ComesTo (IsSo b)) (sym (goes-on b j pending finals)) (comes b);
      }
