-- Ends of units and of accept bodies: the image tells of them, and then offers them.
use Rattle.std.proofs.Common.{◌≡◌, ◌==◌, ℕ, zero, suc, ℤ, pos, Bool, if◌then◌else◌, List, [], ◌∷◌, ◌++◌, Option, Some, None, refl, sym, ap, subst, ◌∙◌}
use Rattle.ada_tree.specs.declared.naming.NameId.{NameId}
use Rattle.ada_tree.specs.declared.naming.Span.{Span}
use Rattle.ada_tree.specs.PlainStmt.{PStmts, no_stmt, stmt_then, PHandlers, no_handler}
use Rattle.ada_value.specs.declared.values.Value.{Value}
use Rattle.ada_value.specs.declared.values.Value.TheVariants.{Truth}
use Rattle.ada_value.specs.declared.values.Raised.{Raised}
use Rattle.ada_value.specs.Variables.{Object, Variables, with_value}
use Rattle.task_model.specs.declared.parameters.FormalParameter.{FormalParameter}
use Rattle.task_model.specs.Frames.{Around, OwnBody, Opened, Handling, PFrame, control, caller_at, callers_among}
use Rattle.task_model.specs.Tasks.{Task}
use Rattle.task_model.specs.Rendezvous.{going_on, finished}
use Rattle.task_laws.specs.translation.Translations.{Programs, Rewriting, Translation}
use Rattle.task_laws.specs.translation.OldTexts.{only_names}
use Rattle.task_laws.specs.translation.Controls.{frame, task_in, Under, on_floor, in_block, in_handler, in_endless, in_while, in_count}
use Rattle.task_laws.proofs.translation.Frames.{add-alike}
use Rattle.task_laws.proofs.translation.Mapping.{under-map}
use Rattle.normal_model.specs.Making.{one}
use Rattle.normal_laws.specs.runs.floors.Preludes.{reaches_here, reaches_by}
use Rattle.normal_laws.proofs.runs.floors.Extending.{Fronts, fronts, own-add}
use Rattle.run_laws.specs.collecting.Notes.{Note, AtFinish, AtEnd}
use Rattle.replay_model.specs.Serving.{raise_again}
use Rattle.collect_model.specs.Teller.{Teller}
use Rattle.collect_model.specs.Noting.{at_finish, at_end, number, own_number, own_note}
use Rattle.collect_model.specs.Serving.{finish_note}
use Rattle.collect_runs.specs.recorder.Telling.{member_of, spelled}
use Rattle.collect_runs.specs.translation.Rows.{Telling}
use Rattle.collect_runs.specs.translation.Floors.{HasVariables, caller_parameter, body_frame, formals_there, frames_outside, vars_there, OpenAccept, CollectFloor, main_body, plain_body, handled_body, taken_handler, accept_body, AtTelling, over_floors, below_at}
use Rattle.collect_runs.proofs.translation.Rows.{are-images}
use Rattle.collect_runs.proofs.translation.Floors.{levels, variables-open, variables-at}
use Rattle.collect_runs.specs.telling.Texts.{Texts, form, text, teller, unit_rows, unit_translation, IsInteger, CanTell}
use Rattle.collect_runs.specs.telling.Forms.{Form}
use Rattle.collect_runs.specs.telling.Meetings.{ComesTo, IsBased, IsNoting, IsEnding, IsLeaving}
use Rattle.collect_runs.proofs.telling.Noting.{here, later, literal, hearing, going, notes, zero-told}
use Rattle.collect_runs.proofs.telling.Pairs.{row-comes, raise-comes}
use Rattle.replay_runs.proofs.controls.meanings.Ends.{finals-known, finals-same, formals-left}

-- ---- callers

abbrev pub callers_of : Around → List PFrame → List ℕ
callers_of q o = caller_at q ++ callers_among o

module _ (y : Rewriting) (x : Teller) where
  under-callers : (k : ℕ) → ((q q' : Around) (o o' : List PFrame) (V V' : Variables) → CollectFloor y x (below_at y x k) q o V q' o' V' → callers_of q' o' ≡ callers_of q o) →
      {q q' : Around} {o o' : List PFrame} {V V' : Variables} → Under (over_floors y x (below_at y x k)) q o V q' o' V' → callers_of q' o' ≡ callers_of q o
  under-callers k h (on_floor f) = h _ _ _ _ _ _ f
  under-callers k h (in_block hs hs' r r' im im' v) = under-callers k h v
  under-callers k h (in_handler e r r' im v) = under-callers k h v
  under-callers k h (in_endless name l l' r r' im im' v) = under-callers k h v
  under-callers k h (in_while name e l l' r r' old im im' v) = under-callers k h v
  under-callers k h (in_count name backwards last l l' r r' b old known im im' v) = under-callers k h v

  floor-callers : (k : ℕ) → ((q q' : Around) (o o' : List PFrame) (V V' : Variables) → below_at y x k q o V q' o' V' → callers_of q' o' ≡ callers_of q o) →
      (q q' : Around) (o o' : List PFrame) (V V' : Variables) → CollectFloor y x (below_at y x k) q o V q' o' V' → callers_of q' o' ≡ callers_of q o
  floor-callers k h q q' o o' V V' (main_body hs hs' handling V1 W1 main im ext there) = refl
  floor-callers k h q q' o o' V V' (plain_body s V1 W1 task ext there) = refl
  floor-callers k h q q' o o' V V' (handled_body s hd hd' hs hs' V1 W1 task im ext there) = refl
  floor-callers k h q q' o o' V V' (taken_handler s hs e V1 W1 task ext there) = refl
  floor-callers k h q q' o o' V V' (accept_body a) = ap (λ c. a.caller ∷ c) (h a.place a.place' a.outer a.outer' a.vars a.vars' a.below)

  below-callers : (k : ℕ) (q q' : Around) (o o' : List PFrame) (V V' : Variables) → below_at y x k q o V q' o' V' → callers_of q' o' ≡ callers_of q o
  below-callers zero q q' o o' V V' f = absurd f
  below-callers (suc k) q q' o o' V V' f = under-callers k (floor-callers k (below-callers k)) f

module _ (x : Texts) (can : CanTell x) (f : Form x) (t : ℕ) where
  abbrev y : Translation
  y = unit_translation x t

  abbrev Y : Rewriting
  Y = unit_rows x t

  abbrev X : Teller
  X = teller x t

  abbrev b : Programs
  b = x.programs

  abbrev Below : ℕ → Around → List PFrame → Variables → Around → List PFrame → Variables → Type 0
  Below k = below_at (unit_rows x t) (teller x t) k

  -- ---- below an accept body

  below-add : (k : ℕ) (v : Bool) (q q' : Around) (o o' : List PFrame) (W W' : Variables) → Below k q o W q' o' W' → Below k q o W q' o' (hearing x v W')
  below-add zero v q q' o o' W W' g = absurd g
  below-add (suc k) v q q' o o' W W' g = add-alike (over_floors Y X (Below k)) (levels Y (are-images (only_names b) X) can.types X can.names k) x.main.added.answer 0 (Truth v) can.names.answer g

  lifted : (k : ℕ) (q q' : Around) (o o' : List PFrame) (V V' : Variables) → Below k q o V q' o' V' → Under y q o V q' o' V'
  lifted zero q q' o o' V V' g = absurd g
  lifted (suc k) q q' o o' V V' g = under-map Y (CollectFloor Y X (Below k)) y.floor (AtTelling Y X (Below k)) y.beyond (λ r r' a a' W W' h. (k, h)) (λ c d h. (k, h)) g

  module _ (k : ℕ) (caller : ℕ) (fs : List FormalParameter) (place place' : Around) (outer outer' : List PFrame) where
    -- the formals in front of variables below
    abbrev pub Ahead : Variables → Variables → Type 0
    Ahead W W' = Fronts x.programs (λ U U'. below_at (unit_rows x t) (teller x t) k place outer U place' outer' U') fs W W'

    -- the answer goes to a variable behind the formals, and behind the caller's
    pub ahead-heard : (v : Bool) {W W' : Variables} → Ahead W W' → Ahead W (hearing x v W')
    ahead-heard v (fronts bs U U' opened g) = own-add b can.types {B = λ W W'. Below k place outer W place' outer' W'} x.main.added.answer 0 (Truth v) can.names.answer opened U U' (below-add k v place place' outer outer' U U' g)

    pub own-heard : (v : Bool) (own : Object) (W : Variables) → own.name ≡ x.main.added.caller → hearing x v (own ∷ W) ≡ own ∷ hearing x v W
    own-heard v own W named = ap (λ (c : Bool). if c then with_value own 0 (Truth v) ∷ W else own ∷ hearing x v W) (ap (λ (id : NameId). id.0 == x.main.added.answer.0) named ∙ can.names.caller_answer)

    -- ---- the end of an accept body

    module _ (i : List ℤ) (w : List ℕ) (row row' : PStmts) (im : Telling (only_names x.programs) (teller x t) row row') (pending : Option Raised) (own : Object) (named : own.name ≡ x.main.added.caller) where
      abbrev σ : Variables → Task
      σ W = task_in (form x) t i w (control no_stmt (Opened caller fs pending) (frame row place ∷ outer) W)

      abbrev κ : Variables → Task
      κ W = task_in (text x) t i w (control no_stmt (Opened caller (caller_parameter x.main.added (text x).types ∷ fs) pending) (frame row' place' ∷ outer') (own ∷ W))

      -- behind the accept
      goes-on : (p : Option Raised) (U U' : Variables) → Under y place outer U place' outer' U' → f.IsSo t (going_on p (task_in (form x) t i w (control row place outer U))) →
          ComesTo (IsBased f t (going_on p (task_in (form x) t i w (control row place outer U)))) (going_on p (task_in (text x) t i w (control row' place' outer' U')))
      goes-on None U U' v is = row-comes x can t f i w row row' row row' im v is
      goes-on (Some e) U U' v is = raise-comes x can t f e i w row row' v is

      pub ends : {W W' : Variables} → Ahead W W' → f.IsSo t (σ W) → IsEnding f t (σ W) (κ W')
      ends (fronts bs U U' opened g) is = record {
        output = refl;
        offers = record { rests = refl; offers = refl };
        callers = ap (λ c. caller ∷ c) (below-callers Y X k place place' outer outer' U U' g);
        back = record { pending = refl; finals = sym (finals-same opened U U'); known = finals-known opened U };
        goes_on =
            subst (λ Z. ComesTo (IsBased f t (finished (σ (bs ++ U)))) (going_on pending (task_in (text x) t i w (control row' place' outer' Z)))) (sym (formals-left opened U'))
            (subst (λ Z. f.IsSo t (going_on pending (task_in (form x) t i w (control row place outer Z))) →
            ComesTo (IsBased f t (going_on pending (task_in (form x) t i w (control row place outer Z)))) (going_on pending (task_in (text x) t i w (control row' place' outer' U'))))
            (sym (formals-left opened U)) (goes-on pending U U' (lifted k place place' outer outer' U U' g)) ((f.stays t _ is).finished));
      }

  -- ---- notes of ends

  module _ (i : List ℤ) (w : List ℕ) where
    -- the image before a note of its own
    own-notes : IsInteger t → (kind : ℕ) → IsInteger kind → (s : Span) (rest : PStmts) (q : Around) (o : List PFrame) (V : Variables) → HasVariables x.main.added V → (said : Note) (IsSo : Bool → Task → Type 0) →
        ((v : Value) → spelled said 0 v ≡ record { kind = kind; subject = t; argument = 0; index = v; owner = 0 }) → member_of said ≡ pos 0 → ((v : Bool) →
        ComesTo (IsSo v) (going x can t i w rest q o (hearing x v V))) →
        IsNoting f said IsSo (task_in (text x) t i w (control (stmt_then (own_note X s kind 0) rest) q o V))
    own-notes fits kind small s rest q o V there said IsSo spells named comes =
        notes x can t V s kind (own_number X s) 0 (number s 0) 0 t (pos 0) small refl refl
        (record { subject = literal (text x).types V t s fits; subject_fits = fits; index = zero-told (text x).types V s })
        there i w rest q o f said 0 IsSo spells named comes

    -- behind the statements of a unit
    pub unit-tells : (s : Span) (hs : PHandlers) (taken : Option Raised) (V V' : Variables) → HasVariables x.main.added V' → f.IsSo t (task_in (form x) t i w (control no_stmt (OwnBody hs taken) [] V)) →
        IsNoting f (AtEnd t) (λ v. IsLeaving f t (task_in (form x) t i w (control no_stmt (OwnBody hs taken) [] V))) (task_in (text x) t i w (control (one (own_note X s at_end 0)) (OwnBody no_handler None) [] V'))
    unit-tells s hs taken V V' there is =
        own-notes (f.fits t _ is) at_end refl s no_stmt (OwnBody no_handler None) [] V' there (AtEnd t) _ (λ v. refl) refl
        (λ v. here _ (record { output = refl; offers = record { rests = refl; offers = refl } }))

    module _ (k : ℕ) (a : OpenAccept (unit_rows x t) x.main.added (below_at (unit_rows x t) (teller x t) k)) where
      variables : HasVariables x.main.added (vars_there a)
      variables = variables-open Y X can.names a (variables-at Y X can.names k a.place a.place' a.outer a.outer' a.vars a.vars' a.below)

      abbrev ended : Option Raised → Task
      ended pending = task_in (form x) t i w (control no_stmt (Opened a.caller a.formals pending) (frame a.row a.place ∷ a.outer) (a.objects ++ a.vars))

      -- as the image has told it is at the end of the accept body
      heard : (pending : Option Raised) (v : Bool) → f.IsSo t (ended pending) →
          IsEnding f t (ended pending) (task_in (text x) t i w (control no_stmt (Opened a.caller (formals_there a) pending) (frames_outside a) (hearing x v (vars_there a))))
      heard pending v is =
          subst (λ W. IsEnding f t (ended pending) (task_in (text x) t i w (control no_stmt (Opened a.caller (formals_there a) pending) (frames_outside a) W)))
          (sym (own-heard k a.caller a.formals a.place a.place' a.outer a.outer' v a.own (a.objects ++ a.vars') a.named))
          (ends k a.caller a.formals a.place a.place' a.outer a.outer' i w a.row a.row' a.rows pending a.own a.named
          (ahead-heard k a.caller a.formals a.place a.place' a.outer a.outer' v (fronts a.objects a.vars a.vars' a.are_open a.below)) is)

      pub body-tells : f.IsSo t (ended None) →
          IsNoting f (AtFinish t) (λ v. IsEnding f t (ended None)) (task_in (text x) t i w (control (one (finish_note X a.span)) (Opened a.caller (formals_there a) None) (frames_outside a) (vars_there a)))
      body-tells is =
          own-notes (f.fits t _ is) at_finish refl a.span no_stmt (Opened a.caller (formals_there a) None) (frames_outside a) (vars_there a) variables (AtFinish t) _
          (λ v. refl) refl (λ v. here _ (heard None v is))

      pub left-tells : (e : Raised) → f.IsSo t (ended (Some e)) →
          IsNoting f (AtFinish t) (λ v. IsEnding f t (ended (Some e)))
          (task_in (text x) t i w (control (stmt_then (finish_note X a.span) (one (raise_again a.span))) (Handling e) (body_frame X a.span a.caller (formals_there a) ∷ frames_outside a) (vars_there a)))
      left-tells e is =
          own-notes (f.fits t _ is) at_finish refl a.span (one (raise_again a.span)) (Handling e) (body_frame X a.span a.caller (formals_there a) ∷ frames_outside a)
          (vars_there a) variables (AtFinish t) _ (λ v. refl) refl
          (λ v. later (reaches_by _ _ refl refl (reaches_here _)) (here _ (heard (Some e) v is)))
