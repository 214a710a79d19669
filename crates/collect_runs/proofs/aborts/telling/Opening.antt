-- An accept body opens: the acceptor keeps its caller, tells that the call has been accepted, and keeps the answer. Where the caller is served both are in
-- the body then; where it is refused the image is at the end of its body, and as that has ended it is at its try again.
use Rattle.std.proofs.Common.{arith, ◌≡◌, ◌≤◌, ◌<◌, ◌==◌, ℕ, ℤ, pos, Bool, true, false, if◌then◌else◌, cond, List, ◌∷◌, ◌++◌, Some, None, Ok, Err, refl, sym, ap, subst, ◌∙◌}
use Rattle.common_lemmas.proofs.Numbers.{equal_self, unequal_turned}
use Rattle.ada_tree.specs.declared.naming.NameId.{NameId}
use Rattle.ada_tree.specs.declared.naming.Span.{Span}
use Rattle.ada_tree.specs.PlainExpr.{EName}
use Rattle.ada_tree.specs.PlainStmt.{PHead, SExit, PStmts, no_stmt, stmt_then, PMaybe, absent, present}
use Rattle.ada_value.specs.declared.values.Value.{Value}
use Rattle.ada_value.specs.declared.values.Value.TheVariants.{Number, Truth}
use Rattle.ada_value.specs.declared.values.Raised.TheVariants as raised
use Rattle.ada_value.specs.Variables.{Variables, object_named, value_there, set_value}
use Rattle.ada_value.specs.Evaluating.{name_value, evaluated}
use Rattle.ada_value.specs.Values.{integer_limits, truth_limits}
use Rattle.task_model.specs.declared.parameters.FormalParameter.{FormalParameter}
use Rattle.task_model.specs.Setting.{entry_of}
use Rattle.task_model.specs.Frames.{Endless, Block, Loop, Opened, PFrame, control, settled, callers_in, caller_at, callers_among}
use Rattle.task_model.specs.Tasks.{Task, stmts_or_none, gone_to}
use Rattle.task_model.specs.Rendezvous.{accepted}
use Rattle.task_laws.specs.translation.OldTexts.{only_names}
use Rattle.task_laws.specs.translation.Images.{ImageMaybe, image_absent, image_present}
use Rattle.task_laws.specs.translation.Controls.{frame, task_in, Under, on_floor, inside, alike}
use Rattle.normal_model.specs.Making.{one}
use Rattle.normal_model.proofs.WalkLemmas.{in_front-nil}
use Rattle.normal_laws.specs.runs.floors.Preludes.{IsCell, Reaches, reaches_here}
use Rattle.normal_laws.proofs.runs.floors.Cells.{named-set_other, cell-set, cell-kept}
use Rattle.collect_model.specs.Noting.{has_begun, number as number_at}
use Rattle.collect_model.specs.Serving.{begin_note}
use Rattle.collect_runs.specs.telling.Texts.{IsInteger, TellsMember}
use Rattle.collect_runs.specs.telling.Meetings.{ComesTo}
use Rattle.collect_runs.proofs.telling.Noting.{here, later, literal}
use Rattle.collect_runs.proofs.telling.Hearing.{cell-worth, if-goes}
use Rattle.collect_model.specs.aborts.AbortTeller.{AbortTeller}
use Rattle.collect_model.specs.aborts.Serving.{variable_is, is_not_refused, unless_refused, begins}
use Rattle.run_laws.specs.aborts.Notes.{HasBegun}
use Rattle.run_laws.specs.aborts.Copies.{Begun, done_by}
use Rattle.collect_runs.specs.aborts.translation.Rows.{Telling, telling_none, telling_rows}
use Rattle.collect_runs.specs.aborts.translation.Floors.{IsPlace, ArePlacesAdded, OpenPlace, innermost, ends_service, OpenAccept, formals_there, frames_outside, vars_there, accept_body, keep_then}
use Rattle.collect_runs.proofs.aborts.translation.Floors.{variables-there}
use Rattle.collect_runs.specs.aborts.telling.Texts.{Texts, plain, form, text, teller, unit_translation, program_of, CanTell}
use Rattle.collect_runs.specs.aborts.telling.Forms.{Form}
use Rattle.collect_runs.specs.aborts.telling.Meetings.{IsBased, IsNoting, IsRefusing, IsBehind, IsOwing}
use Rattle.collect_runs.proofs.aborts.telling.Noting.{hearing, notes}
use Rattle.collect_runs.proofs.aborts.telling.Ending.{callers-alike}
use Rattle.collect_runs.proofs.aborts.telling.Pairs.{comes}
use Rattle.collect_runs.proofs.aborts.telling.Placing.{MeanSame, callers-kept, places-kept, answer-set, taken-set, refused-set, passed-front, set-front, mean-front}
use Rattle.collect_runs.proofs.aborts.telling.Going.{assign-goes, refused-worth}
use Rattle.collect_runs.proofs.aborts.telling.Turning.{Stays, has-variables, stays-set, stays-heard, tries-on}
use Rattle.collect_runs.proofs.telling.Opening.{opened-settled}
use Rattle.collect_runs.proofs.recorder.Finding.{truth-checked}
use Rattle.replay_runs.proofs.controls.meanings.Ends.{formals-left}

-- ---- formals that open

module _ (x : Texts) (can : CanTell x) (f : Form x) (t : ℕ) (added : ArePlacesAdded x.programs (teller x t) (x.places t)) (i : List ℤ) (w : List ℕ) (p : OpenPlace) (ps : List OpenPlace)
    (after : innermost ps < p.place) (upto : p.place ≤ x.places t) where
  abbrev X : AbortTeller
  X = teller x t

  is-place : IsPlace (x.places t) p.place
  is-place = (omega (arith, after), upto)

  abbrev Standing : PStmts → List FormalParameter → List PFrame → Variables → Task
  Standing r fs o V = task_in (text x) t i w (control r (Opened p.caller fs None) o V)

  -- the accept with these variables of the image below it
  module _ (a : OpenAccept (unit_translation x t ps) (teller x t) p) where
    abbrev Below : Variables → Type 0
    Below U = Stays x can t added ps a.place a.outer a.vars a.place' a.outer' U

    abbrev over : (U : Variables) → Below U → OpenAccept (unit_translation x t ps) (teller x t) p
    over U s = record a { vars' = U; below = s.under }

    -- the acceptor in its accept body
    abbrev acceptor : PMaybe → Task
    acceptor m = task_in (form x) t i w (control (stmts_or_none m) (Opened p.caller a.formals None) (frame a.row a.place ∷ a.outer) (a.objects ++ a.vars))

    -- ---- the caller is served

    module _ (U : Variables) (s : Below U) (taken : IsCell U (x.main.taken p.place) integer_limits (Number (pos p.caller))) where
      abbrev there : Variables
      there = a.own ∷ (a.objects ++ U)

      means : (n : ℕ) → MeanSame x.programs (teller x t) (x.places t) n U there
      means n = mean-front x.programs X (x.places t) added a.own a.named a.are_open n U

      serves : (m m' : PMaybe) → ImageMaybe (telling_rows (only_names x.programs) (teller x t) p.place (x.places t)) m m' →
          IsCell U (x.main.refused p.place) truth_limits (Truth false) → f.plainly.IsSo t (acceptor m) →
          ComesTo (IsBased f t (acceptor m)) (Standing (stmts_or_none m') (formals_there a) (frames_outside a) (a.own ∷ (a.objects ++ U)))
      serves m m' img refused own =
          comes x f t (acceptor m) _ (record {
            opened = p ∷ ps;
            like = acceptor m;
            is_like = f.like_self t (acceptor m) own;
            paired = record {
              own = own;
              alike = alike t i w _ _ (inside (stmts_or_none m) (stmts_or_none m') (row-of img) (on_floor (accept_body (over U s) None)));
              left = opened-settled (stmts_or_none m') p.caller (formals_there a) (frames_outside a) (a.own ∷ (a.objects ++ U));
              places = places-kept x.programs X (x.places t) (means (x.places t)) s.places;
              keeps =
                  keep_then p ps after upto (cell-kept U there _ _ _ ((means (x.places t)).taken p.place is-place upto) taken)
                  (cell-kept U there _ _ _ ((means (x.places t)).refused p.place is-place upto) refused)
                  (callers-kept x.programs X (x.places t) ps (innermost ps) (omega arith) (means (innermost ps)) s.keeps);
            };
          })
        where
          row-of : {n n' : PMaybe} → ImageMaybe (telling_rows (only_names x.programs) (teller x t) p.place (x.places t)) n n' →
              Telling (only_names x.programs) (teller x t) p.place (x.places t) (stmts_or_none n) (stmts_or_none n')
          row-of image_absent = telling_none
          row-of (image_present l l' k) = k

    -- ---- the caller is refused

    module _ (σ : Task) (out : σ.output ≡ w) (around : callers_in σ.control ≡ caller_at a.place ++ callers_among a.outer)
        (again : (U : Variables) → Stays x can t added ps a.place a.outer a.vars a.place' a.outer' U →
        ComesTo (IsBased f t σ) (task_in (text x) t i w (settled (control a.turn (Loop None Endless a.turn) (frame a.after a.place' ∷ a.outer') U)))) where
      refuses : (U : Variables) → Below U → IsCell U (x.main.refused p.place) truth_limits (Truth true) →
          IsRefusing f t p.caller σ (Standing no_stmt (formals_there a) (frames_outside a) (a.own ∷ (a.objects ++ U)))
      refuses U s refused = record {
        output = sym out;
        offers = record { rests = refl; offers = refl };
        callers = ap (λ cs. p.caller ∷ cs) (callers-alike x t ps s.under ∙ sym around);
        tries_again =
            subst (λ V. ComesTo (IsBased f t σ)
            (gone_to a.inner (task_in (text x) t i w
            (control no_stmt (Block (ends_service (teller x t) a.span p.place)) (frame (one (SExit None (Some a.test) a.span)) (Loop None Endless a.turn) ∷ frame a.after a.place' ∷ a.outer') V))))
            (sym (formals-left a.are_open U)) (tries-on x can t added ps i w a.span p.place a.inner a.turn a.test a.after a.row' a.behind U s refused again);
      }

      -- ---- the body's first statements

      module _ (h : PHead) (zz : Span) (e : ℕ) (z : ℤ) (v : Task) (m m' : PMaybe) (img : ImageMaybe (telling_rows (only_names x.programs) (teller x t) p.place (x.places t)) m m')
          (accepts : accepted e z p.caller v σ ≡ task_in (form x) t i w (control (stmts_or_none m) (Opened p.caller a.formals None) (frame a.row a.place ∷ a.outer) (a.objects ++ a.vars)))
          (own : f.plainly.IsSo t (task_in (form x) t i w (control (stmts_or_none m) (Opened p.caller a.formals None) (frame a.row a.place ∷ a.outer) (a.objects ++ a.vars))))
          (kept : value_there a.own 0 ≡ Number (pos p.caller)) (s0 : Stays x can t added ps a.place a.outer a.vars a.place' a.outer' a.vars') where
        -- the variables below, as the caller is kept, as the answer is heard, and as it is kept
        abbrev W1 : Variables
        W1 = set_value a.vars' (x.main.taken p.place) 0 (Number (pos p.caller))

        abbrev W2 : Bool → Variables
        W2 d = hearing x d (set_value a.vars' (x.main.taken p.place) 0 (Number (pos p.caller)))

        abbrev W3 : Bool → Variables
        W3 d = set_value (hearing x d (set_value a.vars' (x.main.taken p.place) 0 (Number (pos p.caller)))) (x.main.refused p.place) 0 (Truth d)

        s1 : Below W1
        s1 =
            stays-set x can t added ps s0 (x.main.taken p.place) 0 (Number (pos p.caller)) (added.taken p.place is-place)
            (taken-set x.programs X (x.places t) added p.place (innermost ps) is-place after a.vars' 0 (Number (pos p.caller)))

        s2 : (d : Bool) → Below (W2 d)
        s2 d = stays-heard x can t added ps s1 d

        s3 : (d : Bool) → Below (W3 d)
        s3 d =
            stays-set x can t added ps (s2 d) (x.main.refused p.place) 0 (Truth d) (added.refused p.place is-place)
            (refused-set x.programs X (x.places t) added p.place (innermost ps) is-place after (W2 d) 0 (Truth d))

        taken1 : IsCell W1 (x.main.taken p.place) integer_limits (Number (pos p.caller))
        taken1 = cell-set a.vars' (x.main.taken p.place) integer_limits _ (Number (pos p.caller)) (s0.places.taken p.place is-place).1

        taken3 : (d : Bool) → IsCell (W3 d) (x.main.taken p.place) integer_limits (Number (pos p.caller))
        taken3 d =
            cell-kept (W2 d) (W3 d) _ _ _
            (named-set_other (W2 d) (x.main.refused p.place) 0 (Truth d) (x.main.taken p.place)
            (unequal_turned (x.main.taken p.place).0 (x.main.refused p.place).0 (added.taken_refused p.place p.place is-place is-place)))
            (cell-kept W1 (W2 d) _ _ _ ((answer-set x.programs X (x.places t) added p.place W1 0 (Truth d)).taken p.place is-place (omega arith)) taken1)

        refused3 : (d : Bool) → IsCell (W3 d) (x.main.refused p.place) truth_limits (Truth d)
        refused3 d = cell-set (W2 d) (x.main.refused p.place) truth_limits _ (Truth d) ((s2 d).places.refused p.place is-place).1

        -- into the body, or past it
        abbrev front : Variables → Variables
        front U = a.own ∷ (a.objects ++ U)

        abbrev standing : PStmts → Variables → Task
        standing r V = task_in (text x) t i w (control r (Opened p.caller (formals_there a) None) (frames_outside a) V)

        abbrev gone : PStmts → Variables → Task
        gone r V = task_in (text x) t i w (settled (control r (Opened p.caller (formals_there a) None) (frames_outside a) V))

        unless-goes : (n : PMaybe) (d : Bool) (V : Variables) → IsCell V (x.main.refused p.place) truth_limits (Truth d) →
            Reaches (gone (unless_refused X zz p.place n) V) (standing (if d then no_stmt else stmts_or_none n) V)
        unless-goes absent true V c = reaches_here _
        unless-goes absent false V c = reaches_here _
        unless-goes (present l) true V c =
            if-goes (plain x) t i w (Opened p.caller (formals_there a) None) (frames_outside a) (is_not_refused X zz p.place) l absent zz no_stmt V false (refused-worth x t i w X zz p.place V true c)
        unless-goes (present l) false V c =
            subst (Reaches (gone (unless_refused X zz p.place (present l)) V))
            (ap (λ r. gone r V) (in_front-nil l) ∙ ap (λ q. task_in (text x) t i w q) (opened-settled l p.caller (formals_there a) (frames_outside a) V))
            (if-goes (plain x) t i w (Opened p.caller (formals_there a) None) (frames_outside a) (is_not_refused X zz p.place) l absent zz no_stmt V true
            (refused-worth x t i w X zz p.place V false c))

        refused-there : (d : Bool) → IsCell (front (W3 d)) (x.main.refused p.place) truth_limits (Truth d)
        refused-there d =
            cell-kept (W3 d) (front (W3 d)) _ _ _ ((mean-front x.programs X (x.places t) added a.own a.named a.are_open p.place (W3 d)).refused p.place is-place (omega arith)) (refused3 d)

        decides : (d : Bool) → ComesTo (IsBehind f (done_by (program_of x) t d (Begun p.caller e z v) σ)) (gone (unless_refused X zz p.place m') (front (W3 d)))
        decides true = later (unless-goes m' true (front (W3 true)) (refused-there true)) (here _ (refuses (W3 true) (s3 true) (refused3 true)))
        decides false =
            later (unless-goes m' false (front (W3 false)) (refused-there false))
            (subst (λ ρ. ComesTo (IsBased f t ρ) (standing (stmts_or_none m') (front (W3 false)))) (sym accepts) (serves (W3 false) (s3 false) (taken3 false) m m' img (refused3 false) own))

        -- the image keeps the answer
        hears : (d : Bool) → ComesTo (IsBehind f (done_by (program_of x) t d (Begun p.caller e z v) σ))
            (gone (stmt_then (variable_is zz (x.main.refused p.place) x.main.teller.added.answer) (unless_refused X zz p.place m')) (hearing x d (front W1)))
        hears d =
            subst (λ V. ComesTo (IsBehind f (done_by (program_of x) t d (Begun p.caller e z v) σ))
            (gone (stmt_then (variable_is zz (x.main.refused p.place) x.main.teller.added.answer) (unless_refused X zz p.place m')) V))
            (sym (set-front x.programs X (x.places t) added a.own a.named a.are_open W1 x.main.teller.added.answer 0 (Truth d) can.plainly.names.answer can.plainly.names.caller_answer))
            (later (assign-goes x t i w zz (x.main.refused p.place) x.main.teller.added.answer truth_limits _ (Truth d) (unless_refused X zz p.place m') (Opened p.caller (formals_there a) None)
            (frames_outside a) (front (W2 d)) refused-cell answer-worth (truth-checked d))
            (subst (λ V. ComesTo (IsBehind f (done_by (program_of x) t d (Begun p.caller e z v) σ)) (gone (unless_refused X zz p.place m') V))
            (sym (set-front x.programs X (x.places t) added a.own a.named a.are_open (W2 d) (x.main.refused p.place) 0 (Truth d) (added.refused p.place is-place)
            (added.caller_refused p.place is-place)))
            (decides d)))
          where
            refused-cell : IsCell (front (W2 d)) (x.main.refused p.place) truth_limits ((s2 d).places.refused p.place is-place).0
            refused-cell =
                cell-kept (W2 d) (front (W2 d)) _ _ _ ((mean-front x.programs X (x.places t) added a.own a.named a.are_open p.place (W2 d)).refused p.place is-place (omega arith))
                ((s2 d).places.refused p.place is-place).1

            answer-worth : evaluated (text x).types (front (W2 d)) (EName x.main.teller.added.answer zz) ≡ Ok (Truth d)
            answer-worth =
                cell-worth (text x).types (front (W2 d)) x.main.teller.added.answer truth_limits (Truth d) zz
                (cell-kept (W2 d) (front (W2 d)) _ _ _
                (passed-front x.programs X (x.places t) added a.own a.named a.are_open (W2 d) x.main.teller.added.answer can.plainly.names.answer can.plainly.names.caller_answer)
                (cell-set W1 x.main.teller.added.answer truth_limits _ (Truth d) (has-variables x can t added ps s1).answer.1))

        -- the caller's variable is worth its number
        caller-worth : (V : Variables) → evaluated (text x).types (a.own ∷ V) (EName x.main.teller.added.caller zz) ≡ Ok (Number (pos p.caller))
        caller-worth V =
            ap (λ c. Ok (name_value (text x).types (cond c (Some a.own) (object_named V x.main.teller.added.caller)) x.main.teller.added.caller))
            (ap (λ (n : NameId). n.0 == x.main.teller.added.caller.0) a.named ∙ equal_self x.main.teller.added.caller.0)
            ∙ ap (λ (u : Value). Ok u) kept

        module _ (number : entry_of x.main.teller.numbers t h.entry.name ≡ e) (fits : IsInteger e)
            (told : (U : Variables) → Under (unit_translation x t ps) a.place a.outer a.vars a.place' a.outer' U →
            TellsMember (text x).types (a.own ∷ (a.objects ++ U)) (x.main.teller.member (entry_of x.main.teller.numbers t h.entry.name) zz h.index) z) where
          -- it tells that the call is accepted
          noting : IsNoting f (HasBegun p.caller e z t) (λ d. IsBehind f (done_by (program_of x) t d (Begun p.caller e z v) σ))
              (standing (stmt_then (begin_note (teller x t).teller zz h) (stmt_then (variable_is zz (x.main.refused p.place) x.main.teller.added.answer) (unless_refused X zz p.place m'))) (front W1))
          noting =
              notes x can t (front W1) zz has_begun (EName x.main.teller.added.caller zz) (number_at zz (entry_of x.main.teller.numbers t h.entry.name))
              (x.main.teller.member (entry_of x.main.teller.numbers t h.entry.name) zz h.index) t p.caller (entry_of x.main.teller.numbers t h.entry.name) z refl (f.plainly.fits t _ own)
              (record {
                subject = caller-worth (a.objects ++ W1);
                subject_fits = a.caller_fits;
                argument = literal (text x).types (front W1) (entry_of x.main.teller.numbers t h.entry.name) zz entry-fits;
                argument_fits = entry-fits;
                index = told W1 s1.under;
              })
              (variables-there (only_names x.programs) X (x.places t) can.plainly.names (p ∷ ps) (on_floor (accept_body (over W1 s1) None))) i w
              (stmt_then (variable_is zz (x.main.refused p.place) x.main.teller.added.answer) (unless_refused X zz p.place m')) (Opened p.caller (formals_there a) None) (frames_outside a)
              f (HasBegun p.caller e z t) 0 (λ d. IsBehind f (done_by (program_of x) t d (Begun p.caller e z v) σ))
              (λ u. ap (λ n. record { kind = has_begun; subject = p.caller; argument = n; index = u; owner = t }) (sym number)) refl hears
            where
              entry-fits : IsInteger (entry_of x.main.teller.numbers t h.entry.name)
              entry-fits = subst IsInteger (sym number) fits

          -- So it comes to where it is to tell what it has begun.
          pub begins-owes : ComesTo (IsOwing f t (Begun p.caller e z v) σ)
              (task_in (text x) t i w (control (begins (teller x t) zz p.place h m') (Opened p.caller (formals_there a) None) (frames_outside a) (vars_there a)))
          begins-owes =
              later (assign-goes x t i w zz (x.main.taken p.place) x.main.teller.added.caller integer_limits _ (Number (pos p.caller)) _ (Opened p.caller (formals_there a) None) (frames_outside a)
              (vars_there a) taken-cell (caller-worth (a.objects ++ a.vars')) (ap (λ c. if c then Ok (Number (pos p.caller)) else Err raised.Constraint) a.caller_fits))
              (subst (λ V. ComesTo (IsOwing f t (Begun p.caller e z v) σ)
              (standing (stmt_then (begin_note (teller x t).teller zz h) (stmt_then (variable_is zz (x.main.refused p.place) x.main.teller.added.answer) (unless_refused X zz p.place m'))) V))
              (sym (set-front x.programs X (x.places t) added a.own a.named a.are_open a.vars' (x.main.taken p.place) 0 (Number (pos p.caller)) (added.taken p.place is-place)
              (added.caller_taken p.place is-place)))
              (here _ (record { output = sym out; callers = ap (λ cs. p.caller ∷ cs) (callers-alike x t ps a.below ∙ sym around); notes = noting })))
            where
              taken-cell : IsCell (vars_there a) (x.main.taken p.place) integer_limits (s0.places.taken p.place is-place).0
              taken-cell =
                  cell-kept a.vars' (vars_there a) _ _ _ ((mean-front x.programs X (x.places t) added a.own a.named a.are_open p.place a.vars').taken p.place is-place (omega arith))
                  (s0.places.taken p.place is-place).1
