-- The image accepts a caller where the task does: it comes to where it is to tell what it has begun.
use Rattle.std.proofs.Common.{arith, ◌≡◌, ◌≤◌, ◌<◌, ◌+◌, ℕ, ℤ, pos, false, List, ◌∷◌, ◌++◌, Some, None, Ok, refl, sym, subst}
use Rattle.ada_tree.specs.declared.naming.Span.{Span}
use Rattle.ada_tree.specs.PlainExpr.{PExpr}
use Rattle.ada_tree.specs.PlainStmt.{PHead, PStmt, SExit, SAccept, SWait, SIf, PStmts, stmt_then, PMaybe, absent, PAccept, PAlts}
use Rattle.ada_value.specs.declared.values.Value.{Value}
use Rattle.ada_value.specs.declared.values.Value.TheVariants.{Number}
use Rattle.ada_value.specs.Variables.{Object, Variables}
use Rattle.task_model.specs.declared.parameters.FormalParameter.{FormalParameter}
use Rattle.task_model.specs.Setting.{entry_of, member_index, parameters_of}
use Rattle.task_model.specs.Frames.{Endless, Around, Block, Loop, Opened, PFrame, control, settled, in_front}
use Rattle.task_model.specs.Tasks.{Task, stmts_or_none}
use Rattle.task_model.specs.Calls.{values_handed, opened_object, opened_objects}
use Rattle.task_model.specs.Stands.{can_step}
use Rattle.task_model.specs.Waits.{Accepts}
use Rattle.task_model.specs.Rendezvous.{alternative_opened, accepted}
use Rattle.task_laws.specs.translation.Translations.{Rewriting}
use Rattle.task_laws.specs.translation.Scopes.{SeeAlike}
use Rattle.task_laws.specs.translation.OldTexts.{only_names, OldFormals, OldStmt}
use Rattle.task_laws.specs.translation.Images.{ImageMaybe}
use Rattle.task_laws.specs.translation.Controls.{frame, task_in, Under}
use Rattle.task_laws.proofs.translation.Frames.{sees-alike}
use Rattle.normal_model.specs.Making.{one}
use Rattle.normal_model.specs.Walk.{Rewriter, after_parts, after_alts, inside_accept, inside_alts, inside_maybe}
use Rattle.normal_model.proofs.WalkLemmas.{in_front-nil}
use Rattle.normal_laws.specs.runs.floors.Meetings.{AreValues}
use Rattle.normal_laws.specs.runs.floors.NormalFloors.{AreOpen}
use Rattle.normal_laws.specs.runs.floors.Preludes.{Added, reaches_here, reaches_by}
use Rattle.normal_laws.proofs.runs.floors.Meetings.{formals-named, formals-same}
use Rattle.collect_model.specs.Serving.{head_telling}
use Rattle.collect_runs.specs.translation.Floors.{caller_parameter}
use Rattle.collect_runs.specs.telling.Texts.{IsInteger, TellsMember, IsHeadAlike}
use Rattle.collect_runs.specs.telling.Meetings.{ComesTo}
use Rattle.collect_model.specs.aborts.AbortTeller.{AbortTeller}
use Rattle.collect_model.specs.aborts.Places.{with_place}
use Rattle.collect_model.specs.aborts.AbortStmts.{abort_rewriter}
use Rattle.collect_model.specs.aborts.Noting.{over}
use Rattle.collect_model.specs.aborts.Serving.{is_not_refused, begins, accept_told, service_watched}
use Rattle.collect_model.specs.aborts.Waiting.{wait_told, is_taken, branches}
use Rattle.run_laws.specs.aborts.Copies.{Begun}
use Rattle.collect_runs.specs.aborts.translation.Rows.{Telling, telling_rows}
use Rattle.collect_runs.specs.aborts.translation.Floors.{OpenPlace, innermost, ends_service, Behind, OpenAccept, HasPlaces, KeepCallers}
use Rattle.collect_runs.proofs.aborts.translation.Rows.{are-images}
use Rattle.collect_runs.specs.aborts.telling.Texts.{Texts, plain, form, text, teller, unit_translation, CanTell}
use Rattle.collect_runs.specs.aborts.telling.Forms.{Form}
use Rattle.collect_runs.specs.aborts.telling.Meetings.{at_try, they_try, IsBased, IsOwing}
use Rattle.collect_runs.proofs.aborts.telling.Moving.{laws, added-there}
use Rattle.collect_runs.proofs.aborts.telling.Opening.{begins-owes}
use Rattle.collect_runs.proofs.telling.Opening.{opened-known, opened-same}

-- no variables are added as by a normal form
no_variables : (x : Texts) → Added x.programs (form x)
no_variables x = record { count = 0; bounds = λ k. record { kind = 0; first = pos 0; last = pos 0 }; new = λ k l. absurd (none k l); apart = λ j k l m e. absurd (none j l) }
  where
    none : (k : ℕ) → k < 0 → ⊥
    none k l = omega (arith, l)

module _ (x : Texts) (can : CanTell x) (f : Form x) (t : ℕ) (ps : List OpenPlace) (i : List ℤ) (w : List ℕ) (st st' : PStmt) (n : ℕ) (behind-open : innermost ps < n) (upto : n ≤ x.places t)
    (s0 : Span) (test : PExpr) (turn after r : PStmts) {q q' : Around} {o o' : List PFrame} {V W : Variables} (v : Under (unit_translation x t ps) q o V q' o' W)
    (places : HasPlaces (teller x t) (x.places t) W) (keeps : KeepCallers (teller x t) (x.places t) W ps)
    (own : f.plainly.IsSo t (task_in (form x) t i w (control (stmt_then st r) q o V)))
    (again : (U : Variables) → Under (unit_translation x t ps) q o V q' o' U → HasPlaces (teller x t) (x.places t) U → KeepCallers (teller x t) (x.places t) U ps →
    ComesTo (IsBased f t (task_in (form x) t i w (control (stmt_then st r) q o V)))
    (task_in (text x) t i w (settled (control turn (Loop None Endless turn) (frame after q' ∷ o') U)))) where
  abbrev X : AbortTeller
  X = teller x t

  abbrev σ : Task
  σ = task_in (form x) t i w (control (stmt_then st r) q o V)

  module _ (z : ℤ) (h : PHead) (m m' : PMaybe) (l inner row' : PStmts) (s : Span) (old : OldFormals x.programs h.formals)
      (img : ImageMaybe (telling_rows (only_names x.programs) (teller x t) n (x.places t)) m m') (heads : (U : Variables) → SeeAlike x.programs V U → IsHeadAlike (plain x) t h V U)
      (worth : member_index (form x) V (entry_of (form x).numbers t h.entry.name) h.index ≡ Ok z) (behind : Behind (teller x t) s0 n inner test after row')
      (rows : Telling (only_names x.programs) (teller x t) (innermost ps) (x.places t) (in_front l r) row')
      (c : ℕ) (fits : IsInteger c) (caller : Task) (known : AreValues x.programs (values_handed caller)) where
    abbrev vs : List Value
    vs = values_handed caller

    abbrev e : ℕ
    e = entry_of (form x).numbers t h.entry.name

    abbrev Y : Rewriting
    Y = telling_rows (only_names x.programs) (teller x t) (innermost ps) (x.places t)

    abbrev fs : List FormalParameter
    fs = parameters_of (form x).types h.formals

    abbrev caller_object : Object
    caller_object = opened_object (caller_parameter x.main.teller.added (text x).types) (Number (pos c))

    same-formals : parameters_of (form x).types h.formals ≡ parameters_of (text x).types h.formals
    same-formals = formals-same Y (are-images (only_names x.programs) X (innermost ps) (x.places t)) can.plainly.types (no_variables x) old

    are-open : AreOpen x.programs fs (opened_objects (form x).types fs vs)
    are-open = opened-known x.programs can.plainly.types (formals-named Y (are-images (only_names x.programs) X (innermost ps) (x.places t)) can.plainly.types (no_variables x) old) known

    -- the accept that both have opened
    abbrev opened : OpenAccept (unit_translation x t ps) (teller x t) (record { place = n; caller = c })
    opened = record {
      place = q;
      place' = q';
      outer = o;
      outer' = o';
      vars = V;
      vars' = W;
      below = v;
      row = in_front l r;
      row' = row';
      rows = rows;
      formals = fs;
      objects = opened_objects (form x).types fs vs;
      are_open = are-open;
      own = caller_object;
      named = refl;
      span = s0;
      inner = inner;
      test = test;
      turn = turn;
      after = after;
      caller_fits = fits;
      behind = behind;
    }

    -- the acceptor
    abbrev acceptor : Task
    acceptor = task_in (form x) t i w (control (stmts_or_none m) (Opened c fs None) (frame (in_front l r) q ∷ o) (opened_objects (form x).types fs vs ++ V))

    begun : accepted e z c caller σ ≡ acceptor → f.plainly.IsSo t acceptor → ComesTo (IsOwing f t (Begun c e z caller) σ)
        (task_in (text x) t i w (control (begins (teller x t) s n h m') (Opened c (caller_parameter x.main.teller.added (text x).types ∷ fs) None)
        (frame inner (Block (ends_service (teller x t) s0 n)) ∷ frame (one (SExit None (Some test) s0)) (Loop None Endless turn) ∷ frame after q' ∷ o')
        (caller_object ∷ (opened_objects (form x).types fs vs ++ W))))
    begun accepts is =
        begins-owes x can f t (added-there x can t f _ own) i w (record { place = n; caller = c }) ps behind-open upto opened σ refl refl (λ U s1. again U s1.under s1.places s1.keeps)
        h s e z caller m m' img accepts is refl (record { under = v; places = places; keeps = keeps }) there.number there.entry_fits
        (λ U u. member-here U ((heads U (sees-alike _ (laws x can t ps) u)).told z worth caller_object refl vs s))
      where
        there : IsHeadAlike (plain x) t h V W
        there = heads W (sees-alike _ (laws x can t ps) v)

        Member : Variables → List Object → Type 0
        Member U os = TellsMember (text x).types (caller_object ∷ (os ++ U)) (x.main.teller.member (entry_of x.main.teller.numbers t h.entry.name) s h.index) z

        member-here : (U : Variables) → Member U (opened_objects (text x).types (parameters_of (text x).types h.formals) vs) → Member U (opened_objects (form x).types fs vs)
        member-here U k = subst (Member U) (sym (opened-same x.programs can.plainly.types fs vs)) (subst (λ gs. Member U (opened_objects (text x).types gs vs)) (sym same-formals) k)

    -- So it tells, once it has opened the alternative's accept body.
    pub opens : accepted (entry_of (form x).numbers t h.entry.name) z c caller (task_in (form x) t i w (control (stmt_then st r) q o V)) ≡
        alternative_opened c (Some (Accepts (entry_of (form x).numbers t h.entry.name) z h (stmts_or_none m) l)) (values_handed caller) (task_in (form x) t i w (control (stmt_then st r) q o V)) →
        ComesTo (IsOwing f t (Begun c (entry_of (form x).numbers t h.entry.name) z caller) (task_in (form x) t i w (control (stmt_then st r) q o V)))
        (alternative_opened c (Some (Accepts (entry_of (form x).numbers t h.entry.name) z (head_telling (teller x t).teller h) (begins (teller x t) s n h m') inner))
        (Number (pos c) ∷ values_handed caller)
        (task_in (text x) t i w
        (control (one st') (Block (ends_service (teller x t) s0 n)) (frame (one (SExit None (Some test) s0)) (Loop None Endless turn) ∷ frame after q' ∷ o') W)))
    opens accepts =
        subst (λ u. ComesTo (IsOwing f t (Begun c e z caller) σ)
        (image (parameters_of (text x).types h.formals) (opened_objects (text x).types (parameters_of (text x).types h.formals) vs) u)) (sym (in_front-nil inner))
        (subst (λ gs. ComesTo (IsOwing f t (Begun c e z caller) σ) (image gs (opened_objects (text x).types gs vs) inner)) same-formals
        (subst (λ os. ComesTo (IsOwing f t (Begun c e z caller) σ) (image fs os inner)) (opened-same x.programs can.plainly.types fs vs)
        (begun accepts (subst (f.plainly.IsSo t) accepts ((f.plainly.stays t σ own).accepted e z c caller)))))
      where
        image : List FormalParameter → List Object → PStmts → Task
        image gs os u =
            task_in (text x) t i w (control (begins (teller x t) s n h m') (Opened c (caller_parameter x.main.teller.added (text x).types ∷ gs) None)
            (frame u (Block (ends_service (teller x t) s0 n)) ∷ frame (one (SExit None (Some test) s0)) (Loop None Endless turn) ∷ frame after q' ∷ o')
            (caller_object ∷ (os ++ W)))

-- ---- a start that is refused

-- a turn of the loop around an accept statement, and around a wait
abbrev pub accept_turn : AbortTeller → Span → ℕ → PAccept → PStmts
accept_turn x s n a = stmt_then (service_watched x s n (SAccept (accept_told x s n a) s)) (one (SExit None (Some (is_not_refused x s n)) s))

abbrev pub wait_turn : AbortTeller → Span → ℕ → PAlts → PMaybe → PStmts
wait_turn x s n alts m = stmt_then (service_watched x s n (wait_told x s n alts m)) (one (SExit None (Some (is_taken x s)) s))

-- Behind its turn the image is at its try again.
module _ (x : Texts) (f : Form x) (t : ℕ) (ps : List OpenPlace) (i : List ℤ) (w : List ℕ) (r r' : PStmts)
    (im : Telling (only_names x.programs) (teller x t) (innermost ps) (x.places t) r r') (n : ℕ) (from : innermost ps ≤ n) where
  abbrev walk : Rewriter ℕ
  walk = abort_rewriter (teller x t)

  pub accept-again : {q q' : Around} {o o' : List PFrame} {V : Variables} (a : PAccept) (s : Span) → OldStmt (only_names x.programs) (SAccept a s) →
      after_parts walk (SAccept a s) (with_place n (SAccept a s)) ≤ x.places t →
      f.plainly.IsSo t (task_in (form x) t i w (control (stmt_then (SAccept a s) r) q o V)) → can_step (task_in (form x) t i w (control (stmt_then (SAccept a s) r) q o V)) ≡ false →
      (U : Variables) → Under (unit_translation x t ps) q o V q' o' U → HasPlaces (teller x t) (x.places t) U → KeepCallers (teller x t) (x.places t) U ps →
      ComesTo (IsBased f t (task_in (form x) t i w (control (stmt_then (SAccept a s) r) q o V)))
      (task_in (text x) t i w (settled (control (accept_turn (teller x t) s (n + 1) (inside_accept walk a (n + 1)))
      (Loop None Endless (accept_turn (teller x t) s (n + 1) (inside_accept walk a (n + 1))))
      (frame (stmt_then (over (teller x t) s (n + 1)) r') q' ∷ o') U)))
  accept-again a s old to own rests U v places keeps = record {
    reached = _;
    reach = reaches_by _ _ refl refl (reaches_here _);
    is = record {
      opened = ps;
      like = _;
      is_like = f.like_self t _ own;
      stands = they_try own rests (at_try i w (SAccept a s) r r' n refl old from to im v) places keeps;
    };
  }

  pub wait-again : {q q' : Around} {o o' : List PFrame} {V : Variables} (alts : PAlts) (m : PMaybe) (s : Span) → OldStmt (only_names x.programs) (SWait alts m s) →
      after_parts walk (SWait alts m s) (with_place n (SWait alts m s)) ≤ x.places t →
      f.plainly.IsSo t (task_in (form x) t i w (control (stmt_then (SWait alts m s) r) q o V)) → can_step (task_in (form x) t i w (control (stmt_then (SWait alts m s) r) q o V)) ≡ false →
      (U : Variables) → Under (unit_translation x t ps) q o V q' o' U → HasPlaces (teller x t) (x.places t) U → KeepCallers (teller x t) (x.places t) U ps →
      ComesTo (IsBased f t (task_in (form x) t i w (control (stmt_then (SWait alts m s) r) q o V)))
      (task_in (text x) t i w (settled (control (wait_turn (teller x t) s (n + 1) (inside_alts walk alts (n + 1)) (inside_maybe walk m (after_alts walk alts (n + 1))))
      (Loop None Endless (wait_turn (teller x t) s (n + 1) (inside_alts walk alts (n + 1)) (inside_maybe walk m (after_alts walk alts (n + 1)))))
      (frame (stmt_then (SIf (branches (teller x t) s (n + 1) (inside_alts walk alts (n + 1)) (inside_maybe walk m (after_alts walk alts (n + 1))) 1) absent s) r') q' ∷ o') U)))
  wait-again alts m s old to own rests U v places keeps = record {
    reached = _;
    reach = reaches_by _ _ refl refl (reaches_here _);
    is = record {
      opened = ps;
      like = _;
      is_like = f.like_self t _ own;
      stands = they_try own rests (at_try i w (SWait alts m s) r r' n refl old from to im v) places keeps;
    };
  }
