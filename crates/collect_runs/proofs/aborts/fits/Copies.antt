-- Whatever the normal form of a legal program does: what comes back to a caller fits its variables, each abort is of a task beside main, and no name of an
-- abort writes.
use Rattle.std.proofs.Common.{◌≡◌, ℕ, ℤ, ◌<◌, ◌++◌, Bool, true, false, List, [], ◌∷◌, length, unwrap_or, Option, Some, None, Result, Ok, Err}
use Rattle.std.proofs.Common.{option_map, refl, sym, ap, subst, ◌∙◌, true≢false, arith}
use Rattle.std.proofs.lemmas.Bool.{eq-eqb, eqb-true}
use Rattle.std.proofs.lemmas.Option.{none-some}
use Rattle.common_lemmas.proofs.Options.{some_same}
use Rattle.common_lemmas.proofs.Lists.{first_same}
use Rattle.event_machine.specs.declared.CallForm.{CallForm}
use Rattle.event_machine.specs.declared.CallForm.TheVariants.{Plain, Conditional, Timed}
use Rattle.event_machine.specs.declared.Choice.{Choice}
use Rattle.event_machine.specs.declared.Standing.TheVariants.{Live, Served}
use Rattle.event_machine.specs.States.{is_completed, is_served_by}
use Rattle.event_machine.specs.Offers.{Finishes, is_finish}
use Rattle.event_machine.specs.Worlds.{World, aborts}
use Rattle.ada_tree.specs.PlainExpr.{PExpr}
use Rattle.ada_tree.specs.PlainStmt.{PCallee, PCall, PStmt, SNull, SAssign, SDelay, SExit, SRaise, SAbort, SCall, SAccept, SWait, SConditional}
use Rattle.ada_tree.specs.PlainStmt.{STimed, SPut, SPutLine, SNewLine, SGet, SIf, SCase, SBlock, SLoop, PStmts, no_stmt, stmt_then}
use Rattle.ada_tree.specs.PlainProgram.{PProgram}
use Rattle.ada_value.specs.declared.values.Value.{Value}
use Rattle.ada_value.specs.declared.values.Raised.{Raised}
use Rattle.ada_value.specs.Values.{and_then}
use Rattle.ada_value.specs.Variables.{Object, Variables, object_named}
use Rattle.task_model.specs.declared.parameters.FormalParameter.{FormalParameter}
use Rattle.task_model.specs.Setting.{Setting, callee_task, task_meant, entry_of, member_index, entry_parameters, lists_of}
use Rattle.task_model.specs.Frames.{Around, OwnBody, Block, Handling, Loop, Opened, caller_at, callers_among, callers_in}
use Rattle.task_model.specs.Tasks.{Task, rest_of, place_of, outer_of, vars_of}
use Rattle.task_model.specs.Calls.{Called, called, called_with, called_by, call_in, openings, finals_in, copied_back}
use Rattle.task_model.specs.Waits.{Open, open_at, is_present, choices_of}
use Rattle.task_model.specs.Stands.{Stand, call_stand, choices_stand, wait_stand, name_stand, stand_at, stand_behind, stand_with, offered, offer_of}
use Rattle.task_model.specs.Rendezvous.{finals_at, call_ended, copies_at, copies_of, passed_at, passed_in}
use Rattle.task_model.specs.TaskOps.{task_ops}
use Rattle.task_laws.specs.invariants.Holding.{AreHeld, Own, opening_at, openings_among, openings_in}
use Rattle.task_laws.specs.invariants.Worlds.{IsIn, IsLinked, AreLinked}
use Rattle.task_laws.proofs.invariants.Variables.{chain, ok_path}
use Rattle.task_laws.specs.statements.Each.{Loops, InStmts, loops_of, HoldsOf}
use Rattle.task_laws.specs.statements.variables.Held.{MeansKept, kept_variable}
use Rattle.task_laws.proofs.statements.variables.Carried.{names_mean_kept}
use Rattle.normal_laws.specs.runs.forms.Normalisable.{numbers_of}
use Rattle.normal_laws.specs.existence.Laws.{IsLegalOriginal}
use Rattle.replay_structure.specs.legal.names.form_units.Inner.{inner_name}
use Rattle.replay_runs.specs.starts.Laws.{form_in, start_before}
use Rattle.replay_runs.specs.starts.Formals.{form_setting}
use Rattle.replay_runs.specs.controls.indices.Laws.{KeepsUnit}
use Rattle.replay_runs.specs.controls.meanings.Settings.{form_opening}
use Rattle.collect_runs.specs.telling.Texts.{Texts, program_of}
use Rattle.collect_runs.specs.imitating.Settings.{IsMade}
use Rattle.collect_runs.specs.aborts.starts.Texts.{recorder_number}
use Rattle.collect_runs.specs.aborts.telling.Forms.{backs, ComesBack}
use Rattle.collect_runs.proofs.aborts.fits.Fitting.{IsBeside, FitsActual, FitActuals, entry_meant, IsFitCall, IsFit}
use Rattle.collect_runs.proofs.aborts.fits.Backs.{AreBackFor, finals-fit, IsThere, AreThere, none-stops}
use Rattle.collect_runs.proofs.aborts.fits.Counts.{finals-count, entry-offered, never-finishes}
use Rattle.collect_runs.proofs.aborts.fits.Worlds.{form_by_number, IsFitting, many-tasks, many-is, StaysTrue, stays-true, stays-fitting, within-form}

-- ---- a name of an abort

-- Passing a name writes nothing.
pub passes-silent : (σ : Task) → (task_ops.passed σ).output ≡ σ.output
passes-silent σ = by_rest (rest_of σ)
  where
    by_stmt : (s : PStmt) (rest : PStmts) → (passed_at s rest σ).output ≡ σ.output
    by_stmt (SAbort [] s) rest = refl
    by_stmt (SAbort (c ∷ cs) s) rest = refl
    by_stmt _ rest = refl

    by_rest : (rest : PStmts) → (passed_in rest σ).output ≡ σ.output
    by_rest no_stmt = refl
    by_rest (stmt_then s rest) = by_stmt s rest

-- what a name means that stands for a task beside main
beside-meant : (p : PProgram) (V : Variables) (x : PCallee) (b : IsBeside p x) → callee_task (form_setting p) V x ≡ Ok b.task
beside-meant p V x b = ap (task_meant (form_setting p) V x.name.name) b.simple ∙ ap (λ o. Ok (unwrap_or o 0)) b.named

-- ---- aborts

module _ (p : PProgram) (σ : Task) (reads : σ.setting ≡ form_setting p) (v : ℕ) where
  -- it is a task beside main
  abbrev IsOne : Type 0
  IsOne = (0 < v) × (v < length (numbers_of p).tasks)

  -- so it is, where it is aborted there
  abbrev AbortsOne : Stand → Type 0
  AbortsOne s = aborts v (offered s) ≡ true → IsOne

  -- a call aborts nobody
  by-call : (form : CallForm) (r : Result Called Raised) → AbortsOne (call_stand form r)
  by-call form (Ok c) k = absurd (true≢false (sym k))
  by-call form (Err x) k = absurd (true≢false (sym k))

  -- nor does a wait
  by-choices : (cs : List Choice) → AbortsOne (choices_stand cs)
  by-choices [] k = absurd (true≢false (sym k))
  by-choices (c ∷ cs) k = absurd (true≢false (sym k))

  by-wait : (b : Bool) (r : Result (List Open) Raised) → AbortsOne (wait_stand b r)
  by-wait b (Ok all) k = by-choices (choices_of b all) k
  by-wait b (Err x) k = absurd (true≢false (sym k))

  -- the first name of an abort
  by-name : (x : PCallee) → IsBeside p x → AbortsOne (name_stand (callee_task σ.setting (vars_of σ) x))
  by-name x b k =
      let meant : callee_task σ.setting (vars_of σ) x ≡ Ok b.task = ap (λ g. callee_task g (vars_of σ) x) reads ∙ beside-meant p (vars_of σ) x b in
      let same : v ≡ b.task = eqb-true v b.task (subst (λ r. aborts v (offered (name_stand r)) ≡ true) meant k) in
      let beside = b.beside in let within = b.within in (omega (arith, same, beside), omega (arith, same, within))

  -- whatever statement is next
  by-stmt : (loops : Loops) (s : PStmt) → IsFit p σ.number loops s → AbortsOne (stand_at σ s)
  by-stmt loops (SAbort [] s) h k = absurd (true≢false (sym k))
  by-stmt loops (SAbort (x ∷ xs) s) h k = by-name x h.0 k
  by-stmt loops (SCall call s) h k = by-call Plain (called σ.setting (vars_of σ) call) k
  by-stmt loops (SConditional call more otherwise s) h k = by-call Conditional (called σ.setting (vars_of σ) call) k
  by-stmt loops (STimed call more duration after s) h k = by-call Timed (called σ.setting (vars_of σ) call) k
  by-stmt loops (SAccept accept s) h k = by-wait false (open_at σ (SAccept accept s)) k
  by-stmt loops (SWait alts otherwise s) h k = by-wait (is_present otherwise) (open_at σ (SWait alts otherwise s)) k
  by-stmt loops _ h k = absurd (true≢false (sym k))

  -- or wherever the task stands behind the last one
  by-place : (place : Around) → AbortsOne (stand_behind place)
  by-place (OwnBody handlers taken) k = absurd (true≢false (sym k))
  by-place (Block handlers) k = absurd (true≢false (sym k))
  by-place (Handling x) k = absurd (true≢false (sym k))
  by-place (Loop name turns stmts) k = absurd (true≢false (sym k))
  by-place (Opened caller formals pending) k = absurd (true≢false (sym k))

  -- A task whose aborts fit aborts a task beside main.
  aborts-one : HoldsOf (IsFit p σ.number) σ → aborts v (offer_of σ) ≡ true → IsOne
  aborts-one h k = go (rest_of σ) h.rest k
    where
      go : (rest : PStmts) → InStmts (IsFit p σ.number) (loops_of (place_of σ) σ.control.outer) rest → AbortsOne (stand_with σ rest (place_of σ))
      go no_stmt f e = by-place (place_of σ) e
      go (stmt_then s rest) f e = by-stmt (loops_of (place_of σ) σ.control.outer) s f.0.0 e

-- ---- a call

module _ (p : PProgram) (t : ℕ) where
  -- the call at which a row begins fits
  call-fits : (loops : Loops) (rest : PStmts) → InStmts (IsFit p t) loops rest → (c : PCall) → call_in rest ≡ Some c → IsFitCall p t c
  call-fits loops no_stmt h c e = absurd (none-some c e)
  call-fits loops (stmt_then (SCall d s) r) h c e = subst (IsFitCall p t) (some_same e) h.0.0
  call-fits loops (stmt_then (SConditional d l m s) r) h c e = subst (IsFitCall p t) (some_same e) h.0.0
  call-fits loops (stmt_then (STimed d l n m s) r) h c e = subst (IsFitCall p t) (some_same e) h.0.0
  call-fits loops (stmt_then (SNull s) r) h c e = absurd (none-some c e)
  call-fits loops (stmt_then (SAssign a b s) r) h c e = absurd (none-some c e)
  call-fits loops (stmt_then (SDelay d s) r) h c e = absurd (none-some c e)
  call-fits loops (stmt_then (SExit a b s) r) h c e = absurd (none-some c e)
  call-fits loops (stmt_then (SRaise a s) r) h c e = absurd (none-some c e)
  call-fits loops (stmt_then (SAbort a s) r) h c e = absurd (none-some c e)
  call-fits loops (stmt_then (SAccept a s) r) h c e = absurd (none-some c e)
  call-fits loops (stmt_then (SWait a b s) r) h c e = absurd (none-some c e)
  call-fits loops (stmt_then (SPut a s) r) h c e = absurd (none-some c e)
  call-fits loops (stmt_then (SPutLine a s) r) h c e = absurd (none-some c e)
  call-fits loops (stmt_then (SNewLine s) r) h c e = absurd (none-some c e)
  call-fits loops (stmt_then (SGet a s) r) h c e = absurd (none-some c e)
  call-fits loops (stmt_then (SIf a b s) r) h c e = absurd (none-some c e)
  call-fits loops (stmt_then (SCase a b d s) r) h c e = absurd (none-some c e)
  call-fits loops (stmt_then (SBlock a s) r) h c e = absurd (none-some c e)
  call-fits loops (stmt_then (SLoop a b l s) r) h c e = absurd (none-some c e)

  -- the entry to which it comes is that of the task it names
  entry-called : (V : Variables) (c : PCall) (b : IsBeside p c.task) (r : Called) → called (form_setting p) V c ≡ Ok r → r.entry ≡ entry_meant p b.task c
  entry-called V c b r e =
      let g : Setting = form_setting p in
      let n : ℕ = entry_meant p b.task c in
      let l = lists_of g.numbers n c.args in
      let here : called_with g V n l ≡ Ok r =
      ap (λ q. and_then q (λ owner. called_with g V (entry_of g.numbers owner c.entry.name) (lists_of g.numbers
      (entry_of g.numbers owner c.entry.name) c.args)))
      (sym (beside-meant p V c.task b))
      ∙ e in
      let index = chain (member_index g V n l.index)
      (λ i. and_then (openings g.types V (entry_parameters g n) l.actuals) (λ vs. Ok record { entry = n; index = i; values = vs })) r here in
      let values = chain (openings g.types V (entry_parameters g n) l.actuals) (λ vs. Ok record { entry = n; index = index.value; values = vs }) r index.rest in
      sym (ap (λ (d : Called). d.entry) (ok_path values.rest))

  module _ (σ : Task) (keeps : KeepsUnit p t σ) where
    -- the variable of an actual that fits has the formal's subtype, whatever the task has done
    actual-there : (f : FormalParameter) (e : PExpr) → FitsActual p t f e → IsThere (vars_of σ) f e
    actual-there f e h = record {
      name = h.name;
      variable = h.variable;
      limits =
          by_object (object_named (vars_of σ) h.name)
          (subst (λ o. MeansKept o (object_named (vars_of σ) h.name)) h.there
          (names_mean_kept (inner_name p) (start_before p t) σ h.name h.outer keeps.variables));
    }
      where
        by_object : (o : Option Object) → MeansKept (Some h.object) o → option_map (λ (q : Object). q.limits) o ≡ Some f.limits
        by_object _ (kept_variable a q k) = ap Some (k.limits ∙ h.limits)

    -- so of all actuals
    actuals-there : (fs : List FormalParameter) (es : List PExpr) → FitActuals p t fs es → AreThere (vars_of σ) fs es
    actuals-there [] es h = tt
    actuals-there (f ∷ fs) [] h = tt
    actuals-there (f ∷ fs) (e ∷ es) h = (actual-there f e h.0, actuals-there fs es h.1)

  -- What fits the formals of the entry that a task calls comes back to it, and nothing stops it.
  fitting-back : (σ : Task) → σ.setting ≡ form_setting p → IsFitting p t σ → (r : Called) →
      called_by σ.setting (vars_of σ) (call_in (rest_of σ)) ≡ Some (Ok r) → (vs : List Value) →
      AreBackFor (entry_parameters (form_setting p) r.entry) vs → (copies_of σ vs).stopped ≡ None
  fitting-back σ reads fits r calls vs back = by_call (call_in (rest_of σ)) refl calls
    where
      at-call : (c : PCall) → IsFitCall p t c → called σ.setting (vars_of σ) c ≡ Ok r → (call_ended σ c (called σ.setting (vars_of σ) c) vs).stopped ≡ None
      at-call c fit e =
          let same : r.entry ≡ entry_meant p fit.callee.task c = entry-called (vars_of σ) c fit.callee r (ap (λ g. called g (vars_of σ) c) (sym reads) ∙ e) in
          ap (λ q. (call_ended σ c q vs).stopped) e
          ∙ ap (λ (g : Setting). (copied_back (entry_parameters g r.entry) (lists_of g.numbers r.entry c.args).actuals vs (vars_of σ)).stopped) reads
          ∙ none-stops (entry_parameters (form_setting p) r.entry) (lists_of (form_in p).numbers r.entry c.args).actuals vs (vars_of σ) back
          (actuals-there σ fits.unit (entry_parameters (form_setting p) r.entry) (lists_of (form_in p).numbers r.entry c.args).actuals
          (subst (λ n. FitActuals p t (entry_parameters (form_setting p) n) (lists_of (form_in p).numbers n c.args).actuals) (sym same) fit.actuals))

      by_call : (o : Option PCall) → call_in (rest_of σ) ≡ o → called_by σ.setting (vars_of σ) o ≡ Some (Ok r) → (copies_at σ o vs).stopped ≡ None
      by_call None q e = refl
      by_call (Some c) q e = at-call c (call-fits (loops_of (place_of σ) σ.control.outer) (rest_of σ) fits.fits.rest c q) (some_same e)

-- ---- in each world

module _ (p : PProgram) (inputs : List (List ℤ)) (h : IsLegalOriginal p) (x : Texts) (same : program_of x ≡ form_by_number p) (w : World Task)
    (made : IsMade x (form_opening p inputs) w) where
  abbrev so : StaysTrue p inputs h w
  so = stays-true p inputs h x same w made

  -- a task that has not completed is one of the normal form
  below : (t : ℕ) → is_completed (w.tasks t).standing ≡ false → t < length (numbers_of p).tasks
  below t e = let l = within-form p inputs h x same w made t e in let many = many-tasks p inputs h in omega (arith, l, many)

  its : (t : ℕ) → is_completed (w.tasks t).standing ≡ false → IsIn (form_setting p) t (w.tasks t).local
  its t e = so.kept.each t (within-form p inputs h x same w made t e)

  fitting : (t : ℕ) → is_completed (w.tasks t).standing ≡ false → IsFitting p t (w.tasks t).local
  fitting t e = stays-fitting p inputs h x same w made t (below t e)

  -- A free task aborts none but tasks beside main that are in front of the recorder (9.10).
  pub aborts-tasks : (t v : ℕ) → (w.tasks t).standing ≡ Live → aborts v (offer_of (w.tasks t).local) ≡ true → (0 < v) × (v < recorder_number p)
  aborts-tasks t v live k =
      let free : is_completed (w.tasks t).standing ≡ false = ap is_completed live in
      let one = aborts-one p (w.tasks t).local (its t free).setting v
      (subst (λ n. HoldsOf (IsFit p n) (w.tasks t).local) (sym (its t free).number) (fitting t free).fits) k in
      let tasks = many-tasks p inputs h in let number = many-is p inputs h in let less = one.1 in
      (one.0, omega (arith, tasks, number, less))

  module _ (a t : ℕ) where
    abbrev A : Task
    A = (w.tasks a).local

    abbrev C : Task
    C = (w.tasks t).local

    -- Where a rendezvous is to end, what comes back fits the variables of its caller, whatever is pending (6.4.1, 9.5): one value for each formal of its entry
    -- that comes back.
    pub copies-fit : (outer : List ℕ) → (w.tasks a).standing ≡ Live → offer_of A ≡ Finishes → callers_in A.control ≡ t ∷ outer →
        (w.tasks t).standing ≡ Served a false → ComesBack C A
    copies-fit outer live finishes callers served = by_place (place_of A) refl
      where
        going : is_completed (w.tasks a).standing ≡ false
        going = ap is_completed live

        calling : is_completed (w.tasks t).standing ≡ false
        calling = ap is_completed served

        never : (place : Around) → place_of A ≡ place → is_finish (offered (stand_behind place)) ≡ false → ComesBack C A
        never place e none = absurd (never-finishes A finishes (ap (λ y. is_finish (offered (stand_behind y))) e ∙ none))

        by_place : (place : Around) → place_of A ≡ place → ComesBack C A
        by_place (OwnBody handlers taken) e = never (OwnBody handlers taken) e refl
        by_place (Block handlers) e = never (Block handlers) e refl
        by_place (Handling z) e = never (Handling z) e refl
        by_place (Loop name turns stmts) e = never (Loop name turns stmts) e refl
        by_place (Opened c formals pending) e =
            let one : c ≡ t = first_same (sym (ap (λ y. caller_at y ++ callers_among (outer_of A)) e) ∙ callers) in
            let linked : AreLinked (form_setting p) w a (openings_in A.control) = so.kept.links a (within-form p inputs h x same w made a going) in
            let first : AreLinked (form_setting p) w a (record { caller = c; formals = formals } ∷ openings_among (outer_of A)) =
            subst (λ y. AreLinked (form_setting p) w a (opening_at y ++ openings_among (outer_of A))) e linked in
            let link : IsLinked (form_setting p) formals C =
            subst (λ y. IsLinked (form_setting p) formals (w.tasks y).local) one
            (first.0 (ap (λ y. is_served_by a (w.tasks y).standing) one ∙ ap (is_served_by a) served ∙ eq-eqb a a refl)) in
            let held : AreHeld formals (vars_of A) = subst (λ y. Own y (vars_of A)) e (its a going).held.0 in
            let back : AreBackFor (entry_parameters (form_setting p) link.result.entry) (finals_in formals (vars_of A)) =
            finals-fit (entry_parameters (form_setting p) link.result.entry) formals (vars_of A) held link.alike in
            record {
              fits =
                  ap (λ y. (copies_of C (finals_at y (vars_of A))).stopped) e
                  ∙ fitting-back p t C (its t calling).setting (fitting t calling) link.result link.calls (finals_in formals (vars_of A)) back;
              count = λ form n i offers.
                  ap (λ y. length (finals_at y (vars_of A))) e
                  ∙ finals-count (entry_parameters (form_setting p) link.result.entry) formals (vars_of A) held link.alike
                  ∙ ap (λ (m : ℕ). backs (entry_parameters (form_setting p) m))
                  (entry-offered C form n i offers link.result link.calls)
                  ∙ ap (λ (g : Setting). backs (entry_parameters g n)) (sym (its t calling).setting);
            }
