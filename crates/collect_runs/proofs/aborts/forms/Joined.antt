-- The tasks of a legal program's normal form are as telling asks.
use Rattle.std.proofs.Common.{◌≡◌, ◌≤◌, ◌+◌, arith, ℕ, Bool, true, List, [], ◌∷◌, unwrap_or, None, refl, sym, ap, subst, ◌∙◌}
use Rattle.ada_tree.specs.declared.naming.Span.{Span}
use Rattle.ada_tree.specs.Every.{alts_count}
use Rattle.ada_tree.specs.PlainStmt.{PCallee, SAbort, SWait, PStmts, stmt_then, PMaybe, PAlts}
use Rattle.ada_tree.specs.PlainProgram.{PProgram}
use Rattle.ada_value.proofs.StaticLaws.{natural_integer}
use Rattle.ada_value.specs.Variables.{Variables}
use Rattle.run_laws.specs.collecting.Settings.{is_call}
use Rattle.task_model.specs.Setting.{Setting, member_index, entry_parameters, lists_of}
use Rattle.task_model.specs.Tasks.{Task, with_vars}
use Rattle.task_model.specs.Calls.{openings}
use Rattle.task_model.specs.Stands.{offer_of, call_stand, steps_at}
use Rattle.task_model.specs.Rendezvous.{call_failed, pending_of, finals_of, copies_of}
use Rattle.task_model.specs.TaskOps.{task_ops}
use Rattle.task_laws.specs.statements.Each.{Loops, InStmts, HoldsOf}
use Rattle.task_laws.proofs.statements.Carried.{exits_are_in_loops}
use Rattle.task_laws.specs.translation.Controls.{task_in}
use Rattle.normal_laws.specs.existence.Laws.{IsLegalOriginal}
use Rattle.replay_runs.specs.starts.Formals.{form_setting}
use Rattle.replay_runs.specs.controls.formed.Laws.{NamesTask, IsFormed}
use Rattle.replay_runs.proofs.controls.meanings.Pairs.{tasks_stay}
use Rattle.replay_runs.proofs.controls.meanings.Aborts.{callee_found}
use Rattle.replay_runs.proofs.controls.meanings.Called.{lists_old}
use Rattle.collect_runs.specs.telling.Texts.{IsInteger}
use Rattle.collect_runs.specs.telling.Forms.{Form as PlainForm, StaysSo}
use Rattle.collect_runs.proofs.forms.Forming.{call-formed, head-formed, call-rests}
use Rattle.collect_runs.specs.aborts.telling.Texts.{plain, IsCalleeAlike}
use Rattle.collect_runs.specs.aborts.telling.Forms.{Form, GoAlike}
use Rattle.collect_runs.specs.aborts.forms.Texts.{texts_of, names_added}
use Rattle.collect_runs.specs.aborts.forms.Tasks.{HasFewParts, HasLikeness, IsOfText, AreAlike}
use Rattle.collect_runs.specs.aborts.forms.Laws.{IsTold}
use Rattle.collect_runs.proofs.aborts.likeness.Chains.{Chain, chain_one, chain_more, chain-through, chain-goes}
use Rattle.collect_runs.proofs.forms.Members.{index-of}
use Rattle.collect_runs.proofs.aborts.forms.Forming.{called-here, call-alike, head-alike}
use Rattle.collect_runs.proofs.aborts.forms.Waits.{few-stays}
use Rattle.collect_runs.proofs.aborts.forms.Lost.{with-lost}
use Rattle.collect_runs.specs.aborts.starts.Texts.{abort_setting}

module _ (p : PProgram) (kept : ℕ → Bool) (h : IsLegalOriginal p) (text : IsTold p kept) (l : HasLikeness p) where
  abbrev F : Setting
  F = form_setting p

  abbrev IsSo : ℕ → Task → Type 0
  IsSo = IsOfText l

  -- ---- what stays so

  pub stays : (t : ℕ) (σ : Task) → IsSo t σ → StaysSo (IsSo t) σ
  stays t σ is =
      let a = tasks_stay p t σ is.own in
      let f = few-stays σ is.few in
      let s = l.stays t σ is.own is.settled in
      record {
        stepped = record { own = a.stepped; few = f.stepped; settled = s.stepped };
        accepted = λ e i c v. record { own = a.accepted e i c v; few = f.accepted e i c v; settled = s.accepted e i c v };
        finished = record { own = a.finished; few = f.finished; settled = s.finished };
        resumed = λ m. record { own = a.resumed m; few = f.resumed m; settled = s.resumed m };
        raised = record { own = a.raised; few = f.raised; settled = s.raised };
        took_else = record { own = a.took_else; few = f.took_else; settled = s.took_else };
        took_delay = λ k. record { own = a.took_delay k; few = f.took_delay k; settled = s.took_delay k };
      }

  pub passed : (t : ℕ) (σ : Task) → IsSo t σ → IsSo t (task_ops.passed σ)
  passed t σ is = record { own = (tasks_stay p t σ is.own).passed; few = (few-stays σ is.few).passed; settled = l.passed t σ is.own is.settled }

  -- ---- what is asked without aborts

  pub task-fits : (t : ℕ) (σ : Task) → IsSo t σ → IsInteger t
  task-fits t σ is = natural_integer t (let m = is.own.there in omega (arith, m, text.few))

  pub parts-few : (t : ℕ) (loops : Loops) (r : PStmts) → InStmts HasFewParts loops r → (alts : PAlts) (o : PMaybe) (s : Span) (rest : PStmts) →
      r ≡ stmt_then (SWait alts o s) rest →
      (n : ℕ) → n ≤ alts_count alts + 1 → IsInteger n
  parts-few t loops r f alts o s rest e n m =
      let g = subst (λ u. InStmts HasFewParts loops u) e f in
      natural_integer n (let k = g.0.0 in omega (arith, m, k))

  abbrev pub plain_form : PlainForm (plain (texts_of p kept))
  plain_form = record {
    IsSo = IsOfText l;
    number = λ t σ is. is.own.number;
    fits = task-fits;
    left = λ t σ is. is.own.left;
    exits = λ t σ is. exits_are_in_loops σ is.own.exits;
    stays = stays;
    calls = λ t i w a is rests c e old W see.
        let own = is.own in
        let formed = call-formed p t _ a.top.rest own.formed.rest c e in
        let r = call-rests p t [] F t i w a c e rests in
        let lists = lists_of F.numbers formed.entry.entry c.args in
        let index = index-of p (abort_setting p) kept h (names_added p).caller
        text.can.plainly.types text.can.plainly.names.caller t (task_in F t i w a) own see formed.entry.entry
        (lists_old F.numbers formed.entry.entry old.args).index formed.index in
        call-alike p kept h text t (task-fits t _ is) c formed old a.vars W see index.0 index.1 (member_index F a.vars formed.entry.entry lists.index) refl
        (openings F.types a.vars (entry_parameters F formed.entry.entry) lists.actuals) refl r.0
        (sym (ap (λ k. steps_at (call_stand r.0 k)) (called-here p kept h text t (task-fits t _ is) c formed old a.vars W see)) ∙ r.1);
    heads = λ t i w a is rests d at old W see.
        let f = head-formed p t _ d at is.own.formed.rest is.own.variables.inner.rest in
        head-alike p kept h text t (task_in F t i w a) is.own d f.0 f.1 old W see;
    delays = λ t i w a is alts o s rest e n m. parts-few t _ a.top.rest is.few.rest alts o s rest e n (let k = m in omega (arith, k));
  }

  -- ---- aborts

  pub abort-names : (t : ℕ) (loops : Loops) (r : PStmts) → InStmts (IsFormed p t) loops r → (c : PCallee) (s : Span) (rest : PStmts) → r ≡ stmt_then
      (SAbort (c ∷ []) s) rest → NamesTask p c
  abort-names t loops r f c s rest e = (subst (λ u. InStmts (IsFormed p t) loops u) e f).0.0

  pub abort-one : (t : ℕ) (loops : Loops) (r : PStmts) → InStmts (IsFormed p t) loops r → (c d : PCallee) (cs : List PCallee) (s : Span) (rest : PStmts) →
      r ≡ stmt_then (SAbort (c ∷ d ∷ cs) s) rest → ⊥
  abort-one t loops r f c d cs s rest e = (subst (λ u. InStmts (IsFormed p t) loops u) e f).0.0

  pub callee-alike : (c : PCallee) (V : Variables) → NamesTask p c → IsCalleeAlike (texts_of p kept) c V
  callee-alike c V names = record {
    task = names.task;
    here = callee_found F V c names.task names.simple names.named;
    number = ap (λ o. unwrap_or o 0) names.named;
    fits = natural_integer names.task names.fits;
  }

  -- ---- likeness

  pub goes : (t : ℕ) (σ τ : Task) → AreAlike l t σ τ → GoAlike (AreAlike l t) σ τ
  goes t σ τ both =
      let g = l.like_goes t σ τ both.one.own both.other.own both.one.settled both.other.settled both.like in
      let a = stays t σ both.one in
      let b = stays t τ both.other in
      record {
        setting = g.setting;
        output = g.output;
        stands = g.stands;
        callers = g.callers;
        handed = g.handed;
        pending = g.pending;
        finals = g.finals;
        stopped = g.stopped;
        stepped = λ can. record { like = g.stepped can; one = a.stepped; other = b.stepped };
        accepted = λ e i c v w at same. record { like = g.accepted e i c v w at same; one = a.accepted e i c v; other = b.accepted e i c w };
        finished = λ at. record { like = g.finished at; one = a.finished; other = b.finished };
        resumed = λ v w at back pending finals. record { like = g.resumed v w at back pending finals; one = a.resumed v; other = b.resumed w };
        raised = λ at. record { like = g.raised at; one = a.raised; other = b.raised };
        call_else = λ e i at. record { like = g.call_else e i at; one = a.took_else; other = b.took_else };
        expired = λ e i at. record { like = g.expired e i at; one = a.took_delay 1; other = b.took_delay 1 };
        took_else = λ at. record { like = g.took_else at; one = a.took_else; other = b.took_else };
        took_delay = λ k at. record { like = g.took_delay k at; one = a.took_delay k; other = b.took_delay k };
        passed = λ v at. record { like = g.passed v at; one = passed t σ both.one; other = passed t τ both.other };
      }

  pub lost : (t : ℕ) (σ m : Task) → IsSo t σ → is_call (offer_of σ) ≡ true → pending_of m ≡ None → AreAlike l t (call_failed σ) (call_failed
      (with_vars σ (copies_of σ (finals_of m)).vars))
  lost t σ m is at none =
      let κ : Task = with_vars σ (copies_of σ (finals_of m)).vars in
      let few : HoldsOf HasFewParts κ = record { rest = is.few.rest; place = is.few.place; outer = is.few.outer } in
      record {
        like = l.lost t σ m is.own is.settled at none;
        one = (stays t σ is).raised;
        other = record {
          own = (tasks_stay p t κ (with-lost p t σ (finals_of m) is.own at)).raised;
          few = (few-stays κ few).raised;
          settled = l.lost_settled t σ m is.own is.settled at none;
        };
      }

  -- so is the last of some tasks of which each two are alike
  pub last-so : (t : ℕ) (σ τ : Task) → Chain (AreAlike l t) σ τ → IsSo t τ
  last-so t σ τ (chain_one _ _ h) = h.other
  last-so t σ τ (chain_more _ μ _ h more) = last-so t μ τ more

  abbrev pub legal_form : Form (texts_of p kept)
  legal_form = record {
    plainly = plain_form;
    within = λ t σ is. (let m = is.own.there in omega (arith, m));
    callees = λ t i w a is rests c s rest e. callee-alike c a.vars (abort-names t _ a.top.rest is.own.formed.rest c s rest e);
    aborts_one = λ t σ is c d cs s rest e. abort-one t _ σ.control.top.rest is.own.formed.rest c d cs s rest e;
    parts = λ t i w a is alts o s rest e k m. parts-few t _ a.top.rest is.few.rest alts o s rest e k m;
    IsLike = λ t. Chain (AreAlike l t);
    like_self = λ t σ is. chain_one σ σ record { like = l.like_self t σ is.own is.settled; one = is; other = is };
    like_through = λ t. chain-through (AreAlike l t);
    like_so = last-so;
    like_goes = λ t. chain-goes (AreAlike l t) (goes t);
    passed = passed;
    lost = λ t σ m is at none. chain_one _ _ (lost t σ m is at none);
  }
