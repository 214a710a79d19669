-- Tasks that come to one task, each by a renaming of its ids, do the same.
use Rattle.std.proofs.Common.{◌∙◌, ◌≡◌, List, ap, ap₂, refl, subst, sym, ℕ}
use Rattle.task_model.specs.Frames.{callers_in}
use Rattle.task_model.specs.Rendezvous.{accepted, call_failed, finished, past_name, resumed, took_delay, took_else}
use Rattle.task_model.specs.Setting.{Setting}
use Rattle.task_model.specs.Stands.{At, Raises, Stand, Steps, can_step, offer_of, offered, stand_of, stepped, stepped_by, steps_at}
use Rattle.task_model.specs.TaskOps.{task_ops}
use Rattle.task_model.specs.Tasks.{Task, place_of, rest_of}
use Rattle.replay_runs.proofs.same.Going.{callers_same, raised_there_same}
use Rattle.replay_runs.proofs.same.Meeting.{accepted_same, delay_same, else_same, failed_same, finished_same, past_same, resumed_same}
use Rattle.replay_runs.proofs.controls.replayed.Settings.{accepted-same, delay-same, else-same, failed-same, finished-same, passed-same, resumed-same, stepped-same}
use Rattle.replay_runs.proofs.same.Stepping.{stepped_with_same}
use Rattle.replay_runs.proofs.same.Waiting.{renamed_stand, stand_same}
use Rattle.replay_runs.specs.same.Alike.{Respects}
use Rattle.replay_runs.specs.same.Renamed.{IsRenaming, KeepsTexts}
use Rattle.replay_runs.specs.same.inner.RenamedTasks.{KeepsTextsOf, names_for, renamed_state}

module _ (f : ℕ → ℕ) (r : IsRenaming f) (names : List (List ℕ)) where
  steps_kept : (x : Stand) → steps_at (renamed_stand f r x) ≡ steps_at x
  steps_kept Steps = refl
  steps_kept (Raises x) = refl
  steps_kept (At offer) = refl

  offer_kept : (x : Stand) → offered (renamed_stand f r x) ≡ offered x
  offer_kept Steps = refl
  offer_kept (Raises x) = refl
  offer_kept (At offer) = refl

  can_same : (t : Task) → can_step (renamed_state f names t) ≡ can_step t
  can_same t = ap steps_at (stand_same f r names t) ∙ steps_kept (stand_of t)

  offer_same : (t : Task) → offer_of (renamed_state f names t) ≡ offer_of t
  offer_same t = ap offered (stand_same f r names t) ∙ offer_kept (stand_of t)

  by_stand : (x : Stand) (t : Task) → KeepsTextsOf f names t → stepped_by (renamed_stand f r x) (renamed_state f names t) ≡ renamed_state f names (stepped_by x t)
  by_stand Steps t keeps = stepped_with_same f r names (rest_of t) (place_of t) t keeps
  by_stand (Raises x) t keeps = raised_there_same f r names x t
  by_stand (At offer) t keeps = refl

  step_same : (t : Task) → KeepsTextsOf f names t → stepped (renamed_state f names t) ≡ renamed_state f names (stepped t)
  step_same t keeps = ap (λ x. stepped_by x (renamed_state f names t)) (stand_same f r names t) ∙ by_stand (stand_of t) t keeps

  -- a task that reads the same program keeps its texts
  keeps_on : (t u : Task) → u.setting ≡ t.setting → KeepsTextsOf f names t → KeepsTextsOf f names u
  keeps_on t u e keeps = subst (λ (g : Setting). KeepsTexts f g.program.names (names_for names g.program.names)) (sym e) keeps

module _ (f g : ℕ → ℕ) (r : IsRenaming f) (s : IsRenaming g) (names : List (List ℕ)) where
  -- two tasks are one behind the renamings, which keep their texts
  pub record TasksAlike (t u : Task) : Type 0 where
    pub same : renamed_state f names t ≡ renamed_state g names u
    pub texts : KeepsTextsOf f names t
    pub others : KeepsTextsOf g names u

  -- what is done to both leaves them so
  changed : (t u t' u' : Task) → TasksAlike t u → t'.setting ≡ t.setting → u'.setting ≡ u.setting → renamed_state f names t' ≡ renamed_state g names u' → TasksAlike t' u'
  changed t u t' u' h e d k = record { same = k; texts = keeps_on f r names t t' e h.texts; others = keeps_on g s names u u' d h.others }

  pub respects : Respects task_ops task_ops TasksAlike
  respects = record {
    can_step = λ t u h. sym (can_same f r names t) ∙ (ap can_step h.same ∙ can_same g s names u);
    offer = λ t u h. sym (offer_same f r names t) ∙ (ap offer_of h.same ∙ offer_same g s names u);
    callers = λ t u h. sym (callers_same f r t.control) ∙ (ap (λ (x : Task). callers_in x.control) h.same ∙ callers_same g s u.control);
    stepped = λ t u h. changed t u _ _ h (stepped-same t) (stepped-same u) (sym (step_same f r names t h.texts) ∙ (ap stepped h.same ∙ step_same g s names u h.others));
    accepted = λ e i c a b t u k h. changed t u _ _ h (accepted-same e i c a t) (accepted-same e i c b u)
        (sym (accepted_same f r names e i c a t) ∙ (ap₂ (accepted e i c) k.same h.same ∙ accepted_same g s names e i c b u));
    finished = λ t u h. changed t u _ _ h (finished-same t) (finished-same u) (sym (finished_same f r names t) ∙ (ap finished h.same ∙ finished_same g s names u));
    resumed = λ a b t u k h. changed t u _ _ h (resumed-same a t) (resumed-same b u) (sym (resumed_same f r names a t) ∙ (ap₂ resumed k.same h.same ∙ resumed_same g s names b u));
    raised = λ t u h. changed t u _ _ h (failed-same t) (failed-same u) (sym (failed_same f r names t) ∙ (ap call_failed h.same ∙ failed_same g s names u));
    took_else = λ t u h. changed t u _ _ h (else-same t) (else-same u) (sym (else_same f r names t) ∙ (ap took_else h.same ∙ else_same g s names u));
    took_delay = λ d t u h. changed t u _ _ h (delay-same d t) (delay-same d u) (sym (delay_same f r names d t) ∙ (ap (took_delay d) h.same ∙ delay_same g s names d u));
    passed = λ t u h. changed t u _ _ h (passed-same t) (passed-same u) (sym (past_same f r names t) ∙ (ap past_name h.same ∙ past_same g s names u));
  }

  pub outputs_same : (t u : Task) → TasksAlike t u → t.output ≡ u.output
  outputs_same t u h = ap (λ (x : Task). x.output) h.same
