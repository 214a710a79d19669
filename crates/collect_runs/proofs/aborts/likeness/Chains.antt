-- Tasks that are alike over others in between.
use Rattle.std.proofs.Common.{◌≡◌, length, refl, sym, ap, ◌∙◌}
use Rattle.event_machine.specs.Offers.{calls_in, is_conditional, is_timed, waits_with, opens, is_else, is_delay}
use Rattle.run_laws.specs.collecting.Settings.{is_call}
use Rattle.task_model.specs.Setting.{entry_parameters}
use Rattle.task_model.specs.Tasks.{Task}
use Rattle.task_model.specs.Rendezvous.{finals_of, copies_of}
use Rattle.task_model.specs.Stands.{offered, offer_of, steps_at}
use Rattle.collect_runs.specs.aborts.telling.Forms.{backs, ComesBack, GoAlike}

-- the two are alike, or over some others
pub data Chain (R : Task → Task → Type 0) : Task → Task → Type 0 where
  chain_one : (σ τ : Task) → R σ τ → Chain R σ τ
  chain_more : (σ τ ρ : Task) → R σ τ → Chain R τ ρ → Chain R σ ρ

module _ (R : Task → Task → Type 0) where
  pub chain-through : (σ τ ρ : Task) → Chain R σ τ → Chain R τ ρ → Chain R σ ρ
  chain-through σ τ ρ (chain_one _ _ h) k = chain_more σ τ ρ h k
  chain-through σ τ ρ (chain_more _ μ _ h more) k = chain_more σ μ ρ h (chain-through μ τ ρ more k)

  one : (σ τ : Task) → GoAlike R σ τ → GoAlike (Chain R) σ τ
  one σ τ g = record {
    setting = g.setting;
    output = g.output;
    stands = g.stands;
    callers = g.callers;
    handed = g.handed;
    pending = g.pending;
    finals = g.finals;
    stopped = g.stopped;
    stepped = λ h. chain_one _ _ (g.stepped h);
    accepted = λ e i c v w h k. chain_one _ _ (g.accepted e i c v w h k);
    finished = λ h. chain_one _ _ (g.finished h);
    resumed = λ v w h b p f. chain_one _ _ (g.resumed v w h b p f);
    raised = λ h. chain_one _ _ (g.raised h);
    call_else = λ e i h. chain_one _ _ (g.call_else e i h);
    expired = λ e i h. chain_one _ _ (g.expired e i h);
    took_else = λ h. chain_one _ _ (g.took_else h);
    took_delay = λ k h. chain_one _ _ (g.took_delay k h);
    passed = λ v h. chain_one _ _ (g.passed v h);
  }

  -- what fits the one fits the other
  pub back-too : (σ τ : Task) → GoAlike R σ τ → (v w : Task) → finals_of w ≡ finals_of v → ComesBack σ v → ComesBack τ w
  back-too σ τ g v w f b = record {
    fits = ap (λ vs. (copies_of τ vs).stopped) f ∙ g.stopped (finals_of v) ∙ b.fits;
    count = λ form e i q. ap length f ∙ b.count form e i (sym (ap offered g.stands) ∙ q) ∙ ap (λ s. backs (entry_parameters s e)) (sym g.setting);
  }

  more : (σ τ ρ : Task) → GoAlike R σ τ → GoAlike (Chain R) τ ρ → GoAlike (Chain R) σ ρ
  more σ τ ρ g k =
      let same : offer_of τ ≡ offer_of σ = ap offered g.stands in
      record {
        setting = k.setting ∙ g.setting;
        output = k.output ∙ g.output;
        stands = k.stands ∙ g.stands;
        callers = k.callers ∙ g.callers;
        handed = k.handed ∙ g.handed;
        pending = k.pending ∙ g.pending;
        finals = k.finals ∙ g.finals;
        stopped = λ vs. k.stopped vs ∙ g.stopped vs;
        stepped = λ h. chain_more _ _ _ (g.stepped h) (k.stepped (ap steps_at g.stands ∙ h));
        accepted = λ e i c v w h f. chain_more _ _ _ (g.accepted e i c v w h f) (k.accepted e i c w w (ap (λ z. waits_with (opens e i) z) same ∙ h) refl);
        finished = λ h. chain_more _ _ _ (g.finished h) (k.finished (same ∙ h));
        resumed = λ v w h b p f. chain_more _ _ _ (g.resumed v w h b p f) (k.resumed w w (ap is_call same ∙ h) (back-too σ τ g v w f b) refl refl);
        raised = λ h. chain_more _ _ _ (g.raised h) (k.raised (ap is_call same ∙ h));
        call_else = λ e i h. chain_more _ _ _ (g.call_else e i h) (k.call_else e i (ap (calls_in is_conditional e i) same ∙ h));
        expired = λ e i h. chain_more _ _ _ (g.expired e i h) (k.expired e i (ap (calls_in is_timed e i) same ∙ h));
        took_else = λ h. chain_more _ _ _ (g.took_else h) (k.took_else (ap (waits_with is_else) same ∙ h));
        took_delay = λ n h. chain_more _ _ _ (g.took_delay n h) (k.took_delay n (ap (waits_with (is_delay n)) same ∙ h));
        passed = λ v h. chain_more _ _ _ (g.passed v h) (k.passed v (same ∙ h));
      }

  -- Where two that are alike go on alike, so do they.
  pub chain-goes : ((σ τ : Task) → R σ τ → GoAlike R σ τ) → (σ τ : Task) → Chain R σ τ → GoAlike (Chain R) σ τ
  chain-goes goes σ τ (chain_one _ _ h) = one σ τ (goes σ τ h)
  chain-goes goes σ τ (chain_more _ μ _ h rest) = more σ μ τ (goes σ μ h) (chain-goes goes μ τ rest)
