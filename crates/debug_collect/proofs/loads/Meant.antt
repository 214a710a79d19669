-- What there is to tell is what LOAD calls for.
use Rattle.std.proofs.Common.{◌≡◌, ◌≢◌, ◌≤◌, ◌+◌, ℕ, List, [], length, inl, inr, refl, sym, ap, ◌∙◌}
use Rattle.ada_tree.specs.PlainProgram.{PProgram}
use Rattle.ada_tree.specs.TypeTable.{TypeTable}
use Rattle.ada_static_rules.specs.Declaring.{predefined_types}
use Rattle.event_machine.specs.declared.Event.{Event}
use Rattle.syn_event.specs.AllNumbers.{all_numbers}
use Rattle.syn_event.specs.declared.numbering.Mode.TheVariants.{Original}
use Rattle.syn_event.specs.Legal.{Legal}
use Rattle.syn_event.specs.Numbering.{Numbering}
use Rattle.seq_file.specs.Files.{most_events}
use Rattle.task_machine.specs.declared.verdict.Verdict.{Verdict}
use Rattle.task_machine.specs.Judging.{VerdictIs}
use Rattle.task_model.specs.picked_runs.Picked.{Position, picked, run_end}
use Rattle.rand_pcg.specs.Lcg.{Lcg}
use Rattle.ded_io.specs.seeds.Seeded.{seeded, word_of, behind_word}
use Rattle.debug_collect.specs.Recorded.{opening}
use Rattle.replay_model.specs.ReplayTree.{replay_tree}
use Rattle.load_gen.specs.LoadTree.{load_tree, most_producers}
use Rattle.load_gen.specs.LoadNumbers.{load_numbers}
use Rattle.load_gen.specs.Promised.{IsLoad}
use Rattle.debug_outcome.specs.files.Wanting.{sequence_limit}
use Rattle.debug_run.specs.RunOutcomes.{run_status}
use Rattle.debug_collect.specs.loads.LoadOutcomes.{IsCollected, LoadMeans, collected_file, collecting_of, lines_by_end, load_bound, load_setup, load_text, load_turns, replaying_of}
use Rattle.debug_collect.specs.declared.loads.loading.Loaded.{Loaded}
use Rattle.debug_collect.specs.declared.loads.loading.Loaded.TheVariants.{Cut}
use Rattle.debug_collect.specs.declared.loads.replaying.Replayed.{Replayed}
use Rattle.debug_collect.specs.loads.inner.Loaded.{IsLoadOf, IsRunOf, outcome_of}
use Rattle.debug_collect.proofs.loads.Collecting.{as_load, of_load, status_of_ended}
use Rattle.debug_collect.proofs.loads.Feasible.{not_infeasible}
use Rattle.debug_collect.proofs.loads.ReplayTexts.{IsLegalText, load_replay_is_legal}

-- the program that was made, with the types and numbers that were found
pub is_load_of : (n : ℕ) (p : PProgram) (types : TypeTable) (numbers : Numbering) → n ≤ most_producers → IsLoad n p → Legal p types numbers Original → IsLoadOf n p types numbers
is_load_of n p types numbers few made own =
    let same : types ≡ predefined_types = own.its_types ∙ sym made.legal.its_types in
    record {
      few = few;
      is_load = made.tree;
      its_types = same;
      its_numbers = own.its_numbers ∙ ap (λ (t : TypeTable). all_numbers t p) same ∙ sym made.legal.its_numbers;
    }

-- the run of the collecting text has not ended
pub cut_means : (n status : ℕ) → n ≤ most_producers → status ≡ run_status (run_end (collecting_of n)) → status ≢ 0 → LoadMeans n (outcome_of n (Cut status))
cut_means n status few is not_zero = record {
  few = few;
  called = inl (record {
    not_ended = λ ended. not_zero (is ∙ status_of_ended (run_end (collecting_of n)) ended);
    is = ap (λ s. outcome_of n (Cut s)) is;
  });
}

-- the run of a text, where it stands
run_at : (text : PProgram) (seed : ℕ) (found : Replayed) (at : Position Lcg) → picked word_of behind_word load_turns (opening text []) (seeded seed) ≡ at → IsRunOf text seed found →
    (found.end ≡ run_end at) × (found.events ≡ length at.events)
run_at text seed found at there h = (h.end ∙ ap (λ (x : Position Lcg). run_end x) there, h.events ∙ ap (λ (x : Position Lcg). length x.events) there)

replaying_is : (n : ℕ) (events : List Event) →
    picked word_of behind_word load_turns (opening (replay_tree (load_tree n) predefined_types (load_numbers n) events) []) (seeded (n + 1)) ≡ replaying_of n events
unfolding replaying_of
replaying_is n events = refl

module _ (n : ℕ) (p : PProgram) (types : TypeTable) (numbers : Numbering) (load : IsLoadOf n p types numbers) (events : List Event) (collected : IsCollected n events) (few : length events ≤ most_events) where
  -- the replay text is legal
  pub text_is_legal : IsLegalText (replay_tree p types numbers events)
  text_is_legal =
      of_load n p types numbers load (λ q t m. IsLegalText (replay_tree q t m events))
      (load_replay_is_legal n load.few events (record { known = collected.recorded.known; end = collected.recorded.end; few = few }))

  pub replayed_means :
      length (collected_file n) ≤ sequence_limit → (verdict : Verdict) → VerdictIs (record { program = p; types = types; inputs = [] }) numbers load_bound events verdict →
      (found : Replayed) → IsRunOf (replay_tree p types numbers events) (n + 1) found → (loaded : Loaded) →
      outcome_of n loaded ≡ lines_by_end n (load_text n (length events) verdict found.events) found.end → LoadMeans n (outcome_of n loaded)
  replayed_means short verdict judged found run loaded told =
      let verdict_is : VerdictIs (load_setup n) (load_numbers n) load_bound events verdict =
      as_load n p types numbers load (λ q t m. VerdictIs (record { program = q; types = t; inputs = [] }) m load_bound events verdict) judged in
      let ran : IsRunOf (replay_tree (load_tree n) predefined_types (load_numbers n) events) (n + 1) found = as_load n p types numbers load (λ q t m. IsRunOf (replay_tree q t m events) (n + 1) found) run in
      let (end, count) = run_at (replay_tree (load_tree n) predefined_types (load_numbers n) events) (n + 1) found (replaying_of n events) (replaying_is n events) ran in
      record {
        few = load.few;
        called = inr (inl (record {
          events = events;
          collected = collected;
          short = short;
          few = few;
          verdict = verdict;
          verdict_is = verdict_is;
          possible = not_infeasible (load_setup n) (load_numbers n) load_bound events collected.recorded.feasible verdict verdict_is;
          is = told ∙ (λ i. lines_by_end n (load_text n (length events) verdict (count i)) (end i));
        }));
      }
