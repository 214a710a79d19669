-- What a run of a text comes to, from what was made on the way.
use Rattle.std.proofs.Common.{◌≡◌, ◌≤◌, ℕ, ℤ, count_by, nat_lt, true, true≢false, List, [], length, Option, Some, Result, Ok, Err, inl, inr, sym, ap, ◌∙◌}
use Rattle.std.specs.Prelude.{◌⊎◌, if◌then◌else◌}
use Rattle.std.proofs.lemmas.Option.{same_Some}
use Rattle.rand_pcg.specs.Lcg.{Lcg}
use Rattle.ded_io.specs.Written.{appended}
use Rattle.ded_io.specs.seeds.Seeded.{seeded, word_of, behind_word}
use Rattle.ada_tree.specs.PlainProgram.{PProgram}
use Rattle.ada_tree.specs.TypeTable.{TypeTable}
use Rattle.ada_static_rules.specs.Refusals.{types_in}
use Rattle.common_lemmas.proofs.Numbers.{lt_false}
use Rattle.event_machine.specs.declared.Event.{Event}
use Rattle.syn_event.specs.AllNumbers.{all_numbers}
use Rattle.syn_event.specs.declared.numbering.Mode.TheVariants.{Any}
use Rattle.syn_event.specs.Legal.{Legal}
use Rattle.syn_event.specs.Numbering.{Numbering}
use Rattle.normal_form.specs.declared.errors.XformError.{XformError}
use Rattle.normal_form.specs.declared.errors.XformError.TheVariants.{Memory, TooManyEvents}
use Rattle.task_model.specs.Machine.{MachineState, opening_of}
use Rattle.task_model.specs.Setting.{Setting}
use Rattle.task_model.specs.picked_runs.Lines.{lines_of}
use Rattle.task_model.specs.picked_runs.Picked.{picked, run_end}
use Rattle.task_machine.specs.Table.{opening_in}
use Rattle.seq_file.specs.text_lines.Lines.{is_line_end}
use Rattle.replay_model.specs.ReplayTree.{most_events, replay_tree, replayed}
use Rattle.debug_collect.specs.Recorded.{opening}
use Rattle.debug_collect.specs.loads.LoadOutcomes.{load_turns}
use Rattle.debug_collect.specs.declared.loads.replaying.Replayed.{Replayed}
use Rattle.debug_collect.specs.loads.inner.Loaded.{IsRunOf}
use Rattle.debug_collect.proofs.loads.Counting.{feeds-of_lines}

-- a text with the types and numbers that it has starts so
pub opening_is : (text : PProgram) (types : TypeTable) (numbers : Numbering) → Legal text types numbers Any → (links : Setting) → links ≡ record { program = text; types = types; numbers = numbers } →
    (inputs : List (List ℤ)) → inputs ≡ [] → (m : MachineState) → m ≡ opening_in links inputs → m ≡ opening text []
opening_is text types numbers own links linked inputs none m starts =
    let its : numbers ≡ all_numbers (types_in text) text = own.its_numbers ∙ ap (λ (t : TypeTable). all_numbers t text) own.its_types in
    starts
    ∙ ap (λ (g : Setting). opening_in g inputs) linked
    ∙ ap (λ (i : List (List ℤ)). opening_in (record { program = text; types = types; numbers = numbers }) i) none
    ∙ (λ i. opening_of (record { program = text; types = own.its_types i; inputs = [] }) (its i))

-- as many line feeds were gathered as there are events
counted : (numbers : Numbering) (events : List Event) (before bytes : List ℕ) → before ≡ [] → (let told : Option (List ℕ) = Some bytes in told) ≡ appended (Some before) (lines_of numbers events) →
    count_by is_line_end bytes ≡ length events
counted numbers events before bytes none told =
    ap (count_by is_line_end) (same_Some bytes (lines_of numbers events) (told ∙ ap (λ (b : List ℕ). appended (Some b) (lines_of numbers events)) none)) ∙ feeds-of_lines numbers events

module _ (text : PProgram) (m : MachineState) (starts : m ≡ opening text []) (c : Lcg) (seed : ℕ) (seeds : c ≡ seeded seed) (turns : ℕ) (most : turns ≡ load_turns) where
  -- the end of the run and the lines that were gathered
  pub ran : (found : Replayed) (numbers : Numbering) (before bytes : List ℕ) → found.end ≡ run_end (picked word_of behind_word turns m c) → found.events ≡ count_by is_line_end bytes → before ≡ [] →
      (let told : Option (List ℕ) = Some bytes in told) ≡ appended (Some before) (lines_of numbers (picked word_of behind_word turns m c).events) → IsRunOf text seed found
  ran found numbers before bytes ends count none told = record {
    end = ends ∙ (λ i. run_end (picked word_of behind_word (most i) (starts i) (seeds i)));
    events =
        count ∙ counted numbers (picked word_of behind_word turns m c).events before bytes none told
        ∙ (λ i. length (picked word_of behind_word (most i) (starts i) (seeds i)).events);
  }

-- the text that was made is the replay text, where the events are few enough
pub text_made : (p : PProgram) (types : TypeTable) (numbers : Numbering) (events : List Event) (text : PProgram) → length events ≤ most_events → replayed p types numbers events ≡ Ok text → replay_tree p types numbers events ≡ text
text_made p types numbers events text few made =
    one_text (replay_tree p types numbers events) text (sym (ap (λ b. if b then Err most_events else Ok (replay_tree p types numbers events)) (lt_false most_events (length events) few)) ∙ made)
  where
    one_text : (q r : PProgram) → (let made : Result PProgram ℕ = Ok q in made) ≡ Ok r → q ≡ r
    one_text q r e = cc

-- replaying does not stop for the number of events, where they are few enough
pub never_many : (events : List Event) → length events ≤ most_events → (e : XformError) (limit : ℕ) → e ≡ TooManyEvents limit → (e ≡ Memory) ⊎ (nat_lt most_events (length events) ≡ true) → ⊥
never_many events few e limit is (inl none) = differ (sym is ∙ none)
  where
    differ : TooManyEvents limit ≡ Memory → ⊥
    differ h = cc
never_many events few e limit is (inr many) = true≢false (sym many ∙ lt_false most_events (length events) few)
