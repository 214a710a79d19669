-- LOAD with n producers calls for one outcome.
use Rattle.std.proofs.Common.{◌≡◌, ◌<◌, ◌≤◌, ℕ, List, length, inl, inr, sym, ◌∙◌, subst, arith}
use Rattle.event_machine.specs.declared.Event.{Event}
use Rattle.task_machine.specs.Judging.{VerdictIs}
use Rattle.task_machine.proofs.OneVerdict.{verdict_unique}
use Rattle.task_model.specs.picked_runs.Picked.{run_end}
use Rattle.load_gen.specs.LoadTree.{most_producers}
use Rattle.load_gen.specs.LoadNumbers.{load_numbers}
use Rattle.debug_outcome.specs.files.Wanting.{sequence_limit}
use Rattle.debug_outcome.specs.Outcomes.{Outcome}
use Rattle.debug_collect.specs.loads.LoadOutcomes.{IsPastLimit, IsReplayed, LoadMeans, collected_file, lines_by_end, load_bound, load_setup, load_text, replaying_of}
use Rattle.debug_collect.proofs.loads.Reading.{one_recorded, read_or_many}

module _ (n : ℕ) (few : n ≤ most_producers) where
  apart_by_length : {A : Type 0} → length (collected_file n) ≤ sequence_limit → sequence_limit < length (collected_file n) → A
  apart_by_length short long = absurd (omega (arith, short, long))

  one_replayed : (o q : Outcome) → IsReplayed n o → IsReplayed n q → o ≡ q
  one_replayed o q h k =
      let same : h.events ≡ k.events = one_recorded n few h.events k.events h.collected k.collected h.few k.few in
      let there : VerdictIs (load_setup n) (load_numbers n) load_bound k.events h.verdict = subst (λ (events : List Event). VerdictIs (load_setup n) (load_numbers n) load_bound events h.verdict) same h.verdict_is in
      let alike : h.verdict ≡ k.verdict = verdict_unique (load_setup n) (load_numbers n) load_bound k.events h.verdict k.verdict there k.verdict_is in
      h.is
      ∙ (λ i. lines_by_end n (load_text n (length (same i)) (alike i) (length (replaying_of n (same i)).events)) (run_end (replaying_of n (same i))))
      ∙ sym k.is

  replayed_or_past : {A : Type 0} (o q : Outcome) → IsReplayed n o → IsPastLimit n q → A
  replayed_or_past o q h k = elim k.limit [
    | inl long ↦ apart_by_length h.short long.0
    | inr many ↦ read_or_many n few k.events h.events k.collected (h.collected.recorded.reads h.few) many.1
  ]

  one_past : (o q : Outcome) → IsPastLimit n o → IsPastLimit n q → o ≡ q
  one_past o q h k = elim h.limit [
    | inl long ↦ elim k.limit [
      | inl other ↦ long.1 ∙ sym other.1
      | inr many ↦ apart_by_length many.0 long.0
    ]
    | inr many ↦ elim k.limit [
      | inl long ↦ apart_by_length many.0 long.0
      | inr other ↦ many.2 ∙ sym other.2
    ]
  ]

pub one_loading : (n : ℕ) (o q : Outcome) → LoadMeans n o → LoadMeans n q → o ≡ q
one_loading n o q h k = elim h.called [
  | inl cut ↦ elim k.called [
    | inl other ↦ cut.is ∙ sym other.is
    | inr (inl whole) ↦ absurd (cut.not_ended whole.collected.ended)
    | inr (inr past) ↦ absurd (cut.not_ended past.collected.ended)
  ]
  | inr (inl whole) ↦ elim k.called [
    | inl cut ↦ absurd (cut.not_ended whole.collected.ended)
    | inr (inl other) ↦ one_replayed n h.few o q whole other
    | inr (inr past) ↦ replayed_or_past n h.few o q whole past
  ]
  | inr (inr past) ↦ elim k.called [
    | inl cut ↦ absurd (cut.not_ended past.collected.ended)
    | inr (inl whole) ↦ replayed_or_past n h.few q o whole past
    | inr (inr other) ↦ one_past n h.few o q past other
  ]
]
