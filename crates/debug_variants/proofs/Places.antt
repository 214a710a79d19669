-- The text of places from those that are told: what stands on the output where all were written, where a write failed, and where there was no memory.
use Rattle.std.proofs.Common.{◌≡◌, ◌↔◌, ℕ, zero, suc, ◌+◌, ◌-◌, ◌<◌, ◌≤◌, Bool, true, false, List, [], ◌∷◌, ◌++◌, length, take, drop, refl, sym, ap, ◌∙◌, subst, arith, true≢false, ⊎_elim, inr, append_assoc, append-nil, length-append, Option, Some, None, Err}
use Rattle.std.specs.Prelude.{slice_get, codes, cond, ◌||◌}
use Rattle.std.proofs.lemmas.Bool.{cases_Bool, cases_lt}
use Rattle.std.proofs.lemmas.List.{take-append-drop}
use Rattle.std.proofs.lemmas.Option.{slice_get_within}
use Rattle.std.proofs.Math.Seq.{take-length}
use Rattle.common_lemmas.proofs.Lists.{last_at}
use Rattle.common_lemmas.proofs.Options.{some_same}
use Rattle.ded_io.specs.Counts.{Rose}
use Rattle.ded_io.specs.Written.{◌⧺◌, appended, Began}
use Rattle.ded_io.proofs.Writes.{appended-appended, began_then}
use Rattle.event_machine.specs.declared.Event.{Event}
use Rattle.event_machine.specs.declared.Event.TheVariants.{R, E, S, D, C, T, F, X, B, Z}
use Rattle.syn_event.specs.Numbering.{Numbering}
use Rattle.seq_file.specs.Files.{has_ended, is_end, NothingFollowsEnd}
use Rattle.task_model.specs.Machine.{ProgramWithInputs}
use Rattle.task_machine.specs.declared.verdict.Verdict.TheVariants.{Feasible}
use Rattle.task_machine.specs.Judging.{VerdictIs}
use Rattle.task_machine.proofs.OneVerdict.{verdict_unique}
use Rattle.feasible.specs.Keeping.{StandsFor, HaveEnded, is_feasible}
use Rattle.feasible.specs.Kept.{Kept}
use Rattle.feasible.proofs.Resting.{all_taken}
use Rattle.divergence.specs.ViewText.{number_line}
use Rattle.race_variant.specs.Variants.{AreVariants}
use Rattle.race_variant.proofs.Existing.{variants_exist}
use Rattle.debug_outcome.specs.Coming.{Comes, HasPut, HasBroken, HasBegun}
use Rattle.debug_outcome.specs.Outcomes.{writes}
use Rattle.debug_outcome.specs.Outputs.{IsWritten, IsBrokenOff}
use Rattle.debug_outcome.specs.declared.stopping.Stop.{Stop}
use Rattle.debug_outcome.specs.declared.stopping.Stop.TheVariants.{Refused, OutputFailed, Memory}
use Rattle.debug_variants.specs.VariantsOutcomes.{Place, place_count, IsPlaceBehind, ArePlaces, place_text, places_text, variants_text, IsVariantsText}
use Rattle.debug_variants.specs.inner.Placing.{HasPlace, PlaceComes, AreFirst, AreToldTo}
use Rattle.common_lemmas.proofs.Truth.{or_true}
use Rattle.race_variant.proofs.Telling.{get_old as within_front}

-- ---- lists

-- a front of what was put is one of more
began_more : (old new : Option (List ℕ)) (a b : List ℕ) → Began old new a → Began old new (a ++ b)
began_more old new a b (front, rest, is_front, is_new) = (front, rest ++ b, ap (λ t. t ++ b) is_front ∙ append_assoc front rest b, is_new)

-- ---- the end of the program

the_end : (e : Event) → is_end e ≡ true → e ≡ Z
the_end Z h = refl
the_end (R c e i) h = absurd (true≢false (sym h))
the_end (E a) h = absurd (true≢false (sym h))
the_end (S a) h = absurd (true≢false (sym h))
the_end (D a k) h = absurd (true≢false (sym h))
the_end (C c e i) h = absurd (true≢false (sym h))
the_end (T c e i) h = absurd (true≢false (sym h))
the_end (F c e i) h = absurd (true≢false (sym h))
the_end (X a) h = absurd (true≢false (sym h))
the_end (B t x) h = absurd (true≢false (sym h))

-- where the end is among the events, it is the last
ends_last : (events : List Event) → NothingFollowsEnd events → has_ended events ≡ true → HaveEnded events
ends_last [] h ended = absurd (true≢false (sym ended))
ends_last (e ∷ events) h ended = ⊎_elim
    (λ (is : is_end e ≡ true). ([], ap (λ x. x ∷ events) (the_end e is) ∙ ap (λ xs. Z ∷ xs) (h.0 is)))
    (λ (goes : is_end e ≡ false).
    let k = ends_last events h.1 (sym (ap (λ b. b || has_ended events) goes) ∙ ended) in
    (e ∷ k.0, ap (λ xs. e ∷ xs) k.1))
    (cases_Bool (is_end e))

-- and where it is the last, it is among them
last_ends : (front : List Event) → has_ended (front ++ Z ∷ []) ≡ true
last_ends [] = refl
last_ends (e ∷ front) = ap (λ b. is_end e || b) (last_ends front) ∙ or_true (is_end e)

pub has_the_end : (events : List Event) → NothingFollowsEnd events → (ended : Bool) → (ended ≡ true → HaveEnded events) × (HaveEnded events → ended ≡ true) → has_ended events ≡ ended
has_the_end events h true exact = let k = exact.0 refl in ap has_ended k.1 ∙ last_ends k.0
has_the_end events h false exact = ⊎_elim
    (λ (is : has_ended events ≡ true). absurd (true≢false (sym (exact.1 (ends_last events h is)))))
    (λ (goes : has_ended events ≡ false). goes)
    (cases_Bool (has_ended events))

-- a judge that stands for all events tells whether they have ended
pub ended_so : (setup : ProgramWithInputs) (events : List Event) (judge : Kept) → StandsFor setup (take (length events) events) judge → is_feasible judge.verdict ≡ true → NothingFollowsEnd events →
    (ended : Bool) → ((ended ≡ true) ↔ HaveEnded (take judge.taken (take (length events) events))) → has_ended events ≡ ended
ended_so setup events judge s well end ended exact =
    let same : take judge.taken (take (length events) events) ≡ events = all_taken setup (take (length events) events) judge s well ∙ take-length events in
    has_the_end events end ended ((λ h. subst HaveEnded same (exact.0 h)), (λ h. exact.1 (subst HaveEnded (sym same) h)))

-- ---- texts

places_more : (number : ℕ) (places rest : List Place) → places_text number (places ++ rest) ≡ places_text number places ++ places_text (number + length places) rest
unfolding ◌⧺◌
places_more number [] rest = ap (λ n. places_text n rest) (let e : number ≡ number + 0 = omega arith in e)
places_more number (place ∷ places) rest =
    ap (λ t. place_text number place ++ t)
    (places_more (number + 1) places rest
    ∙ ap (λ n. places_text (number + 1) places ++ places_text n rest) (let e : number + 1 + length places ≡ number + suc (length places) = omega arith in e))
    ∙ sym (append_assoc (place_text number place) (places_text (number + 1) places) (places_text (number + suc (length places)) rest))

-- the text of places is that of the first of them, and then of the others
text_front : (events : List Event) (places rest : List Place) → variants_text events (places ++ rest) ≡ variants_text events places ++ places_text (1 + length places) rest
unfolding ◌⧺◌
text_front events places rest =
    let head : List ℕ = number_line (codes "variants ") (length events) in
    ap (λ t. head ++ t) (places_more 1 places rest) ∙ sym (append_assoc head (places_text 1 places) (places_text (1 + length places) rest))

text_one : (events : List Event) (places : List Place) (place : Place) → variants_text events (places ++ place ∷ []) ≡ variants_text events places ++ place_text (length places + 1) place
unfolding ◌⧺◌
text_one events places place =
    text_front events places (place ∷ [])
    ∙ ap (λ t. variants_text events places ++ t) (append-nil (place_text (1 + length places) place)
    ∙ ap (λ n. place_text n place) (let e : 1 + length places ≡ length places + 1 = omega arith in e))

text_none : (events : List Event) → number_line (codes "variants ") (length events) ≡ variants_text events []
unfolding ◌⧺◌
text_none events = sym (append-nil (number_line (codes "variants ") (length events)))

-- ---- how many places there are

count_by : (b : Bool) (n : ℕ) → n ≤ cond b n (n + 1)
count_by true n = omega arith
count_by false n = omega arith

pub count_least : (events : List Event) → length events ≤ place_count events
count_least events = count_by (has_ended events) (length events)

pub count_ended : (events : List Event) → has_ended events ≡ true → place_count events ≡ length events
count_ended events is = ap (λ b. cond b (length events) (length events + 1)) is

pub count_going : (events : List Event) → has_ended events ≡ false → place_count events ≡ length events + 1
count_going events is = ap (λ b. cond b (length events) (length events + 1)) is

module _ (setup : ProgramWithInputs) (numbers : Numbering) (bound : ℕ) (events : List Event) (well : VerdictIs setup numbers bound events Feasible) where
  -- ---- the first places, and all

  front_well : (k : ℕ) → VerdictIs setup numbers bound (take k events) Feasible
  front_well k before rest e split =
      well before (rest ++ drop k events) e (sym (take-append-drop k events) ∙ ap (λ xs. xs ++ drop k events) split ∙ append_assoc before (e ∷ rest) (drop k events))

  -- a judge that stands for the first events has found them feasible
  pub front_feasible : (k : ℕ) (judge : Kept) → judge.numbers ≡ numbers → judge.bound ≡ bound → StandsFor setup (take k events) judge → is_feasible judge.verdict ≡ true
  front_feasible k judge same_numbers same_bound s =
      ap is_feasible (verdict_unique setup numbers bound (take k events) judge.verdict Feasible
      (subst (λ n. VerdictIs setup n bound (take k events) judge.verdict) same_numbers (subst (λ b. VerdictIs setup judge.numbers b (take k events) judge.verdict) same_bound s.verdict))
      (front_well k))

  abbrev IsFirst : ℕ → List Place → Type 0
  IsFirst n places = AreFirst setup numbers bound events n places

  first_more : (n : ℕ) (places : List Place) (place : Place) → IsFirst n places → IsPlaceBehind setup numbers bound events n place → IsFirst (n + 1) (places ++ place ∷ [])
  first_more n places place h is = record {
    count = let a : length (places ++ place ∷ []) ≡ length places + 1 = length-append places (place ∷ []) in omega (arith, h.count);
    each = λ k other there. ⊎_elim
        (λ (less : k < length places). h.each k other (sym (within_front places place k less) ∙ there))
        (λ (past : length places ≤ k).
        let within : k < length (places ++ place ∷ []) = slice_get_within (places ++ place ∷ []) k other there in
        let here : k ≡ length places = let a : length (places ++ place ∷ []) ≡ length places + 1 = length-append places (place ∷ []) in omega arith in
        let same : place ≡ other = some_same (sym (last_at places place) ∙ ap (slice_get (places ++ place ∷ [])) (sym here) ∙ there) in
        subst (λ m. IsPlaceBehind setup numbers bound events m other) (sym (here ∙ h.count)) (subst (IsPlaceBehind setup numbers bound events n) same is))
        (cases_lt k (length places));
  }

  complete : (more n : ℕ) (places : List Place) → n + more ≡ place_count events → IsFirst n places → (rest : List Place) × ArePlaces setup numbers bound events (places ++ rest)
  complete zero n places all h = (
    [],
    record {
      count = let a : length (places ++ []) ≡ length places = ap length (append-nil places) in let b : n + 0 ≡ place_count events = all in omega (arith, h.count);
      each = λ k place there. h.each k place (sym (ap (λ ps. slice_get ps k) (append-nil places)) ∙ there);
    },
  )
  complete (suc more) n places all h =
      let (found, unsettled, is) = variants_exist setup numbers bound (take n events) (slice_get events n) (front_well n) in
      let place : Place = record { found = found; unsettled = unsettled } in
      let (rest, are) = complete more (n + 1) (places ++ place ∷ []) (let a : n + suc more ≡ place_count events = all in omega arith) (first_more n places place h is) in
      (place ∷ rest, subst (ArePlaces setup numbers bound events) (append_assoc places (place ∷ []) rest) are)

  -- the first places are a front of all
  whole : (n : ℕ) (places : List Place) → n ≤ place_count events → IsFirst n places → (rest : List Place) × ArePlaces setup numbers bound events (places ++ rest)
  whole n places le h = complete (place_count events - n) n places (omega arith) h

  -- ---- what stands on the output

  called : (places : List Place) → ArePlaces setup numbers bound events places → IsVariantsText setup numbers bound events (writes (variants_text events places) 0)
  called places are = record { feasible = well; places = places; are = are; is = refl }

  module _ (told told' : Option (List ℕ)) (faults faults' n : ℕ) (places : List Place) (first : IsFirst n places) (written : told' ≡ appended told (variants_text events places)) (still : faults' ≡ faults) where
    begun : n ≤ place_count events → HasBegun (IsVariantsText setup numbers bound events) told told' faults faults'
    begun le =
        let (rest, are) = whole n places le first in
        record {
          text = variants_text events (places ++ rest);
          status = 0;
          called = called (places ++ rest) are;
          front = (variants_text events places, places_text (1 + length places) rest, text_front events places rest, written);
          no_fault = still;
        }

    all_put : n ≡ place_count events → HasPut (IsVariantsText setup numbers bound events) told told' faults faults' 0
    all_put all = record {
      text = variants_text events places;
      called = called places (record { count = first.count ∙ all; each = first.each });
      put = (written, still);
    }

    module _ (place : Place) (is : IsPlaceBehind setup numbers bound events n place) (told'' : Option (List ℕ)) (faults'' : ℕ) where
      broken : n + 1 ≤ place_count events → IsBrokenOff told' told'' faults' faults'' (place_text (n + 1) place) → HasBroken (IsVariantsText setup numbers bound events) told told'' faults faults''
      broken le (began, rose) =
          let (rest, are) = whole (n + 1) (places ++ place ∷ []) le (first_more n places place first is) in
          let front : List ℕ = variants_text events places ++ place_text (n + 1) place in
          let others : List ℕ = places_text (1 + length (places ++ place ∷ [])) rest in
          let is_text : front ++ others ≡ variants_text events ((places ++ place ∷ []) ++ rest) =
          ap (λ m. (variants_text events places ++ place_text (m + 1) place) ++ others) (sym first.count)
          ∙ ap (λ t. t ++ others) (sym (text_one events places place))
          ∙ sym (text_front events (places ++ place ∷ []) rest) in
          record {
            text = variants_text events ((places ++ place ∷ []) ++ rest);
            status = 0;
            called = called ((places ++ place ∷ []) ++ rest) are;
            put = (
              subst (Began told told'') is_text (began_more told told'' front others (began_then told told' told'' (variants_text events places) (place_text (n + 1) place) written began)),
              subst (λ f. Rose f faults'') still rose,
            );
          }

      put_more : IsWritten told' told'' faults' faults'' (place_text (n + 1) place) → (told'' ≡ appended told (variants_text events (places ++ place ∷ []))) × (faults'' ≡ faults)
      put_more (put, same) = (
        put ∙ ap (λ t. appended t (place_text (n + 1) place)) written ∙ appended-appended told (variants_text events places) (place_text (n + 1) place)
            ∙ ap (λ m. appended told (variants_text events places ++ place_text (m + 1) place)) (sym first.count)
            ∙ ap (appended told) (sym (text_one events places place)),
        same ∙ still,
      )

  -- ---- as far as places are told

  abbrev IsToldTo : ℕ → Kept → Option (List ℕ) → Option (List ℕ) → ℕ → ℕ → Type 0
  IsToldTo n judge told told' faults faults' = AreToldTo setup numbers bound events n judge told told' faults faults'

  -- a place as the judge's own numbers and bound have it
  here : (n : ℕ) (judge : Kept) (skip : Option Event) (number : ℕ) (Came : List ℕ → Type 0) → judge.numbers ≡ numbers → judge.bound ≡ bound → skip ≡ slice_get events n → number ≡ n + 1 →
      HasPlace setup judge.numbers judge.bound (take n events) skip number Came → (place : Place) × IsPlaceBehind setup numbers bound events n place × Came (place_text (n + 1) place)
  here n judge skip number Came same_numbers same_bound skips counts h = (
    h.place,
    subst (λ m. AreVariants setup m bound (take n events) (slice_get events n) h.place.found h.place.unsettled) same_numbers
        (subst (λ b. AreVariants setup judge.numbers b (take n events) (slice_get events n) h.place.found h.place.unsettled) same_bound
        (subst (λ s. AreVariants setup judge.numbers judge.bound (take n events) s h.place.found h.place.unsettled) skips h.variants)),
    subst (λ m. Came (place_text m h.place)) counts h.came,
  )

  module _ (n : ℕ) (judge : Kept) (told told' told'' : Option (List ℕ)) (faults faults' faults'' : ℕ) (h : IsToldTo n judge told told' faults faults') (skip : Option Event) (number : ℕ)
      (skips : skip ≡ slice_get events n) (counts : number ≡ n + 1) where
    -- the next place is told
    pub told_more : HasPlace setup judge.numbers judge.bound (take n events) skip number (IsWritten told' told'' faults' faults'') → (next : Kept) → StandsFor setup (take (n + 1) events) next →
        next.numbers ≡ judge.numbers → next.bound ≡ judge.bound → IsToldTo (n + 1) next told told'' faults faults''
    told_more came next stands same_numbers same_bound =
        let (place, is, put) = here n judge skip number (IsWritten told' told'' faults' faults'') h.numbers_are h.bound_is skips counts came in
        let (written, still) = put_more told told' faults faults' n h.places h.first h.written h.still place is told'' faults'' put in
        record {
          stands = stands;
          numbers_are = same_numbers ∙ h.numbers_are;
          bound_is = same_bound ∙ h.bound_is;
          places = h.places ++ place ∷ [];
          first = first_more n h.places place h.first is;
          written = written;
          still = still;
        }

    -- and it is the last
    pub told_last : n + 1 ≡ place_count events → HasPlace setup judge.numbers judge.bound (take n events) skip number (IsWritten told' told'' faults' faults'') →
        HasPut (IsVariantsText setup numbers bound events) told told'' faults faults'' 0
    told_last all came =
        let (place, is, put) = here n judge skip number (IsWritten told' told'' faults' faults'') h.numbers_are h.bound_is skips counts came in
        let (written, still) = put_more told told' faults faults' n h.places h.first h.written h.still place is told'' faults'' put in
        all_put told told'' faults faults'' (n + 1) (h.places ++ place ∷ []) (first_more n h.places place h.first is) written still all

    -- there was no memory behind it
    pub told_short : n + 1 ≤ place_count events → HasPlace setup judge.numbers judge.bound (take n events) skip number (IsWritten told' told'' faults' faults'') →
        HasBegun (IsVariantsText setup numbers bound events) told told'' faults faults''
    told_short le came =
        let (place, is, put) = here n judge skip number (IsWritten told' told'' faults' faults'') h.numbers_are h.bound_is skips counts came in
        let (written, still) = put_more told told' faults faults' n h.places h.first h.written h.still place is told'' faults'' put in
        begun told told'' faults faults'' (n + 1) (h.places ++ place ∷ []) (first_more n h.places place h.first is) written still le

    -- it is not told whole
    pub told_stops : (stop : Stop) → n + 1 ≤ place_count events → PlaceComes setup judge.numbers judge.bound (take n events) skip number told' told'' faults' faults'' (Err stop) →
        Comes (IsVariantsText setup numbers bound events) (IsVariantsText setup numbers bound events) told told'' faults faults'' (Err stop)
    told_stops (Refused refusal) le came = absurd came
    told_stops OutputFailed le came =
        let (place, is, put) = here n judge skip number (IsBrokenOff told' told'' faults' faults'') h.numbers_are h.bound_is skips counts came in
        broken told told' faults faults' n h.places h.first h.written h.still place is told'' faults'' le put
    told_stops Memory le (same, same_faults) =
        inr (begun told told'' faults faults'' n h.places h.first (same ∙ h.written) (same_faults ∙ h.still) (omega arith))

  module _ (n : ℕ) (judge : Kept) (told told' : Option (List ℕ)) (faults faults' : ℕ) (h : IsToldTo n judge told told' faults faults') where
    -- these are all places
    pub told_all : n ≡ place_count events → HasPut (IsVariantsText setup numbers bound events) told told' faults faults' 0
    told_all all = all_put told told' faults faults' n h.places h.first h.written h.still all

  no_places : IsFirst 0 []
  no_places = record { count = refl; each = λ k place there. absurd (let no : ◌≡◌ {A = Option Place} None (Some place) = there in cc) }

  -- no place is told, behind the first line
  pub told_first : (judge : Kept) (told told' : Option (List ℕ)) (faults faults' : ℕ) → StandsFor setup [] judge → judge.numbers ≡ numbers → judge.bound ≡ bound →
      told' ≡ appended told (number_line (codes "variants ") (length events)) → faults' ≡ faults → IsToldTo 0 judge told told' faults faults'
  told_first judge told told' faults faults' stands same_numbers same_bound put still = record {
    stands = stands;
    numbers_are = same_numbers;
    bound_is = same_bound;
    places = [];
    first = no_places;
    written = put ∙ ap (appended told) (text_none events);
    still = still;
  }

  -- the first line was not written whole
  pub head_broken : (told told' : Option (List ℕ)) (faults faults' : ℕ) → Began told told' (number_line (codes "variants ") (length events)) → Rose faults faults' →
      HasBroken (IsVariantsText setup numbers bound events) told told' faults faults'
  head_broken told told' faults faults' began rose =
      let (rest, are) = whole 0 [] (omega arith) no_places in
      let head : List ℕ = number_line (codes "variants ") (length events) in
      record {
        text = variants_text events rest;
        status = 0;
        called = called rest are;
        put = (subst (Began told told') (ap (λ t. t ++ places_text 1 rest) (text_none events) ∙ sym (text_front events [] rest)) (began_more told told' head (places_text 1 rest) began), rose);
      }
