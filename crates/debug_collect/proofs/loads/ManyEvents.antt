-- The text of more events than a file may have has one fault: that it has too many.
use Rattle.std.proofs.Common.{◌≡◌, ◌≢◌, ◌<◌, ℕ, zero, suc, true, false, List, [], ◌∷◌, ◌++◌, length, inl, inr, refl, sym, ap, ◌∙◌, subst, arith, append_assoc}
use Rattle.std.specs.Prelude.{◌||◌}
use Rattle.std.proofs.lemmas.Bool.{cases_Bool}
use Rattle.std.proofs.lemmas.List.Elements.{All-nil, All-cons, All-head, All-tail}
use Rattle.ded_io.specs.Written.{◌⧺◌}
use Rattle.event_machine.specs.declared.Event.{Event}
use Rattle.syn_event.specs.EventText.{event_text}
use Rattle.syn_event.specs.Numbering.{Numbering}
use Rattle.common_lemmas.proofs.Lists.{never_empty}
use Rattle.seq_file.specs.declared.errors.SeqError.TheVariants.{TooMany}
use Rattle.seq_file.specs.Files.{FailsBehind, HasFirstFault, NothingFollowsEnd, SeqText, has_ended, header_line, is_end, line_fault, most_events}
use Rattle.seq_file.specs.Known.{is_known}
use Rattle.seq_file.proofs.Filing.{AreKnown, lines, lines-append}

-- a list that is longer than n has a member behind its first n
cut_behind : {A : Type 0} (n : ℕ) (l : List A) → n < length l → (xs : List A) × (y : A) × (ys : List A) × (l ≡ xs ++ y ∷ ys) × (length xs ≡ n)
cut_behind zero [] more = absurd (omega (arith, more))
cut_behind zero (y ∷ ys) more = ([], y, ys, refl, refl)
cut_behind (suc n) [] more = absurd (omega (arith, more))
cut_behind (suc n) (x ∷ l) more =
    let (xs, y, ys, is, count) = cut_behind n l (omega (arith, more)) in (x ∷ xs, y, ys, ap (λ m. x ∷ m) is, ap suc count)

module _ (names : List (List ℕ)) (numbers : Numbering) where
  front_known : (xs ys : List Event) → AreKnown numbers (xs ++ ys) → AreKnown numbers xs
  front_known [] ys h = All-nil (λ event. is_known numbers event ≡ true)
  front_known (x ∷ xs) ys h =
      All-cons (λ event. is_known numbers event ≡ true) x xs (All-head (λ event. is_known numbers event ≡ true) x (xs ++ ys) h)
      (front_known xs ys (All-tail (λ event. is_known numbers event ≡ true) x (xs ++ ys) h))

  front_not_ended : (xs : List Event) (y : Event) (ys : List Event) → NothingFollowsEnd (xs ++ y ∷ ys) → has_ended xs ≡ false
  front_not_ended [] y ys h = refl
  front_not_ended (x ∷ xs) y ys h = elim (cases_Bool (is_end x)) [
    | inl e ↦ never_empty xs y ys (h.0 e)
    | inr e ↦ ap (λ t. t || has_ended xs) e ∙ front_not_ended xs y ys h.1
  ]

  none_follows : (xs : List Event) → has_ended xs ≡ false → NothingFollowsEnd xs
  none_follows [] h = tt
  none_follows (x ∷ xs) h = elim (cases_Bool (is_end x)) [
    | inl e ↦ absurd (differ (sym (ap (λ t. t || has_ended xs) e) ∙ h))
    | inr e ↦ (λ end. absurd (differ (sym end ∙ e)), none_follows xs (sym (ap (λ t. t || has_ended xs) e) ∙ h))
  ]
    where
      differ : true ≡ false → ⊥
      differ e = cc

  text_behind : (xs ys : List Event) → SeqText names numbers (xs ++ ys) ≡ SeqText names numbers xs ++ lines ys
  unfolding ◌⧺◌
  text_behind xs ys = ap (λ t. header_line names numbers ++ t) (lines-append xs ys) ∙ sym (append_assoc (header_line names numbers) (lines xs) (lines ys))

  some_line : (y : Event) (ys : List Event) → lines (y ∷ ys) ≢ []
  unfolding ◌⧺◌
  some_line y ys e = never_empty (event_text y) 10 (lines ys) (sym (append_assoc (event_text y) (10 ∷ []) (lines ys)) ∙ e)

  one_too_many : (xs : List Event) (y : Event) (ys : List Event) → length xs ≡ most_events → AreKnown numbers (xs ++ y ∷ ys) → NothingFollowsEnd (xs ++ y ∷ ys) →
      FailsBehind (SeqText names numbers (xs ++ y ∷ ys)) numbers names (TooMany most_events)
  one_too_many xs y ys count known end =
      let none : has_ended xs ≡ false = front_not_ended xs y ys end in
      record {
        events = xs;
        rest = lines (y ∷ ys);
        text = text_behind xs (y ∷ ys);
        fit = record { known = front_known xs (y ∷ ys) known; end = none_follows xs none; few = omega (arith, count) };
        more = some_line y ys;
        fault = λ i. line_fault numbers (none i) (count i) (lines (y ∷ ys));
      }

  pub too_many_events : (events : List Event) → AreKnown numbers events → NothingFollowsEnd events → most_events < length events → HasFirstFault (SeqText names numbers events) numbers names (TooMany most_events)
  too_many_events events known end more =
      let (xs, y, ys, is, count) = cut_behind most_events events more in
      subst (λ es. HasFirstFault (SeqText names numbers es) numbers names (TooMany most_events)) (sym is)
      (inr (one_too_many xs y ys count (subst (AreKnown numbers) is known) (subst NothingFollowsEnd is end)))
