-- Two answers of the same words over the same files are alike.
use Rattle.std.proofs.Common.{◌≡◌, ℕ, List, Option, Some, None, inl, inr, refl, sym, ap, subst, ◌∙◌}
use Rattle.std.specs.Prelude.{◌⊎◌}
use Rattle.ded_io.specs.Counts.{Rose}
use Rattle.ded_io.specs.Told.{ToldFile}
use Rattle.ded_io.specs.Written.{appended}
use Rattle.debug_outcome.specs.words.Words.{Asked}
use Rattle.debug_outcome.specs.Delivery.{Sides, IsWhole, IsDelivered, Ends}
use Rattle.debug_outcome.specs.Outcomes.{Outcome, refuses}
use Rattle.debug_outcome.specs.Traces.{Load}
use Rattle.debug_outcome.specs.declared.refusal.Refusal.TheVariants.{Usage}
use Rattle.debug_outcome.specs.files.Wanting.{wanted_by}
use Rattle.debug_core.specs.Answers.{Means, CallsFor, GrowsFor}
use Rattle.debug_core.specs.OneAnswer.{IsUnfailed, AreAlike, EndAlike, OneAnswer}
use Rattle.debug_core.proofs.OneLoad.{one_contents, none_refused, one_unloaded}
use Rattle.debug_core.proofs.OneMeaning.{one_meant}

-- words and files call for one outcome
module _ (asked : Asked) (files : List ToldFile) (f f' g g' : ℕ) (still : Rose f f' → ⊥) (also : Rose g g' → ⊥) (loads others : List Load) where
  one_called : (o q : Outcome) → CallsFor asked (Some files) f f' loads o → CallsFor asked (Some files) g g' others q → o ≡ q
  one_called o q (inl h) (inl k) =
      let same : h.contents ≡ k.contents = one_contents files f f' g g' still also (wanted_by asked) h.contents k.contents h.loaded.are k.loaded.are in
      one_meant asked k.contents o q (subst (λ (c : List (List ℕ)). Means asked c o) same h.means) k.means
  one_called o q (inl h) (inr k) = absurd (none_refused files g g' f f' also still (wanted_by asked) h.contents others q h.loaded.are k)
  one_called o q (inr h) (inl k) = absurd (none_refused files f f' g g' still also (wanted_by asked) k.contents loads o k.loaded.are h)
  one_called o q (inr h) (inr k) = one_unloaded files f f' g g' still also (wanted_by asked) loads others o q h k

-- where nothing failed an outcome is delivered whole
whole_of : (o : Outcome) (s : Sides) (status : ℕ) → IsUnfailed s → IsDelivered o s status → IsWhole o s status
whole_of o s status none (inl whole) = whole
whole_of o s status none (inr cut) = elim cut.where_it_failed [
  | inl at ↦ absurd (none.out at.1.1)
  | inr at ↦ absurd (none.err at.2.1)
]

-- the same outcome leaves the same
alike : (o q : Outcome) (s t : Sides) (status other : ℕ) → AreAlike s t → o ≡ q → IsWhole o s status → IsWhole q t other → EndAlike s t status other
alike o q s t status other both same h k = record {
  status_is = h.is ∙ ap (λ (x : Outcome). x.status) same ∙ sym k.is;
  out = h.out.0 ∙ ap (λ (b : Option (List ℕ)). appended b o.out) both.out ∙ ap (λ (x : Outcome). appended t.out x.out) same ∙ sym k.out.0;
  err = h.err.0 ∙ ap (λ (b : Option (List ℕ)). appended b o.err) both.err ∙ ap (λ (x : Outcome). appended t.err x.err) same ∙ sym k.err.0;
}

module _ (asked : Asked) (s t : Sides) (a b : ℕ) (both : AreAlike s t) (none : IsUnfailed s) (also : IsUnfailed t) where
  ends_alike :
      Ends (CallsFor asked (Some both.files) s.file_faults s.file_faults' s.loads) (GrowsFor asked (Some both.files) s.file_faults s.file_faults' s.loads) s a →
      Ends (CallsFor asked (Some both.files) t.file_faults t.file_faults' t.loads) (GrowsFor asked (Some both.files) t.file_faults t.file_faults' t.loads) t b → (a ≡ 9) ⊎ ((b ≡ 9) ⊎ EndAlike s t a b)
  ends_alike h k =
      let whole : IsWhole h.outcome s a = whole_of h.outcome s a none h.delivered in
      let other : IsWhole k.outcome t b = whole_of k.outcome t b also k.delivered in
      elim h.called [
        | inr lacks ↦ inl (whole.is ∙ lacks.is)
        | inl called ↦ elim k.called [
          | inr lacks ↦ inr (inl (other.is ∙ lacks.is))
          | inl calls ↦
              inr (inr (alike h.outcome k.outcome s t a b both
              (one_called asked both.files s.file_faults s.file_faults' t.file_faults t.file_faults' none.files also.files s.loads t.loads h.outcome k.outcome called calls) whole other))
        ]
      ]

pub one_answer : OneAnswer
one_answer None s t a b both none also h k =
    inr (inr (alike (refuses Usage) (refuses Usage) s t a b both refl (whole_of (refuses Usage) s a none h) (whole_of (refuses Usage) t b also k)))
one_answer (Some asked) s t a b both none also h k =
    ends_alike asked s t a b both none also
    (subst (λ (told : Option (List ToldFile)). Ends (CallsFor asked told s.file_faults s.file_faults' s.loads) (GrowsFor asked told s.file_faults s.file_faults' s.loads) s a) both.its_files h)
    (subst (λ (told : Option (List ToldFile)). Ends (CallsFor asked told t.file_faults t.file_faults' t.loads) (GrowsFor asked told t.file_faults t.file_faults' t.loads) t b) both.other_files k)
