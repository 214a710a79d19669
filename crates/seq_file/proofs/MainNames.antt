-- The name of the main procedure of a legal program that was read is one that the header of a sequence may have.
use Rattle.std.proofs.Common.{◌≡◌, ℕ, Bool, true, false, cond, List, [], ◌∷◌, refl, sym, ap, ◌∙◌, inl, inr}
use Rattle.std.specs.Prelude.{not, ◌&&◌, ◌||◌, ◌==◌}
use Rattle.std.proofs.lemmas.Bool.{cases_Bool, and_parts, and_from, or_left, or_right, true≢false}
use Rattle.ada_tree.specs.Lexical.{is_upper_letter, is_digit, goes_on, is_word}
use Rattle.ada_tree.specs.PlainProgram.{PProgram}
use Rattle.ada_tree.specs.TypeTable.{TypeTable}
use Rattle.ada_tree.specs.WellPlaced.{IsWellPlaced}
use Rattle.seq_file.specs.Lines.{name_goes_on, is_name_part, is_upper_name}
use Rattle.common_lemmas.specs.Following.{every, begins}
use Rattle.syn_event.specs.declared.numbering.Mode.{Mode}
use Rattle.syn_event.specs.Numbering.{Numbering}
use Rattle.syn_event.specs.DeclaredTasks.{text_of}
use Rattle.syn_event.specs.Legal.{Legal}
use Rattle.syn_event.proofs.NameTexts.{word_there}

goes_every : (under : Bool) (text : List ℕ) → goes_on under text ≡ true → (every name_goes_on text ≡ true) × (under ≡ true → begins is_name_part text ≡ true)
goes_every true [] h = absurd (true≢false (sym h))
goes_every false [] h = (refl, λ u. u)
goes_every under (b ∷ text) h = elim (cases_Bool (b == 95)) [
  | inl e ↦
      (let both : (not under && goes_on true text) ≡ true = sym (ap (λ (x : Bool). cond x (not under && goes_on true text) ((is_upper_letter b || is_digit b) && goes_on false text)) e) ∙ h in
      let parts = and_parts (not under) (goes_on true text) both in
      let rest = goes_every true text parts.1 in (
        and_from _ _ (or_right (is_name_part b) ((b == 95) && begins is_name_part text) (and_from _ _ e (rest.1 refl))) rest.0,
        λ u. absurd (true≢false (sym parts.0 ∙ ap (λ (x : Bool). not x) u)),
      ))
  | inr e ↦
      (let both : ((is_upper_letter b || is_digit b) && goes_on false text) ≡ true = sym (ap (λ (x : Bool). cond x (not under && goes_on true text) ((is_upper_letter b || is_digit b) && goes_on false text)) e) ∙ h in
      let parts = and_parts (is_upper_letter b || is_digit b) (goes_on false text) both in
      let rest = goes_every false text parts.1 in
      (and_from _ _ (or_left (is_name_part b) ((b == 95) && begins is_name_part text) parts.0) rest.0, λ u. parts.0))
]

word_is_upper : (text : List ℕ) → is_word text ≡ true → is_upper_name text ≡ true
word_is_upper [] h = h
word_is_upper (b ∷ text) h =
    let parts = and_parts (is_upper_letter b) (goes_on false text) h in
    and_from _ _ parts.0 (goes_every false text parts.1).0

-- the name of main is an identifier in upper case
pub main_is_upper : (p : PProgram) (types : TypeTable) (numbers : Numbering) (mode : Mode) → IsWellPlaced p → Legal p types numbers mode → is_upper_name (text_of p.names numbers.main) ≡ true
main_is_upper p types numbers mode placed legal =
    ap (λ (n : Numbering). is_upper_name (text_of p.names n.main)) legal.its_numbers
    ∙ word_is_upper (text_of p.names p.name.name) (word_there p.names p.name.name placed.0)
