-- What is so of the examples.
use Rattle.std.specs.Prelude.{◌≡◌, ℕ, true, List, [], ◌∷◌, codes}
use Rattle.ada_static_rules.specs.Refusals.{refusals}
use Rattle.ada_tree.specs.PlainProgram.{PProgram}
use Rattle.syn_event.specs.CheckRefusals.{check_refusals}
use Rattle.syn_event.specs.declared.numbering.Mode.TheVariants as mode_of
use Rattle.collect_model.specs.aborts.Promised.{has_abort}
use Rattle.collect_model.specs.aborts.examples.Trees.{numbers_in, text_in, text_numbers_in, seen_by}
use Rattle.collect_model.specs.aborts.examples.Itself.{itself, itself_text}
use Rattle.collect_model.specs.aborts.examples.Victim.{victim, victim_text}
use Rattle.collect_model.specs.aborts.examples.Refused.{refused, refused_text}
use Rattle.collect_model.specs.aborts.examples.Forms.{forms}
use Rattle.collect_model.specs.aborts.examples.FormsText.{forms_text}

-- The program p is an original with an abort statement, its collecting text is q, with the numbers of the definition, and q breaks no static rule of a rewritten text.
pub record IsExample (p q : PProgram) : Type 0 where
  pub legal : refusals p ≡ []
  pub checked : check_refusals p mode_of.Original ≡ []
  pub aborts : has_abort p ≡ true
  pub text : text_in p ≡ q
  pub numbers : text_numbers_in p ≡ numbers_in q
  pub text_legal : refusals q ≡ []
  pub text_checked : check_refusals q mode_of.Any ≡ []

-- Choices by which the rendezvous of the victim has ended, and it is aborted before anybody has told so.
abbrev pub victim_choices : List ℕ
victim_choices = 0 ∷ 0 ∷ 0 ∷ 0 ∷ 3 ∷ 0 ∷ 0 ∷ 0 ∷ 2 ∷ 2 ∷ 0 ∷ 0 ∷ 1 ∷ 1 ∷ 1 ∷ 1 ∷ []

-- The examples are such, and these runs of three texts come to their end with these lines.
pub record AreMet : Type 0 where
  pub itself : IsExample itself itself_text
  pub victim : IsExample victim victim_text
  pub refused : IsExample refused refused_text
  pub forms : IsExample forms forms_text
  pub itself_runs : seen_by itself_text [] 1000 ≡ record { ended = true; outputs = [] ∷ codes "BEFORE\n" ∷ codes "ded-seq 1 P10 1 0\nB 1 1\n" ∷ [] }
  pub victim_runs :
      seen_by victim_text victim_choices 1000
      ≡ record { ended = true; outputs = [] ∷ [] ∷ codes "LOST\n" ∷ [] ∷ codes "ded-seq 1 P8 3 1\nR 2 1 0\nB 3 1\nX 3\nX 2\n" ∷ [] }
  pub refused_runs :
      seen_by refused_text [] 1000
      ≡ record {
        ended = true;
        outputs = [] ∷ codes "ES" ∷ [] ∷ codes "B" ∷ codes "ded-seq 1 REFUSED 3 1\nB 3 2\nR 3 1 0\nE 1\nX 1\nX 3\n" ∷ [];
      }
