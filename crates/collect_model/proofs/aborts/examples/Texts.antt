-- The examples, by computation.
use Rattle.std.specs.Prelude.{refl}
use Rattle.std.specs.Fmt.{digits}
use Rattle.collect_model.specs.Names.{with_added}
use Rattle.collect_model.specs.aborts.Names.{with_recorded}
use Rattle.collect_model.specs.aborts.examples.Laws.{IsExample, AreMet}
use Rattle.collect_model.specs.aborts.examples.Itself.{itself, itself_text}
use Rattle.collect_model.specs.aborts.examples.Victim.{victim, victim_text}
use Rattle.collect_model.specs.aborts.examples.Refused.{refused, refused_text}
use Rattle.collect_model.specs.aborts.examples.Forms.{forms}
use Rattle.collect_model.specs.aborts.examples.FormsText.{forms_text}

itself_is_example : IsExample itself itself_text
unfolding digits with_added with_recorded
itself_is_example = record { legal = refl; checked = refl; aborts = refl; text = refl; numbers = refl; text_legal = refl; text_checked = refl }

victim_is_example : IsExample victim victim_text
unfolding digits with_added with_recorded
victim_is_example = record { legal = refl; checked = refl; aborts = refl; text = refl; numbers = refl; text_legal = refl; text_checked = refl }

refused_is_example : IsExample refused refused_text
unfolding digits with_added with_recorded
refused_is_example = record { legal = refl; checked = refl; aborts = refl; text = refl; numbers = refl; text_legal = refl; text_checked = refl }

forms_is_example : IsExample forms forms_text
unfolding digits with_added with_recorded
forms_is_example = record { legal = refl; checked = refl; aborts = refl; text = refl; numbers = refl; text_legal = refl; text_checked = refl }

pub are_met : AreMet
unfolding digits with_added with_recorded
are_met = record {
  itself = itself_is_example;
  victim = victim_is_example;
  refused = refused_is_example;
  forms = forms_is_example;
  itself_runs = refl;
  victim_runs = refl;
  refused_runs = refl;
}
