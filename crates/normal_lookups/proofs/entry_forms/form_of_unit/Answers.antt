use Rattle.std.proofs.Common.{ap, sym, ◌∙◌, option_copied, option_map}
use Rattle.normal_lookups.specs.inner.EntryForms.{form_of_unit}
use Rattle.normal_lookups.proofs.Forming.{form_is, no_form, seen_now}
use Rattle.normal_lookups.proofs.entry_forms.form_of_unit.Goals as goal

pub returns-in-Some-meaning : goal.returns-in-Some-meaning
returns-in-Some-meaning c = λ p same.
    seen_now c.meaning-in-Some-meaning.result
    ∙ form_is c.args.forms.now p c.in-Some.info.now.unit c.args.name c.in-Some-meaning.unit.now (option_map (λ t. t.now) c.meaning-in-Some-meaning.result)
    (sym c.meaning.ensures ∙ ap (option_map (λ t. t.now)) c.in-Some-meaning.is) (sym c.meaning-in-Some-meaning.ensures) same
    ∙ ap (λ t. form_of_unit p (option_copied t) c.args.name) (sym c.in-Some.is)

pub returns-in-None-meaning : goal.returns-in-None-meaning
returns-in-None-meaning c = λ p same.
    no_form c.args.forms.now p c.in-Some.info.now.unit c.args.name (sym c.meaning.ensures ∙ ap (option_map (λ t. t.now)) c.in-None-meaning.is) same
    ∙ ap (λ t. form_of_unit p (option_copied t) c.args.name) (sym c.in-Some.is)
