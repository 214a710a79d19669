use Rattle.std.proofs.Common.{◌∙◌, sym}
use Rattle.std.specs.Option.{option_copied}
use Rattle.common_lemmas.proofs.Results.{on_ok}
use Rattle.race_variant.specs.inner.Passing.{seen_at}
use Rattle.race_variant.proofs.Letters.{letter_one, letter_none, letter_delays, seen_rise}
use Rattle.race_variant.proofs.adding.add_of.Goals as goal

pub returns-in-D : goal.returns-in-D
returns-in-D c = on_ok c.add_delays.result (λ added.
    letter_delays c.args.numbers.now (seen_at c.args.j.now.tasks c.args.settled.now) (option_copied c.args.skip) c.args.letter c.args.t c.in-D.is c.args.found.now.items c.add_delays.new.found.items
    (seen_rise c.args.j.now.tasks c.args.settled.now c.args.t) added c.requires.found)
    c.add_delays.ensures

pub returns-in-Some : goal.returns-in-Some
returns-in-Some c = on_ok c.add.result (λ added.
    letter_one c.args.numbers.now (seen_at c.args.j.now.tasks c.args.settled.now) (option_copied c.args.skip) c.args.letter c.args.t c.in_default.not-D c.in-Some.e c.args.found.now.items c.add.new.found.items
    (sym c.propose.ensures ∙ c.in-Some.is) added c.requires.found)
    c.add.ensures

pub returns-in-None : goal.returns-in-None
returns-in-None c =
    letter_none c.args.numbers.now (seen_at c.args.j.now.tasks c.args.settled.now) (option_copied c.args.skip) c.args.letter c.args.t c.in_default.not-D c.args.found.now.items
    (sym c.propose.ensures ∙ c.in-None.is) c.requires.found
