use Rattle.std.proofs.Common.{◌≡◌, arith, length}
use Rattle.std.specs.Option.{option_copied}
use Rattle.race_variant.specs.inner.Proposing.{place_of}
use Rattle.race_variant.proofs.Letters.{letter_past}
use Rattle.race_variant.proofs.adding.add_letter.Goals as goal

pub returns : goal.returns
returns c =
    let all : length c.args.settled.now ≡ c.loop-t.t = omega (arith, c.requires.told, c.count_of-count.ensures.is) in
    letter_past c.args.j.now.tasks c.args.settled.now c.args.numbers.now (option_copied c.args.skip) (place_of c.args.letter) c.loop-t.t c.loop-t.found.items all c.loop-t.invariant
