use Rattle.std.proofs.Common.{option_copied}
use Rattle.syn_constraint.specs.inner.Reading.{words_left}
use Rattle.syn_constraint.proofs.Lined.{numbers-some, numbers-none}
use Rattle.syn_constraint.proofs.lines.read_numbers.Goals as goal

pub returns-in_default-read_num-2 : goal.returns-in_default-read_num-2
returns-in_default-read_num-2 c =
    numbers-none c.args.letter c.number_count-count.result (words_left (option_copied c.args.left)) (words_left (option_copied c.in-Some.left)) (words_left (option_copied c.in-Some-read_num.left))
    c.in-Some.one c.in-Some-read_num.two c.number_count-count.ensures c.in-Some.ensures c.in-Some-read_num.ensures c.in_default-read_num-2.ensures

pub returns : goal.returns
returns c =
    numbers-some c.args.letter c.number_count-count.result (words_left (option_copied c.args.left)) (words_left (option_copied c.in-Some.left)) (words_left (option_copied c.in-Some-read_num.left))
    (words_left (option_copied c.in-Some-read_num-2.left)) c.in-Some.one c.in-Some-read_num.two c.in-Some-read_num-2.three c.number_count-count.ensures c.in-Some.ensures c.in-Some-read_num.ensures
    c.in-Some-read_num-2.ensures
