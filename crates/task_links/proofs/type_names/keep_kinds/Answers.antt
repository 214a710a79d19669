use Rattle.std.proofs.Common.{◌+◌, pos, nat_eq, take, option_map}
use Rattle.std.specs.HashMap.{get}
use Rattle.ada_static_rules.specs.StaticValue.{position_in}
use Rattle.ada_value.specs.Values.{placed, word}
use Rattle.ada_value.specs.Evaluating.{literal_value}
use Rattle.task_links.proofs.KeepingLemmas.{more, literals_more}
use Rattle.task_links.proofs.type_names.keep_kinds.Goals as goal

pub loop-place-preserved : goal.loop-place-preserved
loop-place-preserved c = λ id.
    let here = c.index-kinds-place.result in
    more (get nat_eq c.args.map.now id.0) (get nat_eq c.loop-place.map id.0) (get nat_eq c.keep_kind.new.map id.0)
    (literal_value (take c.loop-place.place c.args.kinds.now) 0 id) (literal_value (take (c.loop-place.place + 1) c.args.kinds.now) 0 id)
    (option_map (λ n. placed (word c.loop-place.place) (pos n)) (position_in id here))
    (c.loop-place.invariant id) (c.in_ok-keep_kind.ensures id)
    (literals_more c.args.kinds.now c.loop-place.place here id c.loop-place-test.true c.index-kinds-place.is)
