use Rattle.std.proofs.Common.{◌∙◌, refl, ap, length, map, arith}
use Rattle.std.proofs.lemmas.List.{length-append}
use Rattle.std.specs.List.{filter_map}
use Rattle.ada_tree.specs.PlainStmt.{plain_alt, alts_of}
use Rattle.task_model.specs.Waits.{alternatives_open, else_choice}
use Rattle.task_waits.specs.Standing.{task_here}
use Rattle.task_waits.specs.declared.choosing.Sort.TheVariants as sort
use Rattle.task_waits.specs.inner.Choosing.{chosen, opens_or_none}
use Rattle.task_waits.proofs.Offering.{all_fit, else_few, all_put}
use Rattle.task_waits.proofs.stands.put_all.Goals as goal

pub put_choices-requires-clause-room : goal.put_choices-requires-clause-room
put_choices-requires-clause-room c =
    let r = alternatives_open (task_here c.args.here.now) (alts_of (map plain_alt c.args.alts.now)) 0 in
    let a = filter_map (chosen sort.Accepts) (opens_or_none r) in
    let d = filter_map (chosen (sort.Delays c.args.least)) (opens_or_none r) in
    let fit = all_fit (task_here c.args.here.now) c.args.alts.now c.args.least r refl in
    omega (arith, fit, c.requires.room, c.args.choices.now.ok.0, ap length c.requires.empty)

pub put_choice-requires : goal.put_choice-requires
put_choice-requires c =
    let r = alternatives_open (task_here c.args.here.now) (alts_of (map plain_alt c.args.alts.now)) 0 in
    let a = filter_map (chosen sort.Accepts) (opens_or_none r) in
    let d = filter_map (chosen (sort.Delays c.args.least)) (opens_or_none r) in
    let fit = all_fit (task_here c.args.here.now) c.args.alts.now c.args.least r refl in
    omega (arith, fit, c.requires.room, c.args.choices.now.ok.0, ap length c.requires.empty, ap length c.put_choices.ensures.choices, length-append c.args.choices.now.items a, c.put_choices.ensures.same_room, ap length (c.else_choice.ensures c.put_choices.new.choices.items), length-append c.put_choices.new.choices.items (else_choice c.args.has_else), else_few c.args.has_else)

pub put_choices-requires-2-clause-room : goal.put_choices-requires-2-clause-room
put_choices-requires-2-clause-room c =
    let r = alternatives_open (task_here c.args.here.now) (alts_of (map plain_alt c.args.alts.now)) 0 in
    let a = filter_map (chosen sort.Accepts) (opens_or_none r) in
    let d = filter_map (chosen (sort.Delays c.args.least)) (opens_or_none r) in
    let fit = all_fit (task_here c.args.here.now) c.args.alts.now c.args.least r refl in
    omega (arith, fit, c.requires.room, c.args.choices.now.ok.0, ap length c.requires.empty, ap length c.put_choices.ensures.choices, length-append c.args.choices.now.items a, c.put_choices.ensures.same_room, ap length (c.else_choice.ensures c.put_choices.new.choices.items), length-append c.put_choices.new.choices.items (else_choice c.args.has_else), else_few c.args.has_else, ap length c.put_choice.ensures.choices, c.put_choice.new.choices.ok.0, c.put_choice.ensures.same_room)

pub put_choices-requires-3-clause-room : goal.put_choices-requires-3-clause-room
put_choices-requires-3-clause-room c =
    let r = alternatives_open (task_here c.args.here.now) (alts_of (map plain_alt c.args.alts.now)) 0 in
    let a = filter_map (chosen sort.Accepts) (opens_or_none r) in
    let d = filter_map (chosen (sort.Delays c.args.least)) (opens_or_none r) in
    let fit = all_fit (task_here c.args.here.now) c.args.alts.now c.args.least r refl in
    omega (arith, fit, c.requires.room, c.args.choices.now.ok.0, ap length c.requires.empty, ap length c.put_choices.ensures.choices, length-append c.args.choices.now.items a, c.put_choices.ensures.same_room, ap length (c.else_choice.ensures c.put_choices.new.choices.items), length-append c.put_choices.new.choices.items (else_choice c.args.has_else), else_few c.args.has_else, ap length c.put_choice.ensures.choices, c.put_choice.new.choices.ok.0, c.put_choice.ensures.same_room, ap length c.put_choices-2.ensures.choices, length-append c.put_choice.new.choices.items d, c.put_choices-2.new.choices.ok.0, c.put_choices-2.ensures.same_room)

pub returns-clause-choices : goal.returns-clause-choices
returns-clause-choices c =
    all_put c.args.has_else c.args.least (alternatives_open (task_here c.args.here.now) (alts_of (map plain_alt c.args.alts.now)) 0)
    c.args.choices.now.items c.put_choices.new.choices.items c.put_choice.new.choices.items c.put_choices-2.new.choices.items c.put_choices-3.new.choices.items
    c.requires.least c.requires.empty c.put_choices.ensures.choices (c.put_choice.ensures.choices ∙ c.else_choice.ensures c.put_choices.new.choices.items) c.put_choices-2.ensures.choices c.put_choices-3.ensures.choices
