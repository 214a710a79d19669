use Rattle.std.proofs.Common.{◌≡◌, map, slice_get, Some, string_bytes, refl, ap, ◌∙◌, arith}
use Rattle.collect_abort.proofs.Finding.{names-more, all-names, last-name, kept}
use Rattle.collect_abort.proofs.finder.insert_all.Goals as goal

pub returns-in-None-clause-texts : goal.returns-in-None-clause-texts
returns-in-None-clause-texts c = all-names c.args.names.now c.loop-id.id (map string_bytes c.loop-id.texts.keys) c.in-None.ensures.names (c.in-None.ensures.past_end.0 refl) c.loop-id.invariant

pub returns-in-None-clause-names : goal.returns-in-None-clause-names
returns-in-None-clause-names c = c.in-None.ensures.names

pub loop-id-preserved : goal.loop-id-preserved
loop-id-preserved c =
    names-more c.args.names.now c.loop-id.id c.in-Some.text.now (map string_bytes c.loop-id.texts.keys) (map string_bytes c.insert_one.new.texts.keys) c.in-Some.ensures.text c.loop-id.invariant c.in_ok-insert_one-in-Some.ensures

pub returns-in-Some-text-clause-texts : goal.returns-in-Some-text-clause-texts
returns-in-Some-text-clause-texts c =
    let last = c.loop-id-test.false in
    let end = c.loop-id.auto.id-end in
    let at : Some c.in-Some-text.text.now ≡ slice_get c.args.names.now c.loop-id.id = c.in-Some-text.ensures.text ∙ ap (slice_get c.args.names.now) (omega (arith, last, end)) in
    last-name c.args.names.now c.loop-id.id c.in-Some-text.text.now (map string_bytes c.loop-id.texts.keys) (map string_bytes c.insert_one-in-Some-text.new.texts.keys) c.insert_one-in-Some-text.result
    c.in-Some-text.ensures.names (omega (arith, last)) at c.loop-id.invariant c.insert_one-in-Some-text.ensures

pub returns-in-Some-text-clause-names : goal.returns-in-Some-text-clause-names
returns-in-Some-text-clause-names c = kept c.insert_one-in-Some-text.result c.in-Some-text.ensures.names

pub returns-in-None-text-clause-texts : goal.returns-in-None-text-clause-texts
returns-in-None-text-clause-texts c =
    let last = c.loop-id-test.false in
    let end = c.in-None-text.ensures.past_end.0 refl in
    all-names c.args.names.now c.loop-id.id (map string_bytes c.loop-id.texts.keys) c.in-None-text.ensures.names (omega (arith, last, end)) c.loop-id.invariant

pub returns-in-None-text-clause-names : goal.returns-in-None-text-clause-names
returns-in-None-text-clause-names c = c.in-None-text.ensures.names
