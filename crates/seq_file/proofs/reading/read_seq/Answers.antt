use Rattle.std.proofs.Common.{◌≡◌, ◌≢◌, sym, subst, ◌∙◌, [], ◌∷◌, ◌++◌, length, inl, rules, Some, false}
use Rattle.seq_file.specs.Files.{line_fault}
use Rattle.seq_file.specs.inner.NextEvents.{IsNextEvent}
use Rattle.seq_file.proofs.Filing.{IsReadTo, read-start, read-more, read-end, read-fault, reads-no_fault, reads-unique, fault-unique}
use Rattle.common_lemmas.proofs.Lists.{empty_by}
use Rattle.seq_file.proofs.text_lines.Filing.{some-by}
use Rattle.seq_file.proofs.reading.read_seq.Goals as goal

-- the header is bad
pub returns-in-Err-clause-only_events : goal.returns-in-Err-clause-only_events
returns-in-Err-clause-only_events c wanted h =
    absurd (reads-no_fault c.args.names.now c.args.numbers.now c.in-Err.ensures.short c.requires.name c.args.bytes.now wanted c.in-Err.error h (inl c.in-Err.ensures.fault))

pub returns-in-Err-clause-only_fault : goal.returns-in-Err-clause-only_fault
returns-in-Err-clause-only_fault c fault h ne =
    fault-unique c.args.names.now c.args.numbers.now c.in-Err.ensures.short c.requires.name c.args.bytes.now c.in-Err.error fault (inl c.in-Err.ensures.fault) h

pub loop-rest-init : goal.loop-rest-init
loop-rest-init c =
    subst (λ t. IsReadTo c.args.bytes.now c.args.numbers.now c.args.names.now t c.in-Ok.rest.now false) (sym c.new-events.ensures.items) (read-start c.args.bytes.now c.args.numbers.now c.args.names.now c.in-Ok.rest.now c.behind_header.ensures.short c.in-Ok.ensures.read)

-- all lines are read
pub returns-clause-only_events : goal.returns-clause-only_events
returns-clause-only_events c wanted h =
    reads-unique c.args.names.now c.args.numbers.now c.behind_header.ensures.short c.args.bytes.now c.loop-rest.events.items wanted
    (read-end c.args.bytes.now c.args.numbers.now c.args.names.now c.loop-rest.events.items c.loop-rest.rest.now c.loop-rest.ended c.loop-rest.invariant (empty_by c.loop-rest.rest.now (sym c.is_empty.ensures ∙ c.loop-rest-test.false))) h

pub returns-clause-only_fault : goal.returns-clause-only_fault
returns-clause-only_fault c fault h =
    reads-no_fault c.args.names.now c.args.numbers.now c.behind_header.ensures.short c.requires.name c.args.bytes.now c.loop-rest.events.items fault
    (read-end c.args.bytes.now c.args.numbers.now c.args.names.now c.loop-rest.events.items c.loop-rest.rest.now c.loop-rest.ended c.loop-rest.invariant (empty_by c.loop-rest.rest.now (sym c.is_empty.ensures ∙ c.loop-rest-test.false))) h

-- the next line is bad
pub returns-in-Err-next_event-clause-only_events : goal.returns-in-Err-next_event-clause-only_events
returns-in-Err-next_event-clause-only_events c wanted h =
    let count : c.len.result ≡ length c.loop-rest.events.items = search rules in
    let more : c.loop-rest.rest.now ≢ [] = some-by c.loop-rest.rest.now (sym c.is_empty.ensures ∙ c.loop-rest-test.true) in
    absurd (reads-no_fault c.args.names.now c.args.numbers.now c.behind_header.ensures.short c.requires.name c.args.bytes.now wanted c.in-Err-next_event.error h
    (read-fault c.args.bytes.now c.args.numbers.now c.args.names.now c.loop-rest.events.items c.loop-rest.rest.now c.loop-rest.ended c.in-Err-next_event.error c.loop-rest.invariant more
    (subst (λ n. line_fault c.args.numbers.now c.loop-rest.ended n c.loop-rest.rest.now ≡ Some c.in-Err-next_event.error) count c.in-Err-next_event.ensures.fault)))

pub returns-in-Err-next_event-clause-only_fault : goal.returns-in-Err-next_event-clause-only_fault
returns-in-Err-next_event-clause-only_fault c fault h ne =
    let count : c.len.result ≡ length c.loop-rest.events.items = search rules in
    let more : c.loop-rest.rest.now ≢ [] = some-by c.loop-rest.rest.now (sym c.is_empty.ensures ∙ c.loop-rest-test.true) in
    fault-unique c.args.names.now c.args.numbers.now c.behind_header.ensures.short c.requires.name c.args.bytes.now c.in-Err-next_event.error fault
    (read-fault c.args.bytes.now c.args.numbers.now c.args.names.now c.loop-rest.events.items c.loop-rest.rest.now c.loop-rest.ended c.in-Err-next_event.error c.loop-rest.invariant more
    (subst (λ n. line_fault c.args.numbers.now c.loop-rest.ended n c.loop-rest.rest.now ≡ Some c.in-Err-next_event.error) count c.in-Err-next_event.ensures.fault))
    h

-- one more event
pub loop-rest-preserved : goal.loop-rest-preserved
loop-rest-preserved c =
    let items = c.loop-rest.events.items in
    let event = c.in-Ok-next_event.next.0 in
    let behind = c.in-Ok-next_event.next.1.now in
    let count : c.len.result ≡ length c.loop-rest.events.items = search rules in
    let next = read-more c.args.bytes.now c.args.numbers.now c.args.names.now items c.loop-rest.rest.now behind c.loop-rest.ended event c.behind_header.ensures.short c.loop-rest.invariant
    (subst (λ n. IsNextEvent c.args.numbers.now c.loop-rest.ended n c.loop-rest.rest.now event behind) count c.in-Ok-next_event.ensures.read) in
    subst (λ t. IsReadTo c.args.bytes.now c.args.numbers.now c.args.names.now t behind c.is_end-ended.result) (sym c.in_ok-add.ensures.added)
    (subst (λ e. IsReadTo c.args.bytes.now c.args.numbers.now c.args.names.now (items ++ (event ∷ [])) behind e) (sym c.is_end-ended.ensures) next)
