use Rattle.std.proofs.Common.{◌≡◌, ◌≤◌, ◌<◌, List, [], ◌∷◌, length, map, false, Vec, Global, refl, ap, ◌∙◌, sym, subst, arith, inl, inr, length-append}
use Rattle.event_machine.specs.declared.Event.{Event}
use Rattle.seq_file.specs.declared.errors.SeqError.TheVariants.{AfterEnd}
use Rattle.seq_file.specs.declared.list_reading.Place.{Place}
use Rattle.seq_file.specs.Lists.{list_count}
use Rattle.seq_file.proofs.ListOutcomes.{lists-unique, lists-no_fault, list_fault-unique}
use Rattle.seq_file.proofs.ListReading.{AreRead, lists-start, task-more, task-fault, lists-end, lists-behind, memory-cases}
use Rattle.common_lemmas.proofs.Lists.{empty_by}
use Rattle.seq_file.proofs.list_reading.read_lists.Goals as goal

-- the header is bad
pub returns-in-Err-clause-only_lists : goal.returns-in-Err-clause-only_lists
returns-in-Err-clause-only_lists c = λ wanted h.
    absurd (lists-no_fault c.args.names.now c.args.numbers.now c.in-Err.ensures.short c.requires.name c.args.bytes.now wanted c.in-Err.error h (inl c.in-Err.ensures.fault))

pub returns-in-Err-clause-only_fault : goal.returns-in-Err-clause-only_fault
returns-in-Err-clause-only_fault c = λ fault h ne.
    list_fault-unique c.args.names.now c.args.numbers.now c.in-Err.ensures.short c.requires.name c.args.bytes.now c.in-Err.error fault (inl c.in-Err.ensures.fault) h

pub loop-task-init : goal.loop-task-init
loop-task-init c =
    let at : Place = record { rest = c.in-Ok.rest; line = 2; events = 0; ended = false } in
    let none : map {A = Vec Event Global} (λ v. v.items) c.new-lists.result.items ≡ [] = ap (map {A = Vec Event Global} (λ v. v.items)) c.new-lists.ensures.items in
    record {
      count = ap length none;
      read =
          subst (λ t. AreRead c.args.bytes.now c.args.numbers.now c.args.names.now t at) (sym none)
          (lists-start c.args.bytes.now c.args.numbers.now c.args.names.now at c.behind_list_header.ensures.short c.requires.length c.in-Ok.ensures.read refl refl refl);
    }

-- one more list
pub loop-task-preserved : goal.loop-task-preserved
loop-task-preserved c =
    let loop = c.loop-task in
    let lists : List (List Event) = map {A = Vec Event Global} (λ v. v.items) loop.lists.items in
    let events : List Event = c.in-Ok-read_list.next.0.items in
    let next : loop.task < list_count c.args.numbers.now = omega (arith, c.loop-task-test.true, c.list_count-count.ensures.is) in
    record {
      count = omega (arith, ap length c.in_ok-add_list.ensures.added, length-append lists (events ∷ []), loop.invariant.count);
      read =
          subst (λ t. AreRead c.args.bytes.now c.args.numbers.now c.args.names.now t c.in-Ok-read_list.next.1) (sym c.in_ok-add_list.ensures.added)
          (task-more c.args.bytes.now c.args.numbers.now c.args.names.now lists loop.place c.in-Ok-read_list.next.1 loop.task events loop.invariant.read loop.invariant.count next c.in-Ok-read_list.ensures.read);
    }

-- the next list is bad, or memory is wanting
pub returns-in-Err-read_list-clause-first_fault : goal.returns-in-Err-read_list-clause-first_fault
returns-in-Err-read_list-clause-first_fault c = λ ne.
    let loop = c.loop-task in
    let next : loop.task < list_count c.args.numbers.now = omega (arith, c.loop-task-test.true, c.list_count-count.ensures.is) in
    task-fault c.args.bytes.now c.args.numbers.now c.args.names.now (map {A = Vec Event Global} (λ v. v.items) loop.lists.items) loop.place loop.task c.in-Err-read_list.error loop.invariant.read loop.invariant.count next
    (c.in-Err-read_list.ensures.fault ne)

pub returns-in-Err-read_list-clause-only_lists : goal.returns-in-Err-read_list-clause-only_lists
returns-in-Err-read_list-clause-only_lists c = λ wanted h.
    let loop = c.loop-task in
    let next : loop.task < list_count c.args.numbers.now = omega (arith, c.loop-task-test.true, c.list_count-count.ensures.is) in
    elim (memory-cases c.in-Err-read_list.error) [
      | inl memory ↦ memory
      | inr ne ↦ absurd (lists-no_fault c.args.names.now c.args.numbers.now c.behind_list_header.ensures.short c.requires.name c.args.bytes.now wanted c.in-Err-read_list.error h
          (task-fault c.args.bytes.now c.args.numbers.now c.args.names.now (map {A = Vec Event Global} (λ v. v.items) loop.lists.items) loop.place loop.task c.in-Err-read_list.error loop.invariant.read loop.invariant.count next
          (c.in-Err-read_list.ensures.fault ne)))
    ]

pub returns-in-Err-read_list-clause-only_fault : goal.returns-in-Err-read_list-clause-only_fault
returns-in-Err-read_list-clause-only_fault c = λ fault h ne.
    let loop = c.loop-task in
    let next : loop.task < list_count c.args.numbers.now = omega (arith, c.loop-task-test.true, c.list_count-count.ensures.is) in
    list_fault-unique c.args.names.now c.args.numbers.now c.behind_list_header.ensures.short c.requires.name c.args.bytes.now c.in-Err-read_list.error fault
    (task-fault c.args.bytes.now c.args.numbers.now c.args.names.now (map {A = Vec Event Global} (λ v. v.items) loop.lists.items) loop.place loop.task c.in-Err-read_list.error loop.invariant.read loop.invariant.count next
    (c.in-Err-read_list.ensures.fault ne))
    h

-- all lists are read, and nothing is left
pub returns-then-is_empty-clause-only_lists : goal.returns-then-is_empty-clause-only_lists
returns-then-is_empty-clause-only_lists c = λ wanted h.
    let loop = c.loop-task in
    let lists : List (List Event) = map {A = Vec Event Global} (λ v. v.items) loop.lists.items in
    let all : list_count c.args.numbers.now ≤ length lists = omega (arith, c.loop-task-test.false, c.list_count-count.ensures.is, loop.invariant.count) in
    lists-unique c.args.names.now c.args.numbers.now c.behind_list_header.ensures.short c.requires.name c.args.bytes.now lists wanted
    (lists-end c.args.bytes.now c.args.numbers.now c.args.names.now lists loop.place loop.invariant.read all (empty_by loop.place.rest.now (sym c.is_empty.ensures ∙ c.if-is_empty.true)))
    h

pub returns-then-is_empty-clause-only_fault : goal.returns-then-is_empty-clause-only_fault
returns-then-is_empty-clause-only_fault c = λ fault h.
    let loop = c.loop-task in
    let lists : List (List Event) = map {A = Vec Event Global} (λ v. v.items) loop.lists.items in
    let all : list_count c.args.numbers.now ≤ length lists = omega (arith, c.loop-task-test.false, c.list_count-count.ensures.is, loop.invariant.count) in
    lists-no_fault c.args.names.now c.args.numbers.now c.behind_list_header.ensures.short c.requires.name c.args.bytes.now lists fault
    (lists-end c.args.bytes.now c.args.numbers.now c.args.names.now lists loop.place loop.invariant.read all (empty_by loop.place.rest.now (sym c.is_empty.ensures ∙ c.if-is_empty.true)))
    h

-- a line stands behind the last list
pub returns-else-is_empty-clause-only_lists : goal.returns-else-is_empty-clause-only_lists
returns-else-is_empty-clause-only_lists c = λ wanted h.
    let loop = c.loop-task in
    let lists : List (List Event) = map {A = Vec Event Global} (λ v. v.items) loop.lists.items in
    let all : list_count c.args.numbers.now ≤ length lists = omega (arith, c.loop-task-test.false, c.list_count-count.ensures.is, loop.invariant.count) in
    absurd (lists-no_fault c.args.names.now c.args.numbers.now c.behind_list_header.ensures.short c.requires.name c.args.bytes.now wanted (AfterEnd loop.place.line) h
    (lists-behind c.args.bytes.now c.args.numbers.now c.args.names.now lists loop.place loop.invariant.read all (sym c.is_empty.ensures ∙ c.if-is_empty.false)))

pub returns-else-is_empty-clause-only_fault : goal.returns-else-is_empty-clause-only_fault
returns-else-is_empty-clause-only_fault c = λ fault h ne.
    let loop = c.loop-task in
    let lists : List (List Event) = map {A = Vec Event Global} (λ v. v.items) loop.lists.items in
    let all : list_count c.args.numbers.now ≤ length lists = omega (arith, c.loop-task-test.false, c.list_count-count.ensures.is, loop.invariant.count) in
    list_fault-unique c.args.names.now c.args.numbers.now c.behind_list_header.ensures.short c.requires.name c.args.bytes.now (AfterEnd loop.place.line) fault
    (lists-behind c.args.bytes.now c.args.numbers.now c.args.names.now lists loop.place loop.invariant.read all (sym c.is_empty.ensures ∙ c.if-is_empty.false))
    h
