use Rattle.std.proofs.Common.{sym, ◌∙◌, rules, map}
use Rattle.ada_expr_parser.specs.readers.Readers.{items, fronted}
use Rattle.ada_task_parser.specs.inner.ReadingTasks.{begins_member, member}
use Rattle.ada_phrase_parser.specs.Views.{told}
use Rattle.ada_task_parser.specs.inner.MemberViews.{plain_member}
use Rattle.ada_expr_parser.specs.Gives.{Fails}
use Rattle.ada_phrase_parser.proofs.Lists.{grown, list_empty, list_over, list_fails, list_goes}
use Rattle.ada_task_parser.proofs.task_items.members_onto.Goals as goal

pub returns-in_default-clause-tree : goal.returns-in_default-clause-tree
returns-in_default-clause-tree c =
    list_empty (begins_member) (member (told c.args.source.now) c.args.depth) (map plain_member c.members.list.items) (map plain_member c.args.list.now.items) c.members.rest.now c.args.items.now c.members.invariant c.in_default.len_below

pub returns-then-not-begins_member-clause-tree : goal.returns-then-not-begins_member-clause-tree
returns-then-not-begins_member-clause-tree c =
    list_over (begins_member) (member (told c.args.source.now) c.args.depth) (map plain_member c.members.list.items) (map plain_member c.args.list.now.items) c.members.rest.now c.args.items.now _ c.members.invariant c.in-len1-up.len_at_least (sym c.begins_member.ensures ∙ c.if-not-begins_member.true)

pub returns-in_err-member-clause-tree : goal.returns-in_err-member-clause-tree
returns-in_err-member-clause-tree c =
    let fails : Fails c.in_err-member.field-0.0 (fronted (map plain_member c.args.list.now.items) (items (begins_member) (member (told c.args.source.now) c.args.depth) c.args.items.now)) =
    list_fails (begins_member) (member (told c.args.source.now) c.args.depth) (map plain_member c.members.list.items) (map plain_member c.args.list.now.items) c.members.rest.now c.args.items.now _ c.in_err-member.field-0.0 c.members.invariant c.in-len1-up.len_at_least (sym c.begins_member.ensures ∙ c.if-not-begins_member.false) c.in_err-member.ensures.tree in
    search (rules, fails)

pub members-preserved : goal.members-preserved
members-preserved c =
    list_goes (begins_member) (member (told c.args.source.now) c.args.depth) (map plain_member c.members.list.items) (map plain_member c.args.list.now.items) c.members.rest.now c.args.items.now _
    (map plain_member c.add.new.list.items) (plain_member c.in_ok-member.member) c.in_ok-member.behind.now (grown plain_member c.members.list.items c.add.new.list.items c.in_ok-member.member c.in_ok-add.ensures.added) c.members.invariant
    c.in-len1-up.len_at_least (sym c.begins_member.ensures ∙ c.if-not-begins_member.false) c.in_ok-member.ensures.tree c.in_ok-member.ensures.shorter
