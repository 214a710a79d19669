use Rattle.std.proofs.Common.{◌+◌, ◌∷◌, subst, map, drop, refl}
use Rattle.ada_tree.specs.PlainDecl.{plain_entry}
use Rattle.ada_static_rules.specs.Sites.{entry_sites, entries_sites}
use Rattle.scoped_names.specs.name_sets.Numbers.{numbers_in}
use Rattle.ada_decl_rules.specs.duplicates.NamingsInOrder.{Named}
use Rattle.ada_decl_rules.proofs.duplicates.Noting.{member_named, members_over}
use Rattle.ada_decl_rules.proofs.duplicates.named_so_far.note_entries.Goals as goal

pub loop-entry-preserved : goal.loop-entry-preserved
loop-entry-preserved c = λ new q.
    c.loop-entry.invariant new
    (member_named plain_entry (λ s. entry_sites s (numbers_in c.loop-entry.names) (plain_entry c.entry-item.result)) (λ s ps. entries_sites s (numbers_in c.loop-entry.names) ps) (λ s ps. entries_sites s (c.entry-item.result.name.name.0 ∷ (numbers_in c.loop-entry.names)) ps) c.args.entries.now c.loop-entry.entry-index c.entry-item.result c.loop-entry-test.true c.entry-item.is (λ s ps. refl)
    c.loop-entry.namings.items c.note_entry.new.namings.items new c.in_ok-note_entry.ensures.namings
    (subst (λ names. Named c.note_entry.new.namings.items new (λ s. entries_sites s names (map plain_entry (drop (c.loop-entry.entry-index + 1) c.args.entries.now)))) c.in_ok-note_entry.ensures.names q))

pub returns : goal.returns
returns c = c.loop-entry.invariant c.loop-entry.namings.items (members_over plain_entry (λ s ps. entries_sites s (numbers_in c.loop-entry.names) ps) c.args.entries.now c.loop-entry.entry-index c.loop-entry-test.false (λ s. refl) c.loop-entry.namings.items)
