-- What tables tell a unit.
use Rattle.std.specs.Prelude.{ℕ, ◌-◌, ◌==◌, if◌then◌else◌, Option, None, slice_get, unwrap_or}
use Rattle.ada_tree.specs.declared.naming.NameId.{NameId}
use Rattle.replay_asking.specs.Looked.{member_by}
use Rattle.collect_model.specs.Teller.{Teller}
use Rattle.collect_statements.specs.declared.reporter.Reporter.{Reporter}

-- the type whose positions stand for the indices of an entry, if they do
abbrev pub mark_of : Reporter → ℕ → Option NameId
mark_of x e = if e == 0 then None else unwrap_or (slice_get x.tables.now.marks.items (e - 1)) None

abbrev pub teller_of : Reporter → Teller
teller_of x = record {
  added = x.tables.now.added;
  member = λ e s index. member_by (mark_of x e) s index;
  numbers = x.numbers.now;
  task = x.task;
}
