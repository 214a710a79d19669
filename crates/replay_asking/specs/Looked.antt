-- What tables tell a unit.
use Rattle.std.specs.Prelude.{ℕ, ◌-◌, ◌==◌, if◌then◌else◌, Option, Some, None, slice_get, unwrap_or}
use Rattle.ada_tree.specs.declared.naming.NameId.{NameId}
use Rattle.ada_tree.specs.declared.naming.Span.{Span}
use Rattle.ada_tree.specs.PlainExpr.{PExpr, EInteger, EAttributeOf}
use Rattle.normal_model.specs.Ranges.{word_at}
use Rattle.replay_asking.specs.Voice.{Voice}
use Rattle.replay_asking.specs.declared.speaker.Speaker.{Speaker}

-- an index as a number, by the name of the type whose positions are taken, where they are
abbrev pub number_by : Option NameId → Span → PExpr → PExpr
number_by None s e = e
number_by (Some mark) s e = EAttributeOf (word_at s mark) (word_at s record { 0 = 20 }) e s

-- the member of an entry as a number
abbrev pub member_by : Option NameId → Span → Option PExpr → PExpr
member_by mark s None = EInteger 0 s
member_by mark s (Some e) = number_by mark s e

-- the type whose positions stand for the indices of an entry, if they do
abbrev pub mark_of : Speaker → ℕ → Option NameId
mark_of x e = if e == 0 then None else unwrap_or (slice_get x.tables.now.marks.items (e - 1)) None

-- the id of a name's double
abbrev pub double_of : Speaker → NameId → NameId
double_of x id = unwrap_or (slice_get x.tables.now.doubles.items id.0) x.tables.now.other

abbrev pub voice_of : Speaker → Voice
voice_of x = record {
  added = x.tables.now.added;
  double = double_of x;
  member = λ e s index. member_by (mark_of x e) s index;
  numbers = x.numbers.now;
  task = x.task;
}
