-- What the tables of a progress say: how each task is known, and that the tables fit together.
use Rattle.std.specs.Prelude.{◌≡◌, ℕ, zero, suc, ◌+◌, ◌-◌, ◌<◌, ◌^◌, Bool, true, false, if◌then◌else◌, List, [], ◌∷◌, map, length, count_by, slice_index_or, slice_set, Option, Some, None, is_some}
use Rattle.event_machine.specs.Soundness.{times}
use Rattle.event_machine.specs.progress.Known.{Party, Known, is_by}
use Rattle.control_script.specs.declared.progress.task_records.Member.{Member}

-- what stands at a number that no task has
abbrev pub no_member : Member
no_member = record { closed = true; server = None; depth = 0; innermost = 0; outer = 0 }

-- a free task that serves nobody
abbrev pub idle_member : Member
idle_member = record { closed = false; server = None; depth = 0; innermost = 0; outer = 0 }

abbrev pub member_at : List Member → ℕ → Member
member_at members t = slice_index_or members t no_member

-- n callers, from c on, each with the one around it behind it
abbrev pub chain : List Member → ℕ → ℕ → List ℕ
chain members zero c = []
chain members (suc n) c = c ∷ chain members n (member_at members c).outer

-- an acceptor that is closed serves nobody
abbrev pub open_server : List Member → Option ℕ → Option ℕ
open_server members None = None
open_server members (Some a) = if (member_at members a).closed then None else Some a

-- How a task is known.
abbrev pub seen : List Member → Member → Party
seen members m = record {
  closed = m.closed;
  server = open_server members m.server;
  callers = if m.closed then [] else chain members m.depth m.innermost;
}

-- What is known by the tables.
abbrev pub known_of : List Member → Bool → Known
known_of members ended = record { parties = map (seen members) members; ended = ended }

-- The tables fit together: the callers of an open task are those that have it as their acceptor, each once, and never itself; their number is its depth; and
-- `served` counts the tasks that are served.
pub record IsLinked (members : List Member) (served : ℕ) : Type 0 where
  pub few : length members < 2 ^ 32
  pub callers : (a c : ℕ) → (member_at members a).closed ≡ false →
      times c (chain members (member_at members a).depth (member_at members a).innermost) ≡ (if is_by a (member_at members c).server then 1 else 0)
  pub itself : (a : ℕ) → (member_at members a).closed ≡ false → is_by a (member_at members a).server ≡ false
  pub depths : (a : ℕ) → (member_at members a).closed ≡ false → count_by (λ m. is_by a m.server) members ≡ (member_at members a).depth
  pub counted : count_by (λ m. is_some (open_server members m.server)) members ≡ served

-- ---- what is written

-- c is the innermost caller of a
abbrev pub called : List Member → ℕ → ℕ → List Member
called members c a = slice_set members a (record {
  closed = (member_at members a).closed;
  server = (member_at members a).server;
  depth = (member_at members a).depth + 1;
  innermost = c;
  outer = (member_at members a).outer;
})

-- c has this acceptor, and this caller around it
abbrev pub serving : List Member → ℕ → ℕ → ℕ → List Member
serving members c a outer = slice_set members c (record {
  closed = (member_at members c).closed;
  server = Some a;
  depth = (member_at members c).depth;
  innermost = (member_at members c).innermost;
  outer = outer;
})

abbrev pub met : List Member → ℕ → ℕ → List Member
met members c a = serving (called members c a) c a (member_at members a).innermost

-- a has one caller less, and this one innermost
abbrev pub left : List Member → ℕ → ℕ → List Member
left members a c = slice_set members a (record {
  closed = (member_at members a).closed;
  server = (member_at members a).server;
  depth = (member_at members a).depth - 1;
  innermost = c;
  outer = (member_at members a).outer;
})

-- c has no acceptor
abbrev pub unserved : List Member → ℕ → List Member
unserved members c = slice_set members c (record {
  closed = (member_at members c).closed;
  server = None;
  depth = (member_at members c).depth;
  innermost = (member_at members c).innermost;
  outer = (member_at members c).outer;
})

abbrev pub parted : List Member → ℕ → List Member
parted members a = unserved (left members a (member_at members (member_at members a).innermost).outer) (member_at members a).innermost

abbrev pub shut : List Member → ℕ → List Member
shut members x = slice_set members x (record {
  closed = true;
  server = (member_at members x).server;
  depth = (member_at members x).depth;
  innermost = (member_at members x).innermost;
  outer = (member_at members x).outer;
})
