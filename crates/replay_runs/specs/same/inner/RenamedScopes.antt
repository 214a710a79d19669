-- Scopes with other ids in the place of their own (8.2).
use Rattle.std.specs.Prelude.{map, ℕ}
use Rattle.ada_static_rules.specs.Declaring.{Declared, Made}
use Rattle.ada_static_rules.specs.Scope.{AnException, AnotherUnit, ArrayMark, ConstantObject, EntryPart, FormalPart, Literal, LoopParameter, MainProcedure, Marking, NameMeaning, NoMark, Parameter, ScalarMark, Scope, SingleTask, TaskArray, TaskMark, TaskObject, TaskType, Thing, TypeMark, Unclear, UnclearMark, UnknownMark, Variable}
use Rattle.replay_runs.specs.same.Renamed.{renamed_id, renamed_types}

module _ (f : ℕ → ℕ) where
  abbrev pub renamed_formal_part : FormalPart → FormalPart
  renamed_formal_part x = record { name = renamed_id f x.name; mode = x.mode; mark = renamed_id f x.mark; kind = x.kind }

  abbrev pub renamed_entry_part : EntryPart → EntryPart
  renamed_entry_part x = record { name = renamed_id f x.name; family = x.family; formals = map renamed_formal_part x.formals }

  abbrev pub renamed_thing : Thing → Thing
  renamed_thing (TypeMark m) = TypeMark m
  renamed_thing (TaskType entries) = TaskType (map renamed_entry_part entries)
  renamed_thing (SingleTask entries) = SingleTask (map renamed_entry_part entries)
  renamed_thing (TaskObject entries) = TaskObject (map renamed_entry_part entries)
  renamed_thing (TaskArray range entries) = TaskArray range (map renamed_entry_part entries)
  renamed_thing (Variable m) = Variable m
  renamed_thing (ConstantObject m) = ConstantObject m
  renamed_thing (Parameter mode m) = Parameter mode m
  renamed_thing (LoopParameter m) = LoopParameter m
  renamed_thing (Literal k) = Literal k
  renamed_thing AnException = AnException
  renamed_thing MainProcedure = MainProcedure
  renamed_thing AnotherUnit = AnotherUnit
  renamed_thing Unclear = Unclear

  abbrev pub renamed_meaning : NameMeaning → NameMeaning
  renamed_meaning x = record { name = f x.name; thing = renamed_thing x.thing }

  abbrev pub renamed_marking : Marking → Marking
  renamed_marking (ScalarMark m k) = ScalarMark m k
  renamed_marking (ArrayMark m range part) = ArrayMark m range part
  renamed_marking (TaskMark entries) = TaskMark (map renamed_entry_part entries)
  renamed_marking NoMark = NoMark
  renamed_marking UnknownMark = UnknownMark
  renamed_marking UnclearMark = UnclearMark

  abbrev pub renamed_scope : Scope → Scope
  renamed_scope s = record {
    types = renamed_types f s.types;
    names = map renamed_meaning s.names;
    here = map f s.here;
    in_main = s.in_main;
    own = map renamed_entry_part s.own;
    bodies = map f s.bodies;
    has_instance = s.has_instance;
  }

  abbrev pub renamed_made : Made → Made
  renamed_made m = record { types = renamed_types f m.types; mark = m.mark }

  abbrev pub renamed_declared : Declared → Declared
  renamed_declared d = record { types = renamed_types f d.types; thing = renamed_thing d.thing }
