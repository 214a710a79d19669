-- The names that accepts and loops can declare in a legal program, its normal form and its collecting text (8.3; this project's rule): those of a replay
-- text's, but for names with a static value. A name of main with a static value is declared nowhere else, and it may be the index of an accept.
use Rattle.std.specs.Prelude.{◌≡◌, ℕ, Bool, false, ◌&&◌, List, is_none, None}
use Rattle.std.specs.List.{AllByRecursion}
use Rattle.ada_tree.specs.PlainProgram.{PProgram}
use Rattle.ada_tree.specs.TypeTable.{TypeTable}
use Rattle.ada_static_rules.specs.Demand.{Demand, declares, Site}
use Rattle.ada_static_rules.specs.StaticValue.{value_named}
use Rattle.ada_static_rules.specs.Refusals.{types_in}
use Rattle.replay_structure.specs.legal.names.form_units.Inner.{inner_name}

abbrev pub inner_told : PProgram → ℕ → Bool
inner_told p n = inner_name p n && is_none (value_named (types_in p) record { 0 = n })

-- a name that is declared as no name of main, or as a variable of it, is that of no static value
abbrev pub DeclaresFree : TypeTable → Demand → Type 0
DeclaresFree T (declares false w) = value_named T w.name ≡ None
DeclaresFree T _ = Prim.Unit {0}

-- so it is at all these places
abbrev pub AllFree : TypeTable → List Site → Type 0
AllFree T xs = AllByRecursion (λ (x : Site). DeclaresFree T x.demand) xs
