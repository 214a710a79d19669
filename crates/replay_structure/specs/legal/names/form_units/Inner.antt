-- The names that accepts and loops can declare in a legal program and in its normal form (8.3; this project's rule).
use Rattle.std.specs.Prelude.{ℕ, Bool, not, ◌&&◌, is_none}
use Rattle.ada_tree.specs.PlainProgram.{PProgram}
use Rattle.ada_static_rules.specs.Refusals.{types_in}
use Rattle.ada_static_rules.specs.RuleDuplicate.{is_predefined}
use Rattle.ada_static_rules.specs.StaticValue.{mark_named}
use Rattle.normal_laws.specs.legality.scopes.Plain.{plain_name}

-- The id is that of a plain name of the program that is neither a predefined name nor that of a type or subtype.
abbrev pub inner_name : PProgram → ℕ → Bool
inner_name p n = plain_name p n && (not (is_predefined n) && is_none (mark_named (types_in p) record { 0 = n }))
