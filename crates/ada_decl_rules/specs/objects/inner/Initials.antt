-- The places of an initial value, by what it is for.
use Rattle.std.specs.Prelude.{List, [], ◌∷◌, ◌++◌, option_map}
use Rattle.ada_tree.specs.PlainDecl.{PInit}
use Rattle.ada_static_rules.specs.Scope.{Scope}
use Rattle.ada_static_rules.specs.Demand.{for_scalar, for_array, initializes, Site}
use Rattle.ada_static_rules.specs.Sites.{site, scalar_init_sites, array_init_sites, all_init_sites}
use Rattle.ada_scopes.specs.Entries.{plain_range}
use Rattle.ada_decl_rules.specs.declared.objects.initials.Holder.{Holder}
use Rattle.ada_decl_rules.specs.declared.objects.initials.Holder.TheVariants.{Scalar, Array, Unclear}

abbrev pub holder_sites : Scope → Holder → PInit → List Site
holder_sites scope (Scalar range) value = scalar_init_sites scope (option_map plain_range range) value ++ site scope (initializes for_scalar value) ∷ []
holder_sites scope (Array index part) value = array_init_sites scope (option_map plain_range part) value ++ site scope (initializes (for_array (plain_range index)) value) ∷ []
holder_sites scope Unclear value = all_init_sites scope value
