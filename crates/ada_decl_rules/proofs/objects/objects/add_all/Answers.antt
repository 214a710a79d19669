use Rattle.std.proofs.Common.{◌≡◌, ap, ◌∙◌, w32, FitsSigned, Some, take}
use Rattle.std.proofs.lemmas.Int.{to_z-of_z}
use Rattle.std.proofs.lemmas.List.{take_all}
use Rattle.ada_static_rules.specs.Declaring.{with_types, add_constants}
use Rattle.ada_decl_rules.proofs.objects.objects.add_all.Goals as goal

pub returns : goal.returns
returns c =
    let fits : FitsSigned w32 c.args.value = c.ranges.value in
    let so_far : c.loop-name.scope ≡ with_types (add_constants (take c.loop-name.name-index c.args.names.now) (Some c.args.mark) (Some c.args.value) c.args.scope.types) c.args.scope = simp to_z-of_z at c.loop-name.invariant in
    so_far
    ∙ ap (λ ws. with_types (add_constants ws (Some c.args.mark) (Some c.args.value) c.args.scope.types) c.args.scope) (take_all c.loop-name.name-index c.args.names.now c.loop-name-test.false)
