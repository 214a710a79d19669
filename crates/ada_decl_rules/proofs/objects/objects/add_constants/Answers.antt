use Rattle.std.proofs.Common.{rules, ◌≡◌, w32, w64, FitsSigned, IfOk, sym, subst, ◌∙◌}
use Rattle.std.proofs.lemmas.Int.{to_z-of_z}
use Rattle.ada_static_rules.specs.Declaring.{with_types, constant_mark}
use Rattle.ada_scopes.specs.Denotations.{plain_thing}
use Rattle.ada_decl_rules.proofs.objects.Objecting.{values_are}
use Rattle.ada_decl_rules.proofs.objects.objects.add_constants.Goals as goal

pub returns-in_ok-bound-in-Some-value_at : goal.returns-in_ok-bound-in-Some-value_at
returns-in_ok-bound-in-Some-value_at c =
    let fits : FitsSigned w64 c.in-Some-value_at.value = search rules in
    let narrow : FitsSigned w32 c.in_ok-bound-in-Some-value_at.field-0 = search rules in
    subst (λ t. IfOk c.add_all.result (λ after. after ≡ with_types t c.args.scope))
    (values_are c.args.scope c.args.names.now (constant_mark (plain_thing c.args.thing.now)) c.args.known c.in-Some.mark c.in-Some-value_at.value c.in_ok-bound-in-Some-value_at.field-0
    (sym c.is_in_main.ensures ∙ c.if-not-is_in_main.false) (sym c.constant_mark.ensures ∙ c.in-Some.is) (sym c.value_at.ensures ∙ c.in-Some-value_at.is) (simp to_z-of_z at c.in_ok-bound-in-Some-value_at.ensures))
    (simp to_z-of_z at c.add_all.ensures)
