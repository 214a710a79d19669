use Rattle.std.proofs.Common.{◌≡◌, ap, ◌∙◌}
use Rattle.ada_tree.specs.declared.static_types.Mark.{Mark}
use Rattle.ada_tree.specs.declared.static_types.Kind.TheVariants.{Integer, Truth}
use Rattle.ada_tree.specs.TypeTable.{TypeTable}
use Rattle.ada_static_rules.specs.Declaring.{add_kind, add_mark}
use Rattle.common_lemmas.proofs.Results.{if_ok}
use Rattle.ada_scopes.proofs.predefined.first_table.Goals as goal

-- a mark more
marked : (t u v : TypeTable) (m n : Mark) → t ≡ add_mark u m → m ≡ n → u ≡ v → t ≡ add_mark v n
marked t u v m n h e g = h ∙ ap (add_mark u) e ∙ ap (λ x. add_mark x n) g

pub returns : goal.returns
returns c =
    let kinds = c.in_ok-with_kind-2.ensures ∙ ap (λ t. add_kind t Truth) (c.in_ok-with_kind.ensures ∙ ap (λ t. add_kind t Integer) c.new.ensures) in
    let integer = marked _ _ _ _ _ c.in_ok-with_mark.ensures c.mark.ensures kinds in
    let natural = marked _ _ _ _ _ c.in_ok-with_mark-2.ensures c.mark-2.ensures integer in
    let positive = marked _ _ _ _ _ c.in_ok-with_mark-3.ensures c.mark-3.ensures natural in
    if_ok c.with_mark-4.result (λ t h. marked t _ _ _ _ h c.mark-4.ensures positive) c.with_mark-4.ensures
