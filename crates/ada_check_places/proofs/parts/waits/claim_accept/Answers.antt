use Rattle.std.proofs.Common.{◌≡◌, ℤ, ap, sym, subst, ◌∙◌, [], ◌∷◌, Option, map, option_map, if◌then◌else◌}
use Rattle.std.specs.List.{list_any}
use Rattle.ada_tree.specs.PlainExpr.{plain_expr}
use Rattle.ada_tree.specs.PlainStmt.{PHead}
use Rattle.ada_check_rules.specs.rules.Sooner.{found}
use Rattle.ada_check_places.specs.parts.inner.Claiming.{claim_of, meets, AreClaims}
use Rattle.ada_check_places.specs.declared.parts.claims.Claim.{Claim}
use Rattle.ada_check_places.proofs.parts.Claiming.{clash_is}
use Rattle.ada_check_places.proofs.parts.waits.claim_accept.Goals as goal

pub returns : goal.returns
returns c = λ before formals kept.
    let h : PHead = record { entry = c.args.entry; index = option_map plain_expr c.args.index.now; formals = formals; span = c.args.span } in
    let claim : Option ℤ → Claim = λ i. record { entry = c.args.entry.name; index = i } in
    let same : claim c.index_value.result ≡ claim_of c.args.around.now.types h = ap claim c.index_value.ensures in
    let all = map (claim_of c.args.around.now.types) before in
    record {
      refusal_is =
          c.refuse_if.ensures
          ∙ ap (λ b. found 16 (if b then c.args.span ∷ [] else []))
          (c.meets-is_twice.ensures all kept ∙ ap (λ x. list_any (meets x) all) same ∙ sym (clash_is c.args.around.now.types h before));
      claims_are = subst (λ x. AreClaims (x ∷ all) c.add.new.self) same (c.in_ok-add.ensures all kept);
    }
