use Rattle.std.proofs.Common.{sym, subst, map}
use Rattle.ada_check_places.specs.parts.inner.Claiming.{claim_of, AreClaims}
use Rattle.ada_check_places.proofs.parts.Claiming.{heads_before, heads_more, claims_told, claims_end}
use Rattle.ada_check_places.proofs.parts.waits.refuse_twice.Goals as goal

pub loop-alt-preserved : goal.loop-alt-preserved
loop-alt-preserved c =
    let claimed = c.in_ok-found.ensures (heads_before c.args.alts.now c.loop-alt.alt-index) c.loop-alt.invariant.kept in
    record {
      kept = subst (λ l. AreClaims (map (claim_of c.args.around.now.types) l) c.claim_kind.new.claims) (sym (heads_more c.args.alts.now c.loop-alt.alt-index c.alt-item.result c.loop-alt-test.true c.alt-item.is)) claimed.claims_are;
      told = claims_told c.args.around.now.types c.args.alts.now c.loop-alt.alt-index c.alt-item.result _ _ _ _ c.loop-alt-test.true c.alt-item.is c.loop-alt.invariant.told claimed.refusal_is c.first-refusal.ensures;
    }

pub returns : goal.returns
returns c = claims_end c.args.around.now.types c.args.alts.now c.loop-alt.alt-index _ _ c.loop-alt-test.false c.loop-alt.invariant.told
