use Rattle.std.proofs.Common.{◌≡◌, map, drop, []}
use Rattle.ada_tree.specs.PlainStmt.{plain_alt, alts_of}
use Rattle.syn_event.specs.RuleSelectForm.{alt_kinds}
use Rattle.syn_event.specs.RuleSameEntryTwice.{accept_heads, clashing}
use Rattle.ada_check_rules.specs.rules.Sooner.{sooner, found}
use Rattle.ada_check_places.specs.parts.inner.Claiming.{claim_of, AreClaims}
use Rattle.ada_check_places.proofs.parts.Claiming.{heads_before}
use Rattle.ada_check_places.proofs.parts.waits.refuse_twice.Given as goal

-- what the accepts so far are for is kept, and what is refused so far and of the alternatives that are left is what is refused of all
abbrev pub invariant-loop-alt : goal.invariant-loop-alt
invariant-loop-alt l = record {
  kept : AreClaims (map (claim_of l.around.types) (heads_before l.alts l.alt-index)) l.claims;
  told :
      sooner l.refusal (found 16 (clashing l.around.types (heads_before l.alts l.alt-index) (accept_heads (alt_kinds (alts_of (map plain_alt (drop l.alt-index l.alts)))))))
      ≡ found 16 (clashing l.around.types [] (accept_heads (alt_kinds (alts_of (map plain_alt l.alts)))));
}
