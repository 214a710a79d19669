use Rattle.std.proofs.Common.{length, take, ap, sym, ◌∙◌, refl}
use Rattle.std.proofs.lemmas.Option.{slice_get_within}
use Rattle.replay_asking.proofs.names.Places.{id_there, id_nowhere, take-interned}
use Rattle.replay_asking.proofs.names.finding.find.Goals as goal

pub returns-in-Some-clause-id : goal.returns-in-Some-clause-id
returns-in-Some-clause-id c =
    ap (λ n. record { 0 = n }) (sym (id_there _ c.args.names.now _ _ c.in_ok-id.ensures.names (ap (take (length c.args.names.now)) c.in_ok-id.ensures.texts ∙ take-interned _ _ _ c.requires) c.in_ok-id.ensures.named (slice_get_within _ _ _ (sym c.in-Some.ensures.text))))

pub returns-in-None-clause-id : goal.returns-in-None-clause-id
returns-in-None-clause-id c =
    ap (λ n. record { 0 = n }) (sym (id_nowhere _ c.args.names.now _ _ c.in_ok-id.ensures.names (ap (take (length c.args.names.now)) c.in_ok-id.ensures.texts ∙ take-interned _ _ _ c.requires) c.in_ok-id.ensures.named (c.in-None.ensures.past_end.0 refl)))
