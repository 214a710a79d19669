use Rattle.std.proofs.Common.{sym, refl, arith, ap, ◌∙◌, map}
use Rattle.std.proofs.lemmas.List.{take_all}
use Rattle.normal_model.specs.Names.{id_of}
use Rattle.replay_model.specs.Names.{double_text}
use Rattle.replay_asking.proofs.names.Places.{mapped_last}
use Rattle.replay_asking.proofs.names.doubles.put_last_double.Goals as goal

pub returns-in-Some-clause-ids : goal.returns-in-Some-clause-ids
returns-in-Some-clause-ids c =
    let fits = c.in-Some.ensures.names.fits in
    mapped_last _ c.args.originals.now 4294967295 _ _ _ c.put_double.result (omega (arith, fits)) (sym c.in-Some.ensures.text) c.requires.others c.put_double.ensures.ids

pub returns-in-None-clause-ids : goal.returns-in-None-clause-ids
returns-in-None-clause-ids c =
    c.requires.others ∙ ap (map (λ t. id_of c.args.names.now (double_text t))) (take_all 4294967295 c.args.originals.now (c.in-None.ensures.past_end.0 refl))
