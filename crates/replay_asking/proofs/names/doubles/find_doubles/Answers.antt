use Rattle.std.proofs.Common.{◌≡◌, map, take, sym, ap, ◌∙◌, arith}
use Rattle.normal_model.specs.Names.{id_of}
use Rattle.replay_model.specs.Names.{double_text}
use Rattle.replay_asking.proofs.names.Places.{mapped_more}
use Rattle.replay_asking.proofs.names.doubles.find_doubles.Goals as goal

pub loop-i-preserved : goal.loop-i-preserved
loop-i-preserved c = record {
  ids = c.in_ok-put_double-in-Some.ensures.ids ∙ mapped_more _ c.args.originals.now c.loop-i.i _ _ (sym c.in-Some.ensures.text) c.loop-i.invariant.ids;
  beside = c.in_ok-put_double-in-Some.ensures.beside;
}

pub put_last_double-requires-clause-others : goal.put_last_double-requires-clause-others
put_last_double-requires-clause-others c =
    let last = c.loop-i-test.false in
    let end = c.loop-i.auto.i-end in
    let all : c.loop-i.i ≡ 4294967295 = omega (arith, last, end) in
    c.loop-i.invariant.ids ∙ ap (λ n. map (λ t. id_of c.args.names.now (double_text t)) (take n c.args.originals.now)) all
