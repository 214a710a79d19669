-- What a unit is told by what was looked up.
use Rattle.normal_model.specs.Names.{id_of}
use Rattle.collect_model.specs.aborts.Names.{taken_text, refused_text}
use Rattle.collect_model.specs.aborts.AbortTeller.{AbortTeller}
use Rattle.collect_statements.specs.Looked.{teller_of}
use Rattle.collect_abort.specs.declared.teller.AbortReporter.{AbortReporter}

abbrev pub told_of : AbortReporter → AbortTeller
told_of x = record {
  teller = teller_of x.reporter;
  acceptors = x.acceptors;
  each = x.each;
  taken = λ n. id_of x.names.now (taken_text n);
  refused = λ n. id_of x.names.now (refused_text n);
}
