-- What tables tell a unit is what the definitions tell it.
use Rattle.std.proofs.Common.{◌≡◌}
use Rattle.normal_model.specs.Names.{id_of}
use Rattle.normal_model.specs.RewrittenUnit.{RewrittenUnit}
use Rattle.normal_parts.proofs.Told.{marks-is, member-is}
use Rattle.collect_statements.specs.Looked.{mark_of}
use Rattle.collect_xform.specs.Looking.{AreTables}
use Rattle.collect_model.specs.aborts.Names.{acceptors_text, each_text, taken_text, refused_text}
use Rattle.collect_model.specs.aborts.AbortTeller.{told_in, names_told}
use Rattle.collect_abort.specs.declared.teller.AbortReporter.{AbortReporter}
use Rattle.collect_abort.specs.Looked.{told_of}

pub teller-is :
    (u : RewrittenUnit) (x : AbortReporter) →
    AreTables u.setting (names_told u.setting.program) x.reporter.tables.now →
    x.reporter.numbers.now ≡ u.setting.numbers →
    x.reporter.task ≡ u.task →
    x.names.now ≡ names_told u.setting.program →
    x.acceptors ≡ id_of (names_told u.setting.program) acceptors_text →
    x.each ≡ id_of (names_told u.setting.program) each_text →
    told_of x ≡ told_in u
teller-is u x are numbers task names acceptors each = λ i. record {
  teller = record {
    added = are.added i;
    member = λ e s index. member-is u.setting (mark_of x.reporter e) e (marks-is u.setting x.reporter.tables.now.marks.items are.marks e) s index i;
    numbers = numbers i;
    task = task i;
  };
  acceptors = acceptors i;
  each = each i;
  taken = λ n. id_of (names i) (taken_text n);
  refused = λ n. id_of (names i) (refused_text n);
}
