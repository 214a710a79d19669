-- What tables tell a unit is what the definitions tell it.
use Rattle.std.proofs.Common.{◌≡◌, ℕ, List}
use Rattle.normal_model.specs.RewrittenUnit.{RewrittenUnit}
use Rattle.normal_parts.proofs.Told.{marks-is, member-is}
use Rattle.collect_model.specs.Names.{collect_names}
use Rattle.collect_model.specs.Teller.{teller_in}
use Rattle.collect_statements.specs.declared.reporter.Reporter.{Reporter}
use Rattle.collect_statements.specs.Looked.{mark_of, teller_of}
use Rattle.collect_xform.specs.Looking.{AreTables}

pub teller-is :
    (u : RewrittenUnit) (x : Reporter) →
    AreTables u.setting (collect_names u.setting.program) x.tables.now →
    x.numbers.now ≡ u.setting.numbers →
    x.task ≡ u.task →
    teller_of x ≡ teller_in u
teller-is u x are numbers task = λ i. record {
  added = are.added i;
  member = λ e s index. member-is u.setting (mark_of x e) e (marks-is u.setting x.tables.now.marks.items are.marks e) s index i;
  numbers = numbers i;
  task = task i;
}
