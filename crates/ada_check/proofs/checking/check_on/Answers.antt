use Rattle.std.proofs.Common.{◌≡◌, Some, None}
use Rattle.ada_tree.specs.PlainProgram.{plain_program}
use Rattle.syn_event.specs.CheckSites.{check_sites}
use Rattle.syn_event.specs.AllNumbers.{all_numbers}
use Rattle.ada_check_rules.specs.rules.RefusedFirst.{refused_first}
use Rattle.ada_check.proofs.FirstRefusal.{meets_rules, is_told}
use Rattle.ada_check.proofs.checking.check_on.Goals as goal

pub returns-in-Some-clause-err : goal.returns-in-Some-clause-err
returns-in-Some-clause-err c =
    let found : Some c.in-Some.refusal ≡ refused_first record { mode = c.args.mode; names = (plain_program c.args.p.now).names } (check_sites (plain_program c.args.p.now)) = cc (c.in-Ok.ensures.refusal_is, c.in-Some.is, c.in-Ok.refusal-is) in
    is_told (plain_program c.args.p.now) c.args.mode c.in-Some.refusal c.error_of.result c.requires.rules found c.error_of.ensures

pub returns-in-Ok-numbers_for-clause-ok : goal.returns-in-Ok-numbers_for-clause-ok
returns-in-Ok-numbers_for-clause-ok c =
    let found : None ≡ refused_first record { mode = c.args.mode; names = (plain_program c.args.p.now).names } (check_sites (plain_program c.args.p.now)) = cc (c.in-Ok.ensures.refusal_is, c.in-None.is, c.in-Ok.refusal-is) in
    let numbered : c.in-Ok-numbers_for.numbers ≡ all_numbers c.in-Ok.field-0.types (plain_program c.args.p.now) = cc (c.in-Ok-numbers_for.ensures, c.in-Ok.types-is) in
    record {
      type_rules = c.requires.rules;
      check_rules = meets_rules (plain_program c.args.p.now) c.args.mode found;
      its_types = c.in-Ok.ensures.types_are;
      its_numbers = numbered;
    }
