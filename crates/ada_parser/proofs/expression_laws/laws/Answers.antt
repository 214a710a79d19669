use Rattle.ada_expr_parser.proofs.readers.Exactly.{finds_exactly, faults_exactly}
use Rattle.ada_expr_parser.specs.declared.levels.Level.TheVariants.{Logical, Simple}
use Rattle.ada_expr_parser.specs.Reading.{expr}
use Rattle.ada_expr_parser.specs.Parts as parts
use Rattle.ada_parser.proofs.expression_laws.Plainly.{law_is_expr}
use Rattle.ada_parser.proofs.expression_laws.Building.{law_bounds, law_subind, law_drange}
use Rattle.ada_parser.proofs.expression_laws.Calling.{law_target, law_choice}
use Rattle.ada_parser.proofs.expression_laws.Entries.{law_call}
use Rattle.ada_parser.proofs.expression_laws.Behinds.{law_behind_at}
use Rattle.ada_parser.proofs.expression_laws.Stopper.{stopper, stopper_ends, stopper_mark, stopper_range, stopper_target, stopper_choice}
use Rattle.std.specs.Prelude.{◌+◌}
use Rattle.ada_parser.proofs.expression_laws.laws.Goals as goal

pub returns : goal.returns
returns c = record {
  finds = λ l. finds_exactly (λ d. expr d l) (λ d. law_is_expr d l) stopper (stopper_ends l);
  refuses = λ l. faults_exactly (λ d. expr d l) (λ d. law_is_expr d l) stopper (stopper_ends l);
  finds_parts = record {
    bounds = finds_exactly parts.bounds law_bounds stopper (stopper_ends Simple);
    subind = finds_exactly parts.subind law_subind stopper stopper_mark;
    drange = finds_exactly parts.drange law_drange stopper stopper_range;
    target = finds_exactly parts.target law_target stopper stopper_target;
    call = finds_exactly parts.call law_call stopper stopper_target;
    choice = finds_exactly parts.choice law_choice stopper stopper_choice;
  };
  refuses_parts = record {
    bounds = faults_exactly parts.bounds law_bounds stopper (stopper_ends Simple);
    subind = faults_exactly parts.subind law_subind stopper stopper_mark;
    drange = faults_exactly parts.drange law_drange stopper stopper_range;
    target = faults_exactly parts.target law_target stopper stopper_target;
    call = faults_exactly parts.call law_call stopper stopper_target;
    choice = faults_exactly parts.choice law_choice stopper stopper_choice;
  };
  finds_behind = λ low first items is. finds_exactly (λ d. parts.expr_behind (low + d) first) (λ d. law_behind_at low first items is d) stopper (stopper_ends Logical);
  refuses_behind = λ low first items is. faults_exactly (λ d. parts.expr_behind (low + d) first) (λ d. law_behind_at low first items is d) stopper (stopper_ends Logical);
}
