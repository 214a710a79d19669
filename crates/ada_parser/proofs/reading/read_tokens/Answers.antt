use Rattle.std.proofs.Common.{◌≡◌, sym, subst}
use Rattle.ada_expr_parser.specs.readers.Readers.{Found}
use Rattle.ada_expr_parser.specs.Gives.{Fails}
use Rattle.ada_parser.specs.inner.ReadingUnits.{text}
use Rattle.ada_parser.specs.Exactly.{IsRead}
use Rattle.ada_parser.specs.Refusals.{IsRefusedFor}
use Rattle.ada_parser.specs.inner.UnitViews.{plain_unit}
use Rattle.ada_parser.proofs.Exact.{read_found}
use Rattle.ada_parser.proofs.Answering.{refused_for}
use Rattle.ada_parser.proofs.reading.read_tokens.Goals as goal

pub returns-in-Ok-read_whole-clause-read : goal.returns-in-Ok-read_whole-clause-read
returns-in-Ok-read_whole-clause-read c =
    let is : text record { bytes = c.args.bytes.now; names = c.in-Ok.found.names } c.in-Ok.found.list.items ≡ Found (plain_unit c.in-Ok-read_whole.unit) c.in-Ok-read_whole.field-0-1.now =
    subst (λ l. text record { bytes = c.args.bytes.now; names = c.in-Ok.found.names } l ≡ Found (plain_unit c.in-Ok-read_whole.unit) c.in-Ok-read_whole.field-0-1.now) c.as_slice.ensures.value c.in-Ok-read_whole.ensures in
    subst (IsRead c.args.bytes.now) (sym c.program.ensures) (read_found c.args.bytes.now c.args.tokens.now c.in-Ok.found.names c.in-Ok.found.list.items c.requires.splits c.in-Ok.ensures.items c.in-Ok.ensures.names (plain_unit c.in-Ok-read_whole.unit) c.in-Ok-read_whole.field-0-1.now is)

pub returns-in-Err-read_whole-clause-refused : goal.returns-in-Err-read_whole-clause-refused
returns-in-Err-read_whole-clause-refused c =
    let is : Fails c.in-Err-read_whole.error (text record { bytes = c.args.bytes.now; names = c.in-Ok.found.names } c.in-Ok.found.list.items) =
    subst (λ l. Fails c.in-Err-read_whole.error (text record { bytes = c.args.bytes.now; names = c.in-Ok.found.names } l)) c.as_slice.ensures.value c.in-Err-read_whole.ensures in
    subst (IsRefusedFor c.args.bytes.now) (sym c.of_part.ensures) (refused_for c.args.bytes.now c.args.tokens.now c.in-Ok.found.names c.in-Ok.found.list.items c.in-Err-read_whole.error c.requires.splits c.in-Ok.ensures.items c.in-Ok.ensures.names is)
