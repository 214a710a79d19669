use Rattle.std.proofs.Common.{sym}
use Rattle.common_lemmas.proofs.Results.{if_ok}
use Rattle.table_law.proofs.Interned.{id-is}
use Rattle.table_control.proofs.names.add.Goals as goal

pub returns-clause-id : goal.returns-clause-id
returns-clause-id c = if_ok c.intern.result (λ id named. sym (id-is c.intern.new.self c.args.text.now id.0 c.intern.ensures.names named)) c.intern.ensures.named
