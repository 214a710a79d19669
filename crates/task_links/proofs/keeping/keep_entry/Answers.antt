use Rattle.std.proofs.Common.{sym, ◌∙◌}
use Rattle.task_links.specs.inner.Keys.{entry_eq}
use Rattle.task_links.proofs.KeepingLemmas.{kept, put, entry_equiv}
use Rattle.task_links.proofs.keeping.keep_entry.Goals as goal

pub returns-then-known : goal.returns-then-known
returns-then-known c = λ q. kept entry_eq entry_equiv c.args.map.now c.args.key q c.args.number (sym c.contains_key-known.ensures ∙ c.if-known.true)

pub returns-in-Ok : goal.returns-in-Ok
returns-in-Ok c = λ q. put entry_eq entry_equiv c.args.map.now c.insert.new.self c.args.key q c.args.number (sym c.contains_key-known.ensures ∙ c.if-known.false) (c.in-Ok.ensures.updates.0 q)
