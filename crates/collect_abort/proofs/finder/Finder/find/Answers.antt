use Rattle.std.proofs.Common.{Some, None, string_bytes}
use Rattle.collect_abort.proofs.Finding.{found-id}
use Rattle.collect_abort.proofs.finder.Finder.find.Goals as goal

pub returns-in-Some : goal.returns-in-Some
returns-in-Some c = rw (← c.self.view_is) (found-id string_bytes c.args.text.now c.self.inside.texts.keys (Some c.in-Some.place) c.in-Some.ensures.index)

pub returns-in-None : goal.returns-in-None
returns-in-None c = rw (← c.self.view_is) (found-id string_bytes c.args.text.now c.self.inside.texts.keys None c.in-None.ensures.index)
