use Rattle.ada_decl_rules.proofs.duplicates.Noting.{labelled, unlabelled}
use Rattle.ada_decl_rules.proofs.duplicates.namings_in_order.note_label.Goals as goal

pub returns-in_ok-push-in-Some : goal.returns-in_ok-push-in-Some
returns-in_ok-push-in-Some c = labelled c.args.namings.now.items c.push.new.self.items c.args.name c.in-Some.word c.in-Some.is c.in_ok-push-in-Some.ensures.items

pub returns-in-None : goal.returns-in-None
returns-in-None c = unlabelled c.args.namings.now.items c.args.name c.in-None.is
