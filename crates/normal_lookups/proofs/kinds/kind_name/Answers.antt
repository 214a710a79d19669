use Rattle.std.proofs.Common.{ap, sym, ◌∙◌, option_map}
use Rattle.normal_lookups.proofs.Finding.{kind_is}
use Rattle.normal_lookups.proofs.kinds.kind_name.Goals as goal

pub returns-in-Some : goal.returns-in-Some
returns-in-Some c = λ types same. c.name_or.ensures ∙ kind_is types c.args.names.now c.args.kind _ (sym c.meaning.ensures ∙ ap (option_map (λ t. t.now)) c.in-Some.is) same

pub returns-in-None : goal.returns-in-None
returns-in-None c = λ types same. kind_is types c.args.names.now c.args.kind _ (sym c.meaning.ensures ∙ ap (option_map (λ t. t.now)) c.in-None.is) same
