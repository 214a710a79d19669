use Rattle.std.proofs.Common.{rules, w32, w64, FitsSigned, ap, sym, ◌∙◌, ◌==◌, ◌&&◌, if◌then◌else◌, Some, None}
use Rattle.std.proofs.lemmas.Int.{to_z-of_z}
use Rattle.std.specs.HashMap.{get}
use Rattle.ada_static_rules.specs.StaticValue.{first_of_two}
use Rattle.task_model.specs.Setting.{is_member}
use Rattle.task_links.specs.inner.Keys.{member_eq}
use Rattle.task_links.proofs.KeepingLemmas.{none_kept, same_index}
use Rattle.common_lemmas.proofs.Results.{on_ok}
use Rattle.task_links.proofs.task_names.keep_if_member.Goals as goal

pub returns-in-Some : goal.returns-in-Some
returns-in-Some c =
    let fits : FitsSigned w32 c.in-Some.index = search rules in
    let wide_fits : FitsSigned w64 c.wide.result = search rules in
    on_ok c.keep_member.result (λ h q.
    h q
    ∙ ap (λ j. first_of_two (get member_eq c.args.map.now q) (if member_eq (c.args.info.name.0, j) q then Some c.args.number else None)) (to_z-of_z w64 c.wide.result wide_fits ∙ c.wide.ensures ∙ to_z-of_z w32 c.in-Some.index fits)
    ∙ same_index (get member_eq c.args.map.now q) (c.args.info.name.0 == q.0) c.args.number c.in-Some.index q.1
    ∙ ap (λ m. first_of_two (get member_eq c.args.map.now q) (if (c.args.info.name.0 == q.0) && is_member q.1 m then Some c.args.number else None)) (sym c.in-Some.is)) c.keep_member.ensures

pub returns-in-None : goal.returns-in-None
returns-in-None c = λ q.
    none_kept (get member_eq c.args.map.now q) (c.args.info.name.0 == q.0) c.args.number
    ∙ ap (λ m. first_of_two (get member_eq c.args.map.now q) (if (c.args.info.name.0 == q.0) && is_member q.1 m then Some c.args.number else None)) (sym c.in-None.is)
