use Rattle.std.proofs.Common.{rules, sym, ◌∙◌, true, false, w64, FitsSigned}
use Rattle.std.proofs.lemmas.Int.{to_z-of_z}
use Rattle.ada_check_places.proofs.parts.Claiming.{meets_index, meets_entry}
use Rattle.ada_check_places.proofs.parts.claims.Claims.meets.Goals as goal

pub returns-then-is_whole : goal.returns-then-is_whole
returns-then-is_whole c = λ before kept.
    let fits : FitsSigned w64 c.in-Some.index = search rules in
    c.if-is_whole.true
    ∙ meets_index before c.args.self.now c.args.claim c.in-Some.index true c.contains-is_member.result kept c.in-Some.is (sym c.if-is_whole.true ∙ c.has-is_whole.ensures.named) (simp to_z-of_z at c.contains-is_member.ensures)

pub returns-else-is_whole : goal.returns-else-is_whole
returns-else-is_whole c = λ before kept.
    let fits : FitsSigned w64 c.in-Some.index = search rules in
    meets_index before c.args.self.now c.args.claim c.in-Some.index false c.contains-is_member.result kept c.in-Some.is (sym c.if-is_whole.false ∙ c.has-is_whole.ensures.named) (simp to_z-of_z at c.contains-is_member.ensures)

pub returns-in-None : goal.returns-in-None
returns-in-None c = λ before kept. meets_entry before c.args.self.now c.args.claim _ kept c.in-None.is c.has.ensures.named
