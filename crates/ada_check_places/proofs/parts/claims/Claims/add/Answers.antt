use Rattle.std.proofs.Common.{rules, refl, w64, FitsSigned}
use Rattle.std.proofs.lemmas.Int.{to_z-of_z}
use Rattle.ada_check_places.proofs.parts.Claiming.{added_index, added_entry, onward}
use Rattle.ada_check_places.proofs.parts.claims.Claims.add.Goals as goal

pub returns-in-Ok : goal.returns-in-Ok
returns-in-Ok c = λ before kept.
    let fits : FitsSigned w64 c.in-Some.index = search rules in
    added_index before c.args.self.now _ c.args.claim c.in-Some.index kept c.in-Some.is c.in_ok-add.ensures refl (λ q. simp to_z-of_z at (c.in-Ok.ensures.updates.0 q))

pub returns-in-None : goal.returns-in-None
returns-in-None c = λ before kept. onward _ _ c.add-in-None.result (λ is. added_entry before c.args.self.now _ c.args.claim kept c.in-None.is c.in_ok-add.ensures is refl) c.add-in-None.ensures
