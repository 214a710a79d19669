use Rattle.std.proofs.Common.{sym}
use Rattle.interp.proofs.running.standing.Goals as goal

-- a list that is kept is that of the actions that apply
pub returns-then-is_kept : goal.returns-then-is_kept
returns-then-is_kept c =
    let kept = c.requires c.if-is_kept.true in
    record { halted = sym kept.goes_on; listed = λ e. kept.listed; some = λ e. kept.some; few = λ e. kept.few }
