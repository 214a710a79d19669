use Rattle.std.proofs.Common.{◌≡◌, ◌∙◌, ◌+◌, ◌≤◌, ◌++◌, refl, sym, ap, subst, take, length}
use Rattle.std.proofs.lemmas.Slice.{take-put_mid}
use Rattle.ded_io.proofs.pages.Drawn.{from_inside, kept}
use Rattle.ded_io.proofs.pages.paging.Page.keep.Goals as goal

pub returns : goal.returns
returns c = λ told faults.
    let same : c.copy_from_slice.new.self ≡ c.args.bytes.now = c.copy_from_slice.ensures.after in
    from_inside _ c.args.self.now told faults _ c.args.bytes.now c.self.view_is
    (kept _ _ _ refl refl refl
    (take-put_mid c.self.inside.filled _ c.self.inside.buffer c.copy_from_slice.new.self _ (ap (λ xs. c.self.inside.filled + length xs) (sym same)) (subst (λ n. c.self.inside.filled ≤ n) (sym c.self.told) c.self.invariant)
    ∙ ap (λ xs. take c.self.inside.filled c.self.inside.buffer ++ xs) same)
    (λ le. c.saturating_add-self-inside.ensures))
