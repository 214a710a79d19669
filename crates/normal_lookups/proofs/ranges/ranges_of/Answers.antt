use Rattle.std.proofs.Common.{ap, ◌∙◌, map}
use Rattle.normal_lookups.specs.inner.Kept.{seen_range}
use Rattle.normal_lookups.proofs.Finding.{range_of_kept, range_of_named, ranges_seen}
use Rattle.normal_lookups.proofs.ranges.ranges_of.Goals as goal

pub returns : goal.returns
returns c =
    ap (map seen_range) (c.in_ok-ranges.ensures ∙ ap (map range_of_kept) c.deref.ensures.value)
    ∙ ranges_seen c.in_ok-parts.parts.items
    ∙ ap (map range_of_named) c.in_ok-parts.ensures
