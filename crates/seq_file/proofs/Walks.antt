-- Walks over the bytes of a name.
use Rattle.std.proofs.lemmas.List.Splits.{length-slice_split}
use Rattle.common_lemmas.proofs.Lists.{every-more, every-no}

pub ruleset walks = (every-more, every-no, length-slice_split)
