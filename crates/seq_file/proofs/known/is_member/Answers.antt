use Rattle.std.proofs.Common.{ap, ◌∙◌, false}
use Rattle.std.proofs.lemmas.Int.{to_z-of_z}
use Rattle.std.specs.Int.{w64}
use Rattle.std.specs.Option.{option_map_or}
use Rattle.seq_file.specs.Known.{fits_entry}
use Rattle.seq_file.proofs.Indexing.{fits-same}
use Rattle.seq_file.proofs.known.is_member.Goals as goal

pub returns-in-Some-clause-is : goal.returns-in-Some-clause-is
returns-in-Some-clause-is c z e =
    c.fits_entry.ensures.is
    ∙ ap (λ t. fits_entry t c.in-Some.info.now) (to_z-of_z w64 c.args.i c.ranges.i ∙ e)
    ∙ fits-same z c.in-Some.info.now
    ∙ ap (λ o. option_map_or (fits_entry z) o false) c.in-Some.ensures.is

pub returns-in-None-clause-is : goal.returns-in-None-clause-is
returns-in-None-clause-is c z e = ap (λ o. option_map_or (fits_entry z) o false) c.in-None.ensures.is
