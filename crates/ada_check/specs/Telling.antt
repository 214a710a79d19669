-- What an error tells of a program that meets the first twelve rules.
use Rattle.std.specs.Prelude.{ℕ, Option, Some, None}
use Rattle.ada_tree.specs.declared.naming.Span.{Span}
use Rattle.syn_event.specs.RuleLimit.{Over}
use Rattle.syn_event.specs.CheckRefusals.{CheckRefusal}
use Rattle.ada_check.specs.declared.errors.CheckError.{CheckError}
use Rattle.ada_check.specs.declared.errors.CheckError.TheVariants.{Rule, SharedVariable, AcceptPlace, SelectForm, SameEntryTwice, ReservedName, MainEntry, AbortOrder, BodyMissing, ExitPlace, RaisePlace, Limit, Memory}

-- a refusal by the rule with this number at this place, with the limit that is passed where it is one (this project's rule)
abbrev pub refusal : ℕ → Option Over → Span → CheckRefusal
refusal rule over span = record { rule = rule; over = over; span = span }

-- the rule and the place that an error tells
abbrev pub refusal_of : CheckError → Option CheckRefusal
refusal_of (Rule e) = None
refusal_of (SharedVariable s) = Some (refusal 13 None s)
refusal_of (AcceptPlace s) = Some (refusal 14 None s)
refusal_of (SelectForm s) = Some (refusal 15 None s)
refusal_of (SameEntryTwice s) = Some (refusal 16 None s)
refusal_of (ReservedName s) = Some (refusal 17 None s)
refusal_of (MainEntry s) = Some (refusal 18 None s)
refusal_of (AbortOrder s) = Some (refusal 19 None s)
refusal_of (BodyMissing s) = Some (refusal 20 None s)
refusal_of (ExitPlace s) = Some (refusal 21 None s)
refusal_of (RaisePlace s) = Some (refusal 22 None s)
refusal_of (Limit what limit s) = Some (refusal 23 (Some record { what = what; limit = limit }) s)
refusal_of Memory = None
