-- What contracts see of what a name stands for as a value or as a mark.
use Rattle.ada_static_rules.specs.Scope as scope
use Rattle.ada_scopes.specs.Entries.{plain_range}
use Rattle.ada_scopes.specs.declared.readings.Reading.{Reading}
use Rattle.ada_scopes.specs.declared.readings.Reading.TheVariants.{Scalar, Array, NoValue, Unknown, Unclear}
use Rattle.ada_scopes.specs.declared.readings.Marking.{Marking}
use Rattle.ada_scopes.specs.declared.readings.Marking.TheVariants as marking

abbrev pub plain_reading : Reading → scope.Reading
plain_reading (Scalar k) = scope.AsScalar k
plain_reading (Array index part) = scope.AsArray index part
plain_reading NoValue = scope.AsNoValue
plain_reading Unknown = scope.AsUnknown
plain_reading Unclear = scope.AsUnclear

abbrev pub plain_marking : Marking → scope.Marking
plain_marking (marking.Scalar m k) = scope.ScalarMark m k
plain_marking (marking.Array m r part) = scope.ArrayMark m (plain_range r) part
plain_marking (marking.Task e) = scope.TaskMark e.now.value
plain_marking marking.NoMark = scope.NoMark
plain_marking marking.Unknown = scope.UnknownMark
plain_marking marking.Unclear = scope.UnclearMark
