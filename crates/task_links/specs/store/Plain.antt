-- What contracts see of a variable as it is read: the variable of the definitions.
use Rattle.ada_value.specs.Variables.{Object, object_with}
use Rattle.task_links.specs.declared.store.variables.Variable.{Variable}

-- A variable as the definitions have it.
abbrev pub plain_variable : Variable → Object
plain_variable v = object_with v.name v.form v.values.now
