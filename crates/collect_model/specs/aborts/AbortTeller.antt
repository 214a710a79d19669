-- A unit of a collecting text of a program with abort statements, as a task that tells the recorder what it does (this project's rule): what must be known of the whole before its text is made.
use Rattle.std.specs.Prelude.{ℕ, List}
use Rattle.ada_tree.specs.declared.naming.NameId.{NameId}
use Rattle.ada_tree.specs.PlainProgram.{PProgram}
use Rattle.normal_model.specs.Names.{id_of}
use Rattle.normal_model.specs.RewrittenUnit.{RewrittenUnit}
use Rattle.replay_model.specs.Asking.{member_number}
use Rattle.collect_model.specs.Names.{added_in}
use Rattle.collect_model.specs.Teller.{Teller, teller_at}
use Rattle.collect_model.specs.aborts.Names.{acceptors_text, each_text, taken_text, refused_text, abort_names}
use Rattle.collect_model.specs.aborts.Places.{most_places}

-- What a unit is told: what it is told without aborts; the ids of the recorder's further names; and those of the variables of the place of a number.
pub record AbortTeller : Type 0 where
  pub teller : Teller
  pub acceptors : NameId
  pub each : NameId
  pub taken : ℕ → NameId
  pub refused : ℕ → NameId

-- the same for the unit of another task
abbrev pub told_at : AbortTeller → ℕ → AbortTeller
told_at x t = record { teller = teller_at x.teller t; acceptors = x.acceptors; each = x.each; taken = x.taken; refused = x.refused }

-- the names of the text of a normal form
abbrev pub names_told : PProgram → List (List ℕ)
names_told q = abort_names q (most_places q)

-- What a unit of a normal form is told.
abbrev pub told_in : RewrittenUnit → AbortTeller
told_in u = told_by (names_told u.setting.program)
  where
    told_by : List (List ℕ) → AbortTeller
    told_by names = record {
      teller = record {
        added = added_in names;
        member = λ e s index. member_number u.setting s e index;
        numbers = u.setting.numbers;
        task = u.task;
      };
      acceptors = id_of names acceptors_text;
      each = id_of names each_text;
      taken = λ n. id_of names (taken_text n);
      refused = λ n. id_of names (refused_text n);
    }
