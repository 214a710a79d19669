-- The lines that say how a task is seen (this project's format): each begins with two blanks.
use Rattle.std.specs.Prelude.{ℕ, ℤ, List, [], codes, decimal}
use Rattle.std.specs.Fmt.{signed_decimal}
use Rattle.ded_io.specs.Written.{◌⧺◌, each_text}
use Rattle.event_machine.specs.declared.CallForm.{CallForm}
use Rattle.event_machine.specs.declared.CallForm.TheVariants.{Plain, Conditional, Timed}
use Rattle.event_machine.specs.declared.Choice.{Choice}
use Rattle.event_machine.specs.declared.Choice.TheVariants.{Accept, Else, Delay, Terminate}
use Rattle.event_machine.specs.Offers.{Offer, Nothing, Calls, Waits, Finishes, Ends, Aborts}
use Rattle.task_machine.specs.Views.{View, Completed, Abnormal, Busy, At}

-- a word, a number and the end of the line
abbrev pub number_line : List ℕ → ℕ → List ℕ
number_line word n = word ⧺ (decimal n ⧺ codes "\n")

-- a word, the member i of the entry e, and the end of the line
abbrev pub member_line : List ℕ → ℕ → ℤ → List ℕ
member_line word e i = word ⧺ (decimal e ⧺ (codes " " ⧺ (signed_decimal i ⧺ codes "\n")))

-- the word for a form of call
abbrev pub form_word : CallForm → List ℕ
form_word Plain = codes "  call "
form_word Conditional = codes "  conditional-call "
form_word Timed = codes "  timed-call "

-- one thing that a waiting task can do
abbrev pub choice_line : Choice → List ℕ
choice_line (Accept e i) = member_line (codes "  accept ") e i
choice_line Else = codes "  else\n"
choice_line (Delay k) = number_line (codes "  delay ") k
choice_line Terminate = codes "  terminate\n"

-- what a task offers: one line for each choice of a wait, and else one line
abbrev pub offer_lines : Offer → List ℕ
offer_lines Nothing = []
offer_lines (Calls form e i) = member_line (form_word form) e i
offer_lines (Waits choices) = each_text choice_line choices
offer_lines Finishes = codes "  finish\n"
offer_lines Ends = codes "  end\n"
offer_lines (Aborts x) = number_line (codes "  abort ") x

-- The lines of a view. A task that is closed is told so, whether it has completed or is abnormal.
abbrev pub view_lines : View → List ℕ
view_lines Completed = codes "  closed\n"
view_lines Abnormal = codes "  closed\n"
view_lines Busy = codes "  busy\n"
view_lines (At offer) = offer_lines offer
