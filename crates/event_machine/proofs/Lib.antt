-- The proofs of the laws. Cite `ListLaws` for tasks in a list, as the code keeps them; what it states over tasks by numbers stands in the files before it.

-- small facts: tests, standings, offers, writes of tasks, runs one after the other, local steps
pub mod Basics
pub mod Standings
pub mod Offering
pub mod Updates
pub mod Appends
pub mod Stepping
-- the table and the machine without queues: each run is a list of moves (`erasing`), each list of moves a run (`lifting`)
pub mod Stills
pub mod Erasing
pub mod Lifting
-- who is served (`sound_moved`), and what an event asks of the standings (`admitted`)
pub mod Sound
pub mod Admitting
-- what an event reads and writes, and whom it kills
pub mod Agreeing
pub mod Effected
pub mod Killing
-- bases: the step is a function (`deterministic`), each move follows it (`follow_step`, `follow_event`), and it is had by moves (`lead_back`)
pub mod Following
pub mod Walking
pub mod Bases
pub mod Returning
-- one action, and one event (`forward`, `backward`)
pub mod Simulating
-- runs from an opening state: `run_leads`, `reached`, `feasible_exactly`, `rest_exactly`, waits and queues
pub mod Reaching
pub mod Resting
pub mod Queues
-- the laws over tasks by numbers: `determinacy`, `killed_by_events`, `first_law`, `second_law`, `feasible_admitted`
pub mod Determining
pub mod Choosing
-- how a world goes on (`extend`, `rests_happens`), and who is served, in words
pub mod Extending
-- list and numbers: `same_can`, `same_after`, `joined`
pub mod Listing
pub mod Joining
pub mod ListLaws
