-- tests of items, and what they take
pub mod Tokens
-- which operator may stand behind which tree, by the grammar and by the tests
pub mod Behind
-- how an operator is read
pub mod Operators
-- chains of operators: the grammar's, and what the kernel's law of chains asks
pub mod Chains
-- primaries and factors, and then each level of the grammar
pub mod Primaries
pub mod Levels
-- what is built of expressions
pub mod Plainly
pub mod Building
pub mod Stopper
pub mod Calling
pub mod Entries
-- what goes on behind a first primary
pub mod Behinds
mod Examples
