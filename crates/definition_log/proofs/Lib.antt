-- Laws of logs that are lent: counting, the walk, what is reached, chains, what is written.
pub mod Counts
pub mod Walk
pub mod Reached
pub mod Places
pub mod Chains
pub mod Linked
pub mod Alike
pub mod WrittenTest
pub mod WrittenExample
pub mod Pinned
pub mod WrittenPinned
-- Laws of texts.
pub mod Texts
-- Laws of row 8's test: its links, its marks, its loops and its answer.
pub mod Tests
pub mod Follow
pub mod Marks
pub mod Walked
pub mod Search
pub mod Checked
pub mod Answers
pub mod ChainLeft
