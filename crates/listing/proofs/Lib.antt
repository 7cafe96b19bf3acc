-- Laws by subject: pages, numbers in decimal, the fields of a definition, chains walked; then the words of an input, its size, what
-- lowering answers, and that the page is long enough.
pub mod Pages
pub mod Decimals
pub mod Letters
pub mod Walks
pub mod InputWords
pub mod Sizes
pub mod Answers
pub mod Counted
pub mod Enough
