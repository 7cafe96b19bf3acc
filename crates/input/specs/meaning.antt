-- What a reader must believe.
pub mod Tree
pub mod GoodName
pub mod Report
pub mod Name
pub mod Phandle
pub mod Expr
pub mod NeverGiven
pub mod Property
pub mod Input
pub mod Place
pub mod Rows
pub mod RowsAnswer
