pub mod Components
pub mod Form
pub mod Plain
