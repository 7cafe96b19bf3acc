-- Steps of the code that its inner contracts cite.
pub mod Word
