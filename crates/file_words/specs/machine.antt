-- Steps of the code that inner contracts cite.
pub mod Put
