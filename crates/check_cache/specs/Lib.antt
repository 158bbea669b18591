-- What the check program prints, as definitions.
pub mod Line
