pub mod Order
pub mod Key
