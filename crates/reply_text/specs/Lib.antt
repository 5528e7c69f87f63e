pub mod Reply
pub mod Text
