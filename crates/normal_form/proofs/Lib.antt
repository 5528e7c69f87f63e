pub mod Members
pub mod Rising
pub mod Risen
pub mod FormTruths
