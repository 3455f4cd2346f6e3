pub mod Said
pub mod Verdicts
pub mod Laws
pub mod Noted
pub mod Given
