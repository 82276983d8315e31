pub mod Confirming
pub mod Tokens
pub mod Wholes
