mod Grammar
mod Texts
mod Begun
mod Scripts
mod Promises
