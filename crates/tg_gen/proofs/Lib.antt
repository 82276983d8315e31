mod Digits
mod Headers
mod Texts
