mod Places
mod Spelling
