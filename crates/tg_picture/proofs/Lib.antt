mod Drawn
mod Quiet
