mod Lawful
mod Loads
mod Nodes
mod Holding
