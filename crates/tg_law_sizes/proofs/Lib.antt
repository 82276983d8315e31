mod Fields
mod Packets
mod Short
mod Counting
