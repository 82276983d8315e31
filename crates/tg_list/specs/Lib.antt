pub mod Refusals
pub mod TextLists
pub mod TextListLaws
