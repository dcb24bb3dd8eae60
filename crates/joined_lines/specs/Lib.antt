pub mod JoinedWords
pub mod Joined
