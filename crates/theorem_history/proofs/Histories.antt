-- Going through the calls of a history (rule 6.1), and what is true behind every call; so none is refused for 2 to 9 (rule 6.10).
pub mod CallCases
pub mod LentLengths
pub mod OnePost
pub mod OneTake
pub mod LastRequests
pub mod Standing
pub mod Unrefused
