-- What is proved of the exported functions besides their promises.
pub mod OneAnswer
