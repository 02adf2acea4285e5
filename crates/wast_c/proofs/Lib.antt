mod Answers
mod Names
