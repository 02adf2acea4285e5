pub mod Endings
pub mod Words
pub mod Replies
pub mod FewMarks
