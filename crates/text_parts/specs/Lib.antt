pub mod ReadAlone
