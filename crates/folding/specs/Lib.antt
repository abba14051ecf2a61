pub mod FoldTwice
