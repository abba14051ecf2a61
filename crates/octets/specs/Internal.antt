pub mod FoldIf
