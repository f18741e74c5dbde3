pub mod VerdictNames
