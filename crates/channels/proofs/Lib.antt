pub mod WriteBack
pub mod CountsOthers
pub mod NextState
