pub mod DeclText
pub mod ExprText
pub mod Layout
pub mod ProgramText
pub mod StmtText
