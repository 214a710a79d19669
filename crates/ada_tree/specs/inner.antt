pub mod BinaryCode
pub mod ExprCode
pub mod StmtCode
pub mod SimpleStmt
