pub mod DescentStatements
pub mod ShownStatements
