-- What the contracts of the parser's own functions cite. A caller needs none of it.
pub mod Decls
pub mod Found
pub mod Leading
pub mod Operators
pub mod Reading
pub mod Stmts
