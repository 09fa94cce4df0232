pub mod SaidText
