pub mod numbering
