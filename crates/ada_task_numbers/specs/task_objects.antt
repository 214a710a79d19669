pub mod PlainNames
