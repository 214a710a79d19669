pub mod StaticAnswer
