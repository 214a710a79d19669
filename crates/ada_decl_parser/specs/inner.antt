pub mod DeclViews
pub mod ReadingDeclarations
