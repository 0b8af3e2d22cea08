pub mod Order
pub mod FigureLaws
pub mod RowLaws
pub mod CountLaws
pub mod Examples
