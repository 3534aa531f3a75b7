pub mod MaskedLemmas
pub mod PieceLemmas
pub mod ColumnLemmas
pub mod SizeLemmas
pub mod PrintLemmas
