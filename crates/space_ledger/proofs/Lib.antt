pub mod SumLaws
pub mod BooksLemmas
pub mod MovesLemmas
pub mod NumbersLemmas
