pub mod MadeSource
