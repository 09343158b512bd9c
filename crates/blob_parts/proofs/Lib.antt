pub mod SumLemmas
pub mod SparseLemmas
pub mod Fields
pub mod Loop
pub mod RuleLemmas
