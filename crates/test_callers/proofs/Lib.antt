pub mod CallsLemmas
pub mod FillLemmas
pub mod SlotLemmas
