pub mod SumKinds
