pub mod Demand1Exported
