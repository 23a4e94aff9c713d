pub mod Upto
