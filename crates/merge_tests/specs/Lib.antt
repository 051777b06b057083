pub mod Spoilt
