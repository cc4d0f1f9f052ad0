pub mod Volume
