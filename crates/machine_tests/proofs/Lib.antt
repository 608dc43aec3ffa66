pub mod FarApart
