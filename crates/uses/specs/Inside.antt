pub mod BothPuts
