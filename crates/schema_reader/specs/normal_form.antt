pub mod Normal
