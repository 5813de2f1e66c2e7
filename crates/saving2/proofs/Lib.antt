pub mod Laws2
