pub mod Laws2
pub mod RoundTrip2
