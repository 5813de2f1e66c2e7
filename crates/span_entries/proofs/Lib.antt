mod Turns
mod Waiters
