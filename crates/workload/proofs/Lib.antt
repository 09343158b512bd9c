mod Counting
mod Placing
