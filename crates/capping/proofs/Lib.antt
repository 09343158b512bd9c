mod Counting
mod Ranking
