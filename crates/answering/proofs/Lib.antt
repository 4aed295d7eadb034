mod Lengths
mod Portfolios
