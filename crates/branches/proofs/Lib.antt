mod Compare
mod Ends
