mod Lengths
mod Worked
