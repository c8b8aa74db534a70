mod Cutting
mod Accepting
mod Printing
mod Kept
