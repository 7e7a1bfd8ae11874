mod Trees
mod Solved
mod AtomSteps
mod Marked
