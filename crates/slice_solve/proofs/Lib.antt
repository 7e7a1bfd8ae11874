mod Joining
mod Carried
mod Steps
mod LinearSteps
