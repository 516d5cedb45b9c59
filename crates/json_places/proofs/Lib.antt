mod AfterMarks
mod Found
mod PlaceSteps
