pub mod RefusedWords
pub mod RefusedPieces
pub mod RefusedTexts
pub mod PlainPlaces
pub mod OnePlace
